-- A function without type parameters uses itself at its declared type, whatever typing its body has.
use Rattle.std.proofs.Common.{ℕ, ◌≡◌, List, [], ◌∷◌, ◌++◌, reverse, length, Some, refl, sym, ◌∙◌, ap, subst}
use Rattle.tg_model.specs.Tree as tree
use Rattle.tg_model.specs.Tree.{Tree, Trees, Arms, bound, free, literal, truth, con, call, put, choice, case, bind, op}
use Rattle.tg_model.specs.Types.{Ty}
use Rattle.tg_model.specs.Theory.{Theory, Function, Body, plain, recursive, numbered}
use Rattle.tg_model.specs.Denotation.{others}
use Rattle.tg_model.specs.TermTyping.{Typing, Typings, ArmTypings, instanced, compound, branching, binding, none, more, end, arm, constructor_arguments, IsTyping, AreTypings, AreArmTypings}
use Rattle.tg_model.specs.WellTyped.{AreCases, IsBody}
use Rattle.tg_model.specs.Accepted.{UsesAt, AllUseAt, ArmsUseAt, parameters_from, UseThemselves, UsesItself}

empty : (us : List Ty) → length us ≡ 0 → us ≡ []
empty [] e = refl
empty (u ∷ us) e = cc

module _ (th : Theory) (self : ℕ) (x : Function) (is : numbered th.functions self ≡ Some x) (without : x.parameters ≡ 0) where
  own_instance : (g : ℕ) (y : Function) (us : List Ty) → numbered th.functions g ≡ Some y → length us ≡ y.parameters → g ≡ self → us ≡ []
  own_instance g y us found count e =
      let same : x ≡ y = let h : Some x ≡ Some y = sym is ∙ (ap (numbered th.functions) (sym e) ∙ found) in cc in
      empty us (count ∙ (ap (λ (z : Function). z.parameters) (sym same) ∙ without))

  module _ (vars : List Ty) where
    mutual
      uses_at : (t : Tree) (d : Typing) (locs : List Ty) → IsTyping th vars locs t d → UsesAt self [] t d
      uses_at (bound k) d locs h = tt
      uses_at (free n) d locs h = tt
      uses_at (literal n) d locs h = tt
      uses_at (truth b) d locs h = tt
      uses_at (con c ts) (instanced us t ds) locs (o, found, n, q, args, each) = all_use_at ts ds locs each
      uses_at (call g ts) (instanced us t ds) locs (y, found, n, q, args, each) = (own_instance g y us found n, all_use_at ts ds locs each)
      uses_at (put ts) (compound t ds) locs (q, args, each) = all_use_at ts ds locs each
      uses_at (choice ts) (compound t ds) locs (args, each) = all_use_at ts ds locs each
      uses_at (op o ts) (compound t ds) locs (found, each) = all_use_at ts ds locs each
      uses_at (bind t body) (binding u v d e) locs (p, q, b, s) = (uses_at t d locs p, uses_at body e (u ∷ locs) b)
      uses_at (case n t bs) (branching us u d arms) locs (found, e, p, each) =
          (uses_at t d locs p, arms_use_at bs (constructor_arguments th n us) arms locs u each)
      uses_at t d locs h = absurd h

      all_use_at : (ts : Trees) (ds : Typings) (locs : List Ty) → AreTypings th vars locs ts ds → AllUseAt self [] ts ds
      all_use_at tree.none ds locs h = tt
      all_use_at (tree.more t ts) none locs h = tt
      all_use_at (tree.more t ts) (more d ds) locs h = (uses_at t d locs h.0, all_use_at ts ds locs h.1)

      arms_use_at : (bs : Arms) (args : List (List Ty)) (arms : ArmTypings) (locs : List Ty) (u : Ty) → AreArmTypings th vars locs u bs args arms
          → ArmsUseAt self [] bs arms
      arms_use_at tree.end args arms locs u h = tt
      arms_use_at (tree.arm n body bs) args end locs u h = tt
      arms_use_at (tree.arm n body bs) (ts ∷ rest) (arm ts' d arms) locs u (count, e, p, q, others) =
          (uses_at body d (reverse ts ++ locs) p, arms_use_at bs rest arms locs u others)
      arms_use_at (tree.arm n body bs) [] (arm ts' d arms) locs u h = absurd h

  own_parameters : [] ≡ parameters_from 1 x.parameters
  own_parameters = ap (parameters_from 1) (sym without)

  use_themselves : (place : ℕ) (cases : List Tree) (all : List (List Ty)) → AreCases th self x place cases all → UseThemselves th self x place cases all
  use_themselves place [] all h = tt
  use_themselves place (t ∷ ts) [] h = tt
  use_themselves place (t ∷ ts) (args ∷ rest) h =
      let typed = h.1 in (
        (
          typed.0,
          typed.1,
          typed.2,
          subst (λ (us : List Ty). UsesAt self us t typed.0) own_parameters (uses_at (others x.arguments place ++ args) t typed.0 [] typed.1),
        ),
        use_themselves place ts rest h.2,
      )

  pub uses_itself : (b : Body) → IsBody th self x b → UsesItself th self x b
  uses_itself (plain t) h = tt
  uses_itself (recursive place cases) (d, us, at_place, is_datatype, are_cases) =
      (d, us, at_place, use_themselves place cases (constructor_arguments th d us) are_cases)
