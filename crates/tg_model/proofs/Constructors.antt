-- Constructors by their numbers and places, the values that they make, and the branches of a `case`.
use Rattle.std.proofs.Common.{ℕ, zero, suc, ◌≡◌, ◌+◌, ◌-◌, List, [], ◌∷◌, map, length, Some, refl, sym, ◌∙◌, ap, subst, arith}
use Rattle.std.specs.Prelude.{slice_get, reverse, ◌++◌}
use Rattle.std.specs.Option.{option_map_or}
use Rattle.std.proofs.lemmas.List.{length-map}
use Rattle.tg_model.specs.Tree as tree
use Rattle.tg_model.specs.Tree.{Tree, Trees, Arms, bound, free, literal, truth, con, call, put, choice, case, bind, op}
use Rattle.tg_model.specs.Types.{Ty, applied, tys}
use Rattle.tg_model.specs.Value.{Value, Values, number, boolean, made, elements}
use Rattle.tg_model.specs.Theory.{Theory, Datatype, Constructor, Owned, constructor_at, first_constructor, numbered, instance}
use Rattle.tg_model.specs.Typing.{HasType, HaveTypes, AreTyped}
use Rattle.tg_model.specs.TermTyping.{Typing, Typings, ArmTypings, instanced, compound, branching, binding, none, more, end, arm, IsDatatype, constructor_arguments, IsTyping, AreTypings, AreArmTypings}
use Rattle.tg_model.specs.TypeLaws.{LeastHasType, StandsAt, NumbersArePlaces, IsMadeBy, ValuesAreMade, AreBranchSizes, branch_sizes, EachCase, EachCases, EachCaseOf, CasesAreDeclared}
use Rattle.tg_model.proofs.Numbering.{numbered_constructor}
use Rattle.tg_model.proofs.Inhabited.{constructor_number, least_has_type}
use Rattle.tg_model.proofs.ValueTyping.{values-elements, number_of, same_arguments}

pub least_has_its_type : LeastHasType
least_has_its_type th wt t closed = least_has_type th wt t closed

to_place : (th : Theory) (c : ℕ) (o : Owned) → constructor_at th c ≡ Some o
    → (k : ℕ) × (c ≡ first_constructor th.datatypes o.datatype + k) × StandsAt th o k
to_place th c o h =
    let p = numbered_constructor th c o h in
    let first : first_constructor th.datatypes o.datatype ≡ first_constructor th.datatypes (suc p.place) = ap (first_constructor th.datatypes) p.number in
    let sum : c ≡ first_constructor th.datatypes o.datatype + (c - first_constructor th.datatypes (suc p.place)) = omega (arith, first, p.after) in
    (c - first_constructor th.datatypes (suc p.place), sum, (p.datatype, ap (numbered th.datatypes) p.number ∙ p.is, p.constructor))

from_place : (th : Theory) (d : ℕ) (k : Constructor) (x : Datatype) (c j : ℕ) → c ≡ first_constructor th.datatypes d + j → numbered th.datatypes d ≡ Some x
    → slice_get x.constructors j ≡ Some k → constructor_at th c ≡ Some (record { datatype = d; constructor = k })
from_place th zero k x c j sum is placed = cc is
from_place th (suc place) k x c j sum is placed = ap (constructor_at th) sum ∙ constructor_number th place x j k is placed

pub numbers_are_places : NumbersArePlaces
numbers_are_places th c o = (to_place th c o, λ p. from_place th o.datatype o.constructor p.2.0 c p.0 p.1 p.2.1 p.2.2)

made_by : (th : Theory) (d : ℕ) (us : List Ty) (v : Value) → HasType th v (applied d (tys us)) → IsMadeBy th d us v
made_by th d us (number n) h = cc h
made_by th d us (boolean b) h = cc h
made_by th d us (made c vs) (o, is, (ws, e, typed)) =
    let same : d ≡ o.datatype = ap number_of e in
    let arguments : ws ≡ us = sym (same_arguments d o.datatype us ws e) in (
      c,
      o,
      elements vs,
      ap (made c) (sym (values-elements vs)),
      is,
      sym same,
      subst (λ (l : List Ty). AreTyped th (elements vs) (map (instance l) o.constructor.arguments)) arguments
          (subst (λ (l : Values). HaveTypes th l (map (instance ws) o.constructor.arguments)) (sym (values-elements vs)) typed),
    )

has_type : (th : Theory) (d : ℕ) (us : List Ty) (v : Value) → IsMadeBy th d us v → HasType th v (applied d (tys us))
has_type th d us v (c, o, vs, e, is, same, typed) =
    subst (λ (w : Value). HasType th w (applied d (tys us))) (sym e) (o, is, (us, ap (λ n. applied n (tys us)) (sym same), typed))

pub values_are_made : ValuesAreMade
values_are_made th d us v = (made_by th d us v, has_type th d us v)

-- the branches that a typing asks for are those that are declared
module _ (th : Theory) (vars : List Ty) where
  sizes_of : (bs : Arms) (args : List (List Ty)) (arms : ArmTypings) (locs : List Ty) (u : Ty) → AreArmTypings th vars locs u bs args arms
      → branch_sizes bs ≡ map (λ (ts : List Ty). length ts) args
  sizes_of tree.end [] end locs u h = refl
  sizes_of (tree.arm n body bs) (ts ∷ rest) (arm ts' d arms) locs u (count, e, p, q, others) = λ i. count i ∷ sizes_of bs rest arms locs u others i
  sizes_of bs args arms locs u h = absurd h

  argument_sizes : (us : List Ty) (cs : List Constructor)
      → map (λ (ts : List Ty). length ts) (map (λ (k : Constructor). map (instance us) k.arguments) cs) ≡ map (λ (k : Constructor). length k.arguments) cs
  argument_sizes us [] = refl
  argument_sizes us (c ∷ cs) = λ i. length-map c.arguments (instance us) i ∷ argument_sizes us cs i

  sizes_declared : (n : ℕ) (us : List Ty) (ns : List ℕ) → IsDatatype th n us → ns ≡ map (λ (ts : List Ty). length ts) (constructor_arguments th n us)
      → AreBranchSizes th n ns
  sizes_declared zero us ns is e = e
  sizes_declared (suc d) us ns (x, is, count) e = (
    x,
    is,
    e ∙ (ap (λ o. map (λ (ts : List Ty). length ts) (option_map_or (λ (y : Datatype). map (λ (k : Constructor). map (instance us) k.arguments) y.constructors) o [])) is
        ∙ argument_sizes us x.constructors),
  )

  mutual
    declared : (t : Tree) (d : Typing) (locs : List Ty) → IsTyping th vars locs t d → EachCase th t
    declared (bound k) d locs h = tt
    declared (free n) d locs h = tt
    declared (literal n) d locs h = tt
    declared (truth b) d locs h = tt
    declared (con c ts) (instanced us t ds) locs (o, is, n, q, args, each) = all_declared ts ds locs each
    declared (call f ts) (instanced us t ds) locs (x, is, n, q, args, each) = all_declared ts ds locs each
    declared (put ts) (compound t ds) locs (q, args, each) = all_declared ts ds locs each
    declared (choice ts) (compound t ds) locs (args, each) = all_declared ts ds locs each
    declared (op o ts) (compound t ds) locs (is, each) = all_declared ts ds locs each
    declared (bind t body) (binding u v d e) locs (p, q, b, s) = (declared t d locs p, declared body e (u ∷ locs) b)
    declared (case n t bs) (branching us u d arms) locs (is, e, p, each) = (
      sizes_declared n us (branch_sizes bs) is (sizes_of bs (constructor_arguments th n us) arms locs u each),
      declared t d locs p,
      arms_declared bs (constructor_arguments th n us) arms locs u each,
    )
    declared t d locs h = absurd h

    all_declared : (ts : Trees) (ds : Typings) (locs : List Ty) → AreTypings th vars locs ts ds → EachCases th ts
    all_declared tree.none ds locs h = tt
    all_declared (tree.more t ts) none locs h = absurd h
    all_declared (tree.more t ts) (more d ds) locs h = (declared t d locs h.0, all_declared ts ds locs h.1)

    arms_declared : (bs : Arms) (args : List (List Ty)) (arms : ArmTypings) (locs : List Ty) (u : Ty) → AreArmTypings th vars locs u bs args arms → EachCaseOf th bs
    arms_declared tree.end args arms locs u h = tt
    arms_declared (tree.arm n body bs) (ts ∷ rest) (arm ts' d arms) locs u (count, e, p, q, others) =
        (declared body d (reverse ts ++ locs) p, arms_declared bs rest arms locs u others)
    arms_declared (tree.arm n body bs) args arms locs u h = absurd h

pub cases_are_declared : CasesAreDeclared
cases_are_declared th vars locs t u (d, h, e) = declared th vars t d locs h
