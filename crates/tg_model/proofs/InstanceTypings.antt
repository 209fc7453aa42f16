-- A typing of a term has instances: each type in it at other types for type parameters.
use Rattle.std.proofs.Common.{◌≡◌, List, [], ◌∷◌, ◌++◌, map, reverse, refl, sym, ◌∙◌, ap, subst}
use Rattle.std.specs.Prelude.{option_map}
use Rattle.std.proofs.lemmas.List.{map-append, length-map}
use Rattle.std.proofs.lemmas.Option.{slice_get-map}
use Rattle.tg_model.specs.Types.{Ty, applied}
use Rattle.tg_model.specs.Tree as tree
use Rattle.tg_model.specs.Tree.{Tree, Trees, Arms, bound, free, literal, truth, con, call, put, choice, case, bind, op, Operator, successor, negation, conjunction, disjunction, implication, equality, less, less_equal, plus, minus, times, divide, modulo, unnamed}
use Rattle.tg_model.specs.Theory.{Theory, instance}
use Rattle.tg_model.specs.TermTyping.{Typing, Typings, ArmTypings, leaf, instanced, compound, branching, binding, none, more, end, arm, type_of, types_of, IsOperation, constructor_arguments, IsTyping, AreTypings, AreArmTypings}
use Rattle.tg_model.specs.WellTyped.{IsWellTyped}
use Rattle.tg_model.specs.TypeLaws.{InstanceKeepsTypes}
use Rattle.tg_model.proofs.Places.{map-reverse}
use Rattle.tg_model.proofs.Instances.{instances_tys, numbered_map, composed, list_composed}
use Rattle.tg_model.proofs.Inhabited.{closed_instance, list_closed_instance}
use Rattle.tg_model.proofs.TermSoundness.{datatype_instance, is_datatype_instance, arguments_composed}

operation_instance : (us : List Ty) (o : Operator) (ts : List Ty) (t : Ty) → IsOperation o ts t → IsOperation o (map (instance us) ts) (instance us t)
operation_instance us successor ts t (e, r) = (ap (map (instance us)) e, ap (instance us) r)
operation_instance us negation ts t (e, r) = (ap (map (instance us)) e, ap (instance us) r)
operation_instance us conjunction ts t (e, r) = (ap (map (instance us)) e, ap (instance us) r)
operation_instance us disjunction ts t (e, r) = (ap (map (instance us)) e, ap (instance us) r)
operation_instance us implication ts t (e, r) = (ap (map (instance us)) e, ap (instance us) r)
operation_instance us equality ts t ((u, e), r) = ((instance us u, ap (map (instance us)) e), ap (instance us) r)
operation_instance us less ts t (e, r) = (ap (map (instance us)) e, ap (instance us) r)
operation_instance us less_equal ts t (e, r) = (ap (map (instance us)) e, ap (instance us) r)
operation_instance us plus ts t (e, r) = (ap (map (instance us)) e, ap (instance us) r)
operation_instance us minus ts t (e, r) = (ap (map (instance us)) e, ap (instance us) r)
operation_instance us times ts t (e, r) = (ap (map (instance us)) e, ap (instance us) r)
operation_instance us divide ts t (e, r) = (ap (map (instance us)) e, ap (instance us) r)
operation_instance us modulo ts t (e, r) = (ap (map (instance us)) e, ap (instance us) r)
operation_instance us (unnamed n) ts t h = absurd h

module _ (us : List Ty) where
  abbrev at : Ty → Ty
  at = instance us

  abbrev mutual
    pub typing_at : Typing → Typing
    typing_at (leaf t) = leaf (at t)
    typing_at (instanced vs t ds) = instanced (map at vs) (at t) (typings_at ds)
    typing_at (compound t ds) = compound (at t) (typings_at ds)
    typing_at (branching vs t d arms) = branching (map at vs) (at t) (typing_at d) (arms_at arms)
    typing_at (binding u t d e) = binding (at u) (at t) (typing_at d) (typing_at e)

    typings_at : Typings → Typings
    typings_at none = none
    typings_at (more d ds) = more (typing_at d) (typings_at ds)

    arms_at : ArmTypings → ArmTypings
    arms_at end = end
    arms_at (arm ts d arms) = arm (map at ts) (typing_at d) (arms_at arms)

  pub type_at : (d : Typing) → type_of (typing_at d) ≡ at (type_of d)
  type_at (leaf t) = refl
  type_at (instanced vs t ds) = refl
  type_at (compound t ds) = refl
  type_at (branching vs t d arms) = refl
  type_at (binding u t d e) = refl

  types_at : (ds : Typings) → types_of (typings_at ds) ≡ map at (types_of ds)
  types_at none = refl
  types_at (more d ds) = λ i. type_at d i ∷ types_at ds i

  under_branch : (ts locs : List Ty) → reverse (map at ts) ++ map at locs ≡ map at (reverse ts ++ locs)
  under_branch ts locs = sym (map-append at (reverse ts) locs ∙ ap (λ l. l ++ map at locs) (map-reverse at ts))

  module _ (th : Theory) (wt : IsWellTyped th) (vars : List Ty) where
    mutual
      pub is_typing_at : (t : Tree) (d : Typing) (locs : List Ty) → IsTyping th vars locs t d → IsTyping th (map at vars) (map at locs) t (typing_at d)
      is_typing_at (bound k) (leaf t) locs h = slice_get-map at locs k ∙ ap (option_map at) h
      is_typing_at (free n) (leaf t) locs h = sym (numbered_map at vars n) ∙ ap (option_map at) h
      is_typing_at (literal n) (leaf t) locs h = ap at h
      is_typing_at (truth b) (leaf t) locs h = ap at h
      is_typing_at (con c ts) (instanced vs t ds) locs (o, is, n, q, args, each) = (
        o,
        is,
        is_datatype_instance th us o.datatype vs n,
        ap at q ∙ ap (applied o.datatype) (instances_tys us vs),
        types_at ds ∙ (ap (map at) args ∙ list_composed us vs o.constructor.arguments),
        are_typings_at ts ds locs each,
      )
      is_typing_at (call f ts) (instanced vs t ds) locs (x, is, n, q, args, each) = (
        x,
        is,
        length-map vs at ∙ n,
        ap at q ∙ composed us vs x.answer,
        types_at ds ∙ (ap (map at) args ∙ list_composed us vs x.arguments),
        are_typings_at ts ds locs each,
      )
      is_typing_at (put ts) (compound t ds) locs (q, args, each) = (
        ap at q ∙ closed_instance th us th.program.answer wt.answer,
        types_at ds ∙ (ap (map at) args ∙ list_closed_instance th us th.program.inputs wt.inputs),
        are_typings_at ts ds locs each,
      )
      is_typing_at (choice ts) (compound t ds) locs (args, each) = (types_at ds ∙ ap (map at) args, are_typings_at ts ds locs each)
      is_typing_at (op o ts) (compound t ds) locs (is, each) =
          (subst (λ (l : List Ty). IsOperation o l (at t)) (sym (types_at ds)) (operation_instance us o (types_of ds) t is), are_typings_at ts ds locs each)
      is_typing_at (bind t body) (binding u v d e) locs (p, q, b, s) =
          (is_typing_at t d locs p, ap at q ∙ sym (type_at d), is_typing_at body e (u ∷ locs) b, ap at s ∙ sym (type_at e))
      is_typing_at (case m t bs) (branching vs u d arms) locs (is, e, p, each) = (
        is_datatype_instance th us m vs is,
        type_at d ∙ (ap at e ∙ datatype_instance us m vs),
        is_typing_at t d locs p,
        subst (λ (l : List (List Ty)). AreArmTypings th (map at vars) (map at locs) (at u) bs l (arms_at arms)) (sym (arguments_composed th us m vs))
            (are_arm_typings_at bs (constructor_arguments th m vs) arms locs u each),
      )
      is_typing_at t d locs h = absurd h

      are_typings_at : (ts : Trees) (ds : Typings) (locs : List Ty) → AreTypings th vars locs ts ds → AreTypings th (map at vars) (map at locs) ts (typings_at ds)
      are_typings_at tree.none none locs h = tt
      are_typings_at tree.none (more d ds) locs h = absurd h
      are_typings_at (tree.more t ts) none locs h = absurd h
      are_typings_at (tree.more t ts) (more d ds) locs h = (is_typing_at t d locs h.0, are_typings_at ts ds locs h.1)

      are_arm_typings_at : (bs : Arms) (args : List (List Ty)) (arms : ArmTypings) (locs : List Ty) (u : Ty) → AreArmTypings th vars locs u bs args arms
          → AreArmTypings th (map at vars) (map at locs) (at u) bs (map (map at) args) (arms_at arms)
      are_arm_typings_at tree.end [] end locs u h = tt
      are_arm_typings_at (tree.arm n body bs) (ts ∷ rest) (arm ts' d arms) locs u (count, e, p, q, others) = (
        count ∙ sym (length-map ts at),
        ap (map at) e,
        subst (λ (l : List Ty). IsTyping th (map at vars) l body (typing_at d)) (sym (under_branch ts locs)) (is_typing_at body d (reverse ts ++ locs) p),
        type_at d ∙ ap at q,
        are_arm_typings_at bs rest arms locs u others,
      )
      are_arm_typings_at bs args arms locs u h = absurd h

pub instance_keeps_types : InstanceKeepsTypes
instance_keeps_types th wt us vars locs t u (d, h, e) = (typing_at us d, is_typing_at us th wt vars t d locs h, type_at us d ∙ ap (instance us) e)
