-- Typing depends on the types of the variables that stand in a term, and on no other: so a context may grow, and lose a
-- variable that isn't used.
use Rattle.std.proofs.Common.{ℕ, zero, suc, ◌≡◌, ◌+◌, Bool, true, List, [], ◌∷◌, ◌++◌, reverse, length, Some, refl, sym, ◌∙◌, ap, subst, inl, inr, append_assoc}
use Rattle.std.specs.Prelude.{slice_get}
use Rattle.std.proofs.lemmas.Option.{slice_get_within}
use Rattle.std.proofs.lemmas.Bool.{eq-eqb, eqb-true}
use Rattle.tg_model.specs.Tree as tree
use Rattle.tg_model.specs.Tree.{Tree, Trees, Arms, bound, free, literal, truth, con, call, put, choice, case, bind, op}
use Rattle.tg_model.specs.Types.{Ty, bool}
use Rattle.tg_model.specs.Formula.{Formula, atom, both, implies, all, some, thyp, tested, deep}
use Rattle.tg_model.specs.Theory.{Theory, numbered}
use Rattle.tg_model.specs.Uses.{uses, use_any, use_branch, uses_in_formula}
use Rattle.tg_model.specs.TermTyping.{Typing, Typings, ArmTypings, leaf, instanced, compound, branching, binding, none, more, end, arm, constructor_arguments, IsTyping, AreTypings, AreArmTypings, IsTyped, AllTyped, IsWellFormed}
use Rattle.tg_model.specs.Walk.{as_bound, as_free}
use Rattle.tg_model.specs.TypeLaws.{TypesDependOnUsed, FormDependsOnUsed, UsedHaveTypes, UsedInFormulasHaveTypes, ContextsGrow, ContextsGrowForm}
use Rattle.tg_model.proofs.Booleans.{or_left, or_right, or_cases}
use Rattle.tg_model.proofs.Places.{get_left}
use Rattle.tg_model.proofs.TypedWalks.{keeps_typed, keeps_well_formed}
use Rattle.tg_model.proofs.Unmoved.{unmoved, formula_unmoved}

module _ (th : Theory) (vars vars' : List Ty) where
  abbrev Agree : (ℕ → Bool) → Type 0
  Agree test = (m : ℕ) → test m ≡ true → numbered vars m ≡ numbered vars' m

  mutual
    pub retyped : (t : Tree) (d : Typing) (locs : List Ty) → Agree (λ m. uses m t) → IsTyping th vars locs t d → IsTyping th vars' locs t d
    retyped (bound k) (leaf t) locs a h = h
    retyped (free n) (leaf t) locs a h = sym (a n (eq-eqb n n refl)) ∙ h
    retyped (literal m) (leaf t) locs a h = h
    retyped (truth b) (leaf t) locs a h = h
    retyped (con c ts) (instanced us t ds) locs a (o, is, e, q, args, each) = (o, is, e, q, args, all_retyped ts ds locs a each)
    retyped (call f ts) (instanced us t ds) locs a (x, is, e, q, args, each) = (x, is, e, q, args, all_retyped ts ds locs a each)
    retyped (put ts) (compound t ds) locs a (q, args, each) = (q, args, all_retyped ts ds locs a each)
    retyped (choice ts) (compound t ds) locs a (args, each) = (args, all_retyped ts ds locs a each)
    retyped (op o ts) (compound t ds) locs a (is, each) = (is, all_retyped ts ds locs a each)
    retyped (bind t body) (binding u v d e) locs a (p, q, b, s) = (
      retyped t d locs (λ m x. a m (or_left (uses m t) (uses m body) x)) p,
      q,
      retyped body e (u ∷ locs) (λ m x. a m (or_right (uses m t) (uses m body) x)) b,
      s,
    )
    retyped (case m t bs) (branching us u d arms) locs a (is, e, p, each) = (
      is,
      e,
      retyped t d locs (λ m x. a m (or_left (uses m t) (use_branch m bs) x)) p,
      arms_retyped bs (constructor_arguments th m us) arms u locs (λ m x. a m (or_right (uses m t) (use_branch m bs) x)) each,
    )
    retyped t d locs a h = absurd h

    all_retyped : (ts : Trees) (ds : Typings) (locs : List Ty) → Agree (λ m. use_any m ts) → AreTypings th vars locs ts ds → AreTypings th vars' locs ts ds
    all_retyped tree.none none locs a h = tt
    all_retyped tree.none (more d ds) locs a h = absurd h
    all_retyped (tree.more t ts) none locs a h = absurd h
    all_retyped (tree.more t ts) (more d ds) locs a h =
        (retyped t d locs (λ m x. a m (or_left (uses m t) (use_any m ts) x)) h.0, all_retyped ts ds locs (λ m x. a m (or_right (uses m t) (use_any m ts) x)) h.1)

    arms_retyped : (bs : Arms) (args : List (List Ty)) (arms : ArmTypings) (u : Ty) (locs : List Ty) → Agree (λ m. use_branch m bs)
        → AreArmTypings th vars locs u bs args arms → AreArmTypings th vars' locs u bs args arms
    arms_retyped tree.end [] end u locs a h = tt
    arms_retyped (tree.arm n body bs) (ts ∷ rest) (arm ts' d arms) u locs a (count, e, p, q, others) = (
      count,
      e,
      retyped body d (reverse ts ++ locs) (λ m x. a m (or_left (uses m body) (use_branch m bs) x)) p,
      q,
      arms_retyped bs rest arms u locs (λ m x. a m (or_right (uses m body) (use_branch m bs) x)) others,
    )
    arms_retyped bs args arms u locs a h = absurd h

  pub is_retyped : (t : Tree) (u : Ty) (locs : List Ty) → Agree (λ m. uses m t) → IsTyped th vars locs t u → IsTyped th vars' locs t u
  is_retyped t u locs a (d, h, e) = (d, retyped t d locs a h, e)

  all_are_retyped : (ts : Trees) (us locs : List Ty) → Agree (λ m. use_any m ts) → AllTyped th vars locs ts us → AllTyped th vars' locs ts us
  all_are_retyped tree.none [] locs a h = tt
  all_are_retyped tree.none (u ∷ us) locs a h = absurd h
  all_are_retyped (tree.more t ts) [] locs a h = absurd h
  all_are_retyped (tree.more t ts) (u ∷ us) locs a h =
      (is_retyped t u locs (λ m x. a m (or_left (uses m t) (use_any m ts) x)) h.0, all_are_retyped ts us locs (λ m x. a m (or_right (uses m t) (use_any m ts) x)) h.1)

  pub well_formed_again : (f : Formula) (locs : List Ty) → Agree (λ m. uses_in_formula m f) → IsWellFormed th vars locs f → IsWellFormed th vars' locs f
  well_formed_again (atom t) locs a h = is_retyped t bool locs a h
  well_formed_again (both f g) locs a h = (
    well_formed_again f locs (λ m x. a m (or_left (uses_in_formula m f) (uses_in_formula m g) x)) h.0,
    well_formed_again g locs (λ m x. a m (or_right (uses_in_formula m f) (uses_in_formula m g) x)) h.1,
  )
  well_formed_again (implies f g) locs a h = (
    well_formed_again f locs (λ m x. a m (or_left (uses_in_formula m f) (uses_in_formula m g) x)) h.0,
    well_formed_again g locs (λ m x. a m (or_right (uses_in_formula m f) (uses_in_formula m g) x)) h.1,
  )
  well_formed_again (all t f) locs a h = (h.0, well_formed_again f (t ∷ locs) a h.1)
  well_formed_again (some t f) locs a h = (h.0, well_formed_again f (t ∷ locs) a h.1)
  well_formed_again (thyp f) locs a h = well_formed_again f locs a h
  well_formed_again (tested ts) locs a h = all_are_retyped ts th.program.inputs locs a h
  well_formed_again (deep k ts) locs a h = all_are_retyped ts th.program.inputs locs a h

-- a variable that stands in a typed term has a type in the context
module _ (th : Theory) (vars : List Ty) (m : ℕ) where
  abbrev HasPlace : Type 0
  HasPlace = (u : Ty) × (numbered vars m ≡ Some u)

  mutual
    used_typed : (t : Tree) (d : Typing) (locs : List Ty) → uses m t ≡ true → IsTyping th vars locs t d → HasPlace
    used_typed (bound k) (leaf t) locs e h = cc
    used_typed (free n) (leaf t) locs e h = (t, ap (numbered vars) (sym (eqb-true n m e)) ∙ h)
    used_typed (literal n) (leaf t) locs e h = cc
    used_typed (truth b) (leaf t) locs e h = cc
    used_typed (con c ts) (instanced us t ds) locs e (o, is, n, q, args, each) = used_in_all ts ds locs e each
    used_typed (call f ts) (instanced us t ds) locs e (x, is, n, q, args, each) = used_in_all ts ds locs e each
    used_typed (put ts) (compound t ds) locs e (q, args, each) = used_in_all ts ds locs e each
    used_typed (choice ts) (compound t ds) locs e (args, each) = used_in_all ts ds locs e each
    used_typed (op o ts) (compound t ds) locs e (is, each) = used_in_all ts ds locs e each
    used_typed (bind t body) (binding u v d g) locs e (p, q, b, s) =
        elim (or_cases (uses m t) (uses m body) e) [ inl x ↦ used_typed t d locs x p | inr x ↦ used_typed body g (u ∷ locs) x b ]
    used_typed (case n t bs) (branching us u d arms) locs e (is, q, p, each) =
        elim (or_cases (uses m t) (use_branch m bs) e) [ inl x ↦ used_typed t d locs x p | inr x ↦ used_in_arms bs (constructor_arguments th n us) arms u locs x each ]
    used_typed t d locs e h = absurd h

    used_in_all : (ts : Trees) (ds : Typings) (locs : List Ty) → use_any m ts ≡ true → AreTypings th vars locs ts ds → HasPlace
    used_in_all tree.none ds locs e h = cc
    used_in_all (tree.more t ts) none locs e h = absurd h
    used_in_all (tree.more t ts) (more d ds) locs e h =
        elim (or_cases (uses m t) (use_any m ts) e) [ inl x ↦ used_typed t d locs x h.0 | inr x ↦ used_in_all ts ds locs x h.1 ]

    used_in_arms : (bs : Arms) (args : List (List Ty)) (arms : ArmTypings) (u : Ty) (locs : List Ty) → use_branch m bs ≡ true
        → AreArmTypings th vars locs u bs args arms → HasPlace
    used_in_arms tree.end args arms u locs e h = cc
    used_in_arms (tree.arm n body bs) (ts ∷ rest) (arm ts' d arms) u locs e (count, q, p, r, others) =
        elim (or_cases (uses m body) (use_branch m bs) e) [ inl x ↦ used_typed body d (reverse ts ++ locs) x p | inr x ↦ used_in_arms bs rest arms u locs x others ]
    used_in_arms (tree.arm n body bs) args arms u locs e h = absurd h

  used_in_all_typed : (ts : Trees) (us locs : List Ty) → use_any m ts ≡ true → AllTyped th vars locs ts us → HasPlace
  used_in_all_typed tree.none us locs e h = cc
  used_in_all_typed (tree.more t ts) [] locs e h = absurd h
  used_in_all_typed (tree.more t ts) (u ∷ us) locs e h =
      elim (or_cases (uses m t) (use_any m ts) e) [ inl x ↦ used_typed t h.0.0 locs x h.0.1 | inr x ↦ used_in_all_typed ts us locs x h.1 ]

  pub used_in_formula : (f : Formula) (locs : List Ty) → uses_in_formula m f ≡ true → IsWellFormed th vars locs f → HasPlace
  used_in_formula (atom t) locs e h = used_typed t h.0 locs e h.1
  used_in_formula (both f g) locs e h =
      elim (or_cases (uses_in_formula m f) (uses_in_formula m g) e) [ inl x ↦ used_in_formula f locs x h.0 | inr x ↦ used_in_formula g locs x h.1 ]
  used_in_formula (implies f g) locs e h =
      elim (or_cases (uses_in_formula m f) (uses_in_formula m g) e) [ inl x ↦ used_in_formula f locs x h.0 | inr x ↦ used_in_formula g locs x h.1 ]
  used_in_formula (all t f) locs e h = used_in_formula f (t ∷ locs) e h.1
  used_in_formula (some t f) locs e h = used_in_formula f (t ∷ locs) e h.1
  used_in_formula (thyp f) locs e h = used_in_formula f locs e h
  used_in_formula (tested ts) locs e h = used_in_all_typed ts th.program.inputs locs e h
  used_in_formula (deep k ts) locs e h = used_in_all_typed ts th.program.inputs locs e h

pub types_depend_on_used : TypesDependOnUsed
types_depend_on_used th vars vars' locs t u a h = is_retyped th vars vars' t u locs a h

pub form_depends_on_used : FormDependsOnUsed
form_depends_on_used th vars vars' locs f a h = well_formed_again th vars vars' f locs a h

pub used_have_types : UsedHaveTypes
used_have_types th vars locs t u (d, h, e) n used = used_typed th vars n t d locs used h

pub used_in_formulas_have_types : UsedInFormulasHaveTypes
used_in_formulas_have_types th vars locs f h n used = used_in_formula th vars n f locs used h

-- further variables, and binders outside, are read by no variable that has a type already
module _ (th : Theory) (vars more_vars outer : List Ty) where
  abbrev Within : ℕ → List Ty → List Ty → Type 0
  Within n locs locs' = locs' ≡ locs ++ outer

  under : (n : ℕ) (locs locs' ts : List Ty) → Within n locs locs' → Within (n + length ts) (reverse ts ++ locs) (reverse ts ++ locs')
  under n locs locs' ts e = ap (λ l. reverse ts ++ l) e ∙ sym (append_assoc (reverse ts) locs outer)

  bounds : (n : ℕ) (locs locs' : List Ty) (k : ℕ) (t : Ty) → Within n locs locs' → slice_get locs k ≡ Some t
      → IsTyped th (vars ++ more_vars) locs' (as_bound n k) t
  bounds n locs locs' k t e h = (leaf t, ap (λ l. slice_get l k) e ∙ (get_left locs outer k (slice_get_within locs k t h) ∙ h), refl)

  frees : (n : ℕ) (locs locs' : List Ty) (m : ℕ) (t : Ty) → Within n locs locs' → numbered vars m ≡ Some t
      → IsTyped th (vars ++ more_vars) locs' (as_free n m) t
  frees n locs locs' zero t e h = cc h
  frees n locs locs' (suc m) t e h = (leaf t, get_left vars more_vars m (slice_get_within vars m t h) ∙ h, refl)

  grown : (locs : List Ty) (t : Tree) (u : Ty) → IsTyped th vars locs t u → IsTyped th (vars ++ more_vars) (locs ++ outer) t u
  grown locs t u h =
      subst (λ (x : Tree). IsTyped th (vars ++ more_vars) (locs ++ outer) x u) (unmoved as_bound as_free (λ d k. refl) (λ d n. refl) t 0)
      (keeps_typed th vars (vars ++ more_vars) as_bound as_free Within under bounds frees t u 0 locs (locs ++ outer) refl h)

  grown_form : (locs : List Ty) (f : Formula) → IsWellFormed th vars locs f → IsWellFormed th (vars ++ more_vars) (locs ++ outer) f
  grown_form locs f h =
      subst (λ (x : Formula). IsWellFormed th (vars ++ more_vars) (locs ++ outer) x) (formula_unmoved as_bound as_free (λ d k. refl) (λ d n. refl) f 0)
      (keeps_well_formed th vars (vars ++ more_vars) as_bound as_free Within under bounds frees f 0 locs (locs ++ outer) refl h)

pub contexts_grow : ContextsGrow
contexts_grow th vars more_vars locs outer t u h = grown th vars more_vars outer locs t u h

pub contexts_grow_form : ContextsGrowForm
contexts_grow_form th vars more_vars locs outer f h = grown_form th vars more_vars outer locs f h
