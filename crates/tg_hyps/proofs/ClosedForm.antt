-- The formulas are well formed without variables.
use Rattle.std.proofs.Common.{ℕ, zero, suc, ◌≡◌, ◌<◌, ◌≤◌, ◌+◌, ◌-◌, Bool, true, false, ◌&&◌, List, [], ◌∷◌, ◌++◌, reverse, length, get_or, Some, refl, sym, ◌∙◌, ap, ap₂, subst, nat_lt, nat_le, if◌then◌else◌, arith, length-append, append_assoc, lt-ltb}
use Rattle.std.specs.Prelude.{slice_get}
use Rattle.std.proofs.lemmas.List.{length-reverse, get_or-reverse, reverse-append}
use Rattle.std.proofs.lemmas.Option.{slice_get-get_or, slice_get_within, none-some}
use Rattle.std.proofs.lemmas.Bool.{ltb-false, le-leb}
use Rattle.tg_model.specs.Tree.{Tree, Trees, bound, free}
use Rattle.tg_model.specs.Types.{Ty, nat, bool, tys}
use Rattle.tg_model.specs.Formula.{Formula, atom, both, implies, thyp, tested, deep}
use Rattle.tg_model.specs.Theory.{Theory, numbered, AreClosed}
use Rattle.tg_model.specs.TermTyping.{leaf, compound, IsTyped, AllTyped, IsWellFormed}
use Rattle.tg_model.specs.TermTyping as typing
use Rattle.tg_model.specs.Walk.{raised}
use Rattle.tg_model.specs.Closing.{bound_among, closed, for_all, for_some, universal_closure, existential_closure}
use Rattle.tg_model.proofs.Places.{get_left, get_past}
use Rattle.tg_model.proofs.TypedWalks.{keeps_well_formed}
use Rattle.tg_hyps.specs.Written.{variables_from}
use Rattle.tg_hyps.specs.Hypotheses.{some_of, both_all, if_all, checked, some_data, inputs_as_variables}
use Rattle.tg_hyps.specs.Meaning.{AreTruths, ClassesAreWellFormed, ConclusionIsWellFormed, RegularityIsWellFormed}
use Rattle.tg_hyps.proofs.ClassTruth.{this_one}

-- ---- closing keeps form

-- the types of `d` binders that were passed, and outside them none or those of the quantifiers
record Passed (outer : List Ty) (d : ℕ) (locs locs' : List Ty) : Type 0 where
  inner : List Ty
  count : length inner ≡ d
  here : locs ≡ inner
  there : locs' ≡ inner ++ outer

under : (outer : List Ty) (d : ℕ) (locs locs' ts : List Ty) → Passed outer d locs locs' → Passed outer (d + length ts) (reverse ts ++ locs) (reverse ts ++ locs')
under outer d locs locs' ts r =
    let m = length-reverse ts in let c = r.count in let a = length-append (reverse ts) r.inner in
    record {
      inner = reverse ts ++ r.inner;
      count = omega arith;
      here = ap (λ l. reverse ts ++ l) r.here;
      there = ap (λ l. reverse ts ++ l) r.there ∙ sym (append_assoc (reverse ts) r.inner outer);
    }

pick : (P : Tree → Type 0) (b : Bool) (t u : Tree) → (b ≡ true → P t) → (b ≡ false → P u) → P (if b then t else u)
pick P true t u h g = h refl
pick P false t u h g = g refl

both_true : (a b : Bool) → a ≡ true → b ≡ true → (a && b) ≡ true
both_true a b e f = ap₂ (λ x y. x && y) e f

reversed_type : (vars : List Ty) (k : ℕ) → k < length vars → slice_get (reverse vars) (length vars - suc k) ≡ slice_get vars k
reversed_type vars k h =
    let j : ℕ = length vars - suc k in
    let low : j < length (reverse vars) = omega (arith, length-reverse vars) in
    let e : length vars - 1 - j ≡ k = omega arith in
    slice_get-get_or (reverse vars) j nat low ∙ ap Some (get_or-reverse vars j nat (omega arith) ∙ ap (λ i. get_or vars i nat) e)
    ∙ sym (slice_get-get_or vars k nat h)

module _ (th : Theory) (vars : List Ty) where
  bounds : (d : ℕ) (locs locs' : List Ty) (k : ℕ) (t : Ty) → Passed (reverse vars) d locs locs' → slice_get locs k ≡ Some t
      → IsTyped th [] locs' (raised (length vars) d k) t
  bounds d locs locs' k t r h =
      let within = slice_get_within locs k t h in
      let low : k < length r.inner = subst (λ l. k < length l) r.here within in
      pick (λ x. IsTyped th [] locs' x t) (nat_lt k d) (bound k) (bound (k + length vars))
      (λ e. (leaf t, ap (λ l. slice_get l k) r.there ∙ get_left r.inner (reverse vars) k low ∙ sym (ap (λ l. slice_get l k) r.here) ∙ h, refl))
      (λ e. absurd (let far = ltb-false k d e in let c = r.count in omega (arith, far, c, low)))

  frees : (d : ℕ) (locs locs' : List Ty) (n : ℕ) (t : Ty) → Passed (reverse vars) d locs locs' → numbered vars n ≡ Some t
      → IsTyped th [] locs' (bound_among (length vars) d n) t
  frees d locs locs' zero t r h = absurd (none-some t h)
  frees d locs locs' (suc m) t r h =
      let within = slice_get_within vars m t h in
      let n : ℕ = length vars in
      let there : slice_get locs' (d + (n - suc m)) ≡ Some t =
      let past : length r.inner ≤ d + (n - suc m) = let c = r.count in omega (arith, c) in
      let same : d + (n - suc m) - length r.inner ≡ n - suc m = let c = r.count in omega (arith, c) in
      ap (λ l. slice_get l (d + (n - suc m))) r.there ∙ get_past r.inner (reverse vars) (d + (n - suc m)) past ∙ ap (slice_get (reverse vars)) same
      ∙ reversed_type vars m within ∙ h in
      let chosen : (nat_lt 0 (suc m) && nat_le (suc m) n) ≡ true =
      both_true (nat_lt 0 (suc m)) (nat_le (suc m) n) (lt-ltb 0 (suc m) (omega arith)) (le-leb (suc m) n (omega (arith, within))) in
      pick (λ x. IsTyped th [] locs' x t) (nat_lt 0 (suc m) && nat_le (suc m) n) (bound (d + (n - suc m))) (free (suc m))
      (λ e. (leaf t, there, refl)) (λ e. cc (sym chosen ∙ e))

  closed_form : (f : Formula) → IsWellFormed th vars [] f → IsWellFormed th [] (reverse vars) (closed (length vars) f)
  closed_form f h =
      keeps_well_formed th vars [] (raised (length vars)) (bound_among (length vars)) (Passed (reverse vars)) (under (reverse vars)) bounds frees
      f 0 [] (reverse vars) (record { inner = []; count = refl; here = refl; there = refl }) h

innermost : (t : Ty) (ts locs : List Ty) → reverse (t ∷ ts) ++ locs ≡ reverse ts ++ t ∷ locs
innermost t ts locs = ap (λ l. l ++ locs) (reverse-append (t ∷ []) ts) ∙ append_assoc (reverse ts) (t ∷ []) locs

module _ (th : Theory) (f : Formula) where
  all_form : (ts locs : List Ty) → AreClosed th (tys ts) → IsWellFormed th [] (reverse ts ++ locs) f → IsWellFormed th [] locs (for_all ts f)
  all_form [] locs h w = w
  all_form (t ∷ ts) locs h w = (h.0, all_form ts (t ∷ locs) h.1 (subst (λ l. IsWellFormed th [] l f) (innermost t ts locs) w))

  some_form : (ts locs : List Ty) → AreClosed th (tys ts) → IsWellFormed th [] (reverse ts ++ locs) f → IsWellFormed th [] locs (for_some ts f)
  some_form [] locs h w = w
  some_form (t ∷ ts) locs h w = (h.0, some_form ts (t ∷ locs) h.1 (subst (λ l. IsWellFormed th [] l f) (innermost t ts locs) w))

no_outer : (l : List Ty) → l ++ [] ≡ l
no_outer [] = refl
no_outer (t ∷ l) = ap (λ r. t ∷ r) (no_outer l)

universal_form : (th : Theory) (ts : List Ty) (f : Formula) → AreClosed th (tys ts) → IsWellFormed th ts [] f → IsWellFormed th [] [] (universal_closure ts f)
universal_form th ts f h w =
    all_form th (closed (length ts) f) ts [] h (subst (λ l. IsWellFormed th [] l (closed (length ts) f)) (sym (no_outer (reverse ts))) (closed_form th ts f w))

existential_form : (th : Theory) (ts : List Ty) (f : Formula) → AreClosed th (tys ts) → IsWellFormed th ts [] f → IsWellFormed th [] [] (existential_closure ts f)
existential_form th ts f h w =
    some_form th (closed (length ts) f) ts [] h (subst (λ l. IsWellFormed th [] l (closed (length ts) f)) (sym (no_outer (reverse ts))) (closed_form th ts f w))

-- ---- classes

module _ (th : Theory) (vars : List Ty) where
  pub some_typed : (ts : List Tree) → AreTruths th vars ts → IsTyped th vars [] (some_of ts) bool
  some_typed [] h = (leaf bool, refl, refl)
  some_typed (t ∷ []) h = h.0
  some_typed (t ∷ (u ∷ us)) h =
      let first = h.0 in
      let rest = some_typed (u ∷ us) h.1 in (
        compound bool (typing.more first.0 (typing.more rest.0 typing.none)),
        ((ap₂ (λ (a b : Ty). a ∷ b ∷ []) first.2 rest.2, refl), (first.1, (rest.1, tt))),
        refl,
      )

  if_form : (cs : List Tree) (f : Formula) → AreTruths th vars cs → IsWellFormed th vars [] f → IsWellFormed th vars [] (if_all cs f)
  if_form [] f h w = w
  if_form (c ∷ cs) f h w = (h.0, if_form cs f h.1 w)

  both_form : (cs : List Tree) (f : Formula) → AreTruths th vars cs → IsWellFormed th vars [] f → IsWellFormed th vars [] (both_all cs f)
  both_form [] f h w = w
  both_form (c ∷ cs) f h w = (h.0, both_form cs f h.1 w)

pub classes_are_well_formed : ClassesAreWellFormed
classes_are_well_formed th c of =
    let vars : List Ty = c.variables in
    let checks = some_typed th vars c.checks of.checks in
    let whole = universal_form th vars (implies (tested c.inputs) (if_all c.constraints (checked c))) of.closed
    (of.inputs, if_form th vars c.constraints (checked c) of.constraints checks) in
    let some = existential_form th vars (both (tested c.inputs) (both_all c.constraints (checked c))) of.closed
    (of.inputs, both_form th vars c.constraints (checked c) of.constraints checks) in
    (whole, (some, whole))

-- ---- the theory's inputs

item_there : (pre : List Ty) (t : Ty) (post : List Ty) → slice_get (pre ++ (t ∷ post)) (length pre) ≡ Some t
item_there [] t post = refl
item_there (u ∷ pre) t post = item_there pre t post

moved : (pre : List Ty) (t : Ty) (ts : List Ty) → (pre ++ t ∷ []) ++ ts ≡ pre ++ (t ∷ ts)
moved [] t ts = refl
moved (u ∷ pre) t ts = ap (λ l. u ∷ l) (moved pre t ts)

count_moved : (pre : List Ty) (t : Ty) → length (pre ++ t ∷ []) ≡ suc (length pre)
count_moved [] t = refl
count_moved (u ∷ pre) t = ap suc (count_moved pre t)

variables_typed : (th : Theory) (vars pre ts : List Ty) (n : ℕ) → vars ≡ pre ++ ts → n ≡ suc (length pre) → AllTyped th vars [] (variables_from n ts) ts
variables_typed th vars pre [] n is place = tt
variables_typed th vars pre (t ∷ ts) n is place = (
  (leaf t, ap (numbered vars) place ∙ ap (λ l. slice_get l (length pre)) is ∙ item_there pre t ts, refl),
  variables_typed th vars (pre ++ t ∷ []) ts (suc n) (is ∙ sym (moved pre t ts)) (ap suc (place ∙ sym (count_moved pre t))),
)

own_variables : (th : Theory) → AllTyped th th.program.inputs [] (inputs_as_variables th) th.program.inputs
own_variables th = variables_typed th th.program.inputs [] th.program.inputs 1 refl refl

pub conclusion_is_well_formed : ConclusionIsWellFormed
conclusion_is_well_formed th well =
    universal_form th th.program.inputs (implies (tested (inputs_as_variables th)) (atom th.specification)) well.inputs (own_variables th, well.specification)

pub regularity_is_well_formed : RegularityIsWellFormed
regularity_is_well_formed th k g well e =
    let xs : Trees = inputs_as_variables th in
    let f : Formula = implies (tested xs) (implies (deep k xs) (atom th.specification)) in
    let marked : Formula = thyp (universal_closure th.program.inputs f) in
    subst (IsWellFormed th [] []) (this_one (some_data th.program.inputs) marked g e)
    (universal_form th th.program.inputs f well.inputs (own_variables th, (own_variables th, well.specification)))
