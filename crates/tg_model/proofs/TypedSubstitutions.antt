-- Lifting, substitution, instantiation and abstraction keep types and well-formedness.
use Rattle.std.proofs.Common.{ℕ, zero, suc, ◌≡◌, ◌≢◌, ◌<◌, ◌≤◌, ◌+◌, ◌-◌, Bool, true, false, List, [], ◌∷◌, ◌++◌, reverse, length, Option, Some, None, refl, sym, ◌∙◌, ap, subst, nat_eq, nat_lt, if◌then◌else◌, arith, length-append, append_assoc}
use Rattle.std.specs.Prelude.{slice_get}
use Rattle.std.specs.Option.{option_map_or}
use mathlib.Core.List.{reverse_aux}
use Rattle.std.proofs.lemmas.List.{length-reverse}
use Rattle.std.proofs.lemmas.Option.{slice_get_within}
use Rattle.std.proofs.lemmas.Bool.{ltb-true, ltb-false, eqb-true, eqb-false}
use Rattle.tg_model.specs.Types.{Ty}
use Rattle.tg_model.specs.Tree.{Tree, bound, free, truth}
use Rattle.tg_model.specs.Formula.{Formula}
use Rattle.tg_model.specs.Theory.{Theory, numbered}
use Rattle.tg_model.specs.TermTyping.{leaf, IsTyped, IsWellFormed, AreListTyped}
use Rattle.tg_model.specs.Walk.{raised, as_free, as_bound, lifted, given, substituted, filled, instantiated, bound_for, abstracted, substituted_formula, instantiated_formula, abstracted_formula}
use Rattle.tg_model.proofs.Places.{get_left, get_past, none_past}
use Rattle.tg_model.proofs.TypedWalks.{keeps_typed, keeps_well_formed}

-- the types of `d` binders that were passed, and outside them two lists of types
record Inside (outer outer' : List Ty) (d : ℕ) (locs locs' : List Ty) : Type 0 where
  inner : List Ty
  count : length inner ≡ d
  here : locs ≡ inner ++ outer
  there : locs' ≡ inner ++ outer'

at_root : (outer outer' : List Ty) → Inside outer outer' 0 outer outer'
at_root outer outer' = record { inner = []; count = refl; here = refl; there = refl }

under : (outer outer' : List Ty) (d : ℕ) (locs locs' ts : List Ty) → Inside outer outer' d locs locs'
    → Inside outer outer' (d + length ts) (reverse ts ++ locs) (reverse ts ++ locs')
under outer outer' d locs locs' ts r =
    let n : length (reverse ts ++ r.inner) ≡ d + length ts =
    length-append (reverse ts) r.inner ∙ (let m = length-reverse ts in let c = r.count in let e : length (reverse ts) + length r.inner ≡ d + length ts = omega arith in e) in
    record {
      inner = reverse ts ++ r.inner;
      count = n;
      here = ap (λ l. reverse ts ++ l) r.here ∙ sym (append_assoc (reverse ts) r.inner outer);
      there = ap (λ l. reverse ts ++ l) r.there ∙ sym (append_assoc (reverse ts) r.inner outer');
    }

inside : (outer outer' : List Ty) (d : ℕ) (locs locs' : List Ty) (r : Inside outer outer' d locs locs') (k : ℕ) → k < d → slice_get locs' k ≡ slice_get locs k
inside outer outer' d locs locs' r k h =
    let low : k < length r.inner = let c = r.count in omega arith in
    ap (λ l. slice_get l k) r.there ∙ get_left r.inner outer' k low ∙ sym (ap (λ l. slice_get l k) r.here ∙ get_left r.inner outer k low)

beyond : (outer outer' : List Ty) (d : ℕ) (locs locs' : List Ty) (r : Inside outer outer' d locs locs') (k : ℕ) → d ≤ k → slice_get locs k ≡ slice_get outer (k - d)
beyond outer outer' d locs locs' r k h =
    let past : length r.inner ≤ k = let c = r.count in omega arith in
    ap (λ l. slice_get l k) r.here ∙ get_past r.inner outer k past ∙ ap (λ n. slice_get outer (k - n)) r.count

beyond' : (outer outer' : List Ty) (d : ℕ) (locs locs' : List Ty) (r : Inside outer outer' d locs locs') (k : ℕ) → d ≤ k → slice_get locs' k ≡ slice_get outer' (k - d)
beyond' outer outer' d locs locs' r k h =
    let past : length r.inner ≤ k = let c = r.count in omega arith in
    ap (λ l. slice_get l k) r.there ∙ get_past r.inner outer' k past ∙ ap (λ n. slice_get outer' (k - n)) r.count

pick : (P : Tree → Type 0) (b : Bool) (t u : Tree) → (b ≡ true → P t) → (b ≡ false → P u) → P (if b then t else u)
pick P true t u h g = h refl
pick P false t u h g = g refl

module _ (th : Theory) (vars : List Ty) where
  variable : (locs : List Ty) (k : ℕ) (t : Ty) → slice_get locs k ≡ Some t → IsTyped th vars locs (bound k) t
  variable locs k t h = (leaf t, h, refl)

  module _ (between outer : List Ty) where
    raised_typed : (d : ℕ) (locs locs' : List Ty) (k : ℕ) (t : Ty) → Inside outer (between ++ outer) d locs locs' → slice_get locs k ≡ Some t
        → IsTyped th vars locs' (raised (length between) d k) t
    raised_typed d locs locs' k t r h =
        pick (λ x. IsTyped th vars locs' x t) (nat_lt k d) (bound k) (bound (k + length between))
        (λ e. variable locs' k t (inside outer (between ++ outer) d locs locs' r k (ltb-true k d e) ∙ h))
        (λ e. let far : d ≤ k = ltb-false k d e in
        let past : length between ≤ k + length between - d = omega arith in
        let same : k + length between - d - length between ≡ k - d = omega arith in
        variable locs' (k + length between) t
        (beyond' outer (between ++ outer) d locs locs' r (k + length between) (omega arith)
        ∙ get_past between outer (k + length between - d) past
        ∙ ap (slice_get outer) same
        ∙ sym (beyond outer (between ++ outer) d locs locs' r k far) ∙ h))

    pub lifted_typed : (by : ℕ) → length between ≡ by → (t : Tree) (u : Ty) → IsTyped th vars outer t u → IsTyped th vars (between ++ outer) (lifted by t) u
    lifted_typed by e t u h =
        subst (λ (n : ℕ). IsTyped th vars (between ++ outer) (lifted n t) u) e
        (keeps_typed th vars vars (raised (length between)) as_free (Inside outer (between ++ outer)) (under outer (between ++ outer)) raised_typed
        (λ d locs locs' n t r is. (leaf t, is, refl)) t u 0 outer (between ++ outer) (at_root outer (between ++ outer)) h)

-- substitution: the terms have the types of the variables that they stand for
module _ (th : Theory) (vars : List Ty) (us : List Tree) (ts outer : List Ty) (typed : AreListTyped th vars outer us ts) where
  term_at : (ws : List Tree) (ss : List Ty) (i : ℕ) (t : Ty) → AreListTyped th vars outer ws ss → slice_get ss i ≡ Some t
      → (w : Tree) × (slice_get ws i ≡ Some w) × IsTyped th vars outer w t
  term_at [] [] i t h e = cc
  term_at [] (s ∷ ss) i t h e = absurd h
  term_at (w ∷ ws) [] i t h e = absurd h
  term_at (w ∷ ws) (s ∷ ss) zero t h e = let p : s ≡ t = cc e in (w, refl, subst (λ (x : Ty). IsTyped th vars outer w x) p h.0)
  term_at (w ∷ ws) (s ∷ ss) (suc i) t h e = term_at ws ss i t h.1 e

  lifted_at : (d : ℕ) (locs locs' : List Ty) (w : Tree) (t : Ty) → Inside outer outer d locs locs' → IsTyped th vars outer w t → IsTyped th vars locs' (lifted d w) t
  lifted_at d locs locs' w t r h =
      subst (λ (l : List Ty). IsTyped th vars l (lifted d w) t) (sym r.there) (lifted_typed th vars r.inner outer d r.count w t h)

  given_typed : (d : ℕ) (locs locs' : List Ty) (n : ℕ) (t : Ty) → Inside outer outer d locs locs' → numbered ts n ≡ Some t → IsTyped th vars locs' (given us d n) t
  given_typed d locs locs' zero t r h = cc
  given_typed d locs locs' (suc n) t r h =
      let p = term_at us ts n t typed h in
      subst (λ (o : Option Tree). IsTyped th vars locs' (option_map_or (lifted d) o (truth false)) t) (sym p.1) (lifted_at d locs locs' p.0 t r p.2)

  same_bound : (d : ℕ) (locs locs' : List Ty) (k : ℕ) (t : Ty) → Inside outer outer d locs locs' → slice_get locs k ≡ Some t → IsTyped th vars locs' (as_bound d k) t
  same_bound d locs locs' k t r h = (leaf t, ap (λ l. slice_get l k) (r.there ∙ sym r.here) ∙ h, refl)

  pub substituted_typed : (t : Tree) (u : Ty) → IsTyped th ts outer t u → IsTyped th vars outer (substituted us t) u
  substituted_typed t u h =
      keeps_typed th ts vars as_bound (given us) (Inside outer outer) (under outer outer) same_bound given_typed t u 0 outer outer (at_root outer outer) h

  pub substituted_well_formed : (f : Formula) → IsWellFormed th ts outer f → IsWellFormed th vars outer (substituted_formula us f)
  substituted_well_formed f h =
      keeps_well_formed th ts vars as_bound (given us) (Inside outer outer) (under outer outer) same_bound given_typed f 0 outer outer (at_root outer outer) h

-- instantiation: the last of the terms is the innermost loose bound variable
module _ (th : Theory) (vars : List Ty) (us : List Tree) (ts outer : List Ty) (typed : AreListTyped th vars outer us ts) where
  typed_onto : (ws vs : List Tree) (ss rs : List Ty) → AreListTyped th vars outer ws ss → AreListTyped th vars outer vs rs
      → AreListTyped th vars outer (reverse_aux ws vs) (reverse_aux ss rs)
  typed_onto [] vs [] rs h k = k
  typed_onto [] vs (s ∷ ss) rs h k = absurd h
  typed_onto (w ∷ ws) vs [] rs h k = absurd h
  typed_onto (w ∷ ws) vs (s ∷ ss) rs h k = typed_onto ws (w ∷ vs) ss (s ∷ rs) h.1 (h.0, k)

  list_length : (ws : List Tree) (ss : List Ty) → AreListTyped th vars outer ws ss → length ws ≡ length ss
  list_length [] [] h = refl
  list_length [] (s ∷ ss) h = absurd h
  list_length (w ∷ ws) [] h = absurd h
  list_length (w ∷ ws) (s ∷ ss) h = ap suc (list_length ws ss h.1)

  -- what stands for a variable beyond the binders that were passed
  beyond_filled : (d : ℕ) (locs locs' : List Ty) (k : ℕ) (t : Ty) (r : Inside (reverse ts ++ outer) outer d locs locs') → d ≤ k → slice_get (reverse ts ++ outer) (k - d) ≡ Some t
      → (o : Option Tree) → slice_get (reverse us) (k - d) ≡ o → IsTyped th vars locs' (option_map_or (lifted d) o (bound (k - length us))) t
  beyond_filled d locs locs' k t r far h (Some w) e =
      let count : length us ≡ length ts = list_length us ts typed in
      let within : k - d < length (reverse ts) = omega (arith, slice_get_within (reverse us) (k - d) w e, length-reverse us, length-reverse ts, count) in
      let p = term_at th vars us ts outer typed (reverse us) (reverse ts) (k - d) t (typed_onto us [] ts [] typed tt) (sym (get_left (reverse ts) outer (k - d) within) ∙ h) in
      let same : p.0 ≡ w = let q : Some p.0 ≡ Some w = sym p.1 ∙ e in cc in
      lifted_from d locs locs' w t r (subst (λ (x : Tree). IsTyped th vars outer x t) same p.2)
    where
      lifted_from : (d : ℕ) (locs locs' : List Ty) (w : Tree) (t : Ty) → Inside (reverse ts ++ outer) outer d locs locs' → IsTyped th vars outer w t → IsTyped th vars locs' (lifted d w) t
      lifted_from d locs locs' w t r h =
          subst (λ (l : List Ty). IsTyped th vars l (lifted d w) t) (sym r.there) (lifted_typed th vars r.inner outer d r.count w t h)
  beyond_filled d locs locs' k t r far h None e =
      let count : length us ≡ length ts = list_length us ts typed in
      let after_terms : length us ≤ k - d = omega (arith, none_past (reverse us) (k - d) e, length-reverse us) in
      let same : k - d - length (reverse ts) ≡ k - length us - d = omega (arith, length-reverse ts, count) in
      variable th vars locs' (k - length us) t
      (beyond' (reverse ts ++ outer) outer d locs locs' r (k - length us) (omega arith) ∙ ap (slice_get outer) (sym same)
      ∙ sym (get_past (reverse ts) outer (k - d) (omega (arith, length-reverse ts, count))) ∙ h)

  filled_typed : (d : ℕ) (locs locs' : List Ty) (k : ℕ) (t : Ty) → Inside (reverse ts ++ outer) outer d locs locs' → slice_get locs k ≡ Some t → IsTyped th vars locs' (filled us d k) t
  filled_typed d locs locs' k t r h =
      pick (λ x. IsTyped th vars locs' x t) (nat_lt k d) (bound k) (option_map_or (lifted d) (slice_get (reverse us) (k - d)) (bound (k - length us)))
      (λ e. variable th vars locs' k t (inside (reverse ts ++ outer) outer d locs locs' r k (ltb-true k d e) ∙ h))
      (λ e. beyond_filled d locs locs' k t r (ltb-false k d e) (sym (beyond (reverse ts ++ outer) outer d locs locs' r k (ltb-false k d e)) ∙ h)
      (slice_get (reverse us) (k - d)) refl)

  pub instantiated_typed : (t : Tree) (u : Ty) → IsTyped th vars (reverse ts ++ outer) t u → IsTyped th vars outer (instantiated us t) u
  instantiated_typed t u h =
      keeps_typed th vars vars (filled us) as_free (Inside (reverse ts ++ outer) outer) (under (reverse ts ++ outer) outer) filled_typed
      (λ d locs locs' n t r is. (leaf t, is, refl)) t u 0 (reverse ts ++ outer) outer (at_root (reverse ts ++ outer) outer) h

  pub instantiated_well_formed : (f : Formula) → IsWellFormed th vars (reverse ts ++ outer) f → IsWellFormed th vars outer (instantiated_formula us f)
  instantiated_well_formed f h =
      keeps_well_formed th vars vars (filled us) as_free (Inside (reverse ts ++ outer) outer) (under (reverse ts ++ outer) outer) filled_typed
      (λ d locs locs' n t r is. (leaf t, is, refl)) f 0 (reverse ts ++ outer) outer (at_root (reverse ts ++ outer) outer) h

-- abstraction: the innermost loose bound variable has the type of `?n`, and the other free variables have the types that they have
module _ (th : Theory) (vars vars' : List Ty) (n : ℕ) (s : Ty) (outer : List Ty)
    (here : numbered vars n ≡ Some s) (others : (m : ℕ) → m ≢ n → numbered vars' m ≡ numbered vars m) where
  named_typed : (d : ℕ) (locs locs' : List Ty) (m : ℕ) (t : Ty) → Inside outer (s ∷ outer) d locs locs' → numbered vars m ≡ Some t → IsTyped th vars' locs' (bound_for n d m) t
  named_typed d locs locs' m t r h =
      let same : d - d ≡ 0 = omega arith in
      pick (λ x. IsTyped th vars' locs' x t) (nat_eq m n) (bound d) (free m)
      (λ e. variable th vars' locs' d t
      (beyond' outer (s ∷ outer) d locs locs' r d (omega arith) ∙ ap (slice_get (s ∷ outer)) same ∙ (sym here ∙ (ap (numbered vars) (sym (eqb-true m n e)) ∙ h))))
      (λ e. (leaf t, others m (eqb-false m n e) ∙ h, refl))

  pub abstracted_typed : (t : Tree) (u : Ty) → IsTyped th vars outer t u → IsTyped th vars' (s ∷ outer) (abstracted n t) u
  abstracted_typed t u h =
      keeps_typed th vars vars' (raised 1) (bound_for n) (Inside outer (s ∷ outer)) (under outer (s ∷ outer)) (raised_typed th vars' (s ∷ []) outer) named_typed
      t u 0 outer (s ∷ outer) (at_root outer (s ∷ outer)) h

  pub abstracted_well_formed : (f : Formula) → IsWellFormed th vars outer f → IsWellFormed th vars' (s ∷ outer) (abstracted_formula n f)
  abstracted_well_formed f h =
      keeps_well_formed th vars vars' (raised 1) (bound_for n) (Inside outer (s ∷ outer)) (under outer (s ∷ outer)) (raised_typed th vars' (s ∷ []) outer) named_typed
      f 0 outer (s ∷ outer) (at_root outer (s ∷ outer)) h
