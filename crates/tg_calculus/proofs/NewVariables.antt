-- Contexts that grow: places, closed types, and formulas that have no new variable.
use Rattle.std.proofs.Common.{ℕ, zero, suc, ◌≡◌, ◌≢◌, ◌+◌, ◌-◌, ◌<◌, ◌≤◌, true, false, List, [], ◌∷◌, ◌++◌, length, Some, refl, sym, ◌∙◌, ap, subst, ◌⊎◌, inl, inr, arith}
use Rattle.std.specs.Prelude.{slice_get}
use Rattle.std.proofs.lemmas.Option.{slice_get_within}
use Rattle.tg_model.specs.Types.{Ty, tys}
use Rattle.tg_model.specs.Formula.{Formula}
use Rattle.tg_model.specs.Theory.{Theory, numbered, AreClosed}
use Rattle.tg_model.specs.Uses.{uses_in_formula}
use Rattle.tg_model.specs.TermTyping.{IsWellFormed}
use Rattle.tg_model.proofs.Booleans.{or_left_false, or_right_false}
use Rattle.tg_model.proofs.Contexts.{well_formed_again, used_in_formula, contexts_grow_form}
use Rattle.tg_calculus.specs.Sequent.{Context, Hypotheses, Each, next, uses_from, uses_new, some_use_new}

pub closed_both : (th : Theory) (Ts Us : List Ty) → AreClosed th (tys Ts) → AreClosed th (tys Us) → AreClosed th (tys (Ts ++ Us))
closed_both th [] Us h k = k
closed_both th (T ∷ Ts) Us h k = (h.0, closed_both th Ts Us h.1 k)

pub closed_first : (th : Theory) (Ts Us : List Ty) → AreClosed th (tys (Ts ++ Us)) → AreClosed th (tys Ts)
closed_first th [] Us h = tt
closed_first th (T ∷ Ts) Us h = (h.0, closed_first th Ts Us h.1)

pub closed_last : (th : Theory) (Ts Us : List Ty) → AreClosed th (tys (Ts ++ Us)) → AreClosed th (tys Us)
closed_last th [] Us h = h
closed_last th (T ∷ Ts) Us h = closed_last th Ts Us h.1

last_place : {A : Type 0} (xs : List A) (x : A) → slice_get (xs ++ x ∷ []) (length xs) ≡ Some x
last_place [] x = refl
last_place (y ∷ xs) x = last_place xs x

pub at_end : {A : Type 0} (xs : List A) (x : A) → numbered (xs ++ x ∷ []) (suc (length xs)) ≡ Some x
at_end xs x = last_place xs x

other_place : {A : Type 0} (xs : List A) (x : A) (k : ℕ) → k ≢ length xs → slice_get xs k ≡ slice_get (xs ++ x ∷ []) k
other_place [] x zero h = absurd (h refl)
other_place [] x (suc k) h = refl
other_place (y ∷ xs) x zero h = refl
other_place (y ∷ xs) x (suc k) h = other_place xs x k (λ e. h (ap suc e))

pub elsewhere : {A : Type 0} (xs : List A) (x : A) (m : ℕ) → m ≢ suc (length xs) → numbered xs m ≡ numbered (xs ++ x ∷ []) m
elsewhere xs x zero h = refl
elsewhere xs x (suc k) h = other_place xs x k (λ e. h (ap suc e))

-- a place of the shorter list, or one of the further ones
pub within_or_past : {A : Type 0} (xs ys : List A) (k : ℕ) (x : A) → slice_get (xs ++ ys) k ≡ Some x
    → (slice_get xs k ≡ Some x) ⊎ ((length xs ≤ k) × (k < length xs + length ys))
within_or_past [] ys k x e = inr (omega arith, omega (arith, slice_get_within ys k x e))
within_or_past (y ∷ xs) ys zero x e = inl e
within_or_past (y ∷ xs) ys (suc k) x e =
    elim (within_or_past xs ys k x e) [ inl h ↦ inl h | inr h ↦ inr (omega (arith, h.0), omega (arith, h.1)) ]

not_used : (n : ℕ) (Ts : List Ty) (F : Formula) (k : ℕ) → k < length Ts → uses_from n Ts F ≡ false → uses_in_formula (n + k) F ≡ false
not_used n [] F k b e = absurd (omega (arith, b))
not_used n (T ∷ Ts) F zero b e =
    let q : n ≡ n + zero = omega arith in
    subst (λ m. uses_in_formula m F ≡ false) q (or_left_false (uses_in_formula n F) (uses_from (suc n) Ts F) e)
not_used n (T ∷ Ts) F (suc k) b e =
    let q : suc n + k ≡ n + suc k = omega arith in
    subst (λ m. uses_in_formula m F ≡ false) q
    (not_used (suc n) Ts F k (omega (arith, b)) (or_right_false (uses_in_formula n F) (uses_from (suc n) Ts F) e))

-- a formula without new variables is one of the shorter context
module _ (th : Theory) (G : Context) (Ts : List Ty) where
  same_types : (F : Formula) → uses_new G Ts F ≡ false → IsWellFormed th (G ++ Ts) [] F → (m : ℕ) → uses_in_formula m F ≡ true
      → numbered (G ++ Ts) m ≡ numbered G m
  same_types F unused h zero u = refl
  same_types F unused h (suc k) u =
      let p = used_in_formula th (G ++ Ts) (suc k) F [] u h in
      elim (within_or_past G Ts k p.0 p.1) [ inl e ↦ p.1 ∙ sym e | inr e ↦ absurd (none k e.0 e.1 u) ]
    where
      none : (k : ℕ) → length G ≤ k → k < length G + length Ts → uses_in_formula (suc k) F ≡ true → ⊥
      none k a b u =
          let n : next G + (k - length G) ≡ suc k = omega (arith, a) in
          let l : k - length G < length Ts = omega (arith, a, b) in
          let f : uses_in_formula (suc k) F ≡ false = subst (λ m. uses_in_formula m F ≡ false) n (not_used (next G) Ts F (k - length G) l unused) in
          let g : true ≡ false = sym u ∙ f in cc

  pub strengthened : (F : Formula) → uses_new G Ts F ≡ false → IsWellFormed th (G ++ Ts) [] F → IsWellFormed th G [] F
  strengthened F unused h = well_formed_again th (G ++ Ts) G F [] (same_types F unused h) h

  pub all_strengthened : (H : Hypotheses) → some_use_new G Ts H ≡ false → Each (IsWellFormed th (G ++ Ts) []) H → Each (IsWellFormed th G []) H
  all_strengthened [] unused h = tt
  all_strengthened (F ∷ H) unused h = (
    strengthened F (or_left_false (uses_new G Ts F) (some_use_new G Ts H) unused) h.0,
    all_strengthened H (or_right_false (uses_new G Ts F) (some_use_new G Ts H) unused) h.1,
  )

  pub weakened : (F : Formula) → IsWellFormed th G [] F → IsWellFormed th (G ++ Ts) [] F
  weakened F h = contexts_grow_form th G Ts [] [] F h

  pub all_weakened : (H : Hypotheses) → Each (IsWellFormed th G []) H → Each (IsWellFormed th (G ++ Ts) []) H
  all_weakened [] h = tt
  all_weakened (F ∷ H) h = (weakened F h.0, all_weakened H h.1)
