-- Lists of kinds, and the next token.
use Rattle.std.proofs.Common.{◌≡◌, ℕ, Bool, true, false, not, nat_eq, List, [], ◌∷◌, ◌++◌, inl, inr, refl, sym, ap, ◌∙◌}
use Rattle.std.proofs.lemmas.Bool.{and_parts, or_left, or_right, or_cases, not-true, eqb-true}
use Rattle.tg_rules.specs.Rule.{has}
use Rattle.tg_rules.specs.Foresight.{all_in, apart}
use Rattle.tg_rules.specs.Reader.{starts}

pub clash : (b : Bool) → b ≡ true → b ≡ false → ⊥
clash b e f = cc

pub not_true : (b : Bool) → (b ≡ true → ⊥) → b ≡ false
not_true true h = absurd (h refl)
not_true false h = refl

pub has_left : (ks ls : List ℕ) (k : ℕ) → has ks k ≡ true → has (ks ++ ls) k ≡ true
has_left [] ls k e = cc
has_left (x ∷ ks) ls k e =
    elim (or_cases (nat_eq x k) (has ks k) e) [
      | inl same ↦ or_left (nat_eq x k) (has (ks ++ ls) k) same
      | inr later ↦ or_right (nat_eq x k) (has (ks ++ ls) k) (has_left ks ls k later)
    ]

pub has_right : (ks ls : List ℕ) (k : ℕ) → has ls k ≡ true → has (ks ++ ls) k ≡ true
has_right [] ls k e = e
has_right (x ∷ ks) ls k e = or_right (nat_eq x k) (has (ks ++ ls) k) (has_right ks ls k e)

pub in_all : (ks ls : List ℕ) (k : ℕ) → all_in ks ls ≡ true → has ks k ≡ true → has ls k ≡ true
in_all [] ls k all e = cc
in_all (x ∷ ks) ls k all e =
    let both = and_parts (has ls x) (all_in ks ls) all in
    elim (or_cases (nat_eq x k) (has ks k) e) [
      | inl same ↦ ap (has ls) (sym (eqb-true x k same)) ∙ both.0
      | inr later ↦ in_all ks ls k both.1 later
    ]

pub in_one : (ks ls : List ℕ) (k : ℕ) → apart ks ls ≡ true → has ks k ≡ true → has ls k ≡ false
in_one [] ls k all e = cc
in_one (x ∷ ks) ls k all e =
    let both = and_parts (not (has ls x)) (apart ks ls) all in
    elim (or_cases (nat_eq x k) (has ks k) e) [
      | inl same ↦ ap (has ls) (sym (eqb-true x k same)) ∙ not-true (has ls x) both.0
      | inr later ↦ in_one ks ls k both.1 later
    ]

pub in_other : (ks ls : List ℕ) (k : ℕ) → apart ks ls ≡ true → has ls k ≡ true → has ks k ≡ false
in_other ks ls k all e = not_true (has ks k) (λ x. clash (has ls k) e (in_one ks ls k all x))

module _ {T : Type 0} (kind : T → ℕ) where
  pub starts_none : (ts : List T) → starts kind [] ts ≡ false
  starts_none [] = refl
  starts_none (t ∷ ts) = refl

  pub starts_neither : (ks ls : List ℕ) (ts : List T) → starts kind (ks ++ ls) ts ≡ false → (starts kind ks ts ≡ false) × (starts kind ls ts ≡ false)
  starts_neither ks ls [] e = (refl, refl)
  starts_neither ks ls (t ∷ ts) e = (
    not_true (has ks (kind t)) (λ x. clash (has (ks ++ ls) (kind t)) (has_left ks ls (kind t) x) e),
    not_true (has ls (kind t)) (λ x. clash (has (ks ++ ls) (kind t)) (has_right ks ls (kind t) x) e),
  )

  pub starts_fewer : (ks ls : List ℕ) (ts : List T) → all_in ks ls ≡ true → starts kind ls ts ≡ false → starts kind ks ts ≡ false
  starts_fewer ks ls [] all e = refl
  starts_fewer ks ls (t ∷ ts) all e = not_true (has ks (kind t)) (λ x. clash (has ls (kind t)) (in_all ks ls (kind t) all x) e)

  pub starts_apart : (ks ls : List ℕ) (ts : List T) → apart ks ls ≡ true → starts kind ls ts ≡ true → starts kind ks ts ≡ false
  starts_apart ks ls [] all e = refl
  starts_apart ks ls (t ∷ ts) all e = in_other ks ls (kind t) all e
