-- Reading one after another, grouped otherwise.
use Rattle.std.proofs.Common.{◌≡◌, ℕ, List, [], ◌∷◌, refl, ap, ◌∙◌}
use Rattle.tg_rules.specs.Reader.{Read, ok, err, out, mapped, followed, token_at}
use Rattle.tg_grammar.specs.First.{numbers}
use Rattle.tg_grammar.specs.Reading.{kind}
use Rattle.tg_grammar.specs.Seen.{Seen}
use Rattle.tg_reading.specs.Answers.{value_at}
use Rattle.tg_syntax.specs.Outcomes.{setting}

module _ {T A B C : Type 0} where
  second_moved : (b : B) (a : A) (r : Read T C) → mapped {B = A × C} (λ x. x.1) (mapped {B = B × (A × C)} (λ y. (b, y)) (mapped {B = A × C} (λ c. (a, c)) r)) ≡ mapped {B = A × C} (λ c. (a, c)) r
  second_moved b a (ok c rest) = refl
  second_moved b a (err left) = refl
  second_moved b a out = refl

  first_moved : (b : B) (r : Read T A) (g : List T → Read T C)
      → mapped {B = A × C} (λ x. x.1) (mapped {B = B × (A × C)} (λ y. (b, y)) (followed r g)) ≡ followed (mapped {B = A} (λ x. x.1) (mapped {B = B × A} (λ y. (b, y)) r)) g
  first_moved b (ok a rest) g = second_moved b a (g rest)
  first_moved b (err left) g = refl
  first_moved b out g = refl

  -- a token in front of two belongs to the first of them
  pub moved : (r : Read T B) (f : List T → Read T A) (g : List T → Read T C)
      → mapped {B = A × C} (λ x. x.1) (followed r (λ ts. followed (f ts) g)) ≡ followed (mapped {B = A} (λ x. x.1) (followed r f)) g
  moved (ok b rest) f g = first_moved b (f rest) g
  moved (err left) f g = refl
  moved out f g = refl

module _ {T A B : Type 0} where
  pub next_same : (r : Read T A) (f g : List T → Read T B) → ((ts : List T) → f ts ≡ g ts) → followed r f ≡ followed r g
  next_same (ok a rest) f g same = ap (mapped {B = A × B} (λ b. (a, b))) (same rest)
  next_same (err left) f g same = refl
  next_same out f g same = refl

pub setting_first : {A : Type 0} (k : ℕ) (f g : List Seen → Read Seen A) → ((ts : List Seen) → f ts ≡ g ts) → (ts : List Seen)
    → mapped {B = ℕ × A} (λ x. x.1) (followed (token_at kind (k ∷ []) ts) (λ ts. followed (value_at numbers ts) f)) ≡ followed (setting k ts) g
unfolding setting
setting_first k f g same ts = moved (token_at kind (k ∷ []) ts) (value_at numbers) f ∙ next_same (setting k ts) f g same
