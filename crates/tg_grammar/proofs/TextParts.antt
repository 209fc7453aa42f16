-- What a text of a rule is put together from: a token before and behind, repetitions, types in brackets, connectives.
use Rattle.std.proofs.Common.{◌≡◌, ℕ, true, ◌⊎◌, List, [], ◌∷◌, ◌++◌, Option, Some, None, inl, inr, refl, sym, ap, subst, ◌∙◌, append_assoc}
use Rattle.tg_rules.specs.Rule.{has, ◌∙∙◌, ◌▸◌, ◌◂◌}
use Rattle.tg_rules.specs.Texts.{Is}
use Rattle.tg_grammar.specs.declared.types.RawTy.{RawTy}
use Rattle.tg_grammar.specs.Kinds.{close_paren, comma}
use Rattle.tg_grammar.specs.Seen.{Seen}
use Rattle.tg_grammar.specs.Parts.{Part, Value}
use Rattle.tg_rules.specs.Repetition.{listed}
use Rattle.tg_grammar.specs.Making.{applied, bracketed}
use Rattle.tg_grammar.specs.Notation.{Grammar, word, many, some}
use Rattle.tg_grammar.specs.TableParts as table
use Rattle.tg_grammar.specs.Reading.{kind}

-- ---- a token before and behind

module _ (R : (n : Part) → Value n → List Seen → Type 0) where
  -- what follows the token may be read otherwise
  pub inside : {A B : Type 0} (k : ℕ) (g : Grammar A) (h : Grammar B) (v : A) (w : B) → ((q : List Seen) → Is kind R g v q → Is kind R h w q)
      → (ts : List Seen) → Is kind R (k ▸ g) v ts → Is kind R (k ▸ h) w ts
  inside k g h v w f ts (x, e, (p, q, t, a, es)) = ((x.0, w), refl, (p, q, t, f q (subst (λ z. Is kind R g z q) (sym e) a), es))

  abbrev pub Opens : {A : Type 0} → ℕ → Grammar A → A → List Seen → Type 0
  Opens k g v ts = (t : Seen) × (q : List Seen) × (has (k ∷ []) t.kind ≡ true) × Is kind R g v q × (ts ≡ t ∷ q)

  pub opened : {A : Type 0} (k : ℕ) (g : Grammar A) (v : A) (ts : List Seen) → Is kind R (k ▸ g) v ts → Opens k g v ts
  opened k g v ts (x, e, (p, q, (h, ep), a, es)) = (x.0, q, h, subst (λ z. Is kind R g z q) (sym e) a, es ∙ ap (λ z. z ++ q) ep)

  pub open_with : {A : Type 0} (k : ℕ) (g : Grammar A) (v : A) (t : Seen) (q : List Seen) → has (k ∷ []) t.kind ≡ true → Is kind R g v q → Is kind R (k ▸ g) v (t ∷ q)
  open_with k g v t q h a = ((t, v), refl, (t ∷ [], q, (h, refl), a, refl))

  abbrev pub Closes : {A : Type 0} → Grammar A → ℕ → A → List Seen → Type 0
  Closes g k v ts = (p : List Seen) × (t : Seen) × (has (k ∷ []) t.kind ≡ true) × Is kind R g v p × (ts ≡ p ++ t ∷ [])

  pub closed : {A : Type 0} (g : Grammar A) (k : ℕ) (v : A) (ts : List Seen) → Is kind R (g ◂ k) v ts → Closes g k v ts
  closed g k v ts (x, e, (p, q, a, (h, eq), es)) = (p, x.1, h, subst (λ z. Is kind R g z p) (sym e) a, es ∙ ap (λ z. p ++ z) eq)

  pub close_with : {A : Type 0} (g : Grammar A) (k : ℕ) (v : A) (p : List Seen) (t : Seen) → has (k ∷ []) t.kind ≡ true → Is kind R g v p → Is kind R (g ◂ k) v (p ++ t ∷ [])
  close_with g k v p t h a = ((v, t), refl, (p, t ∷ [], a, (h, refl), refl))

-- ---- types

pub same_type : (t : RawTy) (w : Option (List ℕ)) → applied t w ≡ bracketed t [] w
same_type t None = refl
same_type t (Some name) = refl

-- the tokens of a type in brackets, and what stands behind them
pub enclosed : (o c : Seen) (p inner q : List Seen) (r : List Seen) → p ≡ o ∷ r → r ≡ inner ++ c ∷ [] → o ∷ (inner ++ c ∷ q) ≡ p ++ q
enclosed o c p inner q r e f = sym (ap (λ z. z ++ q) (e ∙ ap (λ z. o ∷ z) f) ∙ ap (λ z. o ∷ z) (append_assoc inner (c ∷ []) q))

abbrev pub more_types : Grammar (List RawTy × List ℕ)
more_types = comma ▸ table.more_types ∙∙ close_paren ▸ word

-- ---- repetitions

module _ (R : (n : Part) → Value n → List Seen → Type 0) where
  abbrev pub Repeats : {A : Type 0} → Grammar (A × List A) → List A → List Seen → Type 0
  Repeats {A} g v q = ((v ≡ []) × (q ≡ [])) ⊎ ((y : A × List A) × (v ≡ y.0 ∷ y.1) × Is kind R g y q)

  pub repeats : {A : Type 0} (g : Grammar (A × List A)) (v : List A) (q : List Seen) → Is kind R (many g) v q → Repeats g v q
  repeats g v q (o, e, inl (f, h)) = inl (e ∙ ap listed f, h)
  repeats g v q (o, e, inr (y, f, h)) = inr (y, e ∙ ap listed f, h)

  pub no_more : {A : Type 0} (g : Grammar (A × List A)) → Is kind R (many g) [] []
  no_more g = (None, refl, inl (refl, refl))

  pub one_more : {A : Type 0} (g : Grammar (A × List A)) (y : A × List A) (q : List Seen) → Is kind R g y q → Is kind R (many g) (y.0 ∷ y.1) q
  one_more g y q h = (Some y, refl, inr (y, refl, h))

  -- one and then more is a repetition
  pub some_more : {A : Type 0} (g : Grammar (A × List A)) (v : List A) (q : List Seen) → Is kind R (some g) v q → Is kind R (many g) v q
  some_more g v q (y, e, h) = (Some y, e, inr (y, refl, h))
