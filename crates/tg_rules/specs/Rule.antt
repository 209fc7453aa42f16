-- A grammar as a value: each part has one rule, and a rule says of which tokens and parts a text is put together, and which
-- value it means. `T` are the tokens, `N` the parts, and `Value n` the values of the part `n`.
use Rattle.std.specs.Prelude.{ℕ, Bool, false, ◌||◌, nat_eq, Option, List, [], ◌∷◌}

infixr 60 ◌∙∙◌
infixr 60 ◌▸◌
infixl 65 ◌◂◌
pub data Rule (T : Type 0) (N : Type 0) (Value : N → Type 0) : Type 0 → Type 1 where
  -- one token, of this kind or of one of these
  tok : ℕ → List ℕ → Rule T N Value T
  -- a part
  nt : (n : N) → Rule T N Value (Value n)
  -- the one and then the other
  seq : {A B : Type 0} → Rule T N Value A → Rule T N Value B → Rule T N Value (A × B)
  -- the one or the other
  alt : {A : Type 0} → Rule T N Value A → Rule T N Value A → Rule T N Value A
  -- it, or nothing
  opt : {A : Type 0} → Rule T N Value A → Rule T N Value (Option A)
  -- it, where the value is what the function makes of its value
  act : {A B : Type 0} → (A → B) → Rule T N Value A → Rule T N Value B

-- Repetition is no form of rule: `{ x }` is a part of its own, that is nothing or `x` and then the part again.

abbrev pub ◌∙∙◌ : {T N : Type 0} {Value : N → Type 0} {A B : Type 0} → Rule T N Value A → Rule T N Value B → Rule T N Value (A × B)
g ∙∙ h = seq g h

-- a token of this kind, and then `g`
abbrev pub ◌▸◌ : {T N : Type 0} {Value : N → Type 0} {A : Type 0} → ℕ → Rule T N Value A → Rule T N Value A
◌▸◌ {T} {N} {Value} {A} k g = act {A = T × A} (λ x. x.1) (seq (tok k []) g)

-- `g`, and then a token of this kind
abbrev pub ◌◂◌ : {T N : Type 0} {Value : N → Type 0} {A : Type 0} → Rule T N Value A → ℕ → Rule T N Value A
◌◂◌ {T} {N} {Value} {A} g k = act {A = A × T} (λ x. x.0) (seq g (tok k []))

-- a kind is among these
abbrev pub has : List ℕ → ℕ → Bool
has [] kind = false
has (k ∷ ks) kind = nat_eq k kind || has ks kind
