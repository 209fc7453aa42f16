-- What a text of a rule is, and its value: no reader stands here, only rules.
use Rattle.std.specs.Prelude.{◌≡◌, ℕ, zero, suc, true, Some, None, List, [], ◌∷◌, ◌++◌, ◌⊎◌}
use Rattle.tg_rules.specs.Rule.{Rule, tok, nt, seq, alt, opt, act, has}

module _ {T : Type 0} (kind : T → ℕ) {N : Type 0} {Value : N → Type 0} where
  -- these tokens are a text of the rule with this value, where `R` says it of the parts
  abbrev pub Is : {A : Type 0} → ((n : N) → Value n → List T → Type 0) → Rule T N Value A → A → List T → Type 0
  Is R (tok k ks) v ts = (has (k ∷ ks) (kind v) ≡ true) × (ts ≡ v ∷ [])
  Is R (nt n) v ts = R n v ts
  Is R (seq g h) v ts = (p : List T) × (q : List T) × Is R g v.0 p × Is R h v.1 q × (ts ≡ p ++ q)
  Is R (alt g h) v ts = Is R g v ts ⊎ Is R h v ts
  Is R (opt {A} g) v ts = ((v ≡ None) × (ts ≡ [])) ⊎ ((a : A) × (v ≡ Some a) × Is R g a ts)
  Is R (act {A} f g) v ts = (a : A) × (v ≡ f a) × Is R g a ts

  -- The same of a part, by a tree of parts of at most this height.
  abbrev pub Within : ((n : N) → Rule T N Value (Value n)) → ℕ → (n : N) → Value n → List T → Type 0
  Within rule zero n v ts = ⊥
  Within rule (suc height) n v ts = Is (Within rule height) (rule n) v ts

  -- These tokens are a text of the part, with this value: of all relations that fit the rules the least one.
  abbrev pub Reads : ((n : N) → Rule T N Value (Value n)) → (n : N) → Value n → List T → Type 0
  Reads rule n v ts = (height : ℕ) × Within rule height n v ts
