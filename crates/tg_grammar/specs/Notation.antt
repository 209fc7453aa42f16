-- How the rules are written. A quoted text is a token, `∙∙` stands between what follows one another, `∣` between the sides of a
-- choice, and behind `⇒` stands the value, made of the parts that have one.
use Prim.Native.String.{String}
use Rattle.std.specs.Prelude.{ℕ, List, [], ◌∷◌, codes}
use Rattle.tg_tables.specs.Rows.{Entry, entry}
use Rattle.tg_tables.specs.Lists.{symbol_list}
use Rattle.tg_rules.specs.Rule.{Rule, tok, alt, opt, act, seq}
use Rattle.tg_rules.specs.Repetition.{listed}
use Rattle.tg_grammar.specs.Kinds.{other_word, type_variable, zero_number, one_number, two_number, small_number, other_number}
use Rattle.tg_grammar.specs.Seen.{Seen, code_or}
use Rattle.tg_grammar.specs.Words.{version_one, local_kinds}
use Rattle.tg_grammar.specs.Parts.{Part, Value}

abbrev pub Grammar : Type 0 → Type 1
Grammar A = Rule Seen Part Value A

-- the numbers that are quoted
abbrev pub quoted_numbers : List Entry
quoted_numbers = entry (codes "0") zero_number ∷ entry (codes "1") one_number ∷ []

-- the kind of a quoted token: a symbol, a word that has a kind of its own, or a number
abbrev pub quoted : String → ℕ
quoted text = code_or (code_or (code_or 0 quoted_numbers (codes text)) version_one (codes text)) symbol_list (codes text)

infixr 60 ◌▸◌
infixl 65 ◌◂◌
infixl 55 ◌⇒◌
infixr 50 ◌∣◌
infix 58 ◌means◌
-- a token, and then `g`
abbrev pub ◌▸◌ : {A : Type 0} → String → Grammar A → Grammar A
◌▸◌ {A} text g = act {A = Seen × A} (λ x. x.1) (seq (tok (quoted text) []) g)

-- `g`, and then a token
abbrev pub ◌◂◌ : {A : Type 0} → Grammar A → String → Grammar A
◌◂◌ {A} g text = act {A = A × Seen} (λ x. x.0) (seq g (tok (quoted text) []))

-- a token by itself, which means this value
abbrev pub ◌means◌ : {A : Type 0} → String → A → Grammar A
◌means◌ {A} text a = act (λ s. a) (tok (quoted text) [])

abbrev pub ◌⇒◌ : {A B : Type 0} → Grammar A → (A → B) → Grammar B
g ⇒ make = act make g

abbrev pub ◌∣◌ : {A : Type 0} → Grammar A → Grammar A → Grammar A
g ∣ h = alt g h

-- ---- classes of tokens

-- a word that isn't reserved
abbrev pub word : Grammar (List ℕ)
word = act (λ s. s.text) (tok other_word local_kinds)

abbrev pub tyvar : Grammar (List ℕ)
tyvar = act (λ s. s.text) (tok type_variable [])

abbrev pub number : Grammar ℕ
number = act (λ s. s.value) (tok zero_number (one_number ∷ two_number ∷ small_number ∷ other_number ∷ []))

-- ---- repetition

-- nothing, or one and then more
abbrev pub many : {A : Type 0} → Grammar (A × List A) → Grammar (List A)
many g = act listed (opt g)

-- one and then more
abbrev pub some : {A : Type 0} → Grammar (A × List A) → Grammar (List A)
some {A} g = act {A = A × List A} (λ x. x.0 ∷ x.1) g
