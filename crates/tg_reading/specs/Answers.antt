-- What a reader of a part answers, and what it leaves.
use Rattle.std.specs.Prelude.{ℕ, ◌≡◌, ◌<◌, Bool, true, false, List, [], ◌∷◌, length, Option, Some, None, Result, Ok, Err, if◌then◌else◌}
use Rattle.tg_rules.specs.Reader.{Read, ok, err, out, mapped, followed, starts, token_at, read, read_in}
use Rattle.tg_grammar.specs.Notation.{Grammar}
use Rattle.tg_grammar.specs.Seen.{Seen}
use Rattle.tg_grammar.specs.First.{words, rules, foresight}
use Rattle.tg_grammar.specs.Reading.{kind}
use Rattle.tg_grammar.specs.Table.{table}
use Rattle.tg_reading.specs.declared.reader.Stop.{Stop}
use Rattle.tg_reading.specs.declared.reader.Stop.TheVariants.{Memory, Wrong}

-- the answer, and the tokens that are left, are what is read; where a token is wrong, it is the first of those that are left
abbrev pub Gives : {A : Type 0} → Result A Stop → List Seen → Read Seen A → Type 0
Gives (Ok value) left r = r ≡ ok value left
Gives (Err Wrong) left r = r ≡ err left
Gives (Err Memory) left r = Unit {0}

-- what is read is added to a list, and this is the list then
abbrev pub Adds : {A B : Type 0} → Result A Stop → List B → List Seen → Read Seen (List B) → Type 0
Adds (Ok u) items left r = r ≡ ok items left
Adds (Err Wrong) items left r = r ≡ err left
Adds (Err Memory) items left r = Unit {0}

-- what is read by `r`, and then what the other reads with it
abbrev pub and_then : {A B : Type 0} → Read Seen A → (A → List Seen → Read Seen B) → Read Seen B
and_then (ok a rest) next = next a rest
and_then (err rest) next = err rest
and_then out next = out

-- read by a rule
abbrev pub by_rule : {A : Type 0} → Grammar A → List Seen → Read Seen A
by_rule g ts = read_in kind foresight (read kind foresight table) g ts

-- the next token, which there is where a reader goes on
abbrev pub next_seen : List Seen → Seen
next_seen [] = record { kind = 0; value = 0; text = [] }
next_seen (t ∷ ts) = t

-- the next token is taken, or it is wrong
abbrev pub Takes : {A : Type 0} → Result A Stop → List Seen → List Seen → Read Seen Seen → Type 0
Takes (Ok u) ts left r = r ≡ ok (next_seen ts) left
Takes (Err Wrong) ts left r = r ≡ err left
Takes (Err Memory) ts left r = ⊥

-- the next token is one of these and is left behind, or it isn't and nothing is
abbrev pub Skips : Bool → List ℕ → List Seen → List Seen → Type 0
Skips true ks ts left = (starts kind ks ts ≡ true) × (token_at kind ks ts ≡ ok (next_seen ts) left) × (length left < length ts)
Skips false ks ts left = (starts kind ks ts ≡ false) × (token_at kind ks ts ≡ err ts) × (left ≡ ts)

-- The rule reads a token and means a value by it, where the next token begins it.
abbrev pub Finds : {A : Type 0} → Option A → List ℕ → List Seen → List Seen → Read Seen A → Type 0
Finds (Some value) ks ts left r = (starts kind ks ts ≡ true) × (r ≡ ok value left) × (length left < length ts)
Finds None ks ts left r = (starts kind ks ts ≡ false) × (r ≡ err ts) × (left ≡ ts)

-- the text or the value of the next token, which is of one of these kinds
abbrev pub text_at : List ℕ → List Seen → Read Seen (List ℕ)
text_at ks ts = mapped (λ s. s.text) (token_at kind ks ts)

abbrev pub value_at : List ℕ → List Seen → Read Seen ℕ
value_at ks ts = mapped (λ s. s.value) (token_at kind ks ts)

-- the kind, the text and the value of the next token
abbrev pub next_kind : List Seen → Option ℕ
next_kind [] = None
next_kind (t ∷ ts) = Some t.kind

abbrev pub next_text : List Seen → List ℕ
next_text [] = []
next_text (t ∷ ts) = t.text

abbrev pub next_value : List Seen → ℕ
next_value [] = 0
next_value (t ∷ ts) = t.value

-- what is read behind a token of this kind
abbrev pub behind : {A : Type 0} → ℕ → (List Seen → Read Seen A) → List Seen → Read Seen A
behind {A} k next ts = mapped {B = A} (λ x. x.1) (followed {B = A} (token_at kind (k ∷ []) ts) next)

-- the text of a word that isn't reserved, where one is next
abbrev pub optional_text : List Seen → Read Seen (Option (List ℕ))
optional_text ts = let a = text_at words ts in if starts kind words ts then mapped Some a else ok None ts

-- the kind of the name of a rule
abbrev pub rule_at : List Seen → Read Seen ℕ
rule_at ts = mapped (λ s. s.kind) (token_at kind rules ts)
