-- A small grammar as an example: differences of numbers and of differences in brackets, grouped to the left.
--   difference = atom { "-" atom }
--   atom = number | "(" difference ")"
use Rattle.std.specs.Prelude.{ℕ, zero, suc, Bool, true, false, List, [], ◌∷◌}
use Rattle.tg_rules.specs.Rule.{Rule, tok, nt, alt, opt, act, ◌∙∙◌, ◌▸◌, ◌◂◌}
use Rattle.tg_rules.specs.Foresight.{Foresight}
use Rattle.tg_rules.specs.Repetition.{listed, folded}

pub data Token : Type 0 where
  number : ℕ → Token
  minus : Token
  open_bracket : Token
  close_bracket : Token

-- 0 is a kind of its own
abbrev pub kind : Token → ℕ
kind (number zero) = 0
kind (number (suc n)) = 1
kind minus = 2
kind open_bracket = 3
kind close_bracket = 4

pub data Tree : Type 0 where
  leaf : ℕ → Tree
  less : Tree → Tree → Tree

pub data Part : Type 0 where
  difference : Part
  further : Part
  atom : Part

abbrev pub Meaning : Part → Type 0
Meaning difference = Tree
Meaning further = List Tree
Meaning atom = Tree

abbrev pub leaf_of : Token → Tree
leaf_of (number n) = leaf n
leaf_of minus = leaf 0
leaf_of open_bracket = leaf 0
leaf_of close_bracket = leaf 0

-- `t - u - v` is `(t - u) - v`
abbrev pub grouped : Tree → List Tree → Tree
grouped = folded less

abbrev pub rule : (n : Part) → Rule Token Part Meaning (Meaning n)
rule difference = act (λ x. grouped x.0 x.1) (nt atom ∙∙ nt further)
rule further = act listed (opt ((2 ▸ nt atom) ∙∙ nt further))
rule atom = alt (act leaf_of (tok 0 (1 ∷ []))) (3 ▸ (nt difference ◂ 4))

-- The same as people write it: the table is of no use to a reader, since a difference begins with a difference.
--   difference = atom | difference "-" atom
abbrev pub page : (n : Part) → Rule Token Part Meaning (Meaning n)
page difference = alt (nt atom) (act (λ x. less x.0 x.1) (nt difference ∙∙ (2 ▸ nt atom)))
page further = rule further
page atom = rule atom

abbrev pub first : Part → List ℕ
first difference = 0 ∷ 1 ∷ 3 ∷ []
first further = 2 ∷ []
first atom = 0 ∷ 1 ∷ 3 ∷ []

abbrev pub empty : Part → Bool
empty difference = false
empty further = true
empty atom = false

abbrev pub more : Part → List ℕ
more difference = 2 ∷ []
more further = 2 ∷ []
more atom = []

abbrev pub rank : Part → ℕ
rank difference = 1
rank further = 0
rank atom = 0

abbrev pub foresight : Foresight Part
foresight = record { first = first; empty = empty; more = more; rank = rank }

-- a token of each kind
abbrev pub token : ℕ → Token
token zero = number 0
token (suc zero) = number 1
token (suc (suc zero)) = minus
token (suc (suc (suc zero))) = open_bracket
token (suc (suc (suc (suc n)))) = close_bracket

-- a text of each part
abbrev pub sample : Part → List Token
sample difference = number 0 ∷ []
sample further = []
sample atom = number 0 ∷ []
