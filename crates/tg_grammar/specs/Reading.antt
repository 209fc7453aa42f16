-- The texts of each part, and how they are read.
use Rattle.std.specs.Prelude.{ℕ, List}
use Rattle.tg_rules.specs.Texts.{Reads}
use Rattle.tg_rules.specs.Reader.{Read, read, read_in}
use Rattle.tg_grammar.specs.Seen.{Seen}
use Rattle.tg_grammar.specs.Parts.{Part, Value}
use Rattle.tg_grammar.specs.Page.{page}
use Rattle.tg_grammar.specs.Table.{table}
use Rattle.tg_grammar.specs.First.{foresight}

abbrev pub kind : Seen → ℕ
kind s = s.kind

-- these tokens are a text of the part, with this value
abbrev pub IsText : (n : Part) → Value n → List Seen → Type 0
IsText n v ts = Reads kind page n v ts

-- the part read from the front of the tokens
abbrev pub reads : (n : Part) → List Seen → Read Seen (Value n)
reads n ts = read kind foresight table n ts

-- the same by the rule of the part
abbrev pub step : (n : Part) → List Seen → Read Seen (Value n)
step n ts = read_in kind foresight (read kind foresight table) (table n) ts
