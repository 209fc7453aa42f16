-- The lines of settings and of a class.
use Rattle.std.specs.Prelude.{ℕ, List, [], ◌∷◌, ◌++◌, codes, Option, Some, None, option_map}
use Rattle.tg_model.specs.Theory.{Theory}
use Rattle.tg_model.specs.Tree.{Tree, Trees}
use Rattle.tg_model.specs.Value.{Values}
use Rattle.tg_types.specs.declared.options.Settings.{Settings}
use Rattle.tg_types.specs.declared.verdicts.Verdict.{Verdict}
use Rattle.tg_types.specs.declared.verdicts.Verdict.TheVariants.{Passed, Failed, Undecided, Raised, Missing, NoDatum}
use Rattle.tg_term.specs.declared.classes.Class.{Class}
use Rattle.tg_term.specs.declared.classes.Test.{Test}
use Rattle.tg_term.specs.Classes.{inputs_of, datum_of}
use Rattle.tg_grammar.specs.Seen.{Seen}
use Rattle.tg_render.specs.Tokens.{name, numeral, joined}
use Rattle.tg_report.specs.ValueTexts.{values_tokens}
use Rattle.tg_report.specs.TermTexts.{term_tokens, terms_tokens}

-- `depth D bound B seed S tries T width W`
abbrev pub settings_tokens : Settings → List Seen
settings_tokens s = name (codes "depth") ∷ numeral s.depth ∷ name (codes "bound") ∷ numeral s.bound ∷ name (codes "seed") ∷ numeral s.seed
    ∷ name (codes "tries") ∷ numeral s.tries ∷ name (codes "width") ∷ numeral s.width ∷ []

abbrev pub settings_line : Settings → List Seen
settings_line s = name (codes "settings") ∷ settings_tokens s

-- a word, and terms outside all binders
abbrev pub term_lines : Theory → List ℕ → List Tree → List (List Seen)
term_lines th word [] = []
term_lines th word (t ∷ ts) = (name word ∷ term_tokens th 0 t) ∷ term_lines th word ts

-- `datum` and the inputs, or `open`
abbrev pub datum_line : Theory → Option Values → List Seen
datum_line th None = name (codes "open") ∷ []
datum_line th (Some vs) = name (codes "datum") ∷ joined (values_tokens th vs)

abbrev pub verdict_word : Verdict → List ℕ
verdict_word Passed = codes "passed"
verdict_word Failed = codes "failed"
verdict_word Undecided = codes "undecided"
verdict_word Raised = codes "raised"
verdict_word Missing = codes "missing"
verdict_word NoDatum = codes "open"

abbrev pub verdict_lines : Option Verdict → List (List Seen)
verdict_lines None = []
verdict_lines (Some v) = (name (codes "verdict") ∷ name (verdict_word v) ∷ []) ∷ []

-- the class of number `n`: its number, the pattern of its inputs, its constraints, its checks, its datum, and its verdict where there is one
abbrev pub class_lines : Theory → ℕ → Trees → List Tree → List Tree → Option Values → Option Verdict → List (List Seen)
class_lines th n inputs constraints checks datum v = (name (codes "class") ∷ numeral n ∷ [])
    ∷ (name (codes "pattern") ∷ joined (terms_tokens th 0 inputs))
    ∷ (term_lines th (codes "constraint") constraints ++ (term_lines th (codes "check") checks ++ datum_line th datum ∷ verdict_lines v))

-- the inputs of a test
abbrev pub datum_in : Option Test → Option Values
datum_in t = option_map datum_of t

-- of a class of the program and its test
abbrev pub lines_of_class : Theory → ℕ → Class → Option Test → Option Verdict → List (List Seen)
lines_of_class th n c t v = class_lines th n (inputs_of c.pattern) c.constraints c.checks (datum_in t) v
