-- The text of a certificate that is checked: how many lines it has, and the sequent of the last one.
use Rattle.std.specs.Prelude.{ℕ, List, [], ◌∷◌, ◌++◌, map, codes}
use Rattle.tg_model.specs.Types.{Ty}
use Rattle.tg_model.specs.Formula.{Formula, Sequent}
use Rattle.tg_model.specs.Theory.{Theory}
use Rattle.tg_cert.specs.CertificateTexts.{context_tokens}
use Rattle.tg_grammar.specs.Seen.{Seen}
use Rattle.tg_render.specs.Render.{lines}
use Rattle.tg_render.specs.Tokens.{name, numeral}
use Rattle.tg_report.specs.FormulaTexts.{formula_tokens}

-- `checked T` and `lines N`
abbrev pub name_line : Theory → List Seen
name_line th = name (codes "checked") ∷ name th.name ∷ []

abbrev pub count_line : ℕ → List Seen
count_line n = name (codes "lines") ∷ numeral n ∷ []

-- `vars {T, U}`, and `vars {}` with no variable
abbrev pub vars_line : Theory → List Ty → List Seen
vars_line th Ts = name (codes "vars") ∷ context_tokens th Ts

abbrev pub formula_line : Theory → List ℕ → Formula → List Seen
formula_line th word F = name word ∷ formula_tokens th 0 F

abbrev pub assumed_lines : Theory → List Formula → List (List Seen)
assumed_lines th Fs = map (formula_line th (codes "hypothesis")) Fs

abbrev pub sequent_lines : Theory → Sequent → List (List Seen)
sequent_lines th s = vars_line th s.vars ∷ (assumed_lines th s.hypotheses ++ formula_line th (codes "conclusion") s.goal ∷ [])

-- of a certificate of so many lines
abbrev pub checked_lines : Theory → ℕ → Sequent → List (List Seen)
checked_lines th n s = name_line th ∷ count_line n ∷ sequent_lines th s

abbrev pub checked_text : Theory → ℕ → Sequent → List ℕ
checked_text th n s = lines (checked_lines th n s)
