-- The lines of a report on a theory: its classes with their data, the test theorem, and the counts.
use Rattle.std.specs.Prelude.{ℕ, suc, ◌+◌, nat_eq, if◌then◌else◌, List, [], ◌∷◌, ◌++◌, length, drop, slice_get, codes, Option, Some, None}
use Rattle.tg_model.specs.Filling.{fill}
use Rattle.tg_model.specs.Theory.{Theory}
use Rattle.tg_model.specs.Value.{Values, values}
use Rattle.tg_types.specs.declared.options.Settings.{Settings}
use Rattle.tg_hyps.specs.Hypotheses.{Class, conclusion_of}
use Rattle.tg_derive.specs.Theorem.{Choice, Label, test, uniformity, open_class, regularity, Hypothesis, hypotheses_of}
use Rattle.tg_grammar.specs.Seen.{Seen}
use Rattle.tg_render.specs.Render.{lines}
use Rattle.tg_render.specs.Tokens.{name, numeral}
use Rattle.tg_report.specs.ClassTexts.{settings_line, class_lines}
use Rattle.tg_report.specs.FormulaTexts.{formula_tokens}
use Rattle.tg_types.specs.declared.verdicts.Verdict.{Verdict}
use Rattle.tg_types.specs.declared.verdicts.Verdict.TheVariants.{Passed, Failed, Undecided, Raised, Missing, NoDatum}
use Rattle.tg_cmd.specs.Data.{choices_by_data}
use Rattle.tg_harness.specs.Tests.{Record}
use Rattle.tg_cmd.specs.Judging.{verdicts_from, choices_by_verdicts}

abbrev pub head_lines : Theory → Settings → List (List Seen)
head_lines th s = (name (codes "testgen") ∷ name th.name ∷ []) ∷ settings_line s ∷ []

-- the inputs that a class has at the values at which it is tested
abbrev pub datum_of : Class → Choice → Option Values
datum_of c None = None
datum_of c (Some vs) = Some (values (fill vs c.inputs))

-- the class of number `n`, with its verdict where there is one
abbrev pub lines_of : Theory → ℕ → Class → Choice → Option Verdict → List (List Seen)
lines_of th n c x v = class_lines th n c.inputs c.constraints c.checks (datum_of c x) v

-- the classes, the first of which has the number `n`, with verdicts as far as there are such
abbrev pub classes_from : Theory → ℕ → List Class → List Choice → List Verdict → List (List Seen)
classes_from th n (c ∷ cs) (x ∷ xs) vs = lines_of th n c x (slice_get vs 0) ++ classes_from th (suc n) cs xs (drop 1 vs)
classes_from th n _ _ vs = []

-- `test 1`, `uniformity 1`, `open 1`, `regularity`
abbrev pub label_tokens : Label → List Seen
label_tokens (test n) = name (codes "test") ∷ numeral n ∷ []
label_tokens (uniformity n) = name (codes "uniformity") ∷ numeral n ∷ []
label_tokens (open_class n) = name (codes "open") ∷ numeral n ∷ []
label_tokens regularity = name (codes "regularity") ∷ []

abbrev pub hypothesis_line : Theory → Hypothesis → List Seen
hypothesis_line th h = label_tokens h.label ++ formula_tokens th 0 h.formula

abbrev pub hypothesis_lines : Theory → List Hypothesis → List (List Seen)
hypothesis_lines th [] = []
hypothesis_lines th (h ∷ hs) = hypothesis_line th h ∷ hypothesis_lines th hs

abbrev pub conclusion_line : Theory → List Seen
conclusion_line th = name (codes "conclusion") ∷ formula_tokens th 0 (conclusion_of th)

abbrev pub theorem_lines : Theory → ℕ → List Class → List Choice → List (List Seen)
theorem_lines th k cs xs = (name (codes "theorem") ∷ []) ∷ (hypothesis_lines th (hypotheses_of th k cs xs) ++ conclusion_line th ∷ [])

-- how many classes are tested, and how many aren't
abbrev pub tested_count : List Choice → ℕ
tested_count [] = 0
tested_count (Some vs ∷ xs) = suc (tested_count xs)
tested_count (None ∷ xs) = tested_count xs

abbrev pub open_count : List Choice → ℕ
open_count [] = 0
open_count (Some vs ∷ xs) = open_count xs
open_count (None ∷ xs) = suc (open_count xs)

abbrev pub counts_line : List Choice → List Seen
counts_line xs = name (codes "classes") ∷ numeral (length xs) ∷ name (codes "tests") ∷ numeral (tested_count xs)
    ∷ name (codes "open") ∷ numeral (open_count xs) ∷ []

-- the report on a theory of these classes
abbrev pub report_lines : Theory → Settings → List Class → List Choice → List (List Seen)
report_lines th s cs xs = head_lines th s ++ (classes_from th 1 cs xs [] ++ (theorem_lines th s.depth cs xs ++ counts_line xs ∷ []))

abbrev pub report_on : Theory → Settings → List Class → List ℕ
report_on th s cs = lines (report_lines th s cs (choices_by_data th s cs))

-- ---- with verdicts

abbrev pub number_of : Verdict → ℕ
number_of Passed = 0
number_of Failed = 1
number_of Undecided = 2
number_of Raised = 3
number_of Missing = 4
number_of NoDatum = 5

abbrev pub once : Verdict → Verdict → ℕ
once w v = if nat_eq (number_of v) (number_of w) then 1 else 0

-- how many verdicts are this one
abbrev pub count_of : Verdict → List Verdict → ℕ
count_of w [] = 0
count_of w (v ∷ vs) = once w v + count_of w vs

abbrev pub verdicts_line : List Verdict → List Seen
verdicts_line vs = name (codes "passed") ∷ numeral (count_of Passed vs) ∷ name (codes "failed") ∷ numeral (count_of Failed vs)
    ∷ name (codes "undecided") ∷ numeral (count_of Undecided vs) ∷ name (codes "raised") ∷ numeral (count_of Raised vs)
    ∷ name (codes "missing") ∷ numeral (count_of Missing vs) ∷ name (codes "open") ∷ numeral (count_of NoDatum vs) ∷ []

abbrev pub judged_lines : Theory → Settings → List Class → List Choice → List Verdict → List (List Seen)
judged_lines th s cs xs vs =
    head_lines th s ++ (classes_from th 1 cs xs vs ++ (theorem_lines th s.depth cs (choices_by_verdicts xs vs) ++ verdicts_line vs ∷ []))

-- the report on a theory of these classes, by what is recorded
abbrev pub judged_report_on : Theory → Settings → List Class → List Record → List ℕ
judged_report_on th s cs rs =
    lines (judged_lines th s cs (choices_by_data th s cs) (verdicts_from th 1 cs (choices_by_data th s cs) rs))
