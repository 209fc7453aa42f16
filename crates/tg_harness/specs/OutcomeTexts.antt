-- Recorded outcomes, as `judge` reads them.
use Rattle.std.specs.Prelude.{ℕ, List, [], ◌∷◌, ◌++◌, codes, Option, Some, None}
use Rattle.tg_model.specs.Theory.{Theory}
use Rattle.tg_model.specs.Value.{Value}
use Rattle.tg_types.specs.declared.options.Settings.{Settings}
use Rattle.tg_grammar.specs.Kinds.{semicolon}
use Rattle.tg_grammar.specs.Seen.{Seen}
use Rattle.tg_render.specs.Render.{lines}
use Rattle.tg_render.specs.Tokens.{mark, name, numeral}
use Rattle.tg_report.specs.ValueTexts.{value_tokens}
use Rattle.tg_report.specs.ClassTexts.{settings_tokens}
use Rattle.tg_harness.specs.Tests.{Record}

-- `outcomes depth D bound B seed S tries T width W begin`
abbrev pub head_line : Settings → List Seen
head_line s = name (codes "outcomes") ∷ (settings_tokens s ++ name (codes "begin") ∷ [])

abbrev pub stop : Seen
stop = mark semicolon (codes ";")

-- `answer N V;`, or `raised N;` where the program raised an error
abbrev pub recorded : Theory → ℕ → Option Value → List Seen
recorded th n (Some v) = name (codes "answer") ∷ numeral n ∷ (value_tokens th v ++ stop ∷ [])
recorded th n None = name (codes "raised") ∷ numeral n ∷ stop ∷ []

abbrev pub record_lines : Theory → List Record → List (List Seen)
record_lines th [] = []
record_lines th (r ∷ rs) = recorded th r.test r.answer ∷ record_lines th rs

abbrev pub end_line : List Seen
end_line = name (codes "end") ∷ []

abbrev pub outcome_lines : Theory → Settings → List Record → List (List Seen)
outcome_lines th s rs = head_line s ∷ (record_lines th rs ++ end_line ∷ [])

abbrev pub outcomes_text : Theory → Settings → List Record → List ℕ
outcomes_text th s rs = lines (outcome_lines th s rs)
