-- The text of recorded outcomes is read back.
use Rattle.std.specs.Prelude.{◌<◌, ◌^◌, List, [], ◌∷◌, map, Option, Some, None, option_map}
use Rattle.tg_model.specs.Theory.{Theory}
use Rattle.tg_model.specs.Value.{Value}
use Rattle.tg_types.specs.declared.options.Settings.{Settings}
use Rattle.tg_grammar.specs.declared.outcomes.RawItem.{RawItem}
use Rattle.tg_grammar.specs.declared.outcomes.RawOutcomes.{RawOutcomes}
use Rattle.tg_grammar.specs.Parts.{Outcomes}
use Rattle.tg_grammar.specs.Reading.{IsText}
use Rattle.tg_theory.specs.Wholes.{IsWritten}
use Rattle.tg_render.specs.Laws.{HasTokens}
use Rattle.tg_render.specs.Tokens.{joined}
use Rattle.tg_report.specs.RawValues.{raw_value, IsNamed}
use Rattle.tg_harness.specs.Tests.{Record}
use Rattle.tg_harness.specs.OutcomeTexts.{outcome_lines, outcomes_text}

-- what is recorded, with the names of constructors
abbrev pub raw_item : Theory → Record → RawItem
raw_item th r = record { test = r.test; answer = option_map (raw_value th) r.answer }

abbrev pub raw_outcomes : Theory → Settings → List Record → RawOutcomes
raw_outcomes th s rs = record { settings = s.depth ∷ s.bound ∷ s.seed ∷ s.tries ∷ s.width ∷ []; items = map (raw_item th) rs }

-- numbers are below 2^64, and constructors are declared
abbrev pub AreSmall : Settings → Type 0
AreSmall s = (s.depth < 2 ^ 64) × (s.bound < 2 ^ 64) × (s.seed < 2 ^ 64) × (s.tries < 2 ^ 64) × (s.width < 2 ^ 64)

abbrev pub IsAnswerNamed : Theory → Option Value → Type 0
IsAnswerNamed th None = Unit {0}
IsAnswerNamed th (Some v) = IsNamed th v

abbrev pub AreNamed : Theory → List Record → Type 0
AreNamed th [] = Unit {0}
AreNamed th (r ∷ rs) = ((r.test < 2 ^ 64) × IsAnswerNamed th r.answer) × AreNamed th rs

-- In a theory whose names are words that aren't reserved, the text of outcomes is a text of the grammar that means just these outcomes.
abbrev pub OutcomesReadBack : Type 0
OutcomesReadBack = (th : Theory) (s : Settings) (rs : List Record) → IsWritten th → AreSmall s → AreNamed th rs
    → HasTokens (outcomes_text th s rs) (joined (outcome_lines th s rs)) × IsText Outcomes (raw_outcomes th s rs) (joined (outcome_lines th s rs))
