-- How a run comes to a line in place of a result.
use Rattle.std.specs.Prelude.{ℕ, ◌⊎◌, List}
use Rattle.tg_accept.specs.Checks as checks
use Rattle.tg_derive.specs.declared.errors.LimitErr.{LimitErr}
use Rattle.tg_derive.specs.declared.errors.LimitErr.TheVariants as passed
use Rattle.tg_infer.specs.declared.errors.TheoryErr.{TheoryErr}
use Rattle.tg_infer.specs.declared.errors.TheoryErr.TheVariants as theory
use Rattle.tg_syntax.specs.declared.parsing.FormErr.{FormErr}
use Rattle.tg_syntax.specs.declared.parsing.FormErr.TheVariants as errors
use Rattle.tg_cmd.specs.declared.answer.Answer.{Answer}
use Rattle.tg_cmd.specs.declared.answer.LimitName.TheVariants.{Number, Nesting, Patterns, Splits, Steps, Clauses}
use Rattle.tg_cmd.specs.declared.answer.Refusal.TheVariants as refusals
use Rattle.tg_cmd.specs.Causes.{IsRefusal, IsLimit, IsFaultOf}
use Rattle.tg_cmd.specs.Reading.{HasTokenFault, IsTooLarge}

-- where the bytes have no tokens
abbrev pub HasTokenLine : List ℕ → Answer → List ℕ → Type 0
HasTokenLine bytes answer text =
    ((place : ℕ) × HasTokenFault bytes place × IsRefusal (refusals.Form place) answer text) ⊎ (IsTooLarge bytes × IsLimit Number answer text)

-- where the tokens are no text
abbrev pub IsFaultLine : FormErr → Answer → List ℕ → Type 0
IsFaultLine errors.Nested answer text = IsLimit Nesting answer text
IsFaultLine (errors.Form place) answer text = IsRefusal (refusals.Form place) answer text
IsFaultLine errors.Memory answer text = ⊥

-- where the theory isn't accepted
abbrev pub IsTheoryLine : TheoryErr → Answer → List ℕ → Type 0
IsTheoryLine (theory.TermSize place) answer text = IsFaultOf place checks.term_size answer text
IsTheoryLine (theory.Name place) answer text = IsFaultOf place checks.name answer text
IsTheoryLine (theory.Typing place) answer text = IsFaultOf place checks.typing answer text
IsTheoryLine (theory.Ambiguous place) answer text = IsFaultOf place checks.ambiguous answer text
IsTheoryLine (theory.Shape place) answer text = IsFaultOf place checks.shape answer text
IsTheoryLine (theory.Program place) answer text = IsFaultOf place checks.program answer text
IsTheoryLine theory.Memory answer text = ⊥

-- where a limit on classes is passed
abbrev pub IsPassedLine : LimitErr → Answer → List ℕ → Type 0
IsPassedLine passed.Patterns answer text = IsLimit Patterns answer text
IsPassedLine passed.Splits answer text = IsLimit Splits answer text
IsPassedLine passed.Steps answer text = IsLimit Steps answer text
IsPassedLine passed.Clauses answer text = IsLimit Clauses answer text
IsPassedLine passed.Memory answer text = ⊥
