use Rattle.std.proofs.Common.{◌∙◌}
use Rattle.tg_model.specs.Types.{bool}
use Rattle.tg_model.proofs.ClosedValues.{is_closed_value}
use Rattle.tg_model.proofs.Narrowing.{truth_has_one_type}
use Rattle.tg_rows.specs.Laws.{HaveValues}
use Rattle.tg_norm.proofs.InputHalves.{half_good, condition_good}
use Rattle.tg_norm.proofs.ReplacedTerms.{replaced_typed, replaced_value}
use Rattle.tg_norm.proofs.halves_keep.Goals as goal

pub returns-clause-types : goal.returns-clause-types
returns-clause-types c = λ th wt vars locs q t a b closed condition h.
    replaced_typed th vars q b (λ l s k. truth_has_one_type th wt vars l q s closed condition k) t locs a h

pub returns-clause-values : goal.returns-clause-values
returns-clause-values c = λ th tb vars env loc q t b condition e.
    replaced_value th tb env q b (λ l. is_closed_value th tb vars env l q bool condition ∙ e) t loc

pub returns-clause-inputs : goal.returns-clause-inputs
returns-clause-inputs c = λ th tb env d q t b known g. half_good th tb env d q b known t g

pub returns-clause-conditions : goal.returns-clause-conditions
returns-clause-conditions c = λ th tb env d q t e g. condition_good (HaveValues th tb env d) t q e g
