use Rattle.std.proofs.Common.{refl}
use Rattle.tg_cmd.proofs.making.make.Goals as goal

pub returns-in_ok-report_on-in-Report : goal.returns-in_ok-report_on-in-Report
returns-in_ok-report_on-in-Report c = rw c.in-Report.is (record { answers = refl; says = c.in_ok-report_on-in-Report.ensures })

pub returns-in_ok-harness_on-in-Harness : goal.returns-in_ok-harness_on-in-Harness
returns-in_ok-harness_on-in-Harness c = rw c.in-Harness.is (record { answers = refl; says = c.in_ok-harness_on-in-Harness.ensures })

pub returns-in-Outcomes : goal.returns-in-Outcomes
returns-in-Outcomes c = rw c.in-Outcomes.is c.simulation.ensures
