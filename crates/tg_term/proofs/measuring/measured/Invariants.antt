use Rattle.tg_term.specs.View.{tree}
use Rattle.tg_term.proofs.MeasureLaws.{Leads}
use Rattle.tg_term.proofs.measuring.measured.Given as goal

abbrev pub invariant-loop-at : goal.invariant-loop-at
invariant-loop-at l = Leads (tree l.node) l.at l.nodes l.height l.loose_range
