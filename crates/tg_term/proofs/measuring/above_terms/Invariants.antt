use Rattle.tg_model.specs.Tree.{con, trees}
use Rattle.tg_term.proofs.MeasureLaws.{Leads}
use Rattle.tg_term.proofs.measuring.above_terms.Given as goal

abbrev pub invariant-loop-t : goal.invariant-loop-t
invariant-loop-t l = Leads (con 0 (trees l.ts)) l.t-index l.nodes l.height l.loose_range
