use Rattle.std.proofs.Common.{◌≡◌}
use Rattle.tg_hyps.proofs.WrittenLaws.{free_up_to}
use Rattle.tg_hyps.proofs.written.variables.Given as goal

abbrev pub invariant-loop-at : goal.invariant-loop-at
invariant-loop-at l = l.terms ≡ free_up_to l.at
