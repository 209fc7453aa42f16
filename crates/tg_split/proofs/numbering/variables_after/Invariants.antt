use Rattle.std.proofs.Common.{◌≡◌, ◌+◌}
use Rattle.tg_model.specs.Accepted.{variables_from}
use Rattle.tg_split.proofs.numbering.variables_after.Given as goal

abbrev pub invariant-loop-at : goal.invariant-loop-at
invariant-loop-at l = l.variables.items ≡ variables_from (1 + l.vars) l.at
