use Rattle.std.proofs.Common.{◌≡◌}
use Rattle.tg_model.specs.Accepted.{variables_from}
use Rattle.tg_cmd.proofs.standing.call_of.Given as goal

-- the variables so far
abbrev pub invariant-loop-at : goal.invariant-loop-at
invariant-loop-at l = l.args ≡ variables_from 1 l.at
