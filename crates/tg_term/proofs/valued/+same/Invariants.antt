use Rattle.std.proofs.Common.{◌≡◌, drop}
use Rattle.tg_model.specs.Value.{same_values}
use Rattle.tg_term.specs.Values.{values}
use Rattle.tg_term.proofs.valued.+same.Given as goal

-- what is left decides
abbrev pub invariant-same_values-loop-i : goal.invariant-same_values-loop-i
invariant-same_values-loop-i l = same_values (values (drop l.i l.vs)) (values (drop l.i l.ws)) ≡ same_values (values l.vs) (values l.ws)
