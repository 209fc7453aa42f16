use Rattle.std.proofs.Common.{◌≡◌, ◌+◌, ◌*◌, drop}
use Rattle.tg_model.specs.Value.{values, same_values}
use Rattle.tg_eval.specs.Sizes.{height, heights}
use Rattle.tg_eval.proofs.operating.+same.Given as goal

abbrev pub decreases-same : goal.decreases-same
decreases-same l = 2 * height l.a.now + 1

abbrev pub decreases-same_all : goal.decreases-same_all
decreases-same_all l = 2 * heights (values l.vs.now)

-- what is left decides
abbrev pub invariant-same_all-loop-i : goal.invariant-same_all-loop-i
invariant-same_all-loop-i l = same_values (values (drop l.i l.vs)) (values (drop l.i l.ws)) ≡ same_values (values l.vs) (values l.ws)
