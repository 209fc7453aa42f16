use Rattle.std.proofs.Common.{◌≡◌, ◌+◌, ◌*◌, map, take}
use Rattle.tg_model.specs.Value.{values}
use Rattle.tg_term.specs.Values.{value}
use Rattle.tg_eval.specs.Sizes.{height, heights}
use Rattle.tg_eval.proofs.converting.+plain.Given as goal

abbrev pub decreases-plain : goal.decreases-plain
decreases-plain l = 2 * height l.h.now + 1

abbrev pub decreases-plain_all : goal.decreases-plain_all
decreases-plain_all l = 2 * heights (values l.hs.now)

abbrev pub invariant-plain_all-loop-h : goal.invariant-plain_all-loop-h
invariant-plain_all-loop-h l = map value l.out ≡ take l.h-index l.hs
