use Rattle.std.proofs.Common.{◌≡◌, ◌+◌, ◌*◌, map, drop}
use Rattle.tg_model.specs.Tree.{trees}
use Rattle.tg_term.specs.Matching.{held, collected_all}
use Rattle.tg_term.specs.Measures.{height, heights}
use Rattle.tg_term.specs.Values.{values}
use Rattle.tg_term.proofs.filling.+collect.Given as goal

abbrev pub decreases-collect : goal.decreases-collect
decreases-collect l = 2 * height l.t.now + 1

abbrev pub decreases-collect_all : goal.decreases-collect_all
decreases-collect_all l = 2 * heights (trees l.ts.now)

-- what is left decides
abbrev pub invariant-collect_all-loop-i : goal.invariant-collect_all-loop-i
invariant-collect_all-loop-i l =
    collected_all (trees (drop l.i l.ts)) (values (drop l.i l.vs)) (map held l.slots) ≡ collected_all (trees l.ts) (values l.vs) (map held l.initial.slots)
