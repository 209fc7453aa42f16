use Rattle.std.proofs.Common.{◌≡◌, ◌+◌, ◌*◌, max, take}
use Rattle.tg_model.specs.Tree.{trees}
use Rattle.tg_term.specs.Measures.{height, heights}
use Rattle.tg_norm.specs.Walking.{or_else}
use Rattle.tg_norm.proofs.ReplaceLaws.{done}
use Rattle.tg_norm.proofs.splitting.+replaced.Given as goal

abbrev pub decreases-replaced : goal.decreases-replaced
decreases-replaced l = 4 * height l.t.now + 3

abbrev pub decreases-replaced_items : goal.decreases-replaced_items
decreases-replaced_items l = 4 * height l.t.now + 2

abbrev pub decreases-replaced_all : goal.decreases-replaced_all
decreases-replaced_all l = 4 * heights (trees l.ts.now) + 1

abbrev pub decreases-replaced_case : goal.decreases-replaced_case
decreases-replaced_case l = 4 * (height l.t.now + 1)

abbrev pub decreases-replaced_let : goal.decreases-replaced_let
decreases-replaced_let l = 4 * max (height l.t.now + 1) (height l.body.now + 1)

abbrev pub invariant-replaced_all-loop-at : goal.invariant-replaced_all-loop-at
invariant-replaced_all-loop-at l = or_else l.terms.items (take l.at l.ts) ≡ done l.q l.value (take l.at l.ts)
