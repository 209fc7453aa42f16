use Rattle.std.proofs.Common.{◌≡◌, ◌+◌, ◌*◌, map, take}
use Rattle.tg_model.specs.Tree.{trees}
use Rattle.tg_model.specs.Filling.{filled_term}
use Rattle.tg_term.specs.Measures.{height, heights}
use Rattle.tg_term.specs.Values.{value}
use Rattle.tg_term.proofs.filling.+fill.Given as goal

abbrev pub decreases-fill_term : goal.decreases-fill_term
decreases-fill_term l = 2 * height l.t.now + 1

abbrev pub decreases-fill_terms : goal.decreases-fill_terms
decreases-fill_terms l = 2 * heights (trees l.ts.now)

abbrev pub invariant-fill_terms-loop-t : goal.invariant-fill_terms-loop-t
invariant-fill_terms-loop-t l = map value l.out.items ≡ map (filled_term (map value l.vs)) (take l.t-index l.ts)
