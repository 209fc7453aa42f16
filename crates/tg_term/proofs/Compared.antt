-- What comparing terms leans on: a tree tells its node, and elements are less high than the list.
use Rattle.tg_term.specs.View.{tree-inj, trees-inj, arms-inj}
use Rattle.tg_term.proofs.ListHeights.{height_at, branch_height_at}

pub ruleset compared = (tree-inj, trees-inj, arms-inj, height_at, branch_height_at)
