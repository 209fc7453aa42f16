use Rattle.std.proofs.Common.{◌≡◌, true, take}
use Rattle.tg_accept.specs.Core.{same_head}
use Rattle.tg_equations.specs.Checked.{are_different}
use Rattle.tg_equations.specs.Placed.{ArePlaces}
use Rattle.tg_equations.proofs.CheckedLaws.{branch_heads}
use Rattle.tg_equations.proofs.cases.places_once.Given as goal

abbrev pub invariant-loop-at : goal.invariant-loop-at
invariant-loop-at l = record {
  different : are_different same_head (take l.at (branch_heads l.bs)) ≡ true;
  places : ArePlaces l.places (take l.at (branch_heads l.bs));
}
