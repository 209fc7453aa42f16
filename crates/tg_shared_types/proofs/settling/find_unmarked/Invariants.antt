use Rattle.std.proofs.Common.{ℕ, ◌≡◌, ◌<◌, true}
use Rattle.tg_shared_types.specs.Marks.{is_marked}
use Rattle.tg_shared_types.proofs.settling.find_unmarked.Given as goal

abbrev pub invariant-loop-i : goal.invariant-loop-i
invariant-loop-i l = (k : ℕ) → k < l.i → is_marked l.marks k ≡ true
