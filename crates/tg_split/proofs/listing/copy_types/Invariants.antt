use Rattle.std.proofs.Common.{◌≡◌, ◌++◌, take}
use Rattle.tg_split.proofs.listing.copy_types.Given as goal

abbrev pub invariant-loop-t : goal.invariant-loop-t
invariant-loop-t l = l.to ≡ l.fn.to ++ take l.t-index l.from
