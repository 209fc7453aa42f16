use Rattle.std.proofs.Common.{◌≡◌, ◌++◌, take}
use Rattle.tg_schema.proofs.building.add_shared.Given as goal

abbrev pub invariant-loop-t : goal.invariant-loop-t
invariant-loop-t l = l.out.items ≡ l.fn.out.items ++ take l.t-index l.ts
