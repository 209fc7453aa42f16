use Rattle.std.proofs.Common.{◌≡◌, ◌++◌, take}
use Rattle.tg_norm.proofs.arguments.add_shared.Given as goal

abbrev pub invariant-loop-t : goal.invariant-loop-t
invariant-loop-t l = l.terms.items ≡ l.fn.terms.items ++ take l.t-index l.ts
