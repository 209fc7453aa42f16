use Rattle.std.proofs.Common.{◌≡◌, take}
use Rattle.tg_norm.proofs.arguments.case_of.Given as goal

abbrev pub invariant-loop-b : goal.invariant-loop-b
invariant-loop-b l = l.branches ≡ take l.b-index l.bs
