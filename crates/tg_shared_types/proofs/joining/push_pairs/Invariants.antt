use Rattle.std.proofs.Common.{◌≡◌, ◌++◌, drop}
use Rattle.tg_shared_types.specs.Pairs.{paired}
use Rattle.tg_shared_types.proofs.joining.push_pairs.Given as goal

-- with the pairs that are left the list is whole
abbrev pub invariant-loop-i : goal.invariant-loop-i
invariant-loop-i l = l.work.items ++ paired (drop l.i l.ks) (drop l.i l.ls) ≡ l.initial.work.items ++ paired l.ks l.ls
