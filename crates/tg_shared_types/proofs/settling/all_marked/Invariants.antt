use Rattle.std.proofs.Common.{◌≡◌, drop}
use Rattle.tg_shared_types.specs.Marks.{all_marked}
use Rattle.tg_shared_types.proofs.settling.all_marked.Given as goal

abbrev pub invariant-loop-k : goal.invariant-loop-k
invariant-loop-k l = all_marked l.marks (drop l.k-index l.ks) ≡ all_marked l.marks l.ks
