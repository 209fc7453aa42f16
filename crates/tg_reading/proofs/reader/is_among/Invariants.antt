use Rattle.std.proofs.Common.{◌≡◌, drop}
use Rattle.tg_rules.specs.Rule.{has}
use Rattle.tg_reading.proofs.reader.is_among.Given as goal

abbrev pub invariant-loop-k : goal.invariant-loop-k
invariant-loop-k l = record {
  so_far : has (drop l.k-index l.kinds) l.kind ≡ has l.kinds l.kind;
}
