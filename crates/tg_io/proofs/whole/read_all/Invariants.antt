use Rattle.std.proofs.Common.{◌≡◌, ◌+◌, ◌≤◌, length, vec_len, ◌-◌}
use Rattle.std.specs.Io.KnownBytes.{Consumes}
use Rattle.tg_io.specs.Turns.{Turns, IsBuffer}
use Rattle.tg_io.proofs.whole.read_all.Given as goal

-- the bytes so far were the first that were left, each call gave some, and no fault was met
abbrev pub invariant-loop-buf : goal.invariant-loop-buf
invariant-loop-buf g l = record {
  given : Consumes (g.S.Source.left l.fn.src) (g.S.Source.left l.src) l.bytes.items;
  within : length l.bytes.items ≤ l.max + 1;
  buffer : length l.buf ≡ 4096;
  kept : g.S.Source.faults l.src ≡ g.S.Source.faults l.fn.src;
  turns : Turns g.S.Source.gives (IsBuffer (l.max + 1)) l.fn.src (vec_len l.bytes) l.src;
}

abbrev pub decreases-loop-buf : goal.decreases-loop-buf
decreases-loop-buf g l = l.max + 1 - length l.bytes.items
