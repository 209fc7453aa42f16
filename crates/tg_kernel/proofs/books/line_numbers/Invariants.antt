use Rattle.std.proofs.Common.{◌≡◌, take}
use Rattle.tg_kernel.specs.Entries.{numbers}
use Rattle.tg_kernel.proofs.books.line_numbers.Given as goal

abbrev pub invariant-loop-t : goal.invariant-loop-t
invariant-loop-t l = l.premises ≡ numbers (take l.t-index l.lines)
