use Rattle.std.proofs.Common.{◌≡◌, drop, map}
use Rattle.tg_calculus.specs.Book.{premises_at}
use Rattle.tg_kernel.specs.Sequents.{sequent}
use Rattle.tg_kernel.proofs.BookLaws.{done, read_with}
use Rattle.tg_kernel.proofs.concluding.premises.Given as goal

abbrev pub invariant-loop-number : goal.invariant-loop-number
invariant-loop-number l = read_with (done l.entries) (map sequent l.ps.items) (drop l.number-index l.numbers) ≡ premises_at (done l.entries) l.numbers
