use Rattle.std.proofs.Common.{take}
use Rattle.tg_cert.specs.Code.{AreChecked}
use Rattle.tg_cert.proofs.checking.take_all.Given as goal

-- the book has the lines so far
abbrev pub invariant-loop-line : goal.invariant-loop-line
invariant-loop-line l = AreChecked l.fn.book.theory (take l.line-index l.lines) l.book
