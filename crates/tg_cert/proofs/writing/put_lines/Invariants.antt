use Rattle.std.proofs.Common.{◌≡◌, take}
use Rattle.tg_calculus.specs.Book.{lines}
use Rattle.tg_render.specs.Render.{written_lines}
use Rattle.tg_cert.specs.CertificateTexts.{lines_from}
use Rattle.tg_cert.proofs.writing.put_lines.Given as goal

-- those so far
abbrev pub invariant-loop-n : goal.invariant-loop-n
invariant-loop-n l = l.out.items ≡ written_lines l.fn.out.items (lines_from l.book.theory 1 (take l.n (lines l.book.entries)))
