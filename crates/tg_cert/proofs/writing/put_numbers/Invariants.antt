use Rattle.std.proofs.Common.{◌≡◌, drop}
use Rattle.tg_render.specs.Render.{written}
use Rattle.tg_cert.specs.CertificateTexts.{numerals}
use Rattle.tg_cert.proofs.writing.put_numbers.Given as goal

-- with what is left it is the whole
abbrev pub invariant-loop-n : goal.invariant-loop-n
invariant-loop-n l = written l.out.items (numerals (drop l.n-index l.numbers)) ≡ written l.fn.out.items (numerals l.numbers)
