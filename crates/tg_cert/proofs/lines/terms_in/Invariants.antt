use Rattle.std.proofs.Common.{take}
use Rattle.tg_cert.specs.Lines.{AreTermsOf}
use Rattle.tg_cert.proofs.lines.terms_in.Given as goal

-- those of the texts so far
abbrev pub invariant-loop-r : goal.invariant-loop-r
invariant-loop-r l = AreTermsOf l.th l.context (take l.r-index l.raw) l.terms
