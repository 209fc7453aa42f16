use Rattle.std.proofs.Common.{◌≡◌, drop}
use Rattle.tg_render.specs.Render.{written}
use Rattle.tg_cert.proofs.WritingLaws.{others}
use Rattle.tg_cert.proofs.writing.put_others.Given as goal

-- with what is left it is the whole
abbrev pub invariant-loop-t : goal.invariant-loop-t
invariant-loop-t l = written l.out.items (others l.th (drop l.t-index l.types)) ≡ written l.fn.out.items (others l.th l.types)
