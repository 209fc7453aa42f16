use Rattle.std.proofs.Common.{◌≡◌}
use Rattle.tg_render.specs.Render.{written}
use Rattle.tg_report.specs.TermTexts.{binders}
use Rattle.tg_report.proofs.TermLaws.{left_binders}
use Rattle.tg_report.proofs.terms.put_binders.Given as goal

-- with what is left it is the whole
abbrev pub invariant-loop-at : goal.invariant-loop-at
invariant-loop-at l = written l.out.items (left_binders l.level l.count l.at) ≡ written l.fn.out.items (binders l.level l.count)
