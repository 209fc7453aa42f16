use Rattle.std.proofs.Common.{◌≡◌, drop}
use Rattle.tg_render.specs.Render.{written_lines}
use Rattle.tg_report.specs.ClassTexts.{term_lines}
use Rattle.tg_report.proofs.classes.put_term_lines.Given as goal

-- with what is left it is the whole
abbrev pub invariant-loop-t : goal.invariant-loop-t
invariant-loop-t l = written_lines l.out.items (term_lines l.th l.word (drop l.t-index l.ts)) ≡ written_lines l.fn.out.items (term_lines l.th l.word l.ts)
