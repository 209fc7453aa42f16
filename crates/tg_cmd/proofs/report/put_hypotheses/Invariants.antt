use Rattle.std.proofs.Common.{◌≡◌, map, take}
use Rattle.tg_derive.specs.Answers.{hypothesis}
use Rattle.tg_render.specs.Render.{written_lines}
use Rattle.tg_cmd.specs.Lines.{hypothesis_lines}
use Rattle.tg_cmd.proofs.report.put_hypotheses.Given as goal

-- those so far
abbrev pub invariant-loop-h : goal.invariant-loop-h
invariant-loop-h l = l.out.items ≡ written_lines l.fn.out.items (hypothesis_lines l.th (map hypothesis (take l.h-index l.hs)))
