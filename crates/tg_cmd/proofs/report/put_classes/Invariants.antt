use Rattle.std.proofs.Common.{◌≡◌, map, take}
use Rattle.tg_hyps.specs.Hypotheses.{seen}
use Rattle.tg_derive.specs.Answers.{choice_of}
use Rattle.tg_render.specs.Render.{written_lines}
use Rattle.tg_cmd.specs.Lines.{classes_from}
use Rattle.tg_cmd.proofs.report.put_classes.Given as goal

-- those so far
abbrev pub invariant-loop-at : goal.invariant-loop-at
invariant-loop-at l = l.out.items ≡ written_lines l.fn.out.items (classes_from l.th 1 (map seen (take l.at l.fn.classes)) (map choice_of (take l.at l.fn.choices)) l.fn.verdicts)
