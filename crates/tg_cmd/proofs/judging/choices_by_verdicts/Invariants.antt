use Rattle.std.proofs.Common.{◌≡◌, map, take}
use Rattle.tg_derive.specs.Answers.{choice_of}
use Rattle.tg_cmd.specs.Judging.{choices_by_verdicts}
use Rattle.tg_cmd.proofs.judging.choices_by_verdicts.Given as goal

-- those so far
abbrev pub invariant-loop-at : goal.invariant-loop-at
invariant-loop-at l = map choice_of l.chosen.items ≡ choices_by_verdicts (map choice_of (take l.at l.fn.choices)) (take l.at l.fn.verdicts)
