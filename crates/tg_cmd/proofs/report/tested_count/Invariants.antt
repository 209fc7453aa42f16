use Rattle.std.proofs.Common.{◌≡◌, ◌+◌, map, take}
use Rattle.tg_derive.specs.Answers.{choice_of}
use Rattle.tg_cmd.specs.Lines.{tested_count, open_count}
use Rattle.tg_cmd.proofs.report.tested_count.Given as goal

-- those so far
abbrev pub invariant-loop-choice : goal.invariant-loop-choice
invariant-loop-choice l =
    (l.count ≡ tested_count (map choice_of (take l.choice-index l.choices)))
    × (l.count + open_count (map choice_of (take l.choice-index l.choices)) ≡ l.choice-index)
