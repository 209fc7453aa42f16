use Rattle.std.proofs.Common.{◌≡◌, map, take}
use Rattle.tg_hyps.specs.Hypotheses.{seen}
use Rattle.tg_derive.specs.Answers.{choice_of}
use Rattle.tg_cmd.specs.Data.{found}
use Rattle.tg_cmd.proofs.data.choices_by_data.Given as goal

-- those of the classes so far
abbrev pub invariant-loop-at : goal.invariant-loop-at
invariant-loop-at l = map choice_of l.choices.items ≡ found l.th l.s 1 (map seen (take l.at l.fn.classes))
