use Rattle.std.proofs.Common.{◌≡◌, map, take}
use Rattle.tg_hyps.specs.Hypotheses.{seen}
use Rattle.tg_derive.specs.Theorem.{of_classes}
use Rattle.tg_derive.specs.Answers.{choice_of, hypothesis}
use Rattle.tg_derive.proofs.theorems.of_classes.Given as goal

abbrev pub invariant-loop-at : goal.invariant-loop-at
invariant-loop-at l = map hypothesis l.hs.items ≡ of_classes 1 (map seen (take l.at l.fn.classes)) (map choice_of (take l.at l.fn.choices))
