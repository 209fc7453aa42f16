use Rattle.std.proofs.Common.{◌≡◌, map, take}
use Rattle.tg_hyps.specs.Hypotheses.{seen}
use Rattle.tg_derive.specs.Answers.{choice_of}
use Rattle.tg_cmd.specs.Tests.{tests_at}
use Rattle.tg_harness.specs.Tests.{test}
use Rattle.tg_cmd.proofs.judging.tests_of.Given as goal

-- those of the classes so far
abbrev pub invariant-loop-at : goal.invariant-loop-at
invariant-loop-at l = map test l.tests.items ≡ tests_at 1 (map seen (take l.at l.fn.classes)) (map choice_of (take l.at l.fn.choices))
