use Rattle.std.proofs.Common.{map, take}
use Rattle.tg_hyps.specs.Hypotheses.{seen}
use Rattle.tg_verdict.specs.Verdicts.{AreVerdicts}
use Rattle.tg_verdict.proofs.verdicts.judge.Given as goal

-- the verdicts on the classes so far
abbrev pub invariant-loop-at : goal.invariant-loop-at
invariant-loop-at l = AreVerdicts l.th l.fn.tests l.fn.list 1 (map seen (take l.at l.fn.classes)) l.verdicts.items
