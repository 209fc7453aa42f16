use Rattle.std.proofs.Common.{take}
use Rattle.tg_verdict.specs.Reached.{IsReached}
use Rattle.tg_verdict.proofs.reading.records.Given as goal

-- what is recorded so far, and the numbers of the records
abbrev pub invariant-loop-item : goal.invariant-loop-item
invariant-loop-item l = IsReached l.th l.known (take l.item-index l.items) l.outcomes.items l.before
