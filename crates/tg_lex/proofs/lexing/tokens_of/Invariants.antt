use Rattle.std.proofs.Common.{◌-◌, length}
use Rattle.tg_lex.proofs.Runs.{IsSoFar}
use Rattle.tg_lex.proofs.lexing.tokens_of.Given as goal

-- the tokens so far are those before `at`
abbrev pub invariant-loop-at : goal.invariant-loop-at
invariant-loop-at l = IsSoFar l.bytes l.tokens.items l.at

abbrev pub decreases-loop-at : goal.decreases-loop-at
decreases-loop-at l = length l.bytes - l.at
