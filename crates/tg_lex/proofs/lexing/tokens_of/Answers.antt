use Rattle.tg_lex.proofs.Runs.{skip_step, token_step, fault_step}
use Rattle.tg_lex.proofs.lexing.tokens_of.Goals as goal

pub loop-at-preserved-in-Ok-Skip : goal.loop-at-preserved-in-Ok-Skip
loop-at-preserved-in-Ok-Skip c =
    skip_step c.args.bytes.now c.loop-at.tokens.items c.loop-at.at c.in-Ok-Skip.field-0 c.in-Ok-Skip.len c.in-Ok-Skip.ensures c.in-Ok-Skip.field-0-is c.loop-at.invariant.within c.loop-at.invariant.so_far

pub loop-at-preserved : goal.loop-at-preserved
loop-at-preserved c =
    token_step c.args.bytes.now c.loop-at.tokens.items c.push.new.self.items c.loop-at.at c.in-Ok-Token.field-0 c.in-Ok-Token.kind c.in-Ok-Token.len c.in-Ok-Token.ensures c.in-Ok-Token.field-0-is
    c.in_ok-push-in-Ok-Token.ensures.items c.loop-at.invariant.within c.loop-at.invariant.so_far

pub returns-in-Err-clause-fault : goal.returns-in-Err-clause-fault
returns-in-Err-clause-fault c = c.fault_at.ensures c.args.bytes.now (fault_step c.args.bytes.now c.loop-at.tokens.items c.loop-at.at c.in-Err.fault c.in-Err.ensures c.loop-at.invariant.so_far)
