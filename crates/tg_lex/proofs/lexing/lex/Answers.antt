use Rattle.tg_lex.proofs.Runs.{only_all, exact_all, texts_all, rise_all}
use Rattle.tg_lex.proofs.lexing.lex.Goals as goal

pub returns-clause-only : goal.returns-clause-only
returns-clause-only c = only_all c.args.bytes.now c.tokens_of.result c.tokens_of.ensures.ok c.tokens_of.ensures.fault

pub returns-clause-exact : goal.returns-clause-exact
returns-clause-exact c = exact_all c.args.bytes.now c.tokens_of.result c.tokens_of.ensures.ok c.tokens_of.ensures.fault

pub returns-clause-texts : goal.returns-clause-texts
returns-clause-texts c = texts_all c.args.bytes.now c.tokens_of.result c.tokens_of.ensures.ok

pub returns-clause-rise : goal.returns-clause-rise
returns-clause-rise c = rise_all c.args.bytes.now c.tokens_of.result c.tokens_of.ensures.ok
