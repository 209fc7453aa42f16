use Rattle.tg_render.proofs.Proper.{words, numerals}
use Rattle.tg_render.proofs.laws.proper_tokens.Goals as goal

pub returns-clause-words : goal.returns-clause-words
returns-clause-words c = words

pub returns-clause-numerals : goal.returns-clause-numerals
returns-clause-numerals c = numerals
