use Rattle.std.proofs.Common.{◌∙◌}
use Rattle.tg_cmd.proofs.RequestLaws.{word_then, word_else}
use Rattle.tg_cmd.proofs.request.is_word.Goals as goal

pub returns-then-is_letter : goal.returns-then-is_letter
returns-then-is_letter c = word_then c.args.bytes.now c.are_name_bytes.result c.in-len1-up.len_at_least c.if-is_letter.ensures c.are_name_bytes.ensures

pub returns-else-is_letter : goal.returns-else-is_letter
returns-else-is_letter c = c.if-is_letter.false ∙ word_else c.args.bytes.now c.in-len1-up.len_at_least c.if-is_letter.ensures
