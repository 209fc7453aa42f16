use Rattle.tg_solver.proofs.DrawLaws.{is_word, is_after_word}
use Rattle.tg_solver.proofs.drawing.next.Goals as goal

pub returns-clause-word : goal.returns-clause-word
returns-clause-word c = is_word c.next_word.result c.args.rng.now c.next_word.new.self c.next_word.ensures

pub returns-clause-left : goal.returns-clause-left
returns-clause-left c = is_after_word c.next_word.result c.args.rng.now c.next_word.new.self c.next_word.ensures
