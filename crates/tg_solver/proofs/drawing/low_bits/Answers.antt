use Rattle.std.proofs.Common.{arith}
use Rattle.tg_solver.proofs.DrawLaws.{all_bits}
use Rattle.tg_solver.proofs.drawing.low_bits.Goals as goal

pub returns-in-None : goal.returns-in-None
returns-in-None c = all_bits c.args.word c.args.width (omega arith) (omega arith)
