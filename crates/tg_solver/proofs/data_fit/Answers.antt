use Rattle.tg_solver.proofs.DataFit as laws
use Rattle.tg_solver.proofs.data_fit.Goals as goal

pub returns : goal.returns
returns c = laws.data_fit
