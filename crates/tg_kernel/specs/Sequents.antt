-- A sequent of the program as the model has it.
use Rattle.tg_model.specs.Formula as model
use Rattle.tg_kernel.specs.declared.sequents.Sequent.{Sequent}

abbrev pub sequent : Sequent → model.Sequent
sequent s = record { vars = s.vars; hypotheses = s.hyps; goal = s.goal }
