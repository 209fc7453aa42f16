use Rattle.tg_theory.proofs.TestTheories.{true_meant}
use Rattle.tg_theory.proofs.data_tests.finished.Goals as goal

pub set_spec-requires : goal.set_spec-requires
set_spec-requires c = true_meant c.set_program.new.self c.in_ok-spec.spec c.in_ok-spec.ensures.is
