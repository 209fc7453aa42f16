use Rattle.tg_theory.proofs.TestTheories.{true_meant}
use Rattle.tg_theory.proofs.tests.a_theory_tells_types_and_least_values.Goals as goal

pub set_spec-requires : goal.set_spec-requires
set_spec-requires g c = true_meant c.set_program.new.self c.in_ok-new.field-0 c.in_ok-new.ensures.is
