use Rattle.tg_theory.proofs.TestTheories.{endless_meant}
use Rattle.tg_theory.proofs.data_tests.a_datatype_needs_a_constructor_without_itself.Goals as goal

pub add_data-added-requires-clause-meant : goal.add_data-added-requires-clause-meant
add_data-added-requires-clause-meant g c =
    endless_meant c.new-builder.result c.in_ok-endless.field-0 c.new-builder.ensures c.in_ok-endless.ensures.params c.in_ok-endless.ensures.cons
