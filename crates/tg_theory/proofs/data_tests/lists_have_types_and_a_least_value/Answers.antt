use Rattle.tg_theory.proofs.TestTheories.{list_meant}
use Rattle.tg_theory.proofs.data_tests.lists_have_types_and_a_least_value.Goals as goal

pub add_data-requires-clause-meant : goal.add_data-requires-clause-meant
add_data-requires-clause-meant g c =
    list_meant c.new-builder.result c.in_ok-list.field-0 c.new-builder.ensures c.in_ok-list.ensures.params c.in_ok-list.ensures.cons
