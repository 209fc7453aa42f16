use Rattle.tg_report.proofs.ValueLaws.{value_next}
use Rattle.tg_report.proofs.values.+values.Goals as goal

pub put_values-loop-v-preserved : goal.put_values-loop-v-preserved
put_values-loop-v-preserved t c = value_next _ _ _ _ _ _ _ c.loop-v-test.true c.v-item.is c.loop-v.invariant c.in_ok-put_value.ensures
