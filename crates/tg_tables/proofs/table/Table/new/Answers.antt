use Rattle.tg_tables.proofs.Places.{rows_rise, rows_fail}
use Rattle.tg_tables.proofs.table.Table.new.Goals as goal

pub returns-then-not-is_below-clause-none : goal.returns-then-not-is_below-clause-none
returns-then-not-is_below-clause-none g c = rows_fail c.args.rows.now c.loop-i.i c.is_below.result c.loop-i.auto.i c.loop-i-test.true c.if-not-is_below.true c.is_below.ensures.1

pub loop-i-preserved : goal.loop-i-preserved
loop-i-preserved g c = rows_rise c.args.rows.now c.loop-i.i c.is_below.result c.loop-i.auto.i c.loop-i-test.true c.loop-i.invariant c.if-not-is_below.false c.is_below.ensures.0
