use Rattle.std.proofs.Common.{◌∙◌, sym, arith}
use Rattle.tg_tables.proofs.Places.{goes_up, goes_down, is_there, is_nowhere}
use Rattle.tg_tables.proofs.table.find_row.Goals as goal

pub loop-low-preserved-in-Less : goal.loop-low-preserved-in-Less
loop-low-preserved-in-Less c =
    goes_up c.args.rows.now c.args.name.now c.requires c.loop-low.low c.loop-low.high _ c.loop-low.invariant (omega (arith, c.loop-low-test.true)) (sym c.order.ensures ∙ c.in-Less.is)

pub loop-low-preserved : goal.loop-low-preserved
loop-low-preserved c =
    goes_down c.args.rows.now c.args.name.now c.requires c.loop-low.low c.loop-low.high _ c.loop-low.invariant (omega (arith, c.loop-low-test.true)) (sym c.order.ensures ∙ c.in-Greater.is)

pub returns-in-Equal-clause-exact : goal.returns-in-Equal-clause-exact
returns-in-Equal-clause-exact c =
    is_there c.args.rows.now c.args.name.now c.requires c.loop-low.low c.loop-low.high _ c.loop-low.invariant (omega (arith, c.loop-low-test.true)) (sym c.order.ensures ∙ c.in-Equal.is)

pub returns-clause-exact : goal.returns-clause-exact
returns-clause-exact c = is_nowhere _ c.args.name.now c.loop-low.low c.loop-low.high c.loop-low.invariant c.loop-low-test.false
