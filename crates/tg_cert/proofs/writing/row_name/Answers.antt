use Rattle.std.proofs.Common.{◌∙◌}
use Rattle.tg_tables.specs.Rows.{entry_of}
use Rattle.tg_cert.proofs.WritingLaws.{row_here, row_next}
use Rattle.tg_cert.proofs.writing.row_name.Goals as goal

pub returns-then-row-number : goal.returns-then-row-number
returns-then-row-number c =
    c.as_bytes.ensures.value
    ∙ row_here c.schemas-rows.result c.schemas-rows.ensures c.loop-i.i (entry_of c.get-row.result.now) c.args.number c.get-row.ensures c.loop-i.invariant
    c.if-row-number.true

pub loop-i-preserved : goal.loop-i-preserved
loop-i-preserved c =
    row_next c.schemas-rows.result c.schemas-rows.ensures c.loop-i.i (entry_of c.get-row.result.now) c.args.number c.get-row.ensures c.loop-i.invariant
    c.if-row-number.false
