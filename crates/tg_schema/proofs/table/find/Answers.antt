use Rattle.std.proofs.Common.{[]}
use Rattle.tg_accept.specs.Declared.{theory}
use Rattle.tg_schema.proofs.TableLaws.{row_past}
use Rattle.tg_schema.proofs.table.find.Goals as goal

pub returns-then-number-lt19 : goal.returns-then-number-lt19
returns-then-number-lt19 c = c.of_truths.ensures (theory [] c.args.declared.now)

pub returns-then-number-lt39 : goal.returns-then-number-lt39
returns-then-number-lt39 c = c.of_equations.ensures (theory [] c.args.declared.now)

pub returns-then-number-lt49 : goal.returns-then-number-lt49
returns-then-number-lt49 c = c.of_numbers.ensures (theory [] c.args.declared.now)

pub returns-else-number-lt49 : goal.returns-else-number-lt49
returns-else-number-lt49 c = row_past (theory [] c.args.declared.now) c.args.number c.args.t.now c.if-number-lt49.false
