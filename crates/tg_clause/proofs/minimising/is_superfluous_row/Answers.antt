use Rattle.std.proofs.Common.{sym, ◌∙◌}
use Rattle.tg_clause.proofs.NumberLaws.{set_decides}
use Rattle.tg_clause.proofs.minimising.is_superfluous_row.Goals as goal

pub returns : goal.returns
returns c =
    c.some_same_set.ensures
    ∙ set_decides c.args.rows.now c.args.at c.args.c.now (sym c.some_proper_part.ensures ∙ c.if-some_proper_part.false)
