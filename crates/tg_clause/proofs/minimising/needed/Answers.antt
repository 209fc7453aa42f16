use Rattle.std.proofs.Common.{◌≡◌, refl, Some, map}
use Rattle.std.specs.Prelude.{slice_get}
use Rattle.std.proofs.lemmas.Option.{slice_get_read}
use Rattle.tg_clause.specs.Answers.{literals}
use Rattle.tg_clause.proofs.MinimalLaws.{clause_next}
use Rattle.tg_clause.proofs.minimising.needed.Goals as goal

pub loop-at-preserved : goal.loop-at-preserved
loop-at-preserved c =
    let d = c.index-list-at.result in
    let at : slice_get c.args.list.now c.loop-at.at ≡ Some d = slice_get_read c.args.list.now _ _ d refl c.loop-at-test.true c.index-list-at.is in
    clause_next c.args.table.now c.args.rows.now c.args.list.now c.loop-at.at d (map literals c.loop-at.kept.items) _
    c.requires.known c.requires.rows at c.in_ok-add_needed.ensures c.loop-at.invariant
