use Rattle.std.proofs.Common.{Some, sym, refl}
use Rattle.std.proofs.lemmas.Option.{slice_get_read}
use Rattle.tg_verdict.proofs.PlaceLaws.{test_at, test_within}
use Rattle.tg_verdict.proofs.verdicts.test_of.Goals as goal

pub returns-in-Some : goal.returns-in-Some
returns-in-Some c =
    let less = test_within c.args.tests.now c.args.numbers.now c.in-Some.at c.args.number c.requires.numbers c.in-Some.ensures in
    test_at c.args.tests.now c.args.numbers.now c.in-Some.at c.args.number (Some c.index-tests-at.result) c.requires.once c.requires.numbers c.in-Some.ensures
    (sym (slice_get_read c.args.tests.now _ _ c.index-tests-at.result refl less c.index-tests-at.is))
