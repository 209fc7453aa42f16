use Rattle.std.proofs.Common.{◌≡◌, false, Some, refl, ◌∷◌, [], subst, rules}
use Rattle.std.specs.Prelude.{slice_get}
use Rattle.std.proofs.lemmas.Option.{slice_get_read}
use Rattle.tg_equations.specs.Checked.{Takes}
use Rattle.tg_equations.proofs.DifferentLaws.{names_stop}
use Rattle.tg_equations.proofs.names.take_all.Goals as goal

pub returns-then-not-branch : goal.returns-then-not-branch
returns-then-not-branch c =
    let at : slice_get c.args.names.now c.loop-x.x-index ≡ Some c.x-item.result = slice_get_read c.args.names.now _ _ c.x-item.result refl c.loop-x-test.true c.x-item.is in
    let taken : c.in_ok-take.field-0 ≡ false = search rules in
    names_stop c.args.seen.now.keys c.loop-x.seen.keys c.take.new.seen.keys c.args.names.now c.loop-x.x-index c.x-item.result at c.loop-x.invariant
    (subst (Takes c.loop-x.seen.keys c.take.new.seen.keys (c.x-item.result ∷ [])) taken c.in_ok-take.ensures)
