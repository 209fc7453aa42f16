use Rattle.std.proofs.Common.{◌≡◌, [], map, reverse, Some, refl, arith}
use Rattle.std.specs.Prelude.{slice_get}
use Rattle.std.proofs.lemmas.Option.{slice_get_read}
use Rattle.tg_accept.specs.Declared.{theory}
use Rattle.tg_types.specs.Types.{ty}
use Rattle.tg_theory.proofs.FormedLaws.{declared_at, uneven}
use Rattle.tg_theory.proofs.typed.are_typed.Goals as goal

pub returns-then-ts-at : goal.returns-then-ts-at
returns-then-ts-at c = uneven (theory [] c.args.declared.now) (map ty c.args.vars.now) (reverse (map ty c.args.locs.now)) c.args.ts.now c.args.at.now c.if-ts-at.true

pub is_typed-requires-clause-at : goal.is_typed-requires-clause-at
is_typed-requires-clause-at c =
    let u : slice_get c.args.at.now c.loop-i.i ≡ Some c.index-at-i.result = slice_get_read c.args.at.now _ _ c.index-at-i.result refl (omega (arith, c.loop-i-test.true, c.if-ts-at.false)) c.index-at-i.is in
    declared_at c.args.at.now c.loop-i.i c.index-at-i.result c.requires.at u
