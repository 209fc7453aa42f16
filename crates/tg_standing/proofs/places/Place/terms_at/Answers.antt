use Rattle.std.proofs.Common.{◌≡◌, Some, map, refl, arith, rules}
use Rattle.std.specs.Prelude.{slice_get, length}
use Rattle.std.proofs.lemmas.Option.{slice_get_read}
use Rattle.tg_accept.specs.Standing.{IsTermAt}
use Rattle.tg_infer.specs.View.{raw_term}
use Rattle.tg_model.specs.Tree.{Tree}
use Rattle.tg_theory.proofs.FormedLaws.{declared_at}
use Rattle.tg_types.specs.Types.{ty}
use Rattle.tg_standing.specs.Quantified.{Stands, types_under}
use Rattle.tg_standing.proofs.InputLaws.{next_found, no_term, all_found}
use Rattle.tg_standing.proofs.places.Place.terms_at.Goals as goal

pub term_at-requires-clause-at : goal.term_at-requires-clause-at
term_at-requires-clause-at c =
    let u : slice_get c.args.at.now c.loop-i.i ≡ Some c.index-at-i.result = slice_get_read c.args.at.now _ _ c.index-at-i.result refl (omega (arith, c.loop-i-test.true, c.if-ts-at.false)) c.index-at-i.is in
    declared_at c.args.at.now c.loop-i.i c.index-at-i.result c.requires.at u

pub returns-in-None : goal.returns-in-None
returns-in-None c =
    let th = c.args.self.now.th.now in
    let vars = map ty c.args.self.now.vars.now in
    let u : slice_get c.args.at.now c.loop-i.i ≡ Some c.index-at-i.result = slice_get_read c.args.at.now _ _ c.index-at-i.result refl (omega (arith, c.loop-i-test.true, c.if-ts-at.false)) c.index-at-i.is in
    let t : slice_get c.args.ts.now c.loop-i.i ≡ Some c.index-ts-i.result = slice_get_read c.args.ts.now _ _ c.index-ts-i.result refl c.loop-i-test.true c.index-ts-i.is in
    let none : (x : Tree) → ¬ (IsTermAt th vars (types_under c.loop-i.under) (ty c.index-at-i.result) (raw_term c.index-ts-i.result) x) = search rules in
    no_term th vars c.args.under.now c.loop-i.under c.args.at.now c.args.ts.now c.loop-i.all c.loop-i.i c.index-at-i.result c.index-ts-i.result u t c.loop-i.invariant none

pub loop-i-preserved : goal.loop-i-preserved
loop-i-preserved c =
    let th = c.args.self.now.th.now in
    let vars = map ty c.args.self.now.vars.now in
    let u : slice_get c.args.at.now c.loop-i.i ≡ Some c.index-at-i.result = slice_get_read c.args.at.now _ _ c.index-at-i.result refl (omega (arith, c.loop-i-test.true, c.if-ts-at.false)) c.index-at-i.is in
    let t : slice_get c.args.ts.now c.loop-i.i ≡ Some c.index-ts-i.result = slice_get_read c.args.ts.now _ _ c.index-ts-i.result refl c.loop-i-test.true c.index-ts-i.is in
    let found : Stands c.loop-i.under c.term_at.new.under (IsTermAt th vars (types_under c.loop-i.under) (ty c.index-at-i.result) (raw_term c.index-ts-i.result)) (Some c.in-Some.x) = search rules in
    next_found th vars c.args.under.now c.loop-i.under c.args.at.now c.args.ts.now c.loop-i.all c.loop-i.i c.index-at-i.result c.index-ts-i.result u t c.loop-i.invariant
    c.term_at.new.under c.in-Some.x c.push.new.self found c.in_ok-push-in-Some.ensures.ok

pub returns : goal.returns
returns c =
    let even : length c.args.ts.now ≡ length c.args.at.now = omega (arith, c.if-ts-at.false) in
    all_found c.args.self.now.th.now (map ty c.args.self.now.vars.now) c.args.under.now c.loop-i.under c.args.at.now c.args.ts.now c.loop-i.all c.loop-i.i c.loop-i.invariant even
    (omega (arith, c.loop-i-test.false))
