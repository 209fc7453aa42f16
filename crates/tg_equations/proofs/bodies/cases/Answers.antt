use Rattle.std.proofs.Common.{◌≡◌, ◌∙◌, [], map, take, get_or, Some, ap, arith}
use Rattle.std.specs.Prelude.{slice_get}
use Rattle.std.proofs.lemmas.List.{take_all}
use Rattle.std.proofs.lemmas.Option.{slice_get-get_or}
use Rattle.tg_accept.specs.Core.{core, heads_of}
use Rattle.tg_accept.specs.Declared.{theory}
use Rattle.tg_accept.specs.Functions.{side_for}
use Rattle.tg_typing.specs.declared.resolved.Head.{Head}
use Rattle.tg_typing.specs.declared.resolved.Head.TheVariants.{Zero}
use Rattle.tg_typing.specs.View.{head}
use Rattle.tg_equations.specs.View.{equations}
use Rattle.tg_equations.proofs.BodyLaws.{next_side}
use Rattle.tg_equations.proofs.CoreLaws.{list_next, map_both}
use Rattle.tg_equations.proofs.bodies.cases.Goals as goal

pub loop-h-preserved : goal.loop-h-preserved
loop-h-preserved c =
    let th = theory [] c.args.declared.now in
    let hs = c.as_slice-h-items.result.now in
    let h : Head = get_or hs c.loop-h.h-index Zero in
    let at : slice_get hs c.loop-h.h-index ≡ Some h = slice_get-get_or hs c.loop-h.h-index Zero c.loop-h-test.true in
    list_next (λ h. core th c.args.own (side_for (equations c.args.es.now) (head h))) hs c.loop-h.h-index h c.loop-h.all c.push.new.self c.in_ok-side_at.field-0 at
    c.loop-h.invariant c.in_ok-push.ensures.ok
    (next_side th c.args.own c.in_ok-places.places (equations c.args.es.now) (head h) c.find.result c.in_ok-side_at.field-0 c.in_ok-places.ensures c.find.ensures c.in_ok-side_at.ensures)

pub returns : goal.returns
returns c =
    let th = theory [] c.args.declared.now in
    let es = equations c.args.es.now in
    let hs = c.as_slice-h-items.result.now in
    let full : take c.loop-h.h-index hs ≡ hs = take_all c.loop-h.h-index hs (omega (arith, c.loop-h-test.false)) in
    let same : map head hs ≡ heads_of th c.args.n = ap (map head) c.as_slice-h-items.ensures ∙ c.in_ok-heads.ensures in
    c.loop-h.invariant ∙ ap (map (λ h. core th c.args.own (side_for es (head h)))) full ∙ map_both (λ h. core th c.args.own (side_for es h)) head hs
    ∙ ap (map (λ h. core th c.args.own (side_for es h))) same
