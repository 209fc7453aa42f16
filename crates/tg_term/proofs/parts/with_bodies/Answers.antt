use Rattle.std.proofs.Common.{◌≡◌, ◌++◌, [], ◌∷◌, refl, ap, sym, ◌∙◌, subst, arith, IfOk}
use Rattle.std.proofs.lemmas.List.{take_all}
use Rattle.std.proofs.lemmas.Option.{slice_get_read}
use Rattle.tg_model.specs.Tree.{Tree, case}
use Rattle.tg_term.specs.View.{arms}
use Rattle.tg_term.specs.Parts.{with_bodies}
use Rattle.tg_term.proofs.PartLaws.{rebodied, rebodied_arms, rebodied_more}
use Rattle.tg_term.proofs.parts.with_bodies.Goals as goal

pub loop-at-preserved : goal.loop-at-preserved
loop-at-preserved c =
    let b = slice_get_read c.args.bs.now _ c.loop-at.at c.index-bs-at.result refl c.loop-at-test.true c.index-bs-at.is in
    let u = slice_get_read c.args.bodies.now _ c.loop-at.at c.index-bodies-at.result refl (omega (arith, c.loop-at-test.true, c.requires)) c.index-bodies-at.is in
    c.in_ok-push.ensures.ok ∙ (λ i. c.loop-at.invariant i ++ record { vars = c.index-bs-at.result.vars; body = c.in_ok-share.ensures i } ∷ [])
    ∙ sym (rebodied_more c.args.bs.now c.args.bodies.now c.loop-at.at _ _ b u)

pub returns : goal.returns
returns c =
    let e : arms c.loop-at.branches ≡ with_bodies (arms c.args.bs.now) c.args.bodies.now =
    ap arms (c.loop-at.invariant ∙ ap (λ bs. rebodied bs c.args.bodies.now) (take_all c.loop-at.at c.args.bs.now c.loop-at-test.false))
    ∙ sym (rebodied_arms c.args.bs.now c.args.bodies.now) in
    subst (λ (x : Tree). IfOk c.new.result (λ u. u ≡ x)) (λ i. case c.args.d (c.in_ok-share-2.ensures i) (e i)) c.new.ensures.is
