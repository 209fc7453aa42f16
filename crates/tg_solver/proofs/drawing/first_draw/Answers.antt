use Rattle.std.proofs.Common.{◌-◌, ap, sym, ◌∙◌, [], find, arith}
use Rattle.tg_accept.specs.Declared.{theory}
use Rattle.tg_solver.specs.Candidates.{satisfies}
use Rattle.tg_solver.specs.Draws.{draws_from, generator}
use Rattle.tg_solver.proofs.DrawLaws.{draws_some, draw_found, draw_missed}
use Rattle.tg_solver.proofs.drawing.first_draw.Goals as goal

pub returns-then-branch : goal.returns-then-branch
returns-then-branch c =
    let test = satisfies (theory [] c.args.declared.now) c.args.constraints.now in
    let s = c.args.settings.now in
    draw_found test (s.tries - c.loop.counter) s.width c.args.truths.now c.loop.rng c.draw.new.vars.items c.in_ok-all_hold.field-0 (omega arith) c.in_ok-draw.ensures.drawn
    (c.in_ok-all_hold.ensures ∙ ap test c.as_slice.ensures.value) c.if-branch.true
    ∙ c.loop.invariant ∙ ap (find test) (sym (draws_some c.args.truths.now s.tries s.width (generator s.seed c.args.index) (sym c.is_empty.ensures ∙ c.if-is_empty.false)))

pub loop-preserved : goal.loop-preserved
loop-preserved c =
    let test = satisfies (theory [] c.args.declared.now) c.args.constraints.now in
    let s = c.args.settings.now in
    ap (λ n. find test (draws_from n s.width c.args.truths.now c.draw.new.rng)) (omega arith)
    ∙ draw_missed test (s.tries - c.loop.counter) s.width c.args.truths.now c.loop.rng c.draw.new.rng c.draw.new.vars.items c.in_ok-all_hold.field-0 (omega arith) c.in_ok-draw.ensures.drawn c.in_ok-draw.ensures.left
    (c.in_ok-all_hold.ensures ∙ ap test c.as_slice.ensures.value) c.if-branch.false
    ∙ c.loop.invariant
