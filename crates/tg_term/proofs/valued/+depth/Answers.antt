use Rattle.std.proofs.Common.{◌≡◌, drop, ap, arith}
use Rattle.std.proofs.lemmas.List.{drop_all}
use Rattle.tg_model.specs.Value.{deepest}
use Rattle.tg_term.specs.Values.{values}
use Rattle.tg_term.proofs.valued.+depth.Goals as goal

pub deepest-returns : goal.deepest-returns
deepest-returns t c =
    let none : deepest (values (drop c.loop-v.v-index c.args.vs.now)) ≡ 0 = ap (λ vs. deepest (values vs)) (drop_all c.loop-v.v-index c.args.vs.now c.loop-v-test.false) in
    omega (arith, c.loop-v.invariant.left, c.loop-v.invariant.stops, none)
