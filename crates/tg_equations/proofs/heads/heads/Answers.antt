use Rattle.std.proofs.Common.{◌≡◌, ◌∙◌, map, take, ap, arith}
use Rattle.std.proofs.lemmas.List.{take_all}
use Rattle.tg_accept.specs.Resolved.{of}
use Rattle.tg_equations.proofs.HeadLaws.{heads_declared}
use Rattle.tg_equations.proofs.heads.heads.Goals as goal

pub returns : goal.returns
returns c =
    let full : take c.loop-c.c-index c.constructors-c-items.result.now ≡ c.constructors-c-items.result.now =
    take_all c.loop-c.c-index c.constructors-c-items.result.now (omega (arith, c.loop-c-test.false)) in
    c.loop-c.invariant ∙ ap (map of) (full ∙ c.constructors-c-items.ensures) ∙ heads_declared c.args.declared.now c.args.n c.if-n-eq0.false
