use Rattle.std.proofs.Common.{rules, ◌≡◌, ◌<◌, true, false, length, arith}
use Rattle.tg_model.specs.Uses.{uses_in_formula}
use Rattle.tg_kernel.proofs.UsingLaws.{found_new, past_new}
use Rattle.tg_kernel.proofs.using.uses_from.Goals as goal

pub returns-then-formula_uses : goal.returns-then-formula_uses
returns-then-formula_uses c =
    let u : uses_in_formula c.in_ok-number.number c.args.f.now ≡ true = search rules in
    let h : c.loop-i.i < length c.args.new.now = search rules in
    found_new c.args.first c.loop-i.i c.in_ok-number.number c.args.new.now c.args.f.now c.loop-i.invariant h c.in_ok-number.ensures u

pub loop-i-preserved : goal.loop-i-preserved
loop-i-preserved c =
    let u : uses_in_formula c.in_ok-number.number c.args.f.now ≡ false = search rules in
    let h : c.loop-i.i < length c.args.new.now = search rules in
    past_new c.args.first c.loop-i.i c.in_ok-number.number c.args.new.now c.args.f.now c.loop-i.invariant h c.in_ok-number.ensures u
