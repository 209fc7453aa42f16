use Rattle.std.proofs.Common.{rules, ◌≡◌, ◌∙◌, [], true, false}
use Rattle.std.specs.Option.{is_some}
use Rattle.tg_accept.specs.Declared.{theory}
use Rattle.tg_schema.proofs.StepLaws.{first_none, none_below_first, first_named, none_below_next, found_if, none_if}
use Rattle.tg_schema.proofs.first.Goals as goal

pub returns-then-is_some : goal.returns-then-is_some
returns-then-is_some c =
    let e : is_some c.find.result ≡ true = search rules in
    found_if (theory [] c.declarations-declared.result.now) c.loop-number.number c.args.t.now c.find.result c.loop-number.invariant c.find.ensures e
    ∙ first_named c.args.th.now c.declarations-declared.result.now c.args.t.now c.declarations-declared.ensures.named

pub loop-number-preserved : goal.loop-number-preserved
loop-number-preserved c =
    let e : is_some c.find.result ≡ false = search rules in
    none_below_next (theory [] c.declarations-declared.result.now) c.loop-number.number c.args.t.now c.loop-number.invariant
    (none_if (theory [] c.declarations-declared.result.now) c.loop-number.number c.args.t.now c.find.result c.find.ensures e)

pub loop-number-init : goal.loop-number-init
loop-number-init c =
    none_below_first (theory [] c.declarations-declared.result.now) c.span-low.result.0 c.span-low.result.1 c.args.t.now (c.span-low.ensures (theory [] c.declarations-declared.result.now))

pub returns : goal.returns
returns c =
    first_none (theory [] c.declarations-declared.result.now) c.span-low.result.0 c.span-low.result.1 c.loop-number.number c.args.t.now (c.span-low.ensures (theory [] c.declarations-declared.result.now))
    c.loop-number.invariant c.loop-number-test.false
    ∙ first_named c.args.th.now c.declarations-declared.result.now c.args.t.now c.declarations-declared.ensures.named
