use Rattle.std.proofs.Common.{Some, None, ◌∙◌}
use Rattle.tg_theory.specs.Matched.{recursive}
use Rattle.tg_theory.proofs.Terms.{own_use}
use Rattle.tg_theory.proofs.calls.is_lower_use.Goals as goal

pub returns-in-Some : goal.returns-in-Some
returns-in-Some c =
    c.is_smaller.ensures
    ∙ own_use c.args.own.now.function c.args.own.now.place c.args.own.now.others (recursive c.args.own.now.arguments) c.args.f c.args.ts.now
    (Some c.in-Some.t.now) c.if-f-own.false c.in-Some.ensures

pub returns-in-None : goal.returns-in-None
returns-in-None c =
    own_use c.args.own.now.function c.args.own.now.place c.args.own.now.others (recursive c.args.own.now.arguments) c.args.f c.args.ts.now
    None c.if-f-own.false c.in-None.ensures
