use Rattle.std.proofs.Common.{◌≡◌, Some, None, rules}
use Rattle.tg_infer.proofs.BinderLaws.{have_left, have_left_next}
use Rattle.tg_infer.proofs.binders.Binders.leave.Goals as goal

pub returns-in_default-name : goal.returns-in_default-name
returns-in_default-name c =
    let unnamed : c.in-Some.field-0.name ≡ None = search rules in
    let same : c.args.self.now.levels ≡ c.args.self.now.levels = search rules in
    have_left_next c.args.self.now (record { bound = c.pop.new.self; levels = c.args.self.now.levels }) c.in-Some.field-0 c.requires
    c.in-Some.ensures.items unnamed same

pub returns : goal.returns
returns c =
    let named : c.in-Some.field-0.name ≡ Some c.in-Some-name.x = search rules in
    have_left c.args.self.now (record { bound = c.pop.new.self; levels = c.insert.new.self }) c.in-Some-name.x c.in-Some.field-0 c.requires
    c.in-Some.ensures.items named
    (λ q. c.in_ok-insert.ensures.updates.0 q)
