use Rattle.std.proofs.Common.{◌≡◌, ◌∙◌, Some, ap, length, rules, if◌then◌else◌}
use Rattle.std.specs.Str.{bytes_eq}
use Rattle.indexmap.specs.IndexMap.{get}
use Rattle.tg_infer.proofs.BinderLaws.{have_bound}
use Rattle.tg_infer.proofs.binders.Binders.bind.Goals as goal

pub returns : goal.returns
returns c =
    let named : c.in_ok-clone.field-0 ≡ c.args.x.now = search rules in
    let key : c.in_ok-clone-2.field-0 ≡ c.args.x.now = search rules in
    let at : c.len-at.result ≡ length c.args.self.now.bound.items = search rules in
    have_bound c.args.self.now (record { bound = c.push.new.self; levels = c.insert.new.self }) c.args.x.now
    (record { name = Some c.in_ok-clone.field-0; hidden = c.level-hidden.result }) c.requires
    c.in_ok-push.ensures.items (ap Some named) c.level-hidden.ensures
    (λ q. c.in_ok-insert.ensures.updates.0 q ∙ (λ i. if bytes_eq (key i) q then Some (Some (at i)) else get bytes_eq c.args.self.now.levels q))
