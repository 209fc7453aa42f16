use Rattle.std.proofs.Common.{None, refl}
use Rattle.tg_infer.proofs.BinderLaws.{have_bound_next}
use Rattle.tg_infer.proofs.binders.Binders.bind_next.Goals as goal

pub returns : goal.returns
returns c = have_bound_next c.args.self.now (record { bound = c.push.new.self; levels = c.args.self.now.levels }) (record { name = None; hidden = None }) c.requires c.in_ok-push.ensures.items refl refl
