use Rattle.std.proofs.Common.{rules}
use Rattle.tg_infer.specs.Binders.{HaveLeft}
use Rattle.tg_standing.proofs.QuantifiedLaws.{left}
use Rattle.tg_standing.proofs.quantified.Under.leave.Goals as goal

pub returns : goal.returns
returns c =
    let before : HaveLeft c.args.self.now.binders c.leave.new.self = search rules in
    left c.args.self.now _ c.args.len c.requires.under c.requires.one before c.truncate.ensures.items
