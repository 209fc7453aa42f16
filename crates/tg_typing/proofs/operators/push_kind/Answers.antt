use Rattle.std.proofs.Common.{sym, subst}
use Rattle.std.specs.Prelude.{IfOk}
use Rattle.tg_typing.specs.Nodes.{Stands}
use Rattle.tg_typing.specs.Operators.{kind_type}
use Rattle.tg_typing.proofs.Standing.{if_nat, if_bool}
use Rattle.tg_typing.proofs.operators.push_kind.Goals as goal

pub returns-in-Nat : goal.returns-in-Nat
returns-in-Nat c =
    subst (λ x. IfOk c.push.result (λ at. Stands c.args.table.now (kind_type x) c.push.new.self at)) (sym c.in-Nat.is)
    (if_nat c.args.table.now c.push.new.self c.push.result c.push.ensures.table c.push.ensures.ok c.push.ensures.place)

pub returns-in-Bool : goal.returns-in-Bool
returns-in-Bool c =
    subst (λ x. IfOk c.push-in-Bool.result (λ at. Stands c.args.table.now (kind_type x) c.push-in-Bool.new.self at)) (sym c.in-Bool.is)
    (if_bool c.args.table.now c.push-in-Bool.new.self c.push-in-Bool.result c.push-in-Bool.ensures.table c.push-in-Bool.ensures.ok
    c.push-in-Bool.ensures.place)
