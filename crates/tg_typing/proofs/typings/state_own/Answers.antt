use Rattle.std.proofs.Common.{Bor, [], sym, subst}
use Rattle.std.specs.Prelude.{IfOk, option_map}
use Rattle.tg_model.specs.Types.{tys}
use Rattle.tg_declarations.specs.View.{function}
use Rattle.tg_declarations.specs.declared.definitions.FunDef.{FunDef}
use Rattle.tg_typing.specs.Answers.{own_parameters}
use Rattle.tg_typing.specs.Nodes.{AllStand}
use Rattle.tg_typing.proofs.Standing.{stand_none}
use Rattle.tg_typing.proofs.typings.state_own.Goals as goal

pub returns-in-None : goal.returns-in-None
returns-in-None c =
    subst (λ o. AllStand c.args.table.now (tys (own_parameters (option_map (λ (def : Bor FunDef). function def.now) o))) c.args.table.now c.new.result) (sym c.in-None.is)
    (subst (AllStand c.args.table.now (tys []) c.args.table.now) (sym c.new.ensures) (stand_none c.args.table.now))

pub returns-in-Some : goal.returns-in-Some
returns-in-Some c =
    subst (λ o. IfOk c.state_parameters.result (λ ks. AllStand c.args.table.now (tys (own_parameters (option_map (λ (def : Bor FunDef). function def.now) o)))
    c.state_parameters.new.table ks)) (sym c.in-Some.is) c.state_parameters.ensures
