use Rattle.std.proofs.Common.{◌≡◌, map, sym, ap, ◌∙◌, arith, suc}
use Rattle.tg_model.specs.Theory.{instance}
use Rattle.tg_model.specs.Types.{applied, tys}
use Rattle.tg_types.specs.Types.{ty}
use Rattle.tg_split.specs.Scopes.{arguments}
use Rattle.tg_split.proofs.ScopeLaws.{levels, levels-Within, at_data}
use Rattle.tg_split.proofs.scopes.+root_of.Goals as goal

pub root_of-requires : goal.root_of-requires
root_of-requires _ c =
    let e : levels c.args.scope.now ≡ suc (levels c.in-Param-Within.outer.now) = ap levels c.in-Param-Within.is-1 ∙ levels-Within c.in-Param-Within.ts c.in-Param-Within.outer in
    omega (arith, e)

pub returns-in-App-default : goal.returns-in-App-default
returns-in-App-default _ c =
    let us = arguments c.args.scope.now in
    c.data_in.ensures ∙ ap (λ l. applied c.in-App-default.d (tys (map (λ t. instance us (ty t)) l))) c.as_slice.ensures
    ∙ at_data us c.in-App-default.d c.in-App-default.ts ∙ ap (λ u. instance us (ty u)) (sym c.in-App-default.is-0)
