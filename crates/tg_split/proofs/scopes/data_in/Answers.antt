use Rattle.std.proofs.Common.{map, sym, ◌∙◌, ap}
use Rattle.tg_model.specs.Theory.{instance}
use Rattle.tg_model.specs.Types.{applied, tys}
use Rattle.tg_types.specs.Types.{ty}
use Rattle.tg_split.specs.declared.scopes.Scope.{Scope}
use Rattle.tg_split.specs.Scopes.{arguments}
use Rattle.tg_split.proofs.ScopeLaws.{at_parameters}
use Rattle.tg_split.proofs.scopes.data_in.Goals as goal

pub returns-in-Within : goal.returns-in-Within
returns-in-Within c =
    at_parameters c.args.d c.args.ts.now c.in-Within.us c.in-Within.outer (sym c.if-are_all_parameters.ensures)
    ∙ ap (λ (s : Scope). applied c.args.d (tys (map (λ t. instance (arguments s) (ty t)) c.args.ts.now))) (sym c.in-Within.is)
