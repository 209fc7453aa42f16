use Rattle.std.proofs.Common.{sym, subst}
use Rattle.tg_model.specs.Types.{tys}
use Rattle.tg_shared_types.specs.Growth.{AreDeclared}
use Rattle.tg_typing.specs.View.{resolved}
use Rattle.tg_types.specs.Types.{ty, ty-Bool}
use Rattle.tg_types.specs.declared.types.Ty.TheVariants.{Bool}
use Rattle.tg_equations.proofs.TypingLaws.{no_function, specification_told}
use Rattle.tg_equations.proofs.typings.count_specification_typings.Goals as goal

pub count_typings_at-requires-clause-closed : goal.count_typings_at-requires-clause-closed
count_typings_at-requires-clause-closed c = no_function c.args.declared.now c.requires.kept

pub count_typings_at-requires-clause-vars : goal.count_typings_at-requires-clause-vars
count_typings_at-requires-clause-vars c =
    subst (λ us. AreDeclared (tys us)) (sym c.inputs-inputs.ensures) (no_function c.args.declared.now c.requires.kept).inputs

pub returns : goal.returns
returns c =
    specification_told c.args.declared.now c.inputs-inputs.result.now (resolved c.args.t.now) (ty Bool) c.in_ok-typings.typings c.inputs-inputs.ensures ty-Bool c.in_ok-typings.ensures
