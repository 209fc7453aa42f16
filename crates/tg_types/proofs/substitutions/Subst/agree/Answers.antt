use Rattle.std.proofs.Common.{ap}
use Rattle.tg_types.specs.Types.{ty}
use Rattle.tg_types.specs.declared.types.Ty as declared
use Rattle.tg_types.specs.Substitutions as model
use Rattle.tg_types.proofs.SubstitutionLaws.{whole_pushed}
use Rattle.tg_types.proofs.substitutions.Subst.agree.Goals as goal

pub invariant_of-self-2 : goal.invariant_of-self-2
invariant_of-self-2 c =
    let agreed = λ (t : declared.Ty). let x : model.Agreement = record { variable = c.args.var; meaning = ty t } in x in
    whole_pushed _ _ _ _ _ c.self.invariant c.self.view_is c.requires (ap agreed c.in_ok-meaning.ensures) c.in_ok-push.ensures.items
