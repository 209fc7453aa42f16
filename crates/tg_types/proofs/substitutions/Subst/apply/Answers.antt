use Rattle.std.proofs.Common.{◌∙◌, ap}
use Rattle.std.proofs.lemmas.List.{take_all}
use Rattle.tg_types.specs.Substitutions.{apply, put}
use Rattle.tg_types.specs.Types.{ty}
use Rattle.tg_types.specs.View.{agreement, substitution}
use Rattle.tg_types.proofs.SubstitutionLaws.{applied_next}
use Rattle.tg_types.proofs.substitutions.Subst.apply.Goals as goal

pub loop-x-preserved : goal.loop-x-preserved
loop-x-preserved c = c.in_ok-done-2.ensures ∙ ap (put (agreement c.x-item.result)) c.loop-x.invariant
    ∙ applied_next c.deref-x-items.result.now c.loop-x.x-index c.x-item.result (ty c.args.t.now) c.loop-x-test.true c.x-item.is

pub returns-clause-applied : goal.returns-clause-applied
returns-clause-applied c = c.loop-x.invariant
    ∙ ap (λ xs. apply (substitution xs) (ty c.args.t.now)) (take_all c.loop-x.x-index c.deref-x-items.result.now c.loop-x-test.false ∙ c.deref-x-items.ensures.value)
    ∙ ap (λ s. apply s (ty c.args.t.now)) c.self.view_is
