-- The laws of substitution and of used variables, as the crate's functions carry them.
use Rattle.std.proofs.Common.{◌≡◌, ◌↔◌, length, refl, sym, subst}
use Rattle.tg_model.specs.Denotation.{world}
use Rattle.tg_model.specs.Laws.{LiftingKeeps, SubstitutionKeeps, InstantiationKeeps, AbstractionKeeps, SubstitutionKeepsTruth, InstantiationKeepsTruth, AbstractionKeepsTruth, DependsOnUsed, TruthDependsOnUsed, LiftingKeepsTypes, SubstitutionKeepsTypes, InstantiationKeepsTypes, AbstractionKeepsTypes, SubstitutionKeepsForm, InstantiationKeepsForm, AbstractionKeepsForm}
use Rattle.tg_model.proofs.Substitutions.{lifted_value, substituted_value, instantiated_value, abstracted_value, substituted_truth, instantiated_truth, abstracted_truth}
use Rattle.tg_model.proofs.TypedSubstitutions.{lifted_typed, substituted_typed, instantiated_typed, abstracted_typed, substituted_well_formed, instantiated_well_formed, abstracted_well_formed}
use Rattle.tg_model.proofs.Freshness.{same_value_of, same_truth_of}

-- equal facts follow from one another
both_ways : (P Q : Type 0) → P ≡ Q → P ↔ Q
both_ways P Q e = (λ p. subst (λ (X : Type 0). X) e p, λ q. subst (λ (X : Type 0). X) (sym e) q)

pub lifting_keeps : LiftingKeeps
lifting_keeps th tb env between loc t = lifted_value (world th tb) env between loc (length between) refl t

pub substitution_keeps : SubstitutionKeeps
substitution_keeps th tb env loc us t = substituted_value (world th tb) env us loc t

pub instantiation_keeps : InstantiationKeeps
instantiation_keeps th tb env loc us t = instantiated_value (world th tb) env us loc t

pub abstraction_keeps : AbstractionKeeps
abstraction_keeps th tb env env' loc n v t here others = abstracted_value (world th tb) env env' n v loc here others t

pub substitution_keeps_truth : SubstitutionKeepsTruth
substitution_keeps_truth th tb env loc us f = both_ways _ _ (substituted_truth th tb env loc us f)

pub instantiation_keeps_truth : InstantiationKeepsTruth
instantiation_keeps_truth th tb env loc us f = both_ways _ _ (instantiated_truth th tb env loc us f)

pub abstraction_keeps_truth : AbstractionKeepsTruth
abstraction_keeps_truth th tb env env' loc n v f here others = both_ways _ _ (abstracted_truth th tb env env' n v loc here others f)

pub depends_on_used : DependsOnUsed
depends_on_used th tb env env' loc t h = same_value_of (world th tb) env env' t loc h

pub truth_depends_on_used : TruthDependsOnUsed
truth_depends_on_used th tb env env' loc f h = both_ways _ _ (same_truth_of th tb env env' f loc h)

pub lifting_keeps_types : LiftingKeepsTypes
lifting_keeps_types th vars between locs t u h = lifted_typed th vars between locs (length between) refl t u h

pub substitution_keeps_types : SubstitutionKeepsTypes
substitution_keeps_types th vars locs ts us t u typed h = substituted_typed th vars us ts locs typed t u h

pub instantiation_keeps_types : InstantiationKeepsTypes
instantiation_keeps_types th vars locs ts us t u typed h = instantiated_typed th vars us ts locs typed t u h

pub abstraction_keeps_types : AbstractionKeepsTypes
abstraction_keeps_types th vars vars' locs n s t u here others h = abstracted_typed th vars vars' n s locs here others t u h

pub substitution_keeps_form : SubstitutionKeepsForm
substitution_keeps_form th vars locs ts us f typed h = substituted_well_formed th vars us ts locs typed f h

pub instantiation_keeps_form : InstantiationKeepsForm
instantiation_keeps_form th vars locs ts us f typed h = instantiated_well_formed th vars us ts locs typed f h

pub abstraction_keeps_form : AbstractionKeepsForm
abstraction_keeps_form th vars vars' locs n s f here others h = abstracted_well_formed th vars vars' n s locs here others f h
