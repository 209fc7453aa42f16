-- The definitions keep values and truth, so what is given by them does.
use Rattle.std.proofs.Common.{ℕ, ◌≡◌, List, ◌++◌, refl, subst, sym}
use Rattle.tg_model.specs.Tree.{Tree}
use Rattle.tg_model.specs.Formula.{Formula}
use Rattle.tg_model.specs.Denotation.{den}
use Rattle.tg_model.specs.Walk.{lifted, substituted, instantiated, abstracted, substituted_formula, instantiated_formula, abstracted_formula}
use Rattle.tg_model.proofs.Keeping.{lifting_keeps, substitution_keeps, instantiation_keeps, abstraction_keeps, substitution_keeps_truth, instantiation_keeps_truth, abstraction_keeps_truth}
use Rattle.tg_term.specs.Substituting.{IsLifted, IsSubstituted, IsInstantiated, IsAbstracted, IsSubstitutedFormula, IsInstantiatedFormula, IsAbstractedFormula}

lifted_itself : (by : ℕ) (t : Tree) → IsLifted by t (lifted by t)
lifted_itself by t = record {
  is = refl;
  value = λ th tb env between loc e.
      subst (λ (n : ℕ). den th tb env (between ++ loc) (lifted n t) ≡ den th tb env loc t) e (lifting_keeps th tb env between loc t);
}

pub is_lifted : (by : ℕ) (t u : Tree) → u ≡ lifted by t → IsLifted by t u
is_lifted by t u e = subst (λ (x : Tree). IsLifted by t x) (sym e) (lifted_itself by t)

substituted_itself : (us : List Tree) (t : Tree) → IsSubstituted us t (substituted us t)
substituted_itself us t = record { is = refl; value = λ th tb env loc. substitution_keeps th tb env loc us t }

pub is_substituted : (us : List Tree) (t u : Tree) → u ≡ substituted us t → IsSubstituted us t u
is_substituted us t u e = subst (λ (x : Tree). IsSubstituted us t x) (sym e) (substituted_itself us t)

instantiated_itself : (us : List Tree) (t : Tree) → IsInstantiated us t (instantiated us t)
instantiated_itself us t = record { is = refl; value = λ th tb env loc. instantiation_keeps th tb env loc us t }

pub is_instantiated : (us : List Tree) (t u : Tree) → u ≡ instantiated us t → IsInstantiated us t u
is_instantiated us t u e = subst (λ (x : Tree). IsInstantiated us t x) (sym e) (instantiated_itself us t)

abstracted_itself : (n : ℕ) (t : Tree) → IsAbstracted n t (abstracted n t)
abstracted_itself n t = record { is = refl; value = λ th tb env env' loc v here others. abstraction_keeps th tb env env' loc n v t here others }

pub is_abstracted : (n : ℕ) (t u : Tree) → u ≡ abstracted n t → IsAbstracted n t u
is_abstracted n t u e = subst (λ (x : Tree). IsAbstracted n t x) (sym e) (abstracted_itself n t)

substituted_formula_itself : (us : List Tree) (f : Formula) → IsSubstitutedFormula us f (substituted_formula us f)
substituted_formula_itself us f = record { is = refl; truth = λ th tb env loc. substitution_keeps_truth th tb env loc us f }

pub is_substituted_formula : (us : List Tree) (f g : Formula) → g ≡ substituted_formula us f → IsSubstitutedFormula us f g
is_substituted_formula us f g e = subst (λ (x : Formula). IsSubstitutedFormula us f x) (sym e) (substituted_formula_itself us f)

instantiated_formula_itself : (us : List Tree) (f : Formula) → IsInstantiatedFormula us f (instantiated_formula us f)
instantiated_formula_itself us f = record { is = refl; truth = λ th tb env loc. instantiation_keeps_truth th tb env loc us f }

pub is_instantiated_formula : (us : List Tree) (f g : Formula) → g ≡ instantiated_formula us f → IsInstantiatedFormula us f g
is_instantiated_formula us f g e = subst (λ (x : Formula). IsInstantiatedFormula us f x) (sym e) (instantiated_formula_itself us f)

abstracted_formula_itself : (n : ℕ) (f : Formula) → IsAbstractedFormula n f (abstracted_formula n f)
abstracted_formula_itself n f = record { is = refl; truth = λ th tb env env' loc v here others. abstraction_keeps_truth th tb env env' loc n v f here others }

pub is_abstracted_formula : (n : ℕ) (f g : Formula) → g ≡ abstracted_formula n f → IsAbstractedFormula n f g
is_abstracted_formula n f g e = subst (λ (x : Formula). IsAbstractedFormula n f x) (sym e) (abstracted_formula_itself n f)

pub ruleset kept = (is_lifted, is_substituted, is_instantiated, is_abstracted, is_substituted_formula, is_instantiated_formula, is_abstracted_formula)
