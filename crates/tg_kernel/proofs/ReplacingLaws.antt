-- Replacing in lists, and at operators by their numbers.
use Rattle.std.proofs.Common.{ℕ, zero, suc, ◌≡◌, ◌≢◌, ◌&&◌, ◌||◌, Bool, true, false, List, [], ◌∷◌, length, refl, sym, ◌∙◌, ap, nat_eq}
use Rattle.std.proofs.lemmas.Bool.{eqb-true}
use Rattle.tg_model.specs.Tree.{Tree, Trees, op, trees}
use Rattle.tg_model.specs.Equality.{number_decided}
use Rattle.tg_model.specs.Tree.{operator_discrete}
use Rattle.tg_model.proofs.Equalities.{told}
use Rattle.tg_rows.specs.Parts.{same_operator}
use Rattle.tg_term.specs.Operators.{operator}
use Rattle.tg_term.specs.View.{arms}
use Rattle.tg_term.specs.declared.terms.Branch.{Branch}
use Rattle.tg_calculus.specs.Replacing.{at_root, below, all_replace, arms_replace}
use Rattle.tg_term.proofs.ListHeights.{height_at, branch_height_at}
use Rattle.tg_schema.proofs.PartLaws as rows

and_false : (b c : Bool) → false ≡ c → false ≡ b && c
and_false true c e = e
and_false false c e = refl

module _ (s t : Tree) where
  pub uneven : (us vs : List Tree) → ¬ (length us ≡ length vs) → false ≡ all_replace s t (trees us) (trees vs)
  uneven [] [] n = absurd (n refl)
  uneven [] (v ∷ vs) n = refl
  uneven (u ∷ us) [] n = refl
  uneven (u ∷ us) (v ∷ vs) n =
      and_false (at_root s t u v || below s t u v) (all_replace s t (trees us) (trees vs)) (uneven us vs (λ e. n (ap suc e)))

  pub uneven_arms : (bs cs : List Branch) → ¬ (length bs ≡ length cs) → false ≡ arms_replace s t (arms bs) (arms cs)
  uneven_arms [] [] n = absurd (n refl)
  uneven_arms [] (v ∷ vs) n = refl
  uneven_arms (u ∷ us) [] n = refl
  uneven_arms (b ∷ bs) (c ∷ cs) n =
      and_false (nat_eq b.vars c.vars) ((at_root s t b.body c.body || below s t b.body c.body) && arms_replace s t (arms bs) (arms cs))
      (and_false (at_root s t b.body c.body || below s t b.body c.body) (arms_replace s t (arms bs) (arms cs)) (uneven_arms bs cs (λ e. n (ap suc e))))

  pub one_operator : (o p : ℕ) (us vs : Trees) → o ≡ p → all_replace s t us vs ≡ below s t (op (operator o) us) (op (operator p) vs)
  one_operator o p us vs e =
      ap (λ b. b && all_replace s t us vs)
      (sym ((told (operator_discrete number_decided (operator o) (operator p))).1 (ap operator e)))

  pub other_operator : (o p : ℕ) (us vs : Trees) → o ≢ p → false ≡ below s t (op (operator o) us) (op (operator p) vs)
  other_operator o p us vs n = ap (λ b. b && all_replace s t us vs) (sym (rows.other_numbers o p (λ e. n (sym e))))

pub not_equal : (m n : ℕ) → m ≢ n → nat_eq m n ≡ false
not_equal m n h = by (nat_eq m n) (λ e. h (eqb-true m n e))
  where
    by : (b : Bool) → ¬ (b ≡ true) → b ≡ false
    by true k = absurd (k refl)
    by false k = refl

pub ruleset replacing = (uneven, uneven_arms, one_operator, other_operator, height_at, branch_height_at)
