-- Replacing equals by equals keeps values and truth.
use Rattle.std.proofs.Common.{ℕ, zero, suc, ◌≡◌, true, List, ◌∷◌, ◌++◌, reverse, length, refl, ◌∙◌, ap, nat_eq}
use Rattle.std.specs.Option.{option_map_or}
use Rattle.tg_model.specs.Tree.{Tree, Trees, Arms}
use Rattle.tg_model.specs.Value.{Value, made, values, boolean, wrong, IsShallow}
use Rattle.tg_model.specs.Formula.{Formula}
use Rattle.tg_model.specs.Theory.{Theory}
use Rattle.tg_model.specs.Typing.{HasType}
use Rattle.tg_model.specs.Table.{Table, IsListed}
use Rattle.tg_model.specs.Denotation.{World, value_in, values_in, branch_in, opened, operated, chosen, world}
use Rattle.tg_model.specs.Truth.{Holds}
use Rattle.tg_model.proofs.Walks.{if_same, by_branch}
use Rattle.tg_calculus.specs.Replacement as by
use Rattle.tg_calculus.specs.Replacement.{Replaced, AllReplaced, ArmsReplaced, FormulaReplaced}

-- equals for equals
module _ (w : World) (env : List Value) (s t : Tree) (equal : (loc : List Value) → value_in w env loc s ≡ value_in w env loc t) where
  mutual
    pub replaced_value : {u v : Tree} → Replaced s t u v → (loc : List Value) → value_in w env loc u ≡ value_in w env loc v
    replaced_value by.here loc = equal loc
    replaced_value (by.kept u) loc = refl
    replaced_value (by.in_con c r) loc = ap (λ vs. made c (values vs)) (replaced_values r loc)
    replaced_value (by.in_call f r) loc = ap (w.calls f) (replaced_values r loc)
    replaced_value (by.in_put r) loc = ap w.answers (replaced_values r loc)
    replaced_value (by.in_choice r) loc = ap chosen (replaced_values r loc)
    replaced_value (by.in_case d {u} {v} {bs} {cs} r a) loc =
        ap (λ x. option_map_or (λ (p : ℕ × List Value). branch_in w env loc p.0 p.1 bs) (opened d (w.first d) x) wrong) (replaced_value r loc)
        ∙ by_branch _ _ (λ k vs. replaced_branch a loc k vs) (opened d (w.first d) (value_in w env loc v))
    replaced_value (by.in_bind {u} {v} {a} {b} r q) loc =
        ap (λ x. value_in w env (x ∷ loc) a) (replaced_value r loc) ∙ replaced_value q (value_in w env loc v ∷ loc)
    replaced_value (by.in_op o r) loc = ap (operated o) (replaced_values r loc)

    pub replaced_values : {us vs : Trees} → AllReplaced s t us vs → (loc : List Value) → values_in w env loc us ≡ values_in w env loc vs
    replaced_values by.none loc = refl
    replaced_values (by.more r rs) loc = λ i. replaced_value r loc i ∷ replaced_values rs loc i

    replaced_branch : {bs cs : Arms} → ArmsReplaced s t bs cs → (loc : List Value) (k : ℕ) (vs : List Value)
        → branch_in w env loc k vs bs ≡ branch_in w env loc k vs cs
    replaced_branch by.end loc k vs = refl
    replaced_branch (by.arm n r rs) loc zero vs = if_same _ _ wrong (nat_eq n (length vs)) (λ e. replaced_value r (reverse vs ++ loc))
    replaced_branch (by.arm n r rs) loc (suc k) vs = replaced_branch rs loc k vs

module _ (th : Theory) (tb : Table) (env : List Value) (s t : Tree)
    (equal : (loc : List Value) → value_in (world th tb) env loc s ≡ value_in (world th tb) env loc t) where
  pub replaced_truth : {f g : Formula} → FormulaReplaced s t f g → (loc : List Value) → Holds th tb env loc f ≡ Holds th tb env loc g
  replaced_truth (by.atom r) loc = ap (λ v. v ≡ boolean true) (replaced_value (world th tb) env s t equal r loc)
  replaced_truth (by.both p q) loc = λ i. replaced_truth p loc i × replaced_truth q loc i
  replaced_truth (by.implies p q) loc = λ i. replaced_truth p loc i → replaced_truth q loc i
  replaced_truth (by.all u p) loc = λ i. (v : Value) → HasType th v u → replaced_truth p (v ∷ loc) i
  replaced_truth (by.some u p) loc = λ i. (v : Value) × HasType th v u × replaced_truth p (v ∷ loc) i
  replaced_truth (by.thyp p) loc = replaced_truth p loc
  replaced_truth (by.tested r) loc = ap (IsListed tb) (replaced_values (world th tb) env s t equal r loc)
  replaced_truth (by.deep k r) loc = ap (λ vs. ¬ (IsShallow k vs)) (replaced_values (world th tb) env s t equal r loc)
