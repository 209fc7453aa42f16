-- A value depends on the variables that stand in the term, and on no other.
use Rattle.std.proofs.Common.{ℕ, zero, suc, ◌≡◌, Bool, true, List, ◌∷◌, ◌++◌, reverse, length, Option, refl, ◌∙◌, ap, nat_eq}
use Rattle.std.specs.Prelude.{unwrap_or}
use Rattle.std.specs.Option.{option_map_or}
use Rattle.std.proofs.lemmas.Bool.{eq-eqb}
use Rattle.tg_model.specs.Tree as tree
use Rattle.tg_model.specs.Tree.{Tree, Trees, Arms, bound, free, literal, truth, con, call, put, choice, case, bind, op, arm, end}
use Rattle.tg_model.specs.Value.{Value, made, values, boolean, wrong, IsShallow}
use Rattle.tg_model.specs.Formula.{Formula, atom, both, implies, all, some, thyp, tested, deep}
use Rattle.tg_model.specs.Theory.{Theory}
use Rattle.tg_model.specs.Typing.{HasType}
use Rattle.tg_model.specs.Table.{Table, IsListed}
use Rattle.tg_model.specs.Denotation.{World, value_in, values_in, branch_in, opened, operated, chosen, world}
use Rattle.tg_model.specs.Truth.{Holds}
use Rattle.tg_model.specs.Uses.{uses, use_any, use_branch, uses_in_formula, AgreeWhere}
use Rattle.tg_model.proofs.Booleans.{or_left, or_right}
use Rattle.tg_model.proofs.Walks.{if_same, by_branch}

module _ (w : World) (env env' : List Value) where
  abbrev Agrees : (ℕ → Bool) → Type 0
  Agrees test = AgreeWhere test env env'

  abbrev after_case : Arms → List Value → List Value → Option (ℕ × List Value) → Value
  after_case arms en loc o = option_map_or (λ (p : ℕ × List Value). branch_in w en loc p.0 p.1 arms) o wrong

  mutual
    pub same_value_of : (t : Tree) (loc : List Value) → Agrees (λ m. uses m t) → value_in w env loc t ≡ value_in w env' loc t
    same_value_of (bound k) loc h = refl
    same_value_of (free n) loc h = ap (λ o. unwrap_or o wrong) (h n (eq-eqb n n refl))
    same_value_of (literal n) loc h = refl
    same_value_of (truth b) loc h = refl
    same_value_of (con c ts) loc h = ap (λ vs. made c (values vs)) (same_values_of ts loc h)
    same_value_of (call f ts) loc h = ap (w.calls f) (same_values_of ts loc h)
    same_value_of (put ts) loc h = ap w.answers (same_values_of ts loc h)
    same_value_of (choice ts) loc h = ap chosen (same_values_of ts loc h)
    same_value_of (case d t arms) loc h =
        ap (λ v. after_case arms env loc (opened d (w.first d) v)) (same_value_of t loc (λ m e. h m (or_left (uses m t) (use_branch m arms) e)))
        ∙ by_branch _ _ (λ k vs. same_branch_of arms loc k vs (λ m e. h m (or_right (uses m t) (use_branch m arms) e)))
        (opened d (w.first d) (value_in w env' loc t))
    same_value_of (bind t body) loc h =
        ap (λ v. value_in w env (v ∷ loc) body) (same_value_of t loc (λ m e. h m (or_left (uses m t) (uses m body) e)))
        ∙ same_value_of body (value_in w env' loc t ∷ loc) (λ m e. h m (or_right (uses m t) (uses m body) e))
    same_value_of (op o ts) loc h = ap (operated o) (same_values_of ts loc h)

    pub same_values_of : (ts : Trees) (loc : List Value) → Agrees (λ m. use_any m ts) → values_in w env loc ts ≡ values_in w env' loc ts
    same_values_of tree.none loc h = refl
    same_values_of (tree.more t ts) loc h =
        λ i. same_value_of t loc (λ m e. h m (or_left (uses m t) (use_any m ts) e)) i
        ∷ same_values_of ts loc (λ m e. h m (or_right (uses m t) (use_any m ts) e)) i

    same_branch_of : (arms : Arms) (loc : List Value) (k : ℕ) (vs : List Value) → Agrees (λ m. use_branch m arms)
        → branch_in w env loc k vs arms ≡ branch_in w env' loc k vs arms
    same_branch_of end loc k vs h = refl
    same_branch_of (arm n body arms) loc zero vs h =
        if_same _ _ wrong (nat_eq n (length vs)) (λ e.
        same_value_of body (reverse vs ++ loc) (λ m u. h m (or_left (uses m body) (use_branch m arms) u)))
    same_branch_of (arm n body arms) loc (suc k) vs h = same_branch_of arms loc k vs (λ m u. h m (or_right (uses m body) (use_branch m arms) u))

module _ (th : Theory) (tb : Table) (env env' : List Value) where
  pub same_truth_of : (f : Formula) (loc : List Value) → AgreeWhere (λ m. uses_in_formula m f) env env' → Holds th tb env loc f ≡ Holds th tb env' loc f
  same_truth_of (atom t) loc h = ap (λ v. v ≡ boolean true) (same_value_of (world th tb) env env' t loc h)
  same_truth_of (both f g) loc h =
      λ i. same_truth_of f loc (λ m e. h m (or_left (uses_in_formula m f) (uses_in_formula m g) e)) i
      × same_truth_of g loc (λ m e. h m (or_right (uses_in_formula m f) (uses_in_formula m g) e)) i
  same_truth_of (implies f g) loc h =
      λ i. same_truth_of f loc (λ m e. h m (or_left (uses_in_formula m f) (uses_in_formula m g) e)) i
      → same_truth_of g loc (λ m e. h m (or_right (uses_in_formula m f) (uses_in_formula m g) e)) i
  same_truth_of (all t f) loc h = λ i. (v : Value) → HasType th v t → same_truth_of f (v ∷ loc) h i
  same_truth_of (some t f) loc h = λ i. (v : Value) × HasType th v t × same_truth_of f (v ∷ loc) h i
  same_truth_of (thyp f) loc h = same_truth_of f loc h
  same_truth_of (tested ts) loc h = ap (IsListed tb) (same_values_of (world th tb) env env' ts loc h)
  same_truth_of (deep k ts) loc h = ap (λ vs. ¬ (IsShallow k vs)) (same_values_of (world th tb) env env' ts loc h)
