-- A walk that replaces each variable by itself gives the term, or the formula, back.
use Rattle.std.proofs.Common.{ℕ, ◌≡◌, ◌+◌, refl, ap}
use Rattle.tg_model.specs.Tree as tree
use Rattle.tg_model.specs.Tree.{Tree, Trees, Arms, bound, free, literal, truth, con, call, put, choice, case, bind, op}
use Rattle.tg_model.specs.Formula.{Formula, atom, both, implies, all, some, thyp, tested, deep}
use Rattle.tg_model.specs.Walk.{walk, walk_all, walk_arms, walk_formula}

module _ (on_bound on_free : ℕ → ℕ → Tree) (bounds : (d k : ℕ) → on_bound d k ≡ bound k) (frees : (d n : ℕ) → on_free d n ≡ free n) where
  mutual
    pub unmoved : (t : Tree) (d : ℕ) → walk on_bound on_free d t ≡ t
    unmoved (bound k) d = bounds d k
    unmoved (free n) d = frees d n
    unmoved (literal n) d = refl
    unmoved (truth b) d = refl
    unmoved (con c ts) d = ap (con c) (all_unmoved ts d)
    unmoved (call f ts) d = ap (call f) (all_unmoved ts d)
    unmoved (put ts) d = ap put (all_unmoved ts d)
    unmoved (choice ts) d = ap choice (all_unmoved ts d)
    unmoved (case e t arms) d = λ i. case e (unmoved t d i) (arms_unmoved arms d i)
    unmoved (bind t body) d = λ i. bind (unmoved t d i) (unmoved body (d + 1) i)
    unmoved (op o ts) d = ap (op o) (all_unmoved ts d)

    pub all_unmoved : (ts : Trees) (d : ℕ) → walk_all on_bound on_free d ts ≡ ts
    all_unmoved tree.none d = refl
    all_unmoved (tree.more t ts) d = λ i. tree.more (unmoved t d i) (all_unmoved ts d i)

    arms_unmoved : (arms : Arms) (d : ℕ) → walk_arms on_bound on_free d arms ≡ arms
    arms_unmoved tree.end d = refl
    arms_unmoved (tree.arm n body arms) d = λ i. tree.arm n (unmoved body (d + n) i) (arms_unmoved arms d i)

  pub formula_unmoved : (f : Formula) (d : ℕ) → walk_formula on_bound on_free d f ≡ f
  formula_unmoved (atom t) d = ap atom (unmoved t d)
  formula_unmoved (both f g) d = λ i. both (formula_unmoved f d i) (formula_unmoved g d i)
  formula_unmoved (implies f g) d = λ i. implies (formula_unmoved f d i) (formula_unmoved g d i)
  formula_unmoved (all t f) d = ap (all t) (formula_unmoved f (d + 1))
  formula_unmoved (some t f) d = ap (some t) (formula_unmoved f (d + 1))
  formula_unmoved (thyp f) d = ap thyp (formula_unmoved f d)
  formula_unmoved (tested ts) d = ap tested (all_unmoved ts d)
  formula_unmoved (deep k ts) d = ap (deep k) (all_unmoved ts d)
