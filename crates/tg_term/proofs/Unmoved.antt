-- A walk that replaces each variable by itself gives the term back, and one that leaves free variables alone gives back a
-- term none of whose bound variables is loose.
use Rattle.std.proofs.Common.{ℕ, ◌≡◌, ◌<◌, ◌≤◌, ◌+◌, List, Bool, true, false, refl, ap, nat_lt, if◌then◌else◌, arith}
use Rattle.tg_model.specs.Tree as model
use Rattle.tg_model.specs.Tree.{Tree, Trees, Arms, bound, free, literal, truth, con, call, put, choice, case, bind, op}
use Rattle.tg_model.specs.Walk.{walk, walk_all, walk_arms, walk_formula, raised, as_free, filled, lifted}
use Rattle.std.proofs.lemmas.Bool.{lt-ltb}
use Rattle.tg_model.specs.Formula.{Formula, atom, both, implies, all, some, thyp, tested, deep}
use Rattle.tg_term.specs.FormulaMeasures.{formula_range}
use Rattle.tg_term.specs.Measures.{loose_range, loose_among, loose_within}

module _ (on_bound on_free : ℕ → ℕ → Tree) (bounds : (d k : ℕ) → on_bound d k ≡ bound k) (frees : (d n : ℕ) → on_free d n ≡ free n) where
  mutual
    unmoved : (t : Tree) (d : ℕ) → walk on_bound on_free d t ≡ t
    unmoved (bound k) d = bounds d k
    unmoved (free n) d = frees d n
    unmoved (literal n) d = refl
    unmoved (truth b) d = refl
    unmoved (con c ts) d = ap (con c) (all_unmoved ts d)
    unmoved (call f ts) d = ap (call f) (all_unmoved ts d)
    unmoved (put ts) d = ap put (all_unmoved ts d)
    unmoved (choice ts) d = ap choice (all_unmoved ts d)
    unmoved (case e t arms) d = λ i. case e (unmoved t d i) (arms_unmoved arms d i)
    unmoved (bind t body) d = λ i. bind (unmoved t d i) (unmoved body (d + 1) i)
    unmoved (op o ts) d = ap (op o) (all_unmoved ts d)

    all_unmoved : (ts : Trees) (d : ℕ) → walk_all on_bound on_free d ts ≡ ts
    all_unmoved model.none d = refl
    all_unmoved (model.more t ts) d = λ i. model.more (unmoved t d i) (all_unmoved ts d i)

    arms_unmoved : (arms : Arms) (d : ℕ) → walk_arms on_bound on_free d arms ≡ arms
    arms_unmoved model.end d = refl
    arms_unmoved (model.arm n body arms) d = λ i. model.arm n (unmoved body (d + n) i) (arms_unmoved arms d i)

either : (b : Bool) (k m : ℕ) → m ≡ k → (if b then bound k else bound m) ≡ bound k
either true k m e = refl
either false k m e = ap bound e

pub lifted_zero : (t : Tree) → lifted 0 t ≡ t
lifted_zero t = unmoved (raised 0) as_free (λ d k. either (nat_lt k d) k (k + 0) (omega arith)) (λ d n. refl) t 0

module _ (on_bound on_free : ℕ → ℕ → Tree) (bounds : (d k : ℕ) → k < d → on_bound d k ≡ bound k) (frees : (d n : ℕ) → on_free d n ≡ free n) where
  mutual
    pub left_alone : (t : Tree) (d : ℕ) → loose_range t ≤ d → walk on_bound on_free d t ≡ t
    left_alone (bound k) d h = bounds d k (omega arith)
    left_alone (free n) d h = frees d n
    left_alone (literal n) d h = refl
    left_alone (truth b) d h = refl
    left_alone (con c ts) d h = ap (con c) (all_left_alone ts d h)
    left_alone (call f ts) d h = ap (call f) (all_left_alone ts d h)
    left_alone (put ts) d h = ap put (all_left_alone ts d h)
    left_alone (choice ts) d h = ap choice (all_left_alone ts d h)
    left_alone (case e t arms) d h = λ i. case e (left_alone t d (omega arith) i) (arms_left_alone arms d (omega arith) i)
    left_alone (bind t body) d h = λ i. bind (left_alone t d (omega arith) i) (left_alone body (d + 1) (omega arith) i)
    left_alone (op o ts) d h = ap (op o) (all_left_alone ts d h)

    all_left_alone : (ts : Trees) (d : ℕ) → loose_among ts ≤ d → walk_all on_bound on_free d ts ≡ ts
    all_left_alone model.none d h = refl
    all_left_alone (model.more t ts) d h = λ i. model.more (left_alone t d (omega arith) i) (all_left_alone ts d (omega arith) i)

    arms_left_alone : (arms : Arms) (d : ℕ) → loose_within arms ≤ d → walk_arms on_bound on_free d arms ≡ arms
    arms_left_alone model.end d h = refl
    arms_left_alone (model.arm n body arms) d h = λ i. model.arm n (left_alone body (d + n) (omega arith) i) (arms_left_alone arms d (omega arith) i)

  formula_left_alone : (f : Formula) (d : ℕ) → formula_range f ≤ d → walk_formula on_bound on_free d f ≡ f
  formula_left_alone (atom t) d h = ap atom (left_alone t d h)
  formula_left_alone (both f g) d h = λ i. both (formula_left_alone f d (omega arith) i) (formula_left_alone g d (omega arith) i)
  formula_left_alone (implies f g) d h = λ i. implies (formula_left_alone f d (omega arith) i) (formula_left_alone g d (omega arith) i)
  formula_left_alone (all t f) d h = ap (all t) (formula_left_alone f (d + 1) (omega arith))
  formula_left_alone (some t f) d h = ap (some t) (formula_left_alone f (d + 1) (omega arith))
  formula_left_alone (thyp f) d h = ap thyp (formula_left_alone f d h)
  formula_left_alone (tested ts) d h = ap tested (all_left_alone ts d h)
  formula_left_alone (deep k ts) d h = ap (deep k) (all_left_alone ts d h)

below : (k d : ℕ) (t : Tree) → k < d → (if nat_lt k d then bound k else t) ≡ bound k
below k d t h = rw (lt-ltb k d h) refl

pub left_by_lifting : (by range d : ℕ) → range ≤ d → (t : Tree) → loose_range t ≤ range → walk (raised by) as_free d t ≡ t
left_by_lifting by range d h t g = left_alone (raised by) as_free (λ e k. below k e _) (λ e n. refl) t d (omega arith)

pub left_by_filling : (us : List Tree) (range d : ℕ) → range ≤ d → (t : Tree) → loose_range t ≤ range → walk (filled us) as_free d t ≡ t
left_by_filling us range d h t g = left_alone (filled us) as_free (λ e k. below k e _) (λ e n. refl) t d (omega arith)

pub formula_left_by_lifting : (by range d : ℕ) → range ≤ d → (f : Formula) → formula_range f ≤ range → walk_formula (raised by) as_free d f ≡ f
formula_left_by_lifting by range d h f g = formula_left_alone (raised by) as_free (λ e k. below k e _) (λ e n. refl) f d (omega arith)

pub formula_left_by_filling : (us : List Tree) (range d : ℕ) → range ≤ d → (f : Formula) → formula_range f ≤ range → walk_formula (filled us) as_free d f ≡ f
formula_left_by_filling us range d h f g = formula_left_alone (filled us) as_free (λ e k. below k e _) (λ e n. refl) f d (omega arith)

pub ruleset left = (left_by_lifting, left_by_filling, formula_left_by_lifting, formula_left_by_filling)
