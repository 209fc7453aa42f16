-- Two walks one after another as one, and walks that agree on the variables of a formula.
use Rattle.std.proofs.Common.{ℕ, ◌≡◌, ◌+◌, Bool, true, refl, ap, arith}
use Rattle.std.proofs.lemmas.Bool.{eq-eqb}
use Rattle.tg_model.specs.Tree as tree
use Rattle.tg_model.specs.Tree.{Tree, Trees, Arms, bound, free, literal, truth, con, call, put, choice, case, bind, op}
use Rattle.tg_model.specs.Formula.{Formula, atom, both, implies, all, some, thyp, tested, deep}
use Rattle.tg_model.specs.Uses.{uses, use_any, use_branch, uses_in_formula}
use Rattle.tg_model.specs.Walk.{walk, walk_all, walk_arms, walk_formula}
use Rattle.tg_model.proofs.Booleans.{or_left, or_right}

-- the second walk is within `m` binders more
module _ (b1 f1 b2 f2 b3 f3 : ℕ → ℕ → Tree) (m : ℕ)
    (bounds : (d e k : ℕ) → e ≡ d + m → walk b2 f2 e (b1 d k) ≡ b3 d k) (frees : (d e k : ℕ) → e ≡ d + m → walk b2 f2 e (f1 d k) ≡ f3 d k) where
  mutual
    pub composed : (t : Tree) (d e : ℕ) → e ≡ d + m → walk b2 f2 e (walk b1 f1 d t) ≡ walk b3 f3 d t
    composed (bound k) d e q = bounds d e k q
    composed (free n) d e q = frees d e n q
    composed (literal n) d e q = refl
    composed (truth c) d e q = refl
    composed (con c ts) d e q = ap (con c) (all_composed ts d e q)
    composed (call g ts) d e q = ap (call g) (all_composed ts d e q)
    composed (put ts) d e q = ap put (all_composed ts d e q)
    composed (choice ts) d e q = ap choice (all_composed ts d e q)
    composed (case c t arms) d e q = λ i. case c (composed t d e q i) (arms_composed arms d e q i)
    composed (bind t body) d e q = λ i. bind (composed t d e q i) (composed body (d + 1) (e + 1) (omega (arith, q)) i)
    composed (op o ts) d e q = ap (op o) (all_composed ts d e q)

    pub all_composed : (ts : Trees) (d e : ℕ) → e ≡ d + m → walk_all b2 f2 e (walk_all b1 f1 d ts) ≡ walk_all b3 f3 d ts
    all_composed tree.none d e q = refl
    all_composed (tree.more t ts) d e q = λ i. tree.more (composed t d e q i) (all_composed ts d e q i)

    arms_composed : (arms : Arms) (d e : ℕ) → e ≡ d + m → walk_arms b2 f2 e (walk_arms b1 f1 d arms) ≡ walk_arms b3 f3 d arms
    arms_composed tree.end d e q = refl
    arms_composed (tree.arm n body arms) d e q =
        λ i. tree.arm n (composed body (d + n) (e + n) (omega (arith, q)) i) (arms_composed arms d e q i)

  pub formula_composed : (f : Formula) (d e : ℕ) → e ≡ d + m → walk_formula b2 f2 e (walk_formula b1 f1 d f) ≡ walk_formula b3 f3 d f
  formula_composed (atom t) d e q = ap atom (composed t d e q)
  formula_composed (both f g) d e q = λ i. both (formula_composed f d e q i) (formula_composed g d e q i)
  formula_composed (implies f g) d e q = λ i. implies (formula_composed f d e q i) (formula_composed g d e q i)
  formula_composed (all t f) d e q = ap (all t) (formula_composed f (d + 1) (e + 1) (omega (arith, q)))
  formula_composed (some t f) d e q = ap (some t) (formula_composed f (d + 1) (e + 1) (omega (arith, q)))
  formula_composed (thyp f) d e q = ap thyp (formula_composed f d e q)
  formula_composed (tested ts) d e q = ap tested (all_composed ts d e q)
  formula_composed (deep k ts) d e q = ap (deep k) (all_composed ts d e q)

-- two walks that agree on bound variables, and on the free ones that stand there
module _ (b f g : ℕ → ℕ → Tree) where
  abbrev Agree : (ℕ → Bool) → Type 0
  Agree test = (d n : ℕ) → test n ≡ true → f d n ≡ g d n

  mutual
    pub agreeing : (t : Tree) (d : ℕ) → Agree (λ n. uses n t) → walk b f d t ≡ walk b g d t
    agreeing (bound k) d a = refl
    agreeing (free n) d a = a d n (eq-eqb n n refl)
    agreeing (literal n) d a = refl
    agreeing (truth c) d a = refl
    agreeing (con c ts) d a = ap (con c) (all_agreeing ts d a)
    agreeing (call h ts) d a = ap (call h) (all_agreeing ts d a)
    agreeing (put ts) d a = ap put (all_agreeing ts d a)
    agreeing (choice ts) d a = ap choice (all_agreeing ts d a)
    agreeing (case c t arms) d a =
        λ i. case c (agreeing t d (λ x n u. a x n (or_left (uses n t) (use_branch n arms) u)) i)
        (arms_agreeing arms d (λ x n u. a x n (or_right (uses n t) (use_branch n arms) u)) i)
    agreeing (bind t body) d a =
        λ i. bind (agreeing t d (λ x n u. a x n (or_left (uses n t) (uses n body) u)) i)
        (agreeing body (d + 1) (λ x n u. a x n (or_right (uses n t) (uses n body) u)) i)
    agreeing (op o ts) d a = ap (op o) (all_agreeing ts d a)

    pub all_agreeing : (ts : Trees) (d : ℕ) → Agree (λ n. use_any n ts) → walk_all b f d ts ≡ walk_all b g d ts
    all_agreeing tree.none d a = refl
    all_agreeing (tree.more t ts) d a =
        λ i. tree.more (agreeing t d (λ x n u. a x n (or_left (uses n t) (use_any n ts) u)) i)
        (all_agreeing ts d (λ x n u. a x n (or_right (uses n t) (use_any n ts) u)) i)

    arms_agreeing : (arms : Arms) (d : ℕ) → Agree (λ n. use_branch n arms) → walk_arms b f d arms ≡ walk_arms b g d arms
    arms_agreeing tree.end d a = refl
    arms_agreeing (tree.arm m body arms) d a =
        λ i. tree.arm m (agreeing body (d + m) (λ x n u. a x n (or_left (uses n body) (use_branch n arms) u)) i)
        (arms_agreeing arms d (λ x n u. a x n (or_right (uses n body) (use_branch n arms) u)) i)

  pub formula_agreeing : (h : Formula) (d : ℕ) → Agree (λ n. uses_in_formula n h) → walk_formula b f d h ≡ walk_formula b g d h
  formula_agreeing (atom t) d a = ap atom (agreeing t d a)
  formula_agreeing (both h k) d a =
      λ i. both (formula_agreeing h d (λ x n u. a x n (or_left (uses_in_formula n h) (uses_in_formula n k) u)) i)
      (formula_agreeing k d (λ x n u. a x n (or_right (uses_in_formula n h) (uses_in_formula n k) u)) i)
  formula_agreeing (implies h k) d a =
      λ i. implies (formula_agreeing h d (λ x n u. a x n (or_left (uses_in_formula n h) (uses_in_formula n k) u)) i)
      (formula_agreeing k d (λ x n u. a x n (or_right (uses_in_formula n h) (uses_in_formula n k) u)) i)
  formula_agreeing (all t h) d a = ap (all t) (formula_agreeing h (d + 1) a)
  formula_agreeing (some t h) d a = ap (some t) (formula_agreeing h (d + 1) a)
  formula_agreeing (thyp h) d a = ap thyp (formula_agreeing h d a)
  formula_agreeing (tested ts) d a = ap tested (all_agreeing ts d a)
  formula_agreeing (deep k ts) d a = ap (deep k) (all_agreeing ts d a)
