-- What a step found tells the form of the term.
use Rattle.std.proofs.Common.{ℕ, ◌≡◌, Bool, true, false, Option, Some, None, refl, sym, ap}
use Rattle.tg_model.specs.Tree.{Tree, Trees, Arms, bound, free, literal, truth, con, call, put, choice, case, bind, op, none, more, one, two, Operator, operator_discrete}
use Rattle.tg_model.specs.Equality.{number_decided, same_tree}
use Rattle.tg_model.proofs.Equalities.{told, decides_trees}
use Rattle.tg_rows.specs.Parts.{only_if, and_then, same_operator, unary, binary, truth_of, number_of, choice_of, bind_of, case_of, made_of, called}

pub some_same : {A : Type 0} {x y : A} → Some x ≡ Some y → x ≡ y
some_same e = cc

pub some_if : {A : Type 0} (b : Bool) (x y : A) → only_if b x ≡ Some y → (b ≡ true) × (x ≡ y)
some_if true x y e = (refl, cc e)
some_if false x y e = cc e

pub then_some : {A B : Type 0} (o : Option A) (f : A → Option B) (y : B) → and_then o f ≡ Some y → (x : A) × (o ≡ Some x) × (f x ≡ Some y)
then_some None f y e = cc e
then_some (Some x) f y e = (x, refl, e)

pub operators_same : (o p : Operator) → same_operator o p ≡ true → o ≡ p
operators_same o p e = (told (operator_discrete number_decided o p)).0 e

pub trees_same : (t u : Tree) → same_tree t u ≡ true → t ≡ u
trees_same t u e = (decides_trees t u).0 e

pub unary_is : (o : Operator) (t a : Tree) → unary o t ≡ Some a → t ≡ op o (one a)
unary_is o (op p (more t none)) a e = let q = some_if (same_operator o p) t a e in λ i. op (sym (operators_same o p q.0) i) (one (q.1 i))
unary_is o (op p none) a e = cc e
unary_is o (op p (more t (more u ts))) a e = cc e
unary_is o (bound k) a e = cc e
unary_is o (free n) a e = cc e
unary_is o (literal n) a e = cc e
unary_is o (truth b) a e = cc e
unary_is o (con c ts) a e = cc e
unary_is o (call f ts) a e = cc e
unary_is o (put ts) a e = cc e
unary_is o (choice ts) a e = cc e
unary_is o (case d t arms) a e = cc e
unary_is o (bind t body) a e = cc e

pub binary_is : (o : Operator) (t : Tree) (p : Tree × Tree) → binary o t ≡ Some p → t ≡ op o (two p.0 p.1)
binary_is o (op q (more t (more u none))) p e =
    let r = some_if (same_operator o q) (t, u) p e in
    λ i. op (sym (operators_same o q r.0) i) (two (ap (λ (x : Tree × Tree). x.0) r.1 i) (ap (λ (x : Tree × Tree). x.1) r.1 i))
binary_is o (op q none) p e = cc e
binary_is o (op q (more t none)) p e = cc e
binary_is o (op q (more t (more u (more v ts)))) p e = cc e
binary_is o (bound k) p e = cc e
binary_is o (free n) p e = cc e
binary_is o (literal n) p e = cc e
binary_is o (truth b) p e = cc e
binary_is o (con c ts) p e = cc e
binary_is o (call f ts) p e = cc e
binary_is o (put ts) p e = cc e
binary_is o (choice ts) p e = cc e
binary_is o (case d t arms) p e = cc e
binary_is o (bind t body) p e = cc e

pub truth_is : (t : Tree) (b : Bool) → truth_of t ≡ Some b → t ≡ truth b
truth_is (truth c) b e = ap truth (some_same e)
truth_is t b e = cc e

pub number_is : (t : Tree) (n : ℕ) → number_of t ≡ Some n → t ≡ literal n
number_is (literal m) n e = ap literal (some_same e)
number_is t n e = cc e

pub choice_is : (t : Tree) (p : Tree × Tree × Tree) → choice_of t ≡ Some p → t ≡ choice (more p.0 (two p.1 p.2))
choice_is (choice (more c (more t (more u none)))) p e =
    let r : (c, t, u) ≡ p = some_same e in
    λ i. choice (more (ap (λ (x : Tree × Tree × Tree). x.0) r i) (two (ap (λ (x : Tree × Tree × Tree). x.1) r i) (ap (λ (x : Tree × Tree × Tree). x.2) r i)))
choice_is (choice none) p e = cc e
choice_is (choice (more c none)) p e = cc e
choice_is (choice (more c (more t none))) p e = cc e
choice_is (choice (more c (more t (more u (more v ts))))) p e = cc e
choice_is t p e = cc e

pub bind_is : (t : Tree) (p : Tree × Tree) → bind_of t ≡ Some p → t ≡ bind p.0 p.1
bind_is (bind t body) p e = let r : (t, body) ≡ p = some_same e in λ i. bind (ap (λ (x : Tree × Tree). x.0) r i) (ap (λ (x : Tree × Tree). x.1) r i)
bind_is t p e = cc e

pub case_is : (t : Tree) (p : ℕ × Tree × Arms) → case_of t ≡ Some p → t ≡ case p.0 p.1 p.2
case_is (case d t arms) p e =
    let r : (d, t, arms) ≡ p = some_same e in
    λ i. case (ap (λ (x : ℕ × Tree × Arms). x.0) r i) (ap (λ (x : ℕ × Tree × Arms). x.1) r i) (ap (λ (x : ℕ × Tree × Arms). x.2) r i)
case_is t p e = cc e

pub made_is : (t : Tree) (p : ℕ × Trees) → made_of t ≡ Some p → t ≡ con p.0 p.1
made_is (con c ts) p e = let r : (c, ts) ≡ p = some_same e in λ i. con (ap (λ (x : ℕ × Trees). x.0) r i) (ap (λ (x : ℕ × Trees). x.1) r i)
made_is t p e = cc e

pub called_is : (t : Tree) (p : ℕ × Trees) → called t ≡ Some p → t ≡ call p.0 p.1
called_is (call f ts) p e = let r : (f, ts) ≡ p = some_same e in λ i. call (ap (λ (x : ℕ × Trees). x.0) r i) (ap (λ (x : ℕ × Trees). x.1) r i)
called_is t p e = cc e
