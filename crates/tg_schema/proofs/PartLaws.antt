-- What a term has at its root, by the numbers of operators.
use Rattle.std.proofs.Common.{ℕ, ◌≡◌, ◌≢◌, Bool, true, false, List, [], ◌∷◌, Some, None, refl, ap, sym, ◌∙◌, ◌↔◌, arith, length}
use Rattle.std.specs.Prelude.{IsTrue, slice_get}
use Rattle.tg_model.specs.Tree.{Tree, Trees, Operator, op, choice, none, more, trees, operator_discrete}
use Rattle.tg_model.specs.Equality.{number_decided, same_tree}
use Rattle.tg_model.proofs.Equalities.{told, decides_trees}
use Rattle.tg_rows.specs.Parts.{only_if, same_operator, unary, binary, choice_of}
use Rattle.tg_term.specs.Operators.{operator}
use Rattle.tg_term.specs.View.{operator-inj}

decides : (o p : ℕ) → (same_operator (operator o) (operator p) ≡ true) ↔ (operator o ≡ operator p)
decides o p = told (operator_discrete number_decided (operator o) (operator p))

not_true : (b : Bool) → (b ≡ true → ⊥) → b ≡ false
not_true true h = absurd (h refl)
not_true false h = refl

pub other_numbers : (o p : ℕ) → p ≢ o → same_operator (operator o) (operator p) ≡ false
other_numbers o p h = not_true _ (λ e. h (sym (operator-inj o p ((decides o p).0 e))))

-- the node of an operator of the same number
pub here : {A : Type 0} (o p : ℕ) (f : Operator → Tree → A) (x : A) (ts : Trees) → p ≡ o → ((o : Operator) → x ≡ f o (op o ts)) → x ≡ f (operator o) (op (operator p) ts)
here o p f x ts e h = h (operator o) ∙ ap (λ n. f (operator o) (op (operator n) ts)) (sym e)

pub unary_elsewhere : (o p : ℕ) (ts : Trees) → p ≢ o → None ≡ unary (operator o) (op (operator p) ts)
unary_elsewhere o p none h = refl
unary_elsewhere o p (more t none) h = sym (ap (λ b. only_if b t) (other_numbers o p h))
unary_elsewhere o p (more t (more u ts)) h = refl

pub binary_elsewhere : (o p : ℕ) (ts : Trees) → p ≢ o → None ≡ binary (operator o) (op (operator p) ts)
binary_elsewhere o p none h = refl
binary_elsewhere o p (more t none) h = refl
binary_elsewhere o p (more t (more u none)) h = sym (ap (λ b. only_if b (t, u)) (other_numbers o p h))
binary_elsewhere o p (more t (more u (more v ts))) h = refl

pub ruleset parts = (unary_elsewhere, binary_elsewhere, here)

same_itself : (o : Operator) → same_operator o o ≡ true
same_itself o = (told (operator_discrete number_decided o o)).1 refl

pub one_of : (o : Operator) (ts : List Tree) (a : Tree) → length ts ≡ 1 → slice_get ts 0 ≡ Some a → Some a ≡ unary o (op o (trees ts))
one_of o [] a n e = cc e
one_of o (t ∷ []) a n e = sym e ∙ sym (ap (λ b. only_if b t) (same_itself o))
one_of o (t ∷ u ∷ ts) a n e = absurd (omega (arith, n))

pub not_one_of : (o : Operator) (ts : List Tree) → ¬ (length ts ≡ 1) → None ≡ unary o (op o (trees ts))
not_one_of o [] h = refl
not_one_of o (t ∷ []) h = absurd (h refl)
not_one_of o (t ∷ u ∷ ts) h = refl

pub two_of : (o : Operator) (ts : List Tree) (a b : Tree) → length ts ≡ 2 → slice_get ts 0 ≡ Some a → slice_get ts 1 ≡ Some b → Some (a, b) ≡ binary o (op o (trees ts))
two_of o [] a b n e f = cc e
two_of o (t ∷ []) a b n e f = cc f
two_of o (t ∷ u ∷ []) a b n e f =
    let p : t ≡ a = cc e in let q : u ≡ b = cc f in
    (λ i. Some (sym p i, sym q i)) ∙ sym (ap (λ b. only_if b (t, u)) (same_itself o))
two_of o (t ∷ u ∷ v ∷ ts) a b n e f = absurd (omega (arith, n))

pub not_two_of : (o : Operator) (ts : List Tree) → ¬ (length ts ≡ 2) → None ≡ binary o (op o (trees ts))
not_two_of o [] h = refl
not_two_of o (t ∷ []) h = refl
not_two_of o (t ∷ u ∷ []) h = absurd (h refl)
not_two_of o (t ∷ u ∷ v ∷ ts) h = refl

pub three_of : (ts : List Tree) (c a b : Tree) → length ts ≡ 3 → slice_get ts 0 ≡ Some c → slice_get ts 1 ≡ Some a → slice_get ts 2 ≡ Some b
    → Some (c, a, b) ≡ choice_of (choice (trees ts))
three_of [] c a b n e f g = cc e
three_of (t ∷ []) c a b n e f g = cc f
three_of (t ∷ u ∷ []) c a b n e f g = cc g
three_of (t ∷ u ∷ v ∷ []) c a b n e f g =
    let p : t ≡ c = cc e in let q : u ≡ a = cc f in let r : v ≡ b = cc g in
    λ i. Some (sym p i, sym q i, sym r i)
three_of (t ∷ u ∷ v ∷ w ∷ ts) c a b n e f g = absurd (omega (arith, n))

pub not_three_of : (ts : List Tree) → ¬ (length ts ≡ 3) → None ≡ choice_of (choice (trees ts))
not_three_of [] h = refl
not_three_of (t ∷ []) h = refl
not_three_of (t ∷ u ∷ []) h = refl
not_three_of (t ∷ u ∷ v ∷ []) h = absurd (h refl)
not_three_of (t ∷ u ∷ v ∷ w ∷ ts) h = refl

pub ruleset lists = (one_of, not_one_of, two_of, not_two_of, three_of, not_three_of)

-- equal terms, as they are compared
pub equal_is : (b : Bool) (t u : Tree) → (IsTrue b ↔ (t ≡ u)) → b ≡ same_tree t u
equal_is true t u h = sym ((decides_trees t u).1 (h.0 refl))
equal_is false t u h = sym (not_true _ (λ e. let k : false ≡ true = h.1 ((decides_trees t u).0 e) in cc k))

pub ruleset equal = (equal_is)
