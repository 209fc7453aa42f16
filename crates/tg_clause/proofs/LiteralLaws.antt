-- Equality of literals, as it is compared.
use Rattle.std.proofs.Common.{◌≡◌, Bool, true, false, refl, ap, sym, ◌↔◌, ◌&&◌, not}
use Rattle.std.specs.Prelude.{IsTrue}
use Rattle.tg_model.specs.Tree.{Tree}
use Rattle.tg_model.specs.Equality.{same_tree}
use Rattle.tg_model.specs.Value.{same_truth}
use Rattle.tg_model.proofs.Equalities.{decides_trees}
use Rattle.tg_clause.specs.declared.literals.Literal.{Literal}
use Rattle.tg_clause.specs.Clauses.{same_literal}

not_true : (b : Bool) → (b ≡ true → ⊥) → b ≡ false
not_true true h = absurd (h refl)
not_true false h = refl

pub equal_is : (b : Bool) (t u : Tree) → (IsTrue b ↔ (t ≡ u)) → b ≡ same_tree t u
equal_is true t u h = sym ((decides_trees t u).1 (h.0 refl))
equal_is false t u h = sym (not_true _ (λ e. let k : false ≡ true = h.1 ((decides_trees t u).0 e) in cc k))

pub ruleset equal = (equal_is)

pub same_sign : (a b : Bool) → a ≡ b → true ≡ same_truth a b
same_sign true b e = e
same_sign false b e = ap not e

pub other_sign : (a b : Bool) → (a ≡ b → ⊥) → false ≡ same_truth a b
other_sign true b h = sym (not_true b (λ e. h (sym e)))
other_sign false true h = refl
other_sign false false h = absurd (h refl)

pub ruleset comparing = (same_sign, other_sign)

pub opposed : (a b : Bool) → (a ≡ b → ⊥) → true ≡ same_truth (not a) b
opposed true true h = absurd (h refl)
opposed true false h = refl
opposed false true h = refl
opposed false false h = absurd (h refl)

pub not_opposed : (a b : Bool) → a ≡ b → false ≡ same_truth (not a) b
not_opposed true b e = ap not e
not_opposed false b e = e

pub ruleset opposing = (opposed, not_opposed)

-- equal literals
same_truth_is : (a b : Bool) → same_truth a b ≡ true → a ≡ b
same_truth_is true b e = sym e
same_truth_is false true e = cc e
same_truth_is false false e = refl

same_truth_self : (a : Bool) → same_truth a a ≡ true
same_truth_self true = refl
same_truth_self false = refl

left_of : (a b : Bool) → (a && b) ≡ true → a ≡ true
left_of true b e = refl
left_of false b e = e

right_of : (a b : Bool) → (a && b) ≡ true → b ≡ true
right_of true b e = e
right_of false b e = cc e

pub same_is : (l m : Literal) → same_literal l m ≡ true → l ≡ m
same_is l m e =
    let s : l.positive ≡ m.positive = same_truth_is l.positive m.positive (left_of (same_truth l.positive m.positive) (same_tree l.atom m.atom) e) in
    let t : l.atom ≡ m.atom = (decides_trees l.atom m.atom).0 (right_of (same_truth l.positive m.positive) (same_tree l.atom m.atom) e) in
    λ i. record { positive = s i; atom = t i }

pub same_self : (l : Literal) → same_literal l l ≡ true
same_self l = λ i. same_truth_self l.positive i && (decides_trees l.atom l.atom).1 refl i
