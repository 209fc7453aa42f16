-- How a term is taken apart, by the number of its operator and of its operands.
use Rattle.std.proofs.Common.{ℕ, zero, suc, ◌≡◌, ◌≢◌, ◌<◌, ◌&&◌, ◌||◌, Bool, true, false, List, [], ◌∷◌, length, Some, refl, ap, sym, ◌∙◌, arith, subst, le-leb}
use Rattle.std.specs.Prelude.{slice_get, nat_le, if◌then◌else◌}
use Rattle.std.proofs.lemmas.Bool.{lt-leb}
use Rattle.tg_model.specs.Tree as tree
use Rattle.tg_model.specs.Tree.{Tree, Trees, op, one, two, trees, Operator, successor, negation, conjunction, disjunction, implication, equality, less, less_equal, plus, minus, times, divide, modulo, unnamed}
use Rattle.tg_term.specs.Measures.{height, heights}
use Rattle.tg_term.specs.Operators.{operator}
use Rattle.tg_term.specs.View.{operator-inj}
use Rattle.tg_clause.specs.Clauses.{Sides, sides, all_sides, of_operation, of_atom, of_conjunction, of_disjunction, of_implication, of_equality, turned, is_boolean_shaped, is_connective}
use Rattle.tg_clause.specs.Roots.{sides_by, IsBelow}
use Rattle.tg_clause.specs.declared.roots.Root.{Root}

-- another operator, or another number of operands
other_unary : (p : Operator) (t : Tree) (x : Sides) → p ≢ negation → of_operation p (one t) (x ∷ []) ≡ of_atom (op p (one t))
other_unary successor t x h = refl
other_unary negation t x h = absurd (h refl)
other_unary conjunction t x h = refl
other_unary disjunction t x h = refl
other_unary implication t x h = refl
other_unary equality t x h = refl
other_unary less t x h = refl
other_unary less_equal t x h = refl
other_unary plus t x h = refl
other_unary minus t x h = refl
other_unary times t x h = refl
other_unary divide t x h = refl
other_unary modulo t x h = refl
other_unary (unnamed n) t x h = refl

other_binary : (p : Operator) (t u : Tree) (x y : Sides) → p ≢ conjunction → p ≢ disjunction → p ≢ implication → p ≢ equality
    → of_operation p (two t u) (x ∷ y ∷ []) ≡ of_atom (op p (two t u))
other_binary successor t u x y h k l m = refl
other_binary negation t u x y h k l m = refl
other_binary conjunction t u x y h k l m = absurd (h refl)
other_binary disjunction t u x y h k l m = absurd (k refl)
other_binary implication t u x y h k l m = absurd (l refl)
other_binary equality t u x y h k l m = absurd (m refl)
other_binary less t u x y h k l m = refl
other_binary less_equal t u x y h k l m = refl
other_binary plus t u x y h k l m = refl
other_binary minus t u x y h k l m = refl
other_binary times t u x y h k l m = refl
other_binary divide t u x y h k l m = refl
other_binary modulo t u x y h k l m = refl
other_binary (unnamed n) t u x y h k l m = refl

no_operand : (p : Operator) (ts : Trees) → of_operation p ts [] ≡ of_atom (op p ts)
no_operand successor ts = refl
no_operand negation ts = refl
no_operand conjunction ts = refl
no_operand disjunction ts = refl
no_operand implication ts = refl
no_operand equality ts = refl
no_operand less ts = refl
no_operand less_equal ts = refl
no_operand plus ts = refl
no_operand minus ts = refl
no_operand times ts = refl
no_operand divide ts = refl
no_operand modulo ts = refl
no_operand (unnamed n) ts = refl

many_operands : (p : Operator) (ts : Trees) (x y z : Sides) (rest : List Sides) → of_operation p ts (x ∷ y ∷ z ∷ rest) ≡ of_atom (op p ts)
many_operands successor ts x y z rest = refl
many_operands negation ts x y z rest = refl
many_operands conjunction ts x y z rest = refl
many_operands disjunction ts x y z rest = refl
many_operands implication ts x y z rest = refl
many_operands equality ts x y z rest = refl
many_operands less ts x y z rest = refl
many_operands less_equal ts x y z rest = refl
many_operands plus ts x y z rest = refl
many_operands minus ts x y z rest = refl
many_operands times ts x y z rest = refl
many_operands divide ts x y z rest = refl
many_operands modulo ts x y z rest = refl
many_operands (unnamed n) ts x y z rest = refl

pub one_operand : (o : ℕ) (ts : List Tree) (a : Tree) (r : Root) → length ts ≡ 1 → slice_get ts 0 ≡ Some a
    → of_operation (operator o) (one a) (sides a ∷ []) ≡ sides_by (op (operator o) (one a)) r
    → of_operation (operator o) (trees ts) (all_sides (trees ts)) ≡ sides_by (op (operator o) (trees ts)) r
one_operand o [] a r n e h = cc e
one_operand o (t ∷ []) a r n e h =
    let p : a ≡ t = cc e in
    subst (λ (x : Tree). of_operation (operator o) (one x) (sides x ∷ []) ≡ sides_by (op (operator o) (one x)) r) p h
one_operand o (t ∷ u ∷ ts) a r n e h = absurd (omega (arith, n))

pub two_operands : (o : ℕ) (ts : List Tree) (a b : Tree) (r : Root) → length ts ≡ 2 → slice_get ts 0 ≡ Some a → slice_get ts 1 ≡ Some b
    → of_operation (operator o) (two a b) (sides a ∷ sides b ∷ []) ≡ sides_by (op (operator o) (two a b)) r
    → of_operation (operator o) (trees ts) (all_sides (trees ts)) ≡ sides_by (op (operator o) (trees ts)) r
two_operands o [] a b r n e f h = cc e
two_operands o (t ∷ []) a b r n e f h = cc f
two_operands o (t ∷ u ∷ []) a b r n e f h =
    let p : a ≡ t = cc e in let q : b ≡ u = cc f in
    subst (λ (y : Tree). of_operation (operator o) (two t y) (sides t ∷ sides y ∷ []) ≡ sides_by (op (operator o) (two t y)) r) q
    (subst (λ (x : Tree). of_operation (operator o) (two x b) (sides x ∷ sides b ∷ []) ≡ sides_by (op (operator o) (two x b)) r) p h)
two_operands o (t ∷ u ∷ v ∷ ts) a b r n e f h = absurd (omega (arith, n))

pub other_operands : (o : ℕ) (ts : List Tree) → ¬ (length ts ≡ 1) → ¬ (length ts ≡ 2)
    → of_operation (operator o) (trees ts) (all_sides (trees ts)) ≡ of_atom (op (operator o) (trees ts))
other_operands o [] h k = no_operand (operator o) tree.none
other_operands o (t ∷ []) h k = absurd (h refl)
other_operands o (t ∷ u ∷ []) h k = absurd (k refl)
other_operands o (t ∷ u ∷ v ∷ ts) h k = many_operands (operator o) (trees (t ∷ u ∷ v ∷ ts)) (sides t) (sides u) (sides v) (all_sides (trees ts))

pub below_one : (ts : List Tree) (a : Tree) (r : Root) → length ts ≡ 1 → slice_get ts 0 ≡ Some a → IsBelow (heights (one a)) r → IsBelow (heights (trees ts)) r
below_one [] a r n e h = cc e
below_one (t ∷ []) a r n e h = let p : a ≡ t = cc e in subst (λ (x : Tree). IsBelow (heights (one x)) r) p h
below_one (t ∷ u ∷ ts) a r n e h = absurd (omega (arith, n))

pub below_two : (ts : List Tree) (a b : Tree) (r : Root) → length ts ≡ 2 → slice_get ts 0 ≡ Some a → slice_get ts 1 ≡ Some b → IsBelow (heights (two a b)) r
    → IsBelow (heights (trees ts)) r
below_two [] a b r n e f h = cc e
below_two (t ∷ []) a b r n e f h = cc f
below_two (t ∷ u ∷ []) a b r n e f h =
    let p : a ≡ t = cc e in let q : b ≡ u = cc f in
    subst (λ (y : Tree). IsBelow (heights (two t y)) r) q (subst (λ (x : Tree). IsBelow (heights (two x b)) r) p h)
below_two (t ∷ u ∷ v ∷ ts) a b r n e f h = absurd (omega (arith, n))

pub ruleset operations = (one_operand, two_operands, other_operands, below_one, below_two)

-- by the operator's number
pub negated : (o : ℕ) (a : Tree) → o ≡ 2 → of_operation (operator o) (one a) (sides a ∷ []) ≡ turned (sides a)
negated o a e = ap (λ n. of_operation (operator n) (one a) (sides a ∷ [])) e

pub not_negated : (o : ℕ) (a : Tree) → o ≢ 2 → of_operation (operator o) (one a) (sides a ∷ []) ≡ of_atom (op (operator o) (one a))
not_negated o a h = other_unary (operator o) a (sides a) (λ e. h (operator-inj o 2 e))

pub below_itself : (a : Tree) → height a < heights (one a)
below_itself a = omega arith

pub ruleset unaries = (negated, not_negated, below_itself)

pub conjoined : (o : ℕ) (a b : Tree) → o ≡ 3 → of_operation (operator o) (two a b) (sides a ∷ sides b ∷ []) ≡ of_conjunction (sides a) (sides b)
conjoined o a b e = ap (λ n. of_operation (operator n) (two a b) (sides a ∷ sides b ∷ [])) e

pub disjoined : (o : ℕ) (a b : Tree) → o ≡ 4 → of_operation (operator o) (two a b) (sides a ∷ sides b ∷ []) ≡ of_disjunction (sides a) (sides b)
disjoined o a b e = ap (λ n. of_operation (operator n) (two a b) (sides a ∷ sides b ∷ [])) e

pub implied : (o : ℕ) (a b : Tree) → o ≡ 5 → of_operation (operator o) (two a b) (sides a ∷ sides b ∷ []) ≡ of_implication (sides a) (sides b)
implied o a b e = ap (λ n. of_operation (operator n) (two a b) (sides a ∷ sides b ∷ [])) e

one_shaped : (a b : Bool) → (a || b) ≡ true → (a || (b || false)) ≡ true
one_shaped true b h = refl
one_shaped false true h = refl
one_shaped false false h = h

none_shaped : (a b : Bool) → (a || b) ≡ false → (a || (b || false)) ≡ false
none_shaped true b h = h
none_shaped false true h = h
none_shaped false false h = refl

pub equated : (o : ℕ) (a b : Tree) → o ≡ 6 → (is_boolean_shaped a || is_boolean_shaped b) ≡ true
    → of_operation (operator o) (two a b) (sides a ∷ sides b ∷ []) ≡ of_equality (sides a) (sides b)
equated o a b e h =
    ap (λ n. of_operation (operator n) (two a b) (sides a ∷ sides b ∷ [])) e
    ∙ ap (λ c. if c then of_equality (sides a) (sides b) else of_atom (op equality (two a b))) (one_shaped (is_boolean_shaped a) (is_boolean_shaped b) h)

pub unequated : (o : ℕ) (a b : Tree) → o ≡ 6 → (is_boolean_shaped a || is_boolean_shaped b) ≡ false
    → of_operation (operator o) (two a b) (sides a ∷ sides b ∷ []) ≡ of_atom (op (operator o) (two a b))
unequated o a b e h =
    ap (λ n. of_operation (operator n) (two a b) (sides a ∷ sides b ∷ [])) e
    ∙ ap (λ c. if c then of_equality (sides a) (sides b) else of_atom (op equality (two a b))) (none_shaped (is_boolean_shaped a) (is_boolean_shaped b) h)
    ∙ ap (λ n. of_atom (op (operator n) (two a b))) (sym e)

pub unconnected : (o : ℕ) (a b : Tree) → o ≢ 3 → o ≢ 4 → o ≢ 5 → o ≢ 6
    → of_operation (operator o) (two a b) (sides a ∷ sides b ∷ []) ≡ of_atom (op (operator o) (two a b))
unconnected o a b h k l m =
    other_binary (operator o) a b (sides a) (sides b)
    (λ e. h (operator-inj o 3 e)) (λ e. k (operator-inj o 4 e)) (λ e. l (operator-inj o 5 e)) (λ e. m (operator-inj o 6 e))

pub below_first : (a b : Tree) → height a < heights (two a b)
below_first a b = omega arith

pub below_second : (a b : Tree) → height b < heights (two a b)
below_second a b = omega arith

pub ruleset binaries = (conjoined, disjoined, implied, equated, unequated, unconnected, below_first, below_second)

pub connective_between : (o : ℕ) → (nat_le 2 o && nat_le o 8) ≡ is_connective (operator o)
connective_between zero = refl
connective_between (suc zero) = refl
connective_between (suc (suc zero)) = refl
connective_between (suc (suc (suc zero))) = refl
connective_between (suc (suc (suc (suc zero)))) = refl
connective_between (suc (suc (suc (suc (suc zero))))) = refl
connective_between (suc (suc (suc (suc (suc (suc zero)))))) = refl
connective_between (suc (suc (suc (suc (suc (suc (suc zero))))))) = refl
connective_between (suc (suc (suc (suc (suc (suc (suc (suc zero)))))))) = refl
connective_between (suc (suc (suc (suc (suc (suc (suc (suc (suc zero))))))))) = refl
connective_between (suc (suc (suc (suc (suc (suc (suc (suc (suc (suc zero)))))))))) = refl
connective_between (suc (suc (suc (suc (suc (suc (suc (suc (suc (suc (suc zero))))))))))) = refl
connective_between (suc (suc (suc (suc (suc (suc (suc (suc (suc (suc (suc (suc zero)))))))))))) = refl
connective_between (suc (suc (suc (suc (suc (suc (suc (suc (suc (suc (suc (suc (suc zero))))))))))))) = refl
connective_between (suc (suc (suc (suc (suc (suc (suc (suc (suc (suc (suc (suc (suc (suc n)))))))))))))) =
    λ i. le-leb 2 (suc (suc (suc (suc (suc (suc (suc (suc (suc (suc (suc (suc (suc (suc n)))))))))))))) (omega arith) i && lt-leb (suc (suc (suc (suc (suc (suc (suc (suc (suc (suc (suc (suc (suc (suc n)))))))))))))) 8 (omega arith) i

pub ruleset shapes = (connective_between)
