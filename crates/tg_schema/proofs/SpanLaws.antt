-- Which rows may apply to a term, by its root.
use Rattle.std.proofs.Common.{ℕ, zero, suc, ◌≡◌, ◌<◌, ◌≤◌, Bool, true, false, ◌&&◌, List, [], ◌∷◌, take, drop, Option, Some, None, refl, arith}
use Rattle.std.specs.Prelude.{slice_get}
use Rattle.tg_model.specs.Theory.{Theory}
use Rattle.tg_model.specs.Tree.{Tree, Trees, Arms, bound, free, literal, truth, con, call, put, choice, case, bind, op, none, more, successor, negation, conjunction, disjunction, implication, equality, less, less_equal, plus, minus, times, divide, modulo}
use Rattle.tg_rows.specs.Parts.{and_then}
use Rattle.tg_rows.specs.Rows.{Row, rows, row}
use Rattle.tg_schema.specs.Spans.{IsSpan}

abbrev is_none : Option Tree → Bool
is_none None = true
is_none (Some t) = false

-- none of the rows applies
abbrev all_none : List Row → Tree → Bool
all_none [] t = true
all_none (f ∷ fs) t = is_none (f t) && all_none fs t

both : (o : Option Tree) (b : Bool) → is_none o && b ≡ true → (o ≡ None) × (b ≡ true)
both None b e = (refl, e)
both (Some t) b e = cc e

abbrev at : List Row → ℕ → Tree → Option Tree
at fs k t = and_then (slice_get fs k) (λ (f : Row). f t)

none_before : (fs : List Row) (n k : ℕ) (t : Tree) → all_none (take n fs) t ≡ true → k < n → at fs k t ≡ None
none_before [] n k t e h = refl
none_before (f ∷ fs) zero k t e h = absurd (omega (arith, h))
none_before (f ∷ fs) (suc n) zero t e h = (both (f t) (all_none (take n fs) t) e).0
none_before (f ∷ fs) (suc n) (suc k) t e h = none_before fs n k t (both (f t) (all_none (take n fs) t) e).1 (omega (arith, h))

none_after : (fs : List Row) (n k : ℕ) (t : Tree) → all_none (drop n fs) t ≡ true → n ≤ k → at fs k t ≡ None
none_after [] n k t e h = refl
none_after (f ∷ fs) zero zero t e h = (both (f t) (all_none fs t) e).0
none_after (f ∷ fs) zero (suc k) t e h = none_after fs zero k t (both (f t) (all_none fs t) e).1 (omega arith)
none_after (f ∷ fs) (suc n) zero t e h = absurd (omega (arith, h))
none_after (f ∷ fs) (suc n) (suc k) t e h = none_after fs n k t e (omega (arith, h))

-- none applies but those that stand after the first `m` and among the first `n`
abbrev Outside : Theory → Tree → ℕ → ℕ → Type 0
Outside th t m n = (all_none (take m (rows th)) t ≡ true) × (all_none (drop n (rows th)) t ≡ true)

span_is : (th : Theory) (t : Tree) (m n : ℕ) → Outside th t m n → IsSpan th t (suc m) (suc n)
span_is th t m n h = record { below = below; above = above }
  where
    below : (k : ℕ) → k < suc m → row th k t ≡ None
    below zero lt = refl
    below (suc k) lt = none_before (rows th) m k t h.0 (omega (arith, lt))

    above : (k : ℕ) → suc n ≤ k → row th k t ≡ None
    above zero le = absurd (omega (arith, le))
    above (suc k) le = none_after (rows th) n k t h.1 (omega (arith, le))

pub choice_span : (th : Theory) (ts : Trees) → IsSpan th (choice ts) 19 22
choice_span th ts = span_is th (choice ts) 18 21 (refl, refl)

pub bind_span : (th : Theory) (t u : Tree) → IsSpan th (bind t u) 22 23
bind_span th t u = span_is th (bind t u) 21 22 (refl, refl)

pub case_span : (th : Theory) (d : ℕ) (t : Tree) (arms : Arms) → IsSpan th (case d t arms) 23 26
case_span th d t arms = span_is th (case d t arms) 22 25 (refl, refl)

pub call_span : (th : Theory) (f : ℕ) (ts : Trees) → IsSpan th (call f ts) 26 30
call_span th f ts = span_is th (call f ts) 25 29 (refl, refl)

pub bound_span : (th : Theory) (k : ℕ) → IsSpan th (bound k) 1 1
bound_span th k = span_is th (bound k) 0 0 (refl, refl)

pub free_span : (th : Theory) (k : ℕ) → IsSpan th (free k) 1 1
free_span th k = span_is th (free k) 0 0 (refl, refl)

pub literal_span : (th : Theory) (n : ℕ) → IsSpan th (literal n) 1 1
literal_span th n = span_is th (literal n) 0 0 (refl, refl)

pub truth_span : (th : Theory) (b : Bool) → IsSpan th (truth b) 1 1
truth_span th b = span_is th (truth b) 0 0 (refl, refl)

pub con_span : (th : Theory) (c : ℕ) (ts : Trees) → IsSpan th (con c ts) 1 1
con_span th c ts = span_is th (con c ts) 0 0 (refl, refl)

pub put_span : (th : Theory) (ts : Trees) → IsSpan th (put ts) 1 1
put_span th ts = span_is th (put ts) 0 0 (refl, refl)

outside_negation : (th : Theory) (ts : Trees) → Outside th (op negation ts) 0 3
outside_negation th none = (refl, refl)
outside_negation th (more t none) = (refl, refl)
outside_negation th (more t (more u none)) = (refl, refl)
outside_negation th (more t (more u (more v ts))) = (refl, refl)

pub negation_span : (th : Theory) (ts : Trees) → IsSpan th (op negation ts) 1 4
negation_span th ts = span_is th (op negation ts) 0 3 (outside_negation th ts)

outside_conjunction : (th : Theory) (ts : Trees) → Outside th (op conjunction ts) 3 8
outside_conjunction th none = (refl, refl)
outside_conjunction th (more t none) = (refl, refl)
outside_conjunction th (more t (more u none)) = (refl, refl)
outside_conjunction th (more t (more u (more v ts))) = (refl, refl)

pub conjunction_span : (th : Theory) (ts : Trees) → IsSpan th (op conjunction ts) 4 9
conjunction_span th ts = span_is th (op conjunction ts) 3 8 (outside_conjunction th ts)

outside_disjunction : (th : Theory) (ts : Trees) → Outside th (op disjunction ts) 8 13
outside_disjunction th none = (refl, refl)
outside_disjunction th (more t none) = (refl, refl)
outside_disjunction th (more t (more u none)) = (refl, refl)
outside_disjunction th (more t (more u (more v ts))) = (refl, refl)

pub disjunction_span : (th : Theory) (ts : Trees) → IsSpan th (op disjunction ts) 9 14
disjunction_span th ts = span_is th (op disjunction ts) 8 13 (outside_disjunction th ts)

outside_implication : (th : Theory) (ts : Trees) → Outside th (op implication ts) 13 18
outside_implication th none = (refl, refl)
outside_implication th (more t none) = (refl, refl)
outside_implication th (more t (more u none)) = (refl, refl)
outside_implication th (more t (more u (more v ts))) = (refl, refl)

pub implication_span : (th : Theory) (ts : Trees) → IsSpan th (op implication ts) 14 19
implication_span th ts = span_is th (op implication ts) 13 18 (outside_implication th ts)

outside_equality : (th : Theory) (ts : Trees) → Outside th (op equality ts) 29 38
outside_equality th none = (refl, refl)
outside_equality th (more t none) = (refl, refl)
outside_equality th (more t (more u none)) = (refl, refl)
outside_equality th (more t (more u (more v ts))) = (refl, refl)

pub equality_span : (th : Theory) (ts : Trees) → IsSpan th (op equality ts) 30 39
equality_span th ts = span_is th (op equality ts) 29 38 (outside_equality th ts)

outside_successor : (th : Theory) (ts : Trees) → Outside th (op successor ts) 38 39
outside_successor th none = (refl, refl)
outside_successor th (more t none) = (refl, refl)
outside_successor th (more t (more u none)) = (refl, refl)
outside_successor th (more t (more u (more v ts))) = (refl, refl)

pub successor_span : (th : Theory) (ts : Trees) → IsSpan th (op successor ts) 39 40
successor_span th ts = span_is th (op successor ts) 38 39 (outside_successor th ts)

outside_plus : (th : Theory) (ts : Trees) → Outside th (op plus ts) 39 40
outside_plus th none = (refl, refl)
outside_plus th (more t none) = (refl, refl)
outside_plus th (more t (more u none)) = (refl, refl)
outside_plus th (more t (more u (more v ts))) = (refl, refl)

pub plus_span : (th : Theory) (ts : Trees) → IsSpan th (op plus ts) 40 41
plus_span th ts = span_is th (op plus ts) 39 40 (outside_plus th ts)

outside_minus : (th : Theory) (ts : Trees) → Outside th (op minus ts) 40 41
outside_minus th none = (refl, refl)
outside_minus th (more t none) = (refl, refl)
outside_minus th (more t (more u none)) = (refl, refl)
outside_minus th (more t (more u (more v ts))) = (refl, refl)

pub minus_span : (th : Theory) (ts : Trees) → IsSpan th (op minus ts) 41 42
minus_span th ts = span_is th (op minus ts) 40 41 (outside_minus th ts)

outside_times : (th : Theory) (ts : Trees) → Outside th (op times ts) 41 42
outside_times th none = (refl, refl)
outside_times th (more t none) = (refl, refl)
outside_times th (more t (more u none)) = (refl, refl)
outside_times th (more t (more u (more v ts))) = (refl, refl)

pub times_span : (th : Theory) (ts : Trees) → IsSpan th (op times ts) 42 43
times_span th ts = span_is th (op times ts) 41 42 (outside_times th ts)

outside_divide : (th : Theory) (ts : Trees) → Outside th (op divide ts) 42 43
outside_divide th none = (refl, refl)
outside_divide th (more t none) = (refl, refl)
outside_divide th (more t (more u none)) = (refl, refl)
outside_divide th (more t (more u (more v ts))) = (refl, refl)

pub divide_span : (th : Theory) (ts : Trees) → IsSpan th (op divide ts) 43 44
divide_span th ts = span_is th (op divide ts) 42 43 (outside_divide th ts)

outside_modulo : (th : Theory) (ts : Trees) → Outside th (op modulo ts) 43 44
outside_modulo th none = (refl, refl)
outside_modulo th (more t none) = (refl, refl)
outside_modulo th (more t (more u none)) = (refl, refl)
outside_modulo th (more t (more u (more v ts))) = (refl, refl)

pub modulo_span : (th : Theory) (ts : Trees) → IsSpan th (op modulo ts) 44 45
modulo_span th ts = span_is th (op modulo ts) 43 44 (outside_modulo th ts)

outside_less : (th : Theory) (ts : Trees) → Outside th (op less ts) 44 46
outside_less th none = (refl, refl)
outside_less th (more t none) = (refl, refl)
outside_less th (more t (more u none)) = (refl, refl)
outside_less th (more t (more u (more v ts))) = (refl, refl)

pub less_span : (th : Theory) (ts : Trees) → IsSpan th (op less ts) 45 47
less_span th ts = span_is th (op less ts) 44 46 (outside_less th ts)

outside_less_equal : (th : Theory) (ts : Trees) → Outside th (op less_equal ts) 46 48
outside_less_equal th none = (refl, refl)
outside_less_equal th (more t none) = (refl, refl)
outside_less_equal th (more t (more u none)) = (refl, refl)
outside_less_equal th (more t (more u (more v ts))) = (refl, refl)

pub less_equal_span : (th : Theory) (ts : Trees) → IsSpan th (op less_equal ts) 47 49
less_equal_span th ts = span_is th (op less_equal ts) 46 48 (outside_less_equal th ts)

pub any_span : (th : Theory) (t : Tree) → IsSpan th t 1 49
any_span th t = span_is th t 0 48 (refl, refl)

pub ruleset nodes = (choice_span, bind_span, case_span, call_span, bound_span, free_span, literal_span, truth_span, con_span, put_span)

pub ruleset operators = (negation_span, conjunction_span, disjunction_span, implication_span, equality_span, successor_span, plus_span, minus_span, times_span, divide_span, modulo_span, less_span, less_equal_span, any_span)
