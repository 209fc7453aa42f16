-- The limited value keeps numbers below 2^64, by induction on levels.
use Rattle.std.proofs.Common.{ℕ, zero, suc, ◌≡◌, ◌+◌, ◌-◌, ◌<◌, Bool, true, false, List, [], ◌∷◌, ◌++◌, reverse, length, take, drop, Option, Some, None, refl, subst, arith, All}
use Rattle.std.specs.Prelude.{not, ◌&&◌, ◌||◌, ◌*◌, cond, nat_eq, nat_lt, nat_le, slice_get, unwrap_or, if◌then◌else◌, IfSome}
use Rattle.std.specs.Option.{option_map_or}
use Rattle.std.proofs.lemmas.List.Sorted.{All-permutation, IsPermutation-reverse}
use Rattle.std.proofs.lemmas.List.Elements.{All-nil, All-cons, All-head, All-tail, All-append, All-take, All-drop}
use Rattle.tg_model.specs.Tree as tree
use Rattle.tg_model.specs.Tree.{Tree, Trees, Arms, bound, free, literal, truth, con, call, put, choice, case, bind, op, Operator, successor, negation, conjunction, disjunction, implication, equality, less, less_equal, plus, minus, times, divide, modulo, unnamed}
use Rattle.tg_model.specs.Value as value
use Rattle.tg_model.specs.Value.{Value, Values, number, boolean, made, values, elements, wrong}
use Rattle.tg_model.specs.Theory.{Theory, Function, Body, plain, recursive, numbered, first_constructor}
use Rattle.tg_model.specs.Denotation.{operated, opened, others, place_of, datatype_of_place, on_number, on_numbers, on_truth, on_truths, equality_of, quotient, remainder}
use Rattle.tg_eval.specs.Limited.{Outcome, Evaluator, limited, level_by, all_by, called_by, body_by, case_by, then_value, then_values, then_more, with_first, small_enough, below_bound, value_nodes, decided, chosen_by, branch_by, opened_by, connected_by, operated_by}
use Rattle.tg_eval.specs.Numbers.{IsSmall, AreSmall, LimitedIsSmall}

-- ---- values

abbrev EachSmall : List Value → Type 0
EachSmall = All IsSmall

small_values : (vs : List Value) → EachSmall vs → AreSmall (values vs)
small_values [] h = tt
small_values (v ∷ vs) h = (All-head IsSmall v vs h, small_values vs (All-tail IsSmall v vs h))

small_elements : (vs : Values) → AreSmall vs → EachSmall (elements vs)
small_elements value.none h = All-nil IsSmall
small_elements (value.more v vs) h = All-cons IsSmall v (elements vs) h.0 (small_elements vs h.1)

got_small : (vs : List Value) → EachSmall vs → (i : ℕ) → IsSmall (unwrap_or (slice_get vs i) wrong)
got_small [] h i = tt
got_small (v ∷ vs) h zero = All-head IsSmall v vs h
got_small (v ∷ vs) h (suc i) = got_small vs (All-tail IsSmall v vs h) i

pub place_small : (vs : List Value) → EachSmall vs → (n : ℕ) → IsSmall (unwrap_or (numbered vs n) wrong)
place_small vs h zero = tt
place_small vs h (suc n) = got_small vs h n

others_small : (vs : List Value) → EachSmall vs → (n : ℕ) → EachSmall (others vs n)
others_small vs h n = All-append IsSmall (take _ vs) (drop n vs) (All-take IsSmall _ vs h) (All-drop IsSmall n vs h)

reversed_small : (vs : List Value) → EachSmall vs → EachSmall (reverse vs)
reversed_small vs h = All-permutation IsSmall vs (reverse vs) (IsPermutation-reverse vs) h

opened_at : (b : Bool) (k : ℕ) (vs : Values) → AreSmall vs
    → IfSome (cond b (Some (k, elements vs)) None) (λ (p : ℕ × List Value). EachSmall p.1)
opened_at true k vs h = small_elements vs h
opened_at false k vs h = tt

opened_small : (d first : ℕ) (v : Value) → IsSmall v → IfSome (opened d first v) (λ p. EachSmall p.1)
opened_small zero first (number zero) h = All-nil IsSmall
opened_small zero first (number (suc n)) h = All-cons IsSmall (number n) [] (omega (arith, h)) (All-nil IsSmall)
opened_small zero first (boolean b) h = tt
opened_small zero first (made c vs) h = tt
opened_small (suc d) first (number n) h = tt
opened_small (suc d) first (boolean b) h = tt
opened_small (suc d) first (made c vs) h = opened_at (nat_le first c) (c - first) vs h

-- ---- operators: their values are numbers and truth values

abbrev IsPlain : Value → Type 0
IsPlain (number n) = Unit {0}
IsPlain (boolean b) = Unit {0}
IsPlain (made c vs) = ⊥

on_number_plain : (f : ℕ → Value) → ((m : ℕ) → IsPlain (f m)) → (vs : List Value) → IsPlain (on_number f vs)
on_number_plain f h [] = tt
on_number_plain f h (number m ∷ []) = h m
on_number_plain f h (boolean b ∷ []) = tt
on_number_plain f h (made c ws ∷ []) = tt
on_number_plain f h (number m ∷ v ∷ vs) = tt
on_number_plain f h (boolean b ∷ v ∷ vs) = tt
on_number_plain f h (made c ws ∷ v ∷ vs) = tt

on_numbers_plain : (f : ℕ → ℕ → Value) → ((m n : ℕ) → IsPlain (f m n)) → (vs : List Value) → IsPlain (on_numbers f vs)
on_numbers_plain f h [] = tt
on_numbers_plain f h (number m ∷ []) = tt
on_numbers_plain f h (boolean b ∷ vs) = tt
on_numbers_plain f h (made c ws ∷ vs) = tt
on_numbers_plain f h (number m ∷ number n ∷ []) = h m n
on_numbers_plain f h (number m ∷ number n ∷ v ∷ vs) = tt
on_numbers_plain f h (number m ∷ boolean b ∷ vs) = tt
on_numbers_plain f h (number m ∷ made c ws ∷ vs) = tt

on_truth_plain : (f : Bool → Bool) (vs : List Value) → IsPlain (on_truth f vs)
on_truth_plain f [] = tt
on_truth_plain f (number m ∷ vs) = tt
on_truth_plain f (boolean b ∷ []) = tt
on_truth_plain f (boolean b ∷ v ∷ vs) = tt
on_truth_plain f (made c ws ∷ vs) = tt

on_truths_small : (f : Bool → Bool → Bool) (vs : List Value) → IsSmall (on_truths f vs)
on_truths_small f [] = tt
on_truths_small f (number m ∷ vs) = tt
on_truths_small f (made c ws ∷ vs) = tt
on_truths_small f (boolean a ∷ []) = tt
on_truths_small f (boolean a ∷ number m ∷ vs) = tt
on_truths_small f (boolean a ∷ made c ws ∷ vs) = tt
on_truths_small f (boolean a ∷ boolean b ∷ []) = tt
on_truths_small f (boolean a ∷ boolean b ∷ v ∷ vs) = tt

on_truths_plain : (f : Bool → Bool → Bool) (vs : List Value) → IsPlain (on_truths f vs)
on_truths_plain f [] = tt
on_truths_plain f (number m ∷ vs) = tt
on_truths_plain f (made c ws ∷ vs) = tt
on_truths_plain f (boolean a ∷ []) = tt
on_truths_plain f (boolean a ∷ number m ∷ vs) = tt
on_truths_plain f (boolean a ∷ made c ws ∷ vs) = tt
on_truths_plain f (boolean a ∷ boolean b ∷ []) = tt
on_truths_plain f (boolean a ∷ boolean b ∷ v ∷ vs) = tt

equality_plain : (vs : List Value) → IsPlain (equality_of vs)
equality_plain [] = tt
equality_plain (v ∷ []) = tt
equality_plain (v ∷ w ∷ []) = tt
equality_plain (v ∷ w ∷ u ∷ vs) = tt

operated_plain : (o : Operator) (vs : List Value) → IsPlain (operated o vs)
operated_plain successor vs = on_number_plain (λ m. number (m + 1)) (λ m. tt) vs
operated_plain negation vs = on_truth_plain not vs
operated_plain conjunction vs = on_truths_plain (λ a b. a && b) vs
operated_plain disjunction vs = on_truths_plain (λ a b. a || b) vs
operated_plain implication vs = on_truths_plain (λ a b. not a || b) vs
operated_plain equality vs = equality_plain vs
operated_plain less vs = on_numbers_plain (λ m n. boolean (nat_lt m n)) (λ m n. tt) vs
operated_plain less_equal vs = on_numbers_plain (λ m n. boolean (nat_le m n)) (λ m n. tt) vs
operated_plain plus vs = on_numbers_plain (λ m n. number (m + n)) (λ m n. tt) vs
operated_plain minus vs = on_numbers_plain (λ m n. number (m - n)) (λ m n. tt) vs
operated_plain times vs = on_numbers_plain (λ m n. number (m * n)) (λ m n. tt) vs
operated_plain divide vs = on_numbers_plain (λ m n. number (quotient m n)) (λ m n. tt) vs
operated_plain modulo vs = on_numbers_plain (λ m n. number (remainder m n)) (λ m n. tt) vs
operated_plain (unnamed n) vs = tt

-- ---- outcomes

abbrev HasSmall : Outcome → Type 0
HasSmall None = Unit {0}
HasSmall (Some r) = IsSmall r.0

abbrev HaveSmall : Option (List Value × ℕ) → Type 0
HaveSmall None = Unit {0}
HaveSmall (Some r) = EachSmall r.0

then_small : (o : Outcome) (f : Value → ℕ → Outcome) → HasSmall o → ((v : Value) (rest : ℕ) → IsSmall v → HasSmall (f v rest))
    → HasSmall (then_value o f)
then_small None f h k = tt
then_small (Some r) f h k = k r.0 r.1 h

then_all_small : (o : Option (List Value × ℕ)) (f : List Value → ℕ → Outcome) → HaveSmall o
    → ((vs : List Value) (rest : ℕ) → EachSmall vs → HasSmall (f vs rest)) → HasSmall (then_values o f)
then_all_small None f h k = tt
then_all_small (Some r) f h k = k r.0 r.1 h

first_small : (v : Value) (q : Option (List Value × ℕ)) → IsSmall v → HaveSmall q → HaveSmall (with_first v q)
first_small v None h k = tt
first_small v (Some q) h k = All-cons IsSmall v q.0 h k

more_small : (o : Outcome) (f : ℕ → Option (List Value × ℕ)) → HasSmall o → ((rest : ℕ) → HaveSmall (f rest)) → HaveSmall (then_more o f)
more_small None f h k = tt
more_small (Some r) f h k = first_small r.0 (f r.1) h (k r.1)

small_where : (n : ℕ) → nat_lt n 18446744073709551616 ≡ true → n < 18446744073709551616
small_where n e = grind (arith, e)

-- a number within the bound, or nothing
number_small : (n left : ℕ) (b : Bool) → nat_lt n 18446744073709551616 ≡ b → HasSmall (if b then Some (number n, left) else None)
number_small n left true e = small_where n e
number_small n left false e = tt

bounded_small : (v : Value) (left : ℕ) → IsPlain v → HasSmall (below_bound v left)
bounded_small (number n) left h = number_small n left (nat_lt n 18446744073709551616) refl
bounded_small (boolean b) left h = tt
bounded_small (made c vs) left h = absurd h

made_small : (v : Value) (left : ℕ) (b : Bool) → IsSmall v → HasSmall (if b then Some (v, left) else None)
made_small v left true h = h
made_small v left false h = tt

-- ---- one level

module _ (th : Theory) (answer : Value) (small : IsSmall answer) where
  abbrev KeepsSmall : Evaluator → Type 0
  KeepsSmall ev = (t : Tree) (left : ℕ) (env loc : List Value) → EachSmall env → EachSmall loc → HasSmall (ev left env loc t)

  module _ (ev : Evaluator) (keeps : KeepsSmall ev) where
    all_small : (ts : Trees) (left : ℕ) (env loc : List Value) → EachSmall env → EachSmall loc
        → HaveSmall (all_by th answer ev left env loc ts)
    all_small tree.none left env loc e l = All-nil IsSmall
    all_small (tree.more t ts) left env loc e l =
        more_small (ev left env loc t) (λ rest. all_by th answer ev rest env loc ts) (keeps t left env loc e l)
        (λ rest. all_small ts rest env loc e l)

    found_small : (o : Option Tree) (left : ℕ) (env : List Value) → EachSmall env
        → HasSmall (option_map_or (λ t. ev left env [] t) o (Some (wrong, left)))
    found_small None left env e = tt
    found_small (Some t) left env e = keeps t left env [] e (All-nil IsSmall)

    case_small : (o : Option (ℕ × List Value)) (left : ℕ) (rest : List Value) (cases : List Tree) → EachSmall rest
        → IfSome o (λ p. EachSmall p.1)
        → HasSmall (case_by th answer ev left rest cases o)
    case_small None left rest cases r h = tt
    case_small (Some p) left rest cases r h = found_small (slice_get cases p.0) left (rest ++ p.1) (All-append IsSmall rest p.1 r h)

    body_small : (b : Body) (left : ℕ) (vs : List Value) (x : Function) → EachSmall vs → HasSmall (body_by th answer ev left vs x b)
    body_small (plain t) left vs x h = keeps t left vs [] h (All-nil IsSmall)
    body_small (recursive place cases) left vs x h =
        let d = datatype_of_place x place in
        case_small (opened d (first_constructor th.datatypes d) (place_of vs place)) left (others vs place) cases (others_small vs h place)
        (opened_small d (first_constructor th.datatypes d) (place_of vs place) (place_small vs h place))

    function_small : (o : Option Function) (left : ℕ) (vs : List Value) → EachSmall vs
        → HasSmall (option_map_or (λ (x : Function). body_by th answer ev left vs x x.body) o (Some (wrong, left)))
    function_small None left vs h = tt
    function_small (Some x) left vs h = body_small x.body left vs x h

    called_small : (left f : ℕ) (vs : List Value) → EachSmall vs → HasSmall (called_by th answer ev left f vs)
    called_small zero f vs h = tt
    called_small (suc left) f vs h = function_small (numbered th.functions f) left vs h

    chosen_small : (v : Value) (t u : Tree) (left : ℕ) (env loc : List Value) → EachSmall env → EachSmall loc
        → HasSmall (chosen_by th answer ev left env loc v t u)
    chosen_small (boolean true) t u left env loc e l = keeps t left env loc e l
    chosen_small (boolean false) t u left env loc e l = keeps u left env loc e l
    chosen_small (number n) t u left env loc e l = tt
    chosen_small (made c vs) t u left env loc e l = tt

    arm_small : (b : Bool) (left : ℕ) (env loc : List Value) (body : Tree) → EachSmall env → EachSmall loc
        → HasSmall (if b then ev left env loc body else Some (wrong, left))
    arm_small true left env loc body e l = keeps body left env loc e l
    arm_small false left env loc body e l = tt

    branch_small : (arms : Arms) (left : ℕ) (env loc : List Value) (k : ℕ) (vs : List Value) → EachSmall env → EachSmall loc → EachSmall vs
        → HasSmall (branch_by th answer ev left env loc k vs arms)
    branch_small tree.end left env loc k vs e l h = tt
    branch_small (tree.arm n body arms) left env loc zero vs e l h =
        arm_small (nat_eq n (length vs)) left env (reverse vs ++ loc) body e (All-append IsSmall (reverse vs) loc (reversed_small vs h) l)
    branch_small (tree.arm n body arms) left env loc (suc k) vs e l h = branch_small arms left env loc k vs e l h

    open_small : (o : Option (ℕ × List Value)) (arms : Arms) (left : ℕ) (env loc : List Value) → EachSmall env → EachSmall loc
        → IfSome o (λ p. EachSmall p.1) → HasSmall (opened_by th answer ev left env loc o arms)
    open_small None arms left env loc e l h = tt
    open_small (Some p) arms left env loc e l h = branch_small arms left env loc p.0 p.1 e l h

    operated_small : (o : Operator) (ts : Trees) (left : ℕ) (env loc : List Value) → EachSmall env → EachSmall loc
        → HasSmall (operated_by th answer ev left env loc o ts)
    operated_small o ts left env loc e l =
        then_all_small (all_by th answer ev left env loc ts) (λ vs rest. below_bound (operated o vs) rest) (all_small ts left env loc e l)
        (λ vs rest h. bounded_small (operated o vs) rest (operated_plain o vs))

    right_small : (b : Option Bool) (other : Outcome) (rest : ℕ) → HasSmall other
        → HasSmall (option_map_or (λ b. Some (boolean b, rest)) b other)
    right_small None other rest h = h
    right_small (Some b) other rest h = tt

    connected_small : (o : Operator) → ((vs : List Value) → IsSmall (operated o vs)) → (t u : Tree) (left : ℕ) (env loc : List Value)
        → EachSmall env → EachSmall loc → HasSmall (connected_by th answer ev left env loc o t u)
    connected_small o gives t u left env loc e l =
        then_small (ev left env loc t)
        (λ x rest. option_map_or (λ b. Some (boolean b, rest)) (decided o x)
        (then_value (ev rest env loc u) (λ y last. Some (operated o (x ∷ y ∷ []), last)))) (keeps t left env loc e l)
        (λ x rest h. right_small (decided o x) (then_value (ev rest env loc u) (λ y last. Some (operated o (x ∷ y ∷ []), last))) rest
        (then_small (ev rest env loc u) (λ y last. Some (operated o (x ∷ y ∷ []), last)) (keeps u rest env loc e l)
        (λ y last k. gives (x ∷ y ∷ []))))

    level_small : KeepsSmall (level_by th answer ev)
    level_small (bound k) left env loc e l = got_small loc l k
    level_small (free n) left env loc e l = place_small env e n
    level_small (literal n) left env loc e l = number_small n left (nat_lt n 18446744073709551616) refl
    level_small (truth b) left env loc e l = tt
    level_small (con c ts) left env loc e l =
        then_all_small (all_by th answer ev left env loc ts) (λ vs rest. small_enough (made c (values vs)) rest)
        (all_small ts left env loc e l)
        (λ vs rest h. made_small (made c (values vs)) rest (nat_le (value_nodes (made c (values vs))) 100000) (small_values vs h))
    level_small (call f ts) left env loc e l =
        then_all_small (all_by th answer ev left env loc ts) (λ vs rest. called_by th answer ev rest f vs) (all_small ts left env loc e l)
        (λ vs rest h. called_small rest f vs h)
    level_small (put ts) left env loc e l =
        then_all_small (all_by th answer ev left env loc ts) (λ vs rest. Some (answer, rest)) (all_small ts left env loc e l)
        (λ vs rest h. small)
    level_small (choice tree.none) left env loc e l = tt
    level_small (choice (tree.more c tree.none)) left env loc e l = tt
    level_small (choice (tree.more c (tree.more t tree.none))) left env loc e l = tt
    level_small (choice (tree.more c (tree.more t (tree.more u tree.none)))) left env loc e l =
        then_small (ev left env loc c) (λ v rest. chosen_by th answer ev rest env loc v t u) (keeps c left env loc e l)
        (λ v rest h. chosen_small v t u rest env loc e l)
    level_small (choice (tree.more c (tree.more t (tree.more u (tree.more w ts))))) left env loc e l = tt
    level_small (case d t arms) left env loc e l =
        then_small (ev left env loc t) (λ v rest. opened_by th answer ev rest env loc (opened d (first_constructor th.datatypes d) v) arms)
        (keeps t left env loc e l)
        (λ v rest h. open_small (opened d (first_constructor th.datatypes d) v) arms rest env loc e l
        (opened_small d (first_constructor th.datatypes d) v h))
    level_small (bind t body) left env loc e l =
        then_small (ev left env loc t) (λ v rest. ev rest env (v ∷ loc) body) (keeps t left env loc e l)
        (λ v rest h. keeps body rest env (v ∷ loc) e (All-cons IsSmall v loc h l))
    level_small (op conjunction tree.none) left env loc e l = operated_small conjunction tree.none left env loc e l
    level_small (op conjunction (tree.more t tree.none)) left env loc e l = operated_small conjunction (tree.one t) left env loc e l
    level_small (op conjunction (tree.more t (tree.more u tree.none))) left env loc e l =
        connected_small conjunction (λ vs. on_truths_small (λ a b. a && b) vs) t u left env loc e l
    level_small (op conjunction (tree.more t (tree.more u (tree.more w ts)))) left env loc e l =
        operated_small conjunction (tree.more t (tree.more u (tree.more w ts))) left env loc e l
    level_small (op disjunction tree.none) left env loc e l = operated_small disjunction tree.none left env loc e l
    level_small (op disjunction (tree.more t tree.none)) left env loc e l = operated_small disjunction (tree.one t) left env loc e l
    level_small (op disjunction (tree.more t (tree.more u tree.none))) left env loc e l =
        connected_small disjunction (λ vs. on_truths_small (λ a b. a || b) vs) t u left env loc e l
    level_small (op disjunction (tree.more t (tree.more u (tree.more w ts)))) left env loc e l =
        operated_small disjunction (tree.more t (tree.more u (tree.more w ts))) left env loc e l
    level_small (op implication tree.none) left env loc e l = operated_small implication tree.none left env loc e l
    level_small (op implication (tree.more t tree.none)) left env loc e l = operated_small implication (tree.one t) left env loc e l
    level_small (op implication (tree.more t (tree.more u tree.none))) left env loc e l =
        connected_small implication (λ vs. on_truths_small (λ a b. not a || b) vs) t u left env loc e l
    level_small (op implication (tree.more t (tree.more u (tree.more w ts)))) left env loc e l =
        operated_small implication (tree.more t (tree.more u (tree.more w ts))) left env loc e l
    level_small (op successor ts) left env loc e l = operated_small successor ts left env loc e l
    level_small (op negation ts) left env loc e l = operated_small negation ts left env loc e l
    level_small (op equality ts) left env loc e l = operated_small equality ts left env loc e l
    level_small (op less ts) left env loc e l = operated_small less ts left env loc e l
    level_small (op less_equal ts) left env loc e l = operated_small less_equal ts left env loc e l
    level_small (op plus ts) left env loc e l = operated_small plus ts left env loc e l
    level_small (op minus ts) left env loc e l = operated_small minus ts left env loc e l
    level_small (op times ts) left env loc e l = operated_small times ts left env loc e l
    level_small (op divide ts) left env loc e l = operated_small divide ts left env loc e l
    level_small (op modulo ts) left env loc e l = operated_small modulo ts left env loc e l
    level_small (op (unnamed n) ts) left env loc e l = operated_small (unnamed n) ts left env loc e l

  limited_keeps : (levels : ℕ) → KeepsSmall (limited th answer levels)
  unfolding limited
  limited_keeps zero t left env loc e l = tt
  limited_keeps (suc levels) t left env loc e l = level_small (limited th answer levels) (limited_keeps levels) t left env loc e l

pub limited_is_small : LimitedIsSmall
limited_is_small th answer small env loc e l levels left rest t v is =
    subst HasSmall is (limited_keeps th answer small levels t left env loc e l)
