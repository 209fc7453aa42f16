-- The steps of the definition, as the code takes them.
use Rattle.std.proofs.Common.{ℕ, zero, suc, ◌≡◌, ◌≢◌, ◌<◌, ◌+◌, Bool, true, false, List, [], ◌∷◌, ◌++◌, length, reverse, get_or, Option, Some, None, refl, ap, sym, ◌∙◌, arith}
use Rattle.std.specs.Prelude.{slice_get, option_map, nat_eq, nat_lt, if◌then◌else◌}
use Rattle.tg_model.specs.Tree.{Tree, Arms, Operator, trees, op, choice, case, successor, negation, conjunction, disjunction, implication, equality, less, less_equal, plus, minus, times, divide, modulo, unnamed}
use Rattle.tg_model.specs.Value.{Value, number, boolean, made, wrong}
use Rattle.tg_model.specs.Theory.{Theory, first_constructor}
use Rattle.tg_model.specs.Denotation.{operated, opened, on_number, on_numbers, on_truth, on_truths}
use Rattle.std.proofs.lemmas.Bool.{lt-ltb, eq-eqb, ne_eqb}
use Rattle.std.proofs.lemmas.List.{reverse-append}
use Rattle.tg_model.proofs.Booleans.{if_true, if_false}
use Rattle.tg_eval.specs.Limited.{Outcome, Evaluator, limited, level_by, all_by, then_value, then_more, chosen_by, branch_by, opened_by, with_first, below_bound, operated_by, with_first, then_values}
use Rattle.tg_eval.specs.Evaluating.{outcome, outcomes}
use Rattle.tg_eval.specs.Opening.{truth_of, parts_of}
use Rattle.tg_term.specs.View.{arms}
use Rattle.tg_term.specs.declared.terms.Branch.{Branch}
use Rattle.tg_eval.specs.Operating.{bounded}

pub limited_none : (th : Theory) (answer : Value) (levels left : ℕ) (env loc : List Value) (t : Tree) → levels ≡ 0 → None ≡ limited th answer levels left env loc t
unfolding limited
limited_none th answer zero left env loc t e = refl
limited_none th answer (suc n) left env loc t e = absurd (omega (arith, e))

pub limited_below : (th : Theory) (answer : Value) (levels below left : ℕ) (env loc : List Value) (t : Tree) → below + 1 ≡ levels
    → level_by th answer (limited th answer below) left env loc t ≡ limited th answer levels left env loc t
unfolding limited
limited_below th answer zero below left env loc t e = absurd (omega (arith, e))
limited_below th answer (suc n) below left env loc t e =
    let s : below ≡ n = omega (arith, e) in ap (λ k. level_by th answer (limited th answer k) left env loc t) s

pub ruleset levels = (limited_none, limited_below)

pub literal_fits : (n left : ℕ) → n < 18446744073709551616 → Some (number n, left) ≡ below_bound (number n) left
literal_fits n left h = sym (if_true (Some (number n, left)) None (nat_lt n 18446744073709551616) (lt-ltb n 18446744073709551616 h))

pub ruleset nodes = (literal_fits)

-- values that stand before others
abbrev pub preceded : List Value → Option (List Value × ℕ) → Option (List Value × ℕ)
preceded vs None = None
preceded vs (Some q) = Some (vs ++ q.0, q.1)

pub bounded_outcome : (v : Value) (left : ℕ) → outcome (bounded v) left ≡ below_bound v left
bounded_outcome (number n) left = by (nat_lt n 18446744073709551616)
  where
    by : (b : Bool) → outcome (if b then Some (number n) else None) left ≡ (if b then Some (number n, left) else None)
    by true = refl
    by false = refl
bounded_outcome (boolean b) left = refl
bounded_outcome (made c vs) left = refl

pub ruleset lists = (literal_fits)

pub ruleset sizes = (literal_fits)

pub ruleset calls = (literal_fits)

pub ruleset bodies = (literal_fits)

pub ruleset recursions = (literal_fits)

pub ruleset choices = (literal_fits)

pub ruleset binds = (literal_fits)

pub ruleset cases = (literal_fits)

pub ruleset places = (literal_fits)

pub ruleset operators = (literal_fits)

pub ruleset operands = (bounded_outcome)

module _ (th : Theory) (answer : Value) (ev : Evaluator) (left : ℕ) (env loc : List Value) where
  -- ---- if

  pub choice_short : (ts : List Tree) → length ts ≢ 3 → ◌≡◌ {A = Outcome} (Some (wrong, left)) (level_by th answer ev left env loc (choice (trees ts)))
  choice_short [] h = refl
  choice_short (c ∷ []) h = refl
  choice_short (c ∷ t ∷ []) h = refl
  choice_short (c ∷ t ∷ u ∷ []) h = absurd (h refl)
  choice_short (c ∷ t ∷ u ∷ w ∷ ts) h = refl

  -- where the condition has been evaluated
  module _ (c : Tree) (o : Option Value) (rest : ℕ) (is : outcome o rest ≡ ev left env loc c) where
    chosen_on : (ts : List Tree) (t : Tree) → length ts ≡ 3 → c ≡ get_or ts 0 c
        → level_by th answer ev left env loc (choice (trees ts)) ≡ then_value (outcome o rest) (λ v r. chosen_by th answer ev r env loc v (get_or ts 1 t) (get_or ts 2 t))
    chosen_on [] t n e = cc n
    chosen_on (x ∷ []) t n e = absurd (omega (arith, n))
    chosen_on (x ∷ y ∷ []) t n e = absurd (omega (arith, n))
    chosen_on (x ∷ y ∷ z ∷ []) t n e =
        ap (λ q. then_value (ev left env loc q) (λ v r. chosen_by th answer ev r env loc v y z)) (sym e)
        ∙ ap (λ q. then_value q (λ v r. chosen_by th answer ev r env loc v y z)) (sym is)
    chosen_on (x ∷ y ∷ z ∷ w ∷ ts) t n e = absurd (omega (arith, n))

    pub chosen_over : (ts : List Tree) → length ts ≡ 3 → c ≡ get_or ts 0 c → o ≡ None
        → ◌≡◌ {A = Outcome} None (level_by th answer ev left env loc (choice (trees ts)))
    chosen_over ts n e none =
        sym (chosen_on ts c n e ∙ ap (λ q. then_value (outcome q rest) (λ v r. chosen_by th answer ev r env loc v (get_or ts 1 c) (get_or ts 2 c))) none)

    chosen_at : (ts : List Tree) (t : Tree) (v : Value) → length ts ≡ 3 → c ≡ get_or ts 0 c → o ≡ Some v
        → level_by th answer ev left env loc (choice (trees ts)) ≡ chosen_by th answer ev rest env loc v (get_or ts 1 t) (get_or ts 2 t)
    chosen_at ts t v n e some =
        chosen_on ts t n e ∙ ap (λ q. then_value (outcome q rest) (λ v r. chosen_by th answer ev r env loc v (get_or ts 1 t) (get_or ts 2 t))) some

    pub chosen_true : (ts : List Tree) (t : Tree) (v : Value) → length ts ≡ 3 → c ≡ get_or ts 0 c → t ≡ get_or ts 1 t → o ≡ Some v → Some true ≡ truth_of v
        → ev rest env loc t ≡ level_by th answer ev left env loc (choice (trees ts))
    chosen_true ts t (boolean true) n e at some b = ap (ev rest env loc) at ∙ sym (chosen_at ts t (boolean true) n e some)
    chosen_true ts t (boolean false) n e at some b = cc b
    chosen_true ts t (number k) n e at some b = cc b
    chosen_true ts t (made d vs) n e at some b = cc b

    pub chosen_false : (ts : List Tree) (t : Tree) (v : Value) → length ts ≡ 3 → c ≡ get_or ts 0 c → t ≡ get_or ts 2 t → o ≡ Some v → Some false ≡ truth_of v
        → ev rest env loc t ≡ level_by th answer ev left env loc (choice (trees ts))
    chosen_false ts t (boolean false) n e at some b = ap (ev rest env loc) at ∙ sym (chosen_at ts t (boolean false) n e some)
    chosen_false ts t (boolean true) n e at some b = cc b
    chosen_false ts t (number k) n e at some b = cc b
    chosen_false ts t (made d vs) n e at some b = cc b

    pub chosen_wrong : (ts : List Tree) (v : Value) → length ts ≡ 3 → c ≡ get_or ts 0 c → o ≡ Some v → None ≡ truth_of v
        → ◌≡◌ {A = Outcome} (Some (wrong, rest)) (level_by th answer ev left env loc (choice (trees ts)))
    chosen_wrong ts (boolean b) n e some k = cc k
    chosen_wrong ts (number m) n e some k = sym (chosen_at ts c (number m) n e some)
    chosen_wrong ts (made d vs) n e some k = sym (chosen_at ts c (made d vs) n e some)

  -- ---- case

  no_branch : (bs : List Branch) (k : ℕ) (vs : List Value) → None ≡ slice_get bs k → ◌≡◌ {A = Outcome} (Some (wrong, left)) (branch_by th answer ev left env loc k vs (arms bs))
  no_branch [] zero vs e = refl
  no_branch [] (suc k) vs e = refl
  no_branch (b ∷ bs) zero vs e = cc e
  no_branch (b ∷ bs) (suc k) vs e = no_branch bs k vs e

  other_branch : (bs : List Branch) (k : ℕ) (vs : List Value) (b : Branch) → Some b ≡ slice_get bs k → b.vars ≢ length vs
      → ◌≡◌ {A = Outcome} (Some (wrong, left)) (branch_by th answer ev left env loc k vs (arms bs))
  other_branch [] k vs b e h = cc e
  other_branch (x ∷ bs) zero vs b e h =
      let s : b ≡ x = cc e in
      sym (if_false (ev left env (reverse vs ++ loc) x.body) (Some (wrong, left)) (nat_eq x.vars (length vs)) (ne_eqb x.vars (length vs) (λ q. h (ap (λ (y : Branch). y.vars) s ∙ q))))
  other_branch (x ∷ bs) (suc k) vs b e h = other_branch bs k vs b e h

  taken_branch : (bs : List Branch) (k : ℕ) (vs : List Value) (b : Branch) → Some b ≡ slice_get bs k → b.vars ≡ length vs
      → ev left env (reverse vs ++ loc) b.body ≡ branch_by th answer ev left env loc k vs (arms bs)
  taken_branch [] k vs b e h = cc e
  taken_branch (x ∷ bs) zero vs b e h =
      let s : b ≡ x = cc e in
      ap (λ (y : Branch). ev left env (reverse vs ++ loc) y.body) s
      ∙ sym (if_true (ev left env (reverse vs ++ loc) x.body) (Some (wrong, left)) (nat_eq x.vars (length vs)) (eq-eqb x.vars (length vs) (ap (λ (y : Branch). y.vars) (sym s) ∙ h)))
  taken_branch (x ∷ bs) (suc k) vs b e h = taken_branch bs k vs b e h

module _ (th : Theory) (answer : Value) (ev : Evaluator) (left : ℕ) (env loc : List Value) (d : ℕ) (t : Tree) (o : Option Value) (v : Value) (rest : ℕ) (q : Option ℕ) (k : ℕ) where
  case_at : (bs : Arms) → outcome o rest ≡ ev left env loc t → o ≡ Some v → option_map (λ j. (j, parts_of v)) q ≡ opened d (first_constructor th.datatypes d) v → q ≡ Some k
      → branch_by th answer ev rest env loc k (parts_of v) bs ≡ level_by th answer ev left env loc (case d t bs)
  case_at bs is some opens at =
      let f : Value → ℕ → Outcome = λ x r. opened_by th answer ev r env loc (opened d (first_constructor th.datatypes d) x) bs in
      ap (λ p. opened_by th answer ev rest env loc (option_map (λ j. (j, parts_of v)) p) bs) (sym at)
      ∙ ap (λ p. opened_by th answer ev rest env loc p bs) opens
      ∙ ap (λ p. then_value (outcome p rest) f) (sym some)
      ∙ ap (λ p. then_value p f) is

  pub case_no_branch : (bs : List Branch) → outcome o rest ≡ ev left env loc t → o ≡ Some v
      → option_map (λ j. (j, parts_of v)) q ≡ opened d (first_constructor th.datatypes d) v → q ≡ Some k → None ≡ slice_get bs k
      → ◌≡◌ {A = Outcome} (Some (wrong, rest)) (level_by th answer ev left env loc (case d t (arms bs)))
  case_no_branch bs is some opens at e = no_branch th answer ev rest env loc bs k (parts_of v) e ∙ case_at (arms bs) is some opens at

  pub case_other : (bs : List Branch) (b : Branch) → outcome o rest ≡ ev left env loc t → o ≡ Some v
      → option_map (λ j. (j, parts_of v)) q ≡ opened d (first_constructor th.datatypes d) v → q ≡ Some k → Some b ≡ slice_get bs k → b.vars ≢ length (parts_of v)
      → ◌≡◌ {A = Outcome} (Some (wrong, rest)) (level_by th answer ev left env loc (case d t (arms bs)))
  case_other bs b is some opens at e h = other_branch th answer ev rest env loc bs k (parts_of v) b e h ∙ case_at (arms bs) is some opens at

  pub case_taken : (bs : List Branch) (b : Branch) (l more : List Value) → loc ≡ reverse l → more ≡ l ++ parts_of v → outcome o rest ≡ ev left env loc t → o ≡ Some v
      → option_map (λ j. (j, parts_of v)) q ≡ opened d (first_constructor th.datatypes d) v → q ≡ Some k → Some b ≡ slice_get bs k → b.vars ≡ length (parts_of v)
      → ev rest env (reverse more) b.body ≡ level_by th answer ev left env loc (case d t (arms bs))
  case_taken bs b l more same all is some opens at e h =
      ap (λ x. ev rest env x b.body) (ap reverse all ∙ reverse-append l (parts_of v) ∙ ap (λ x. reverse (parts_of v) ++ x) (sym same))
      ∙ taken_branch th answer ev rest env loc bs k (parts_of v) b e h ∙ case_at (arms bs) is some opens at

-- ---- operators

module _ (th : Theory) (answer : Value) (ev : Evaluator) (left : ℕ) (env loc : List Value) where
  pub op_others : (p : Operator) (ts : List Tree) → length ts ≢ 2 → operated_by th answer ev left env loc p (trees ts) ≡ level_by th answer ev left env loc (op p (trees ts))
  op_others successor ts h = refl
  op_others negation ts h = refl
  op_others equality ts h = refl
  op_others less ts h = refl
  op_others less_equal ts h = refl
  op_others plus ts h = refl
  op_others minus ts h = refl
  op_others times ts h = refl
  op_others divide ts h = refl
  op_others modulo ts h = refl
  op_others (unnamed n) ts h = refl
  op_others conjunction [] h = refl
  op_others conjunction (t ∷ []) h = refl
  op_others conjunction (t ∷ u ∷ []) h = absurd (h refl)
  op_others conjunction (t ∷ u ∷ w ∷ ts) h = refl
  op_others disjunction [] h = refl
  op_others disjunction (t ∷ []) h = refl
  op_others disjunction (t ∷ u ∷ []) h = absurd (h refl)
  op_others disjunction (t ∷ u ∷ w ∷ ts) h = refl
  op_others implication [] h = refl
  op_others implication (t ∷ []) h = refl
  op_others implication (t ∷ u ∷ []) h = absurd (h refl)
  op_others implication (t ∷ u ∷ w ∷ ts) h = refl

  record Gave (o : Outcome) (f : ℕ → Option (List Value × ℕ)) (q : List Value × ℕ) : Type 0 where
    first : Value × ℕ
    others : List Value × ℕ
    gives : f first.1 ≡ Some others
    is : q.0 ≡ first.0 ∷ others.0

  more_some : (o : Outcome) (f : ℕ → Option (List Value × ℕ)) (q : List Value × ℕ) → then_more o f ≡ Some q → Gave o f q
  more_some None f q e = cc e
  more_some (Some r) f q e = by (f r.1) refl e
    where
      by : (z : Option (List Value × ℕ)) → f r.1 ≡ z → with_first r.0 z ≡ Some q → Gave (Some r) f q
      by None k e = cc e
      by (Some p) k e = record { first = r; others = p; gives = k; is = let s : (r.0 ∷ p.0, p.1) ≡ q = cc e in ap (λ z. z.0) (sym s) }

  all_length : (ts : List Tree) (n : ℕ) (q : List Value × ℕ) → all_by th answer ev n env loc (trees ts) ≡ Some q → length q.0 ≡ length ts
  all_length [] n q e = let s : ([], n) ≡ q = cc e in ap (λ z. length z.0) (sym s)
  all_length (t ∷ ts) n q e =
      let m = more_some (ev n env loc t) (λ rest. all_by th answer ev rest env loc (trees ts)) q e in
      ap length m.is ∙ ap suc (all_length ts m.first.1 m.others m.gives)

  number_many : (f : ℕ → Value) (x y : Value) (vs : List Value) → on_number f (x ∷ y ∷ vs) ≡ wrong
  number_many f (number n) y vs = refl
  number_many f (boolean b) y vs = refl
  number_many f (made c ws) y vs = refl

  truth_many : (f : Bool → Bool) (x y : Value) (vs : List Value) → on_truth f (x ∷ y ∷ vs) ≡ wrong
  truth_many f (number n) y vs = refl
  truth_many f (boolean b) y vs = refl
  truth_many f (made c ws) y vs = refl

  numbers_many : (f : ℕ → ℕ → Value) (x y z : Value) (vs : List Value) → on_numbers f (x ∷ y ∷ z ∷ vs) ≡ wrong
  numbers_many f (number n) (number m) z vs = refl
  numbers_many f (number n) (boolean b) z vs = refl
  numbers_many f (number n) (made c ws) z vs = refl
  numbers_many f (boolean b) y z vs = refl
  numbers_many f (made c ws) y z vs = refl

  truths_many : (f : Bool → Bool → Bool) (x y z : Value) (vs : List Value) → on_truths f (x ∷ y ∷ z ∷ vs) ≡ wrong
  truths_many f (boolean a) (boolean b) z vs = refl
  truths_many f (boolean a) (number n) z vs = refl
  truths_many f (boolean a) (made c ws) z vs = refl
  truths_many f (number n) y z vs = refl
  truths_many f (made c ws) y z vs = refl

  other_operands : (p : Operator) (vs : List Value) → length vs ≢ 1 → length vs ≢ 2 → operated p vs ≡ wrong
  other_operands p (x ∷ []) h k = absurd (h refl)
  other_operands p (x ∷ y ∷ []) h k = absurd (k refl)
  other_operands successor [] h k = refl
  other_operands negation [] h k = refl
  other_operands conjunction [] h k = refl
  other_operands disjunction [] h k = refl
  other_operands implication [] h k = refl
  other_operands equality [] h k = refl
  other_operands less [] h k = refl
  other_operands less_equal [] h k = refl
  other_operands plus [] h k = refl
  other_operands minus [] h k = refl
  other_operands times [] h k = refl
  other_operands divide [] h k = refl
  other_operands modulo [] h k = refl
  other_operands (unnamed n) [] h k = refl
  other_operands successor (x ∷ y ∷ z ∷ vs) h k = number_many _ x y (z ∷ vs)
  other_operands negation (x ∷ y ∷ z ∷ vs) h k = truth_many _ x y (z ∷ vs)
  other_operands conjunction (x ∷ y ∷ z ∷ vs) h k = truths_many _ x y z vs
  other_operands disjunction (x ∷ y ∷ z ∷ vs) h k = truths_many _ x y z vs
  other_operands implication (x ∷ y ∷ z ∷ vs) h k = truths_many _ x y z vs
  other_operands equality (x ∷ y ∷ z ∷ vs) h k = refl
  other_operands less (x ∷ y ∷ z ∷ vs) h k = numbers_many _ x y z vs
  other_operands less_equal (x ∷ y ∷ z ∷ vs) h k = numbers_many _ x y z vs
  other_operands plus (x ∷ y ∷ z ∷ vs) h k = numbers_many _ x y z vs
  other_operands minus (x ∷ y ∷ z ∷ vs) h k = numbers_many _ x y z vs
  other_operands times (x ∷ y ∷ z ∷ vs) h k = numbers_many _ x y z vs
  other_operands divide (x ∷ y ∷ z ∷ vs) h k = numbers_many _ x y z vs
  other_operands modulo (x ∷ y ∷ z ∷ vs) h k = numbers_many _ x y z vs
  other_operands (unnamed n) (x ∷ y ∷ z ∷ vs) h k = refl

  pub operated_wrong : (p : Operator) (ts : List Tree) (o : Option (List Value)) (vs : List Value) (rest : ℕ) → length ts ≢ 1 → length ts ≢ 2
      → outcomes o rest ≡ all_by th answer ev left env loc (trees ts) → o ≡ Some vs → ◌≡◌ {A = Outcome} (Some (wrong, rest)) (operated_by th answer ev left env loc p (trees ts))
  operated_wrong p ts o vs rest h k is some =
      let all : all_by th answer ev left env loc (trees ts) ≡ Some (vs, rest) = sym is ∙ ap (λ x. outcomes x rest) some in
      let n = all_length ts left (vs, rest) all in
      ap (λ v. below_bound v rest) (sym (other_operands p vs (λ e. h (sym n ∙ e)) (λ e. k (sym n ∙ e))))
      ∙ ap (λ x. then_values x (λ ws r. below_bound (operated p ws) r)) (sym all)
