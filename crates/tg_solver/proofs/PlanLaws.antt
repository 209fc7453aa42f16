-- The stages let through what satisfies all constraints, since a constraint reads no variable but those that it uses.
use Rattle.std.proofs.Common.{ℕ, zero, suc, ◌≡◌, ◌+◌, ◌<◌, ◌≤◌, inl, inr, Bool, true, false, ◌&&◌, cond, nat_eq, List, [], ◌∷◌, ◌++◌, length, take, None, refl, ap, sym, ◌∙◌, subst, arith, append_assoc, if◌then◌else◌}
use Rattle.std.specs.Prelude.{slice_get}
use Rattle.std.specs.List.{list_all}
use Rattle.std.proofs.lemmas.Bool.{cases_lt, cases_eq, cases_Bool, eq-eqb, ne_eqb, both_ways}
use Rattle.std.proofs.lemmas.List.{take_at, length_push}
use Rattle.std.proofs.lemmas.Option.{slice_get_past}
use Rattle.tg_model.specs.Tree.{Tree}
use Rattle.tg_model.specs.Uses.{uses, AgreeWhere}
use Rattle.tg_model.specs.Value.{Value}
use Rattle.tg_model.proofs.Booleans.{and_left, and_right, and_both, if_true, if_false}
use Rattle.tg_solver.specs.Numbers.{as_value, as_values}
use Rattle.tg_solver.specs.Walk.{last_used, decided_by, stages_from, passes}

last_within : (count : ℕ) (t : Tree) → last_used count t ≤ count
last_within zero t = omega arith
last_within (suc count) t = by (uses (suc count) t) (last_within count t)
  where
    by : (b : Bool) → last_used count t ≤ count → (if b then suc count else last_used count t) ≤ suc count
    by true l = omega arith
    by false l = omega arith

unused_after : (count m : ℕ) (t : Tree) → last_used count t < m → m ≤ count → uses m t ≡ false
unused_after zero m t l k = absurd (omega arith)
unused_after (suc count) m t l k = elim (cases_Bool (uses (suc count) t)) [
  | inl e ↦ let is : last_used (suc count) t ≡ suc count = if_true (suc count) (last_used count t) (uses (suc count) t) e in absurd (omega arith)
  | inr e ↦ elim (cases_eq m (suc count)) [
    | inl q ↦ ap (λ n. uses n t) q ∙ e
    | inr ne ↦
        let is : last_used (suc count) t ≡ last_used count t = if_false (suc count) (last_used count t) (uses (suc count) t) e in
        unused_after count m t (omega arith) (omega arith)
  ]
]

front_read : {A : Type 0} (xs : List A) (k i : ℕ) → i < k → slice_get xs i ≡ slice_get (take k xs) i
front_read xs zero i l = absurd (omega arith)
front_read [] (suc k) i l = refl
front_read (x ∷ xs) (suc k) zero l = refl
front_read (x ∷ xs) (suc k) (suc i) l = front_read xs k i (omega arith)

past_front : {A : Type 0} (xs : List A) (k i : ℕ) → length xs ≤ i → slice_get (take k xs) i ≡ None
past_front xs zero i l = refl
past_front [] (suc k) i l = refl
past_front (x ∷ xs) (suc k) zero l = absurd (omega arith)
past_front (x ∷ xs) (suc k) (suc i) l = past_front xs k i (omega arith)

agree : (vs : List Value) (count : ℕ) (t : Tree) (k : ℕ) → length vs ≤ count → last_used count t ≡ k → AgreeWhere (λ m. uses m t) vs (take k vs)
agree vs count t k within last zero u = refl
agree vs count t k within last (suc m) u = elim (cases_lt m k) [
  | inl l ↦ front_read vs k m l
  | inr le ↦ elim (cases_lt m count) [
    | inl l ↦ absurd (both_ways (uses (suc m) t) (unused_after count (suc m) t (omega arith) (omega arith)) u)
    | inr ge ↦ slice_get_past vs m (omega arith) ∙ sym (past_front vs k m (omega arith))
  ]
]

same_truths : (a b : Bool) → (a ≡ true → b ≡ true) → (b ≡ true → a ≡ true) → a ≡ b
same_truths true b f g = sym (f refl)
same_truths false true f g = g refl
same_truths false false f g = refl

values_length : (truths : List Bool) (ns : List ℕ) → length ns ≡ length truths → length (as_values truths ns) ≡ length truths
values_length [] ns len = refl
values_length (b ∷ truths) [] len = absurd (omega arith)
values_length (b ∷ truths) (n ∷ ns) len = ap suc (values_length truths ns (omega arith))

pub values_within : (truths : List Bool) (ns : List ℕ) → length (as_values truths ns) ≤ length truths
values_within [] ns = omega arith
values_within (b ∷ truths) [] = omega arith
values_within (b ∷ truths) (n ∷ ns) = let l = values_within truths ns in omega arith

-- a test that reads no variable but those that a constraint uses
module _ (test : List Value → Tree → Bool) (reads : (vars vars' : List Value) (t : Tree) → AgreeWhere (λ m. uses m t) vars vars' → test vars t ≡ test vars' t) where
  pub decided_there : (count : ℕ) (vs : List Value) → length vs ≤ count → (k : ℕ) (constraints : List Tree)
      → list_all (test vs) constraints ≡ true → list_all (test (take k vs)) (decided_by count k constraints) ≡ true
  decided_there count vs within k [] e = refl
  decided_there count vs within k (t ∷ ts) e =
      let rest : list_all (test (take k vs)) (decided_by count k ts) ≡ true = decided_there count vs within k ts (and_right (test vs t) (list_all (test vs) ts) e) in
      elim (cases_eq (last_used count t) k) [
        | inl q ↦ subst (λ l. list_all (test (take k vs)) l ≡ true)
            (sym (if_true (t ∷ decided_by count k ts) (decided_by count k ts) (nat_eq (last_used count t) k) (eq-eqb (last_used count t) k q)))
            (and_both (test (take k vs) t) (list_all (test (take k vs)) (decided_by count k ts))
            (sym (reads vs (take k vs) t (agree vs count t k within q)) ∙ and_left (test vs t) (list_all (test vs) ts) e) rest)
        | inr ne ↦ subst (λ l. list_all (test (take k vs)) l ≡ true)
            (sym (if_false (t ∷ decided_by count k ts) (decided_by count k ts) (nat_eq (last_used count t) k) (ne_eqb (last_used count t) k ne))) rest
      ]

  more_decided : (count : ℕ) (vs : List Value) (k : ℕ) (t : Tree) (ts : List Tree) (b : Bool) → list_all (test (take k vs)) (cond b (t ∷ decided_by count k ts) (decided_by count k ts)) ≡ true
      → list_all (test (take k vs)) (decided_by count k ts) ≡ true
  more_decided count vs k t ts true e = and_right (test (take k vs) t) (list_all (test (take k vs)) (decided_by count k ts)) e
  more_decided count vs k t ts false e = e

  pub all_decided : (count : ℕ) (vs : List Value) → length vs ≤ count → (constraints : List Tree)
      → ((k : ℕ) → k ≤ count → list_all (test (take k vs)) (decided_by count k constraints) ≡ true) → list_all (test vs) constraints ≡ true
  all_decided count vs within [] h = refl
  all_decided count vs within (t ∷ ts) h =
      let here : (last : ℕ) → last_used count t ≡ last → last ≤ count → test vs t ≡ true = λ last is le.
      reads vs (take last vs) t (agree vs count t last within is)
      ∙ and_left (test (take last vs) t) (list_all (test (take last vs)) (decided_by count last ts))
      (subst (λ l. list_all (test (take last vs)) l ≡ true)
      (if_true (t ∷ decided_by count last ts) (decided_by count last ts) (nat_eq (last_used count t) last) (eq-eqb (last_used count t) last is)) (h last le)) in
      and_both (test vs t) (list_all (test vs) ts) (here (last_used count t) refl (last_within count t))
      (all_decided count vs within ts (λ k le. more_decided count vs k t ts (nat_eq (last_used count t) k) (h k le)))

  -- at each front of the values that is longer than `front`, what it decides is true
  abbrev EachFront : ℕ → List Tree → List Value → List Value → Type 0
  EachFront count constraints front rest = (k : ℕ) → length front < k → k ≤ length front + length rest
      → list_all (test (take k (front ++ rest))) (decided_by count k constraints) ≡ true

  front_longer : (front : List Value) (v : Value) (rest : List Value) (k : ℕ) → k ≡ length front + 1 → take k (front ++ v ∷ rest) ≡ front ++ v ∷ []
  front_longer front v rest k e =
      ap (take k) (sym (append_assoc front (v ∷ []) rest)) ∙ take_at (front ++ v ∷ []) rest k (length_push front v ∙ sym e)

  passes_each : (count : ℕ) (constraints : List Tree) (truths : List Bool) (ns : List ℕ) (front : List Value) (number : ℕ) → length ns ≡ length truths → number ≡ length front + 1
      → passes test front (stages_from count number truths constraints) ns ≡ true → EachFront count constraints front (as_values truths ns)
  passes_each count constraints [] ns front number len is e k l le = absurd (omega arith)
  passes_each count constraints (b ∷ truths) [] front number len is e k l le = absurd (omega arith)
  passes_each count constraints (b ∷ truths) (n ∷ ns) front number len is e k l le =
      let long : length (front ++ as_value b n ∷ []) ≡ length front + 1 = length_push front (as_value b n) in
      elim (cases_eq k number) [
        | inl q ↦ subst (λ (vs : List Value). list_all (test vs) (decided_by count k constraints) ≡ true) (sym (front_longer front (as_value b n) (as_values truths ns) k (q ∙ is)))
            (subst (λ j. list_all (test (front ++ as_value b n ∷ [])) (decided_by count j constraints) ≡ true) (sym q)
            (and_left (list_all (test (front ++ as_value b n ∷ [])) (decided_by count number constraints)) (passes test (front ++ as_value b n ∷ []) (stages_from count (number + 1) truths constraints) ns) e))
        | inr ne ↦ subst (λ (vs : List Value). list_all (test (take k vs)) (decided_by count k constraints) ≡ true) (append_assoc front (as_value b n ∷ []) (as_values truths ns))
            (passes_each count constraints truths ns (front ++ as_value b n ∷ []) (number + 1) (omega arith) (omega arith)
            (and_right (list_all (test (front ++ as_value b n ∷ [])) (decided_by count number constraints)) (passes test (front ++ as_value b n ∷ []) (stages_from count (number + 1) truths constraints) ns) e)
            k (omega arith) (omega arith))
      ]

  each_passes : (count : ℕ) (constraints : List Tree) (truths : List Bool) (ns : List ℕ) (front : List Value) (number : ℕ) → length ns ≡ length truths → number ≡ length front + 1
      → EachFront count constraints front (as_values truths ns) → passes test front (stages_from count number truths constraints) ns ≡ true
  each_passes count constraints [] ns front number len is h = refl
  each_passes count constraints (b ∷ truths) [] front number len is h = absurd (omega arith)
  each_passes count constraints (b ∷ truths) (n ∷ ns) front number len is h =
      let long : length (front ++ as_value b n ∷ []) ≡ length front + 1 = length_push front (as_value b n) in
      and_both (list_all (test (front ++ as_value b n ∷ [])) (decided_by count number constraints)) (passes test (front ++ as_value b n ∷ []) (stages_from count (number + 1) truths constraints) ns)
      (subst (λ (vs : List Value). list_all (test vs) (decided_by count number constraints) ≡ true) (front_longer front (as_value b n) (as_values truths ns) number is)
      (h number (omega arith) (omega arith)))
      (each_passes count constraints truths ns (front ++ as_value b n ∷ []) (number + 1) (omega arith) (omega arith)
      (λ k l le. subst (λ (vs : List Value). list_all (test (take k vs)) (decided_by count k constraints) ≡ true) (sym (append_assoc front (as_value b n ∷ []) (as_values truths ns)))
      (h k (omega arith) (omega arith))))

  pub satisfied : (constraints : List Tree) (truths : List Bool) (ns : List ℕ) → length ns ≡ length truths
      → list_all (test (as_values truths ns)) constraints
      ≡ (list_all (test []) (decided_by (length truths) 0 constraints) && passes test [] (stages_from (length truths) 1 truths constraints) ns)
  satisfied constraints truths ns len =
      same_truths (list_all (test (as_values truths ns)) constraints) _
      (λ e. and_both (list_all (test []) (decided_by (length truths) 0 constraints)) (passes test [] (stages_from (length truths) 1 truths constraints) ns)
      (decided_there (length truths) (as_values truths ns) (values_within truths ns) 0 constraints e)
      (each_passes (length truths) constraints truths ns [] 1 len refl
      (λ k l le. decided_there (length truths) (as_values truths ns) (values_within truths ns) k constraints e)))
      (λ e. all_decided (length truths) (as_values truths ns) (values_within truths ns) constraints
      (by (and_left (list_all (test []) (decided_by (length truths) 0 constraints)) (passes test [] (stages_from (length truths) 1 truths constraints) ns) e)
      (and_right (list_all (test []) (decided_by (length truths) 0 constraints)) (passes test [] (stages_from (length truths) 1 truths constraints) ns) e)))
    where
      by : list_all (test []) (decided_by (length truths) 0 constraints) ≡ true → passes test [] (stages_from (length truths) 1 truths constraints) ns ≡ true
          → (k : ℕ) → k ≤ length truths → list_all (test (take k (as_values truths ns))) (decided_by (length truths) k constraints) ≡ true
      by ground staged zero le = ground
      by ground staged (suc k) le =
          let long : length (as_values truths ns) ≡ length truths = values_length truths ns len in
          passes_each (length truths) constraints truths ns [] 1 len refl staged (suc k) (omega arith) (omega arith)

  -- where a constraint that uses no variable isn't true, no values satisfy all
  pub never_satisfied : (constraints : List Tree) (count : ℕ) → list_all (test []) (decided_by count 0 constraints) ≡ false
      → (vs : List Value) → length vs ≤ count → list_all (test vs) constraints ≡ false
  never_satisfied constraints count e vs within = elim (cases_Bool (list_all (test vs) constraints)) [
    | inl t ↦ absurd (both_ways (list_all (test []) (decided_by count 0 constraints)) e (decided_there count vs within 0 constraints t))
    | inr f ↦ f
  ]
