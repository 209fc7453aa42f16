-- The verdicts of the program are those by what is recorded.
use Rattle.std.proofs.Common.{ℕ, zero, suc, ◌≡◌, ◌+◌, ◌<◌, ◌||◌, Bool, true, false, cond, nat_eq, List, [], ◌∷◌, length, map, Option, Some, None, option_map, refl, sym, ap, ◌∙◌, subst, arith}
use Rattle.std.specs.Prelude.{slice_get}
use Rattle.std.specs.List.{find}
use Rattle.tg_accept.specs.Checks.{Each}
use Rattle.tg_derive.specs.Theorem.{Choice}
use Rattle.tg_hyps.specs.Hypotheses.{Class}
use Rattle.tg_model.specs.Filling.{fill, IsMatch}
use Rattle.tg_model.specs.Theory.{Theory}
use Rattle.tg_model.specs.Value.{Value}
use Rattle.tg_term.specs.Values.{value}
use Rattle.tg_term.specs.Classes.{answer_of}
use Rattle.tg_term.specs.declared.classes.Outcome as code
use Rattle.tg_term.specs.declared.classes.Test as code_test
use Rattle.tg_types.specs.declared.verdicts.Verdict.{Verdict}
use Rattle.tg_verdict.specs.Places.{is_among, AreOnce, test_number, test_of, outcome_of}
use Rattle.tg_verdict.specs.Verdicts.{IsVerdict, IsAnswered, AreVerdicts, verdict_at, verdict_matched}
use Rattle.tg_cmd.specs.Judging.{recorded, tests_from, verdict_of, verdicts_from}
use Rattle.tg_harness.specs.Tests.{Test, record_of, test}
use Rattle.tg_cmd.specs.Tests.{tests_at}
use Rattle.tg_cmd.proofs.SimpleVariables.{IsLinearClass}

same : (m n : ℕ) → nat_eq m n ≡ true → m ≡ n
same m n e = grind (arith, e)

itself : (n : ℕ) → nat_eq n n ≡ true
itself n = grind arith

less : (m n : ℕ) → m < n → nat_eq m n ≡ false
less m n h = grind (arith, h)

more : (m n : ℕ) → n < m → nat_eq m n ≡ false
more m n h = grind (arith, h)

-- ---- tests by their numbers

abbrev find_test : ℕ → List Test → Option Test
find_test n ts = find (λ (t : Test). nat_eq n t.number) ts

-- numbers rise
none_before : (m n : ℕ) (cs : List Class) (xs : List Choice) → m < n → find_test m (tests_at n cs xs) ≡ None
none_before m n [] xs h = refl
none_before m n (c ∷ cs) [] h = refl
none_before m n (c ∷ cs) (None ∷ xs) h = none_before m (suc n) cs xs (omega (arith, h))
none_before m n (c ∷ cs) (Some vs ∷ xs) h =
    ap (λ b. cond b (Some (record { number = n; datum = fill vs c.inputs })) (find_test m (tests_at (suc n) cs xs))) (less m n h)
    ∙ none_before m (suc n) cs xs (omega (arith, h))

abbrev wanted : ℕ → Class → Choice → Option Test
wanted n c None = None
wanted n c (Some vs) = Some (record { number = n; datum = fill vs c.inputs })

found_at : (n i : ℕ) (cs : List Class) (xs : List Choice) (c : Class) (x : Choice) → slice_get cs i ≡ Some c → slice_get xs i ≡ Some x
    → find_test (n + i) (tests_at n cs xs) ≡ wanted (n + i) c x
found_at n i [] xs c x e f = absurd cc
found_at n i (d ∷ cs) [] c x e f = absurd cc
found_at n zero (d ∷ cs) (None ∷ xs) c x e f =
    let q : None ≡ x = cc f in
    none_before (n + 0) (suc n) cs xs (omega arith) ∙ ap (wanted (n + 0) c) q
found_at n zero (d ∷ cs) (Some vs ∷ xs) c x e f =
    let p : d ≡ c = cc e in
    let q : Some vs ≡ x = cc f in
    let z : n ≡ n + 0 = omega arith in
    ap (λ b. cond b (Some (record { number = n; datum = fill vs d.inputs })) (find_test (n + 0) (tests_at (suc n) cs xs))) (ap (λ m. nat_eq m n) (sym z) ∙ itself n)
    ∙ (λ k. wanted (z k) (p k) (q k))
found_at n (suc i) (d ∷ cs) (None ∷ xs) c x e f =
    let z : n + suc i ≡ suc n + i = omega arith in
    ap (λ m. find_test m (tests_at (suc n) cs xs)) z ∙ found_at (suc n) i cs xs c x e f ∙ ap (λ m. wanted m c x) (sym z)
found_at n (suc i) (d ∷ cs) (Some vs ∷ xs) c x e f =
    let z : n + suc i ≡ suc n + i = omega arith in
    ap (λ b. cond b (Some (record { number = n; datum = fill vs d.inputs })) (find_test (n + suc i) (tests_at (suc n) cs xs))) (more (n + suc i) n (omega arith))
    ∙ ap (λ m. find_test m (tests_at (suc n) cs xs)) z ∙ found_at (suc n) i cs xs c x e f ∙ ap (λ m. wanted m c x) (sym z)

find_seen : (n : ℕ) (ts : List code_test.Test) → find_test n (map test ts) ≡ option_map test (test_of ts n)
find_seen n [] = refl
find_seen n (t ∷ ts) = by (nat_eq n t.class) (find_seen n ts)
  where
    by : (b : Bool) → find_test n (map test ts) ≡ option_map test (test_of ts n)
        → cond b (Some (test t)) (find_test n (map test ts)) ≡ option_map test (cond b (Some t) (test_of ts n))
    by true h = refl
    by false h = h

-- the test of a class has its datum, and a class without a datum has no test
abbrev Matches : Class → Choice → Option code_test.Test → Type 0
Matches c None t = t ≡ None
Matches c (Some vs) t = (u : code_test.Test) × (t ≡ Some u) × (map value u.datum ≡ fill vs c.inputs)

matched : (n : ℕ) (c : Class) (x : Choice) (t : Option code_test.Test) → option_map test t ≡ wanted n c x → Matches c x t
matched n c None None e = refl
matched n c None (Some u) e = absurd cc
matched n c (Some vs) None e = absurd cc
matched n c (Some vs) (Some u) e =
    let p : test u ≡ record { number = n; datum = fill vs c.inputs } = cc in (u, refl, ap (λ (t : Test). t.datum) p)

-- ---- verdicts

abbrev HasLength : Class → Choice → Type 0
HasLength c None = Unit {0}
HasLength c (Some vs) = length vs ≡ length c.variables

abbrev pub HaveLengths : List Class → List Choice → Type 0
HaveLengths [] [] = Unit {0}
HaveLengths (c ∷ cs) (x ∷ xs) = HasLength c x × HaveLengths cs xs
HaveLengths _ _ = ⊥

module _ (th : Theory) where
  answered : (c : Class) (vs datum : List Value) (a : Value) (v : Verdict) → IsLinearClass c → length vs ≡ length c.variables → datum ≡ fill vs c.inputs
      → IsAnswered th c datum (Some a) v → v ≡ verdict_at th c.checks vs a
  answered c vs datum a v linear len d h = let r = h linear in by r.0 r.1 r.2
    where
      by : (o : Option (List Value)) → IsMatch (length c.variables) c.inputs datum o → v ≡ verdict_matched th c.checks a o → v ≡ verdict_at th c.checks vs a
      by None m e = absurd (m vs len (sym d))
      by (Some ws) m e = e ∙ ap (λ us. verdict_at th c.checks us a) (sym (m.2 vs len (sym d)))

  verdict_is : (c : Class) (x : Choice) (t : Option code_test.Test) (o : Option code.Outcome) (v : Verdict) → IsLinearClass c → HasLength c x → Matches c x t
      → IsVerdict th c t o v → v ≡ verdict_of th c x (option_map record_of o)
  verdict_is c None t o v linear len m h = subst (λ y. IsVerdict th c y o v) m h
  verdict_is c (Some vs) t None v linear len m h = subst (λ y. IsVerdict th c y None v) m.1 h
  verdict_is c (Some vs) t (Some o) v linear len m h = by (answer_of o) (subst (λ y. IsVerdict th c y (Some o) v) m.1 h)
    where
      by : (a : Option Value) → IsAnswered th c (map value m.0.datum) a v → v ≡ verdict_of th c (Some vs) (Some (record { test = o.test; answer = a }))
      by None k = k
      by (Some a) k = answered c vs (map value m.0.datum) a v linear len m.2 k

  find_record : (n : ℕ) (os : List code.Outcome) → recorded (map record_of os) n ≡ option_map record_of (outcome_of os n)
  find_record n [] = refl
  find_record n (o ∷ os) = by (nat_eq n o.test) (find_record n os)
    where
      by : (b : Bool) → recorded (map record_of os) n ≡ option_map record_of (outcome_of os n)
          → cond b (Some (record_of o)) (recorded (map record_of os) n) ≡ option_map record_of (cond b (Some o) (outcome_of os n))
      by true h = refl
      by false h = h

  module _ (ts : List code_test.Test) (os : List code.Outcome) where
    verdicts_at : (n : ℕ) (cs : List Class) (xs : List Choice) (vs : List Verdict) → Each IsLinearClass cs → HaveLengths cs xs
        → ((i : ℕ) (c : Class) (x : Choice) → slice_get cs i ≡ Some c → slice_get xs i ≡ Some x → Matches c x (test_of ts (n + i)))
        → AreVerdicts th ts os n cs vs → vs ≡ verdicts_from th n cs xs (map record_of os)
    verdicts_at n [] [] [] linear len m h = refl
    verdicts_at n [] [] (v ∷ vs) linear len m h = absurd h
    verdicts_at n [] (x ∷ xs) vs linear len m h = absurd len
    verdicts_at n (c ∷ cs) [] vs linear len m h = absurd len
    verdicts_at n (c ∷ cs) (x ∷ xs) [] linear len m h = absurd h
    verdicts_at n (c ∷ cs) (x ∷ xs) (v ∷ vs) linear len m h =
        let z : n + 0 ≡ n = omega arith in
        let first = verdict_is c x (test_of ts n) (outcome_of os n) v linear.0 len.0 (subst (λ k. Matches c x (test_of ts k)) z (m 0 c x refl refl)) h.0
        ∙ ap (verdict_of th c x) (sym (find_record n os)) in
        let rest = verdicts_at (suc n) cs xs vs linear.1 len.1
        (λ i d y e f. let w : n + suc i ≡ suc n + i = omega arith in subst (λ k. Matches d y (test_of ts k)) w (m (suc i) d y e f)) h.1 in
        λ k. first k ∷ rest k

    pub verdicts_are : (cs : List Class) (xs : List Choice) (vs : List Verdict) → Each IsLinearClass cs → HaveLengths cs xs → map test ts ≡ tests_at 1 cs xs
        → AreVerdicts th ts os 1 cs vs → vs ≡ verdicts_from th 1 cs xs (map record_of os)
    verdicts_are cs xs vs linear len e h =
        verdicts_at 1 cs xs vs linear len
        (λ i c x f g. matched (1 + i) c x (test_of ts (1 + i)) (sym (find_seen (1 + i) ts) ∙ ap (find_test (1 + i)) e ∙ found_at 1 i cs xs c x f g)) h

-- ---- numbers of tests

numbers_of : (n : ℕ) (cs : List Class) (xs : List Choice) → HaveLengths cs xs → map (λ (t : Test). t.number) (tests_at n cs xs) ≡ tests_from n xs
numbers_of n [] [] h = refl
numbers_of n [] (x ∷ xs) h = absurd h
numbers_of n (c ∷ cs) [] h = absurd h
numbers_of n (c ∷ cs) (None ∷ xs) h = numbers_of (suc n) cs xs h.1
numbers_of n (c ∷ cs) (Some vs ∷ xs) h = ap (λ l. n ∷ l) (numbers_of (suc n) cs xs h.1)

seen_numbers : (ts : List code_test.Test) → map test_number ts ≡ map (λ (t : Test). t.number) (map test ts)
seen_numbers [] = refl
seen_numbers (t ∷ ts) = ap (λ l. t.class ∷ l) (seen_numbers ts)

-- they are those of the classes with a datum
pub known_numbers : (ts : List code_test.Test) (cs : List Class) (xs : List Choice) → HaveLengths cs xs → map test ts ≡ tests_at 1 cs xs
    → map test_number ts ≡ tests_from 1 xs
known_numbers ts cs xs len e = seen_numbers ts ∙ ap (map (λ (t : Test). t.number)) e ∙ numbers_of 1 cs xs len

not_among : (m n : ℕ) (xs : List Choice) → m < n → is_among m (tests_from n xs) ≡ false
not_among m n [] h = refl
not_among m n (None ∷ xs) h = not_among m (suc n) xs (omega (arith, h))
not_among m n (Some vs ∷ xs) h =
    ap (λ b. b || is_among m (tests_from (suc n) xs)) (less m n h) ∙ not_among m (suc n) xs (omega (arith, h))

once_from : (n : ℕ) (xs : List Choice) → AreOnce (tests_from n xs)
once_from n [] = tt
once_from n (None ∷ xs) = once_from (suc n) xs
once_from n (Some vs ∷ xs) = (not_among n (suc n) xs (omega arith), once_from (suc n) xs)

pub tests_once : (ts : List code_test.Test) (cs : List Class) (xs : List Choice) → HaveLengths cs xs → map test ts ≡ tests_at 1 cs xs
    → AreOnce (map test_number ts)
tests_once ts cs xs len e = subst AreOnce (sym (known_numbers ts cs xs len e)) (once_from 1 xs)
