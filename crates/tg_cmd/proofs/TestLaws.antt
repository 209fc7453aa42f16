-- Tests and choices, one class after another.
use Rattle.std.proofs.Common.{ℕ, zero, suc, ◌≡◌, ◌+◌, List, [], ◌∷◌, ◌++◌, length, map, take, Some, refl, sym, ap, ◌∙◌, arith, add-one, append_assoc, append-nil}
use Rattle.std.specs.Prelude.{slice_get}
use Rattle.tg_hyps.specs.Hypotheses.{seen}
use Rattle.tg_derive.specs.Answers.{choice_of}
use Rattle.tg_derive.specs.declared.theorems.Choice as code_choice
use Rattle.tg_term.specs.declared.classes.Class as code_class
use Rattle.tg_term.specs.declared.classes.Test as code_test
use Rattle.tg_types.specs.declared.verdicts.Verdict.{Verdict}
use Rattle.tg_cmd.specs.Judging.{tested_if_passed, choices_by_verdicts}
use Rattle.tg_cmd.specs.Tests.{test_at, tests_at}
use Rattle.tg_harness.specs.Tests.{Test, test}

next_from : (n : ℕ) (cs : List code_class.Class) (xs : List code_choice.Choice) (i : ℕ) (c : code_class.Class) (x : code_choice.Choice)
    → slice_get cs i ≡ Some c → slice_get xs i ≡ Some x
    → tests_at n (map seen (take (suc i) cs)) (map choice_of (take (suc i) xs))
    ≡ tests_at n (map seen (take i cs)) (map choice_of (take i xs)) ++ test_at (n + i) (seen c) (choice_of x)
next_from n [] xs i c x e f = absurd cc
next_from n (d ∷ cs) [] i c x e f = absurd cc
next_from n (d ∷ cs) (y ∷ xs) zero c x e f =
    let p : d ≡ c = cc e in
    let q : y ≡ x = cc f in
    let z : n ≡ n + 0 = omega arith in
    append-nil (test_at n (seen d) (choice_of y)) ∙ (λ k. test_at (z k) (seen (p k)) (choice_of (q k)))
next_from n (d ∷ cs) (y ∷ xs) (suc i) c x e f =
    let z : suc n + i ≡ n + suc i = omega arith in
    let front = test_at n (seen d) (choice_of y) in
    let middle = tests_at (suc n) (map seen (take i cs)) (map choice_of (take i xs)) in
    ap (λ l. front ++ l) (next_from (suc n) cs xs i c x e f ∙ ap (λ m. middle ++ test_at m (seen c) (choice_of x)) z)
    ∙ sym (append_assoc front middle (test_at (n + suc i) (seen c) (choice_of x)))

pub test_next : (cs : List code_class.Class) (xs : List code_choice.Choice) (i number : ℕ) (c : code_class.Class) (x : code_choice.Choice) (ts us : List Test)
    → slice_get cs i ≡ Some c → slice_get xs i ≡ Some x → number ≡ i + 1
    → ts ≡ tests_at 1 (map seen (take i cs)) (map choice_of (take i xs)) → us ≡ ts ++ test_at number (seen c) (choice_of x)
    → us ≡ tests_at 1 (map seen (take (i + 1) cs)) (map choice_of (take (i + 1) xs))
test_next cs xs i number c x ts us e f m t u =
    let z : number ≡ 1 + i = omega (arith, m) in
    u ∙ (λ k. t k ++ test_at (z k) (seen c) (choice_of x)) ∙ sym (next_from 1 cs xs i c x e f)
    ∙ ap (λ m. tests_at 1 (map seen (take m cs)) (map choice_of (take m xs))) (sym (add-one i))

pub ruleset testing = (test_next)

pub added : (ts us : List code_test.Test) (t : code_test.Test) → us ≡ ts ++ t ∷ [] → map test us ≡ map test ts ++ test t ∷ []
added ts us t e = ap (map test) e ∙ last ts
  where
    last : (ts : List code_test.Test) → map test (ts ++ t ∷ []) ≡ map test ts ++ test t ∷ []
    last [] = refl
    last (s ∷ ts) = ap (λ l. test s ∷ l) (last ts)

pub ruleset adding = (added, append-nil)

chosen_from : (xs : List code_choice.Choice) (vs : List Verdict) (i : ℕ) (x : code_choice.Choice) (v : Verdict) → slice_get xs i ≡ Some x → slice_get vs i ≡ Some v
    → choices_by_verdicts (map choice_of (take (suc i) xs)) (take (suc i) vs)
    ≡ choices_by_verdicts (map choice_of (take i xs)) (take i vs) ++ tested_if_passed v (choice_of x) ∷ []
chosen_from [] vs i x v e f = absurd cc
chosen_from (y ∷ xs) [] i x v e f = absurd cc
chosen_from (y ∷ xs) (u ∷ vs) zero x v e f =
    let p : y ≡ x = cc e in
    let q : u ≡ v = cc f in
    λ k. tested_if_passed (q k) (choice_of (p k)) ∷ []
chosen_from (y ∷ xs) (u ∷ vs) (suc i) x v e f = ap (λ l. tested_if_passed u (choice_of y) ∷ l) (chosen_from xs vs i x v e f)

pub choice_next : (xs : List code_choice.Choice) (vs : List Verdict) (i : ℕ) (x y : code_choice.Choice) (v : Verdict) (ys zs : List code_choice.Choice)
    → slice_get xs i ≡ Some x → slice_get vs i ≡ Some v → map choice_of ys ≡ choices_by_verdicts (map choice_of (take i xs)) (take i vs)
    → choice_of y ≡ tested_if_passed v (choice_of x) → zs ≡ ys ++ y ∷ []
    → map choice_of zs ≡ choices_by_verdicts (map choice_of (take (i + 1) xs)) (take (i + 1) vs)
choice_next xs vs i x y v ys zs e f a g b =
    ap (map choice_of) b ∙ last ys ∙ (λ k. a k ++ g k ∷ []) ∙ sym (chosen_from xs vs i x v e f)
    ∙ ap (λ m. choices_by_verdicts (map choice_of (take m xs)) (take m vs)) (sym (add-one i))
  where
    last : (us : List code_choice.Choice) → map choice_of (us ++ y ∷ []) ≡ map choice_of us ++ choice_of y ∷ []
    last [] = refl
    last (u ∷ us) = ap (λ l. choice_of u ∷ l) (last us)

pub ruleset choosing = (choice_next)

-- as many choices as there were
pub count_chosen : (xs : List code_choice.Choice) (vs : List Verdict) → length xs ≡ length vs → length (choices_by_verdicts (map choice_of xs) vs) ≡ length xs
count_chosen [] [] e = refl
count_chosen [] (v ∷ vs) e = absurd (omega (arith, e))
count_chosen (x ∷ xs) [] e = absurd (omega (arith, e))
count_chosen (x ∷ xs) (v ∷ vs) e = ap suc (count_chosen xs vs (omega (arith, e)))

map_count : (xs : List code_choice.Choice) → length (map choice_of xs) ≡ length xs
map_count [] = refl
map_count (x ∷ xs) = ap suc (map_count xs)

pub chosen_as_many : (xs ys : List code_choice.Choice) (vs : List Verdict) → length xs ≡ length vs → map choice_of ys ≡ choices_by_verdicts (map choice_of xs) vs
    → length xs ≡ length ys
chosen_as_many xs ys vs e f = sym (count_chosen xs vs e) ∙ ap length (sym f) ∙ map_count ys
