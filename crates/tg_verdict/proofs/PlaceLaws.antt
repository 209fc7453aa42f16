-- Numbers and their places.
use Rattle.std.proofs.Common.{ℕ, zero, suc, ◌≡◌, ◌+◌, ◌++◌, ◌||◌, Bool, true, false, cond, nat_eq, ◌<◌, List, [], ◌∷◌, map, take, length, Option, Some, None, refl, sym, ap, ◌∙◌, arith, add-one}
use Rattle.std.specs.Prelude.{slice_get, if◌then◌else◌}
use Rattle.std.specs.List.{find}
use Rattle.tg_term.specs.declared.classes.Test.{Test}
use Rattle.tg_term.specs.declared.classes.Outcome.{Outcome}
use Rattle.tg_verdict.specs.Places.{is_among, AreOnce, test_number, outcome_number, HaveSame, test_of, outcome_of}

same : (m n : ℕ) → nat_eq m n ≡ true → m ≡ n
same m n e = grind (arith, e)

itself : (n : ℕ) → nat_eq n n ≡ true
itself n = grind arith

or_false : (a b : Bool) → (a || b) ≡ false → (a ≡ false) × (b ≡ false)
or_false false b e = (refl, e)
or_false true b e = absurd cc

-- what is found by a number is that number
pub found_number : (ns : List ℕ) (n k : ℕ) → Some k ≡ find (nat_eq n) ns → k ≡ n
found_number [] n k e = absurd cc
found_number (m ∷ ns) n k e = by (nat_eq n m) refl e (found_number ns n k)
  where
    by : (b : Bool) → nat_eq n m ≡ b → Some k ≡ cond b (Some m) (find (nat_eq n) ns) → (Some k ≡ find (nat_eq n) ns → k ≡ n) → k ≡ n
    by true f g rest = let p : k ≡ m = cc in p ∙ sym (same n m f)
    by false f g rest = rest g

-- what stands among them is among them
there : (ns : List ℕ) (i n : ℕ) → slice_get ns i ≡ Some n → is_among n ns ≡ true
there [] i n e = absurd cc
there (m ∷ ns) zero n e = let p : m ≡ n = cc e in ap (λ b. b || is_among n ns) (ap (nat_eq n) p ∙ itself n)
there (m ∷ ns) (suc i) n e = by (nat_eq n m) (there ns i n e)
  where
    by : (b : Bool) → is_among n ns ≡ true → (b || is_among n ns) ≡ true
    by true h = refl
    by false h = h

-- another number than those behind it
other : (ns : List ℕ) (m i n : ℕ) → is_among m ns ≡ false → slice_get ns i ≡ Some n → nat_eq n m ≡ false
other ns m i n h e = by (nat_eq n m) refl
  where
    by : (b : Bool) → nat_eq n m ≡ b → nat_eq n m ≡ false
    by false f = f
    by true f =
        let p = same n m f in
        let wrong : true ≡ false = sym (there ns i n e) ∙ ap (λ k. is_among k ns) p ∙ h in absurd cc

fresh : (ns : List ℕ) (i n : ℕ) → AreOnce ns → slice_get ns i ≡ Some n → is_among n (take i ns) ≡ false
fresh [] i n once e = absurd cc
fresh (m ∷ ns) zero n once e = refl
fresh (m ∷ ns) (suc i) n once e = ap (λ b. b || is_among n (take i ns)) (other ns m i n once.0 e) ∙ fresh ns i n once.1 e

take_map : {A : Type 0} (f : A → ℕ) (xs : List A) (i : ℕ) → take i (map f xs) ≡ map f (take i xs)
take_map f [] zero = refl
take_map f [] (suc i) = refl
take_map f (x ∷ xs) zero = refl
take_map f (x ∷ xs) (suc i) = ap (λ l. f x ∷ l) (take_map f xs i)

map_read : {A : Type 0} (f : A → ℕ) (xs : List A) (i : ℕ) (x : A) → slice_get xs i ≡ Some x → slice_get (map f xs) i ≡ Some (f x)
map_read f [] i x e = absurd cc
map_read f (y ∷ xs) zero x e = let p : y ≡ x = cc e in ap (λ z. Some (f z)) p
map_read f (y ∷ xs) (suc i) x e = map_read f xs i x e

take_next : {A : Type 0} (f : A → ℕ) (xs : List A) (i : ℕ) (x : A) → slice_get xs i ≡ Some x → map f (take (suc i) xs) ≡ map f (take i xs) ++ f x ∷ []
take_next f [] i x e = absurd cc
take_next f (y ∷ xs) zero x e = let p : y ≡ x = cc e in ap (λ z. f z ∷ []) p
take_next f (y ∷ xs) (suc i) x e = ap (λ l. f y ∷ l) (take_next f xs i x e)

-- one number more, where no number stands twice
next : {A : Type 0} (f : A → ℕ) (xs : List A) (i : ℕ) (x : A) (vs ws : List ℕ) → AreOnce (map f xs) → slice_get xs i ≡ Some x → vs ≡ map f (take i xs)
    → ws ≡ (if is_among (f x) vs then vs else vs ++ f x ∷ []) → ws ≡ map f (take (i + 1) xs)
next f xs i x vs ws once e v w =
    let none : is_among (f x) vs ≡ false =
    ap (is_among (f x)) (v ∙ sym (take_map f xs i)) ∙ fresh (map f xs) i (f x) once (map_read f xs i x e) in
    w ∙ ap (λ b. if b then vs else vs ++ f x ∷ []) none ∙ ap (λ l. l ++ f x ∷ []) v ∙ sym (take_next f xs i x e)
    ∙ ap (λ m. map f (take m xs)) (sym (add-one i))

pub test_next : (ts : List Test) (i : ℕ) (t : Test) (vs ws : List ℕ) → AreOnce (map test_number ts) → slice_get ts i ≡ Some t → vs ≡ map test_number (take i ts)
    → ws ≡ (if is_among (test_number t) vs then vs else vs ++ test_number t ∷ []) → ws ≡ map test_number (take (i + 1) ts)
test_next = next test_number

pub outcome_next : (os : List Outcome) (i : ℕ) (o : Outcome) (vs ws : List ℕ) → AreOnce (map outcome_number os) → slice_get os i ≡ Some o
    → vs ≡ map outcome_number (take i os)
    → ws ≡ (if is_among (outcome_number o) vs then vs else vs ++ outcome_number o ∷ []) → ws ≡ map outcome_number (take (i + 1) os)
outcome_next = next outcome_number

pub ruleset placing = (test_next, outcome_next)

-- what stands at a number's place is found by the number
at_place : {A : Type 0} (f : A → ℕ) (xs : List A) (i n : ℕ) → AreOnce (map f xs) → slice_get (map f xs) i ≡ Some n
    → slice_get xs i ≡ find (λ x. nat_eq n (f x)) xs
at_place f [] i n once e = absurd cc
at_place f (y ∷ xs) zero n once e =
    let p : f y ≡ n = cc e in sym (ap (λ b. cond b (Some y) (find (λ x. nat_eq n (f x)) xs)) (ap (nat_eq n) p ∙ itself n))
at_place f (y ∷ xs) (suc i) n once e =
    at_place f xs i n once.1 e ∙ sym (ap (λ b. cond b (Some y) (find (λ x. nat_eq n (f x)) xs)) (other (map f xs) (f y) i n once.0 e))

nowhere : {A : Type 0} (f : A → ℕ) (xs : List A) (n : ℕ) → is_among n (map f xs) ≡ false → find (λ x. nat_eq n (f x)) xs ≡ None
nowhere f [] n e = refl
nowhere f (y ∷ xs) n e =
    let p = or_false (nat_eq n (f y)) (is_among n (map f xs)) e in
    ap (λ b. cond b (Some y) (find (λ x. nat_eq n (f x)) xs)) p.0 ∙ nowhere f xs n p.1

pub test_at : (ts : List Test) (ns : List ℕ) (i n : ℕ) (o : Option Test) → AreOnce (map test_number ts) → ns ≡ map test_number ts → slice_get ns i ≡ Some n
    → o ≡ slice_get ts i → o ≡ test_of ts n
test_at ts ns i n o once e h f = f ∙ at_place test_number ts i n once (ap (λ l. slice_get l i) (sym e) ∙ h)

pub no_test : (ts : List Test) (ns : List ℕ) (n : ℕ) → ns ≡ map test_number ts → is_among n ns ≡ false → None ≡ test_of ts n
no_test ts ns n e h = sym (nowhere test_number ts n (ap (is_among n) (sym e) ∙ h))

pub outcome_at : (os : List Outcome) (ns : List ℕ) (i n : ℕ) (o : Option Outcome) → AreOnce (map outcome_number os) → ns ≡ map outcome_number os
    → slice_get ns i ≡ Some n → o ≡ slice_get os i → o ≡ outcome_of os n
outcome_at os ns i n o once e h f = f ∙ at_place outcome_number os i n once (ap (λ l. slice_get l i) (sym e) ∙ h)

pub no_outcome : (os : List Outcome) (ns : List ℕ) (n : ℕ) → ns ≡ map outcome_number os → is_among n ns ≡ false → None ≡ outcome_of os n
no_outcome os ns n e h = sym (nowhere outcome_number os n (ap (is_among n) (sym e) ∙ h))

-- and there is something
within : {A : Type 0} (f : A → ℕ) (xs : List A) (i n : ℕ) → slice_get (map f xs) i ≡ Some n → i < length xs
within f [] i n e = absurd cc
within f (x ∷ xs) zero n e = omega arith
within f (x ∷ xs) (suc i) n e = let rest = within f xs i n e in omega (arith, rest)

pub test_within : (ts : List Test) (ns : List ℕ) (i n : ℕ) → ns ≡ map test_number ts → slice_get ns i ≡ Some n → i < length ts
test_within ts ns i n e h = within test_number ts i n (ap (λ l. slice_get l i) (sym e) ∙ h)

pub outcome_within : (os : List Outcome) (ns : List ℕ) (i n : ℕ) → ns ≡ map outcome_number os → slice_get ns i ≡ Some n → i < length os
outcome_within os ns i n e h = within outcome_number os i n (ap (λ l. slice_get l i) (sym e) ∙ h)

pub ruleset finding = (test_at, no_test, outcome_at, no_outcome, test_within, outcome_within)

-- ---- numbers of which some may stand twice

among_append : (n : ℕ) (ms : List ℕ) (k : ℕ) → is_among n (ms ++ k ∷ []) ≡ (is_among n ms || nat_eq n k)
among_append n [] k = by (nat_eq n k)
  where
    by : (b : Bool) → (b || false) ≡ b
    by true = refl
    by false = refl
among_append n (m ∷ ms) k = by (nat_eq n m) (among_append n ms k)
  where
    by : (b : Bool) → is_among n (ms ++ k ∷ []) ≡ (is_among n ms || nat_eq n k) → (b || is_among n (ms ++ k ∷ [])) ≡ ((b || is_among n ms) || nat_eq n k)
    by true h = refl
    by false h = h

-- what an added number changes
pub pushed : (vs : List ℕ) (k n : ℕ) → is_among n (if is_among k vs then vs else vs ++ k ∷ []) ≡ (is_among n vs || nat_eq n k)
pushed vs k n = by (is_among k vs) refl
  where
    right : (b : Bool) → b ≡ (b || false)
    right true = refl
    right false = refl

    also : is_among k vs ≡ true → (c : Bool) → nat_eq n k ≡ c → is_among n vs ≡ (is_among n vs || c)
    also h false f = right (is_among n vs)
    also h true f = let m : is_among n vs ≡ true = ap (λ j. is_among j vs) (same n k f) ∙ h in m ∙ sym (ap (λ b. b || true) m)

    by : (b : Bool) → is_among k vs ≡ b → is_among n (if b then vs else vs ++ k ∷ []) ≡ (is_among n vs || nat_eq n k)
    by false h = among_append n vs k
    by true h = also h (nat_eq n k) refl

pub same_next : (ts : List Test) (i : ℕ) (t : Test) (vs ws : List ℕ) → slice_get ts i ≡ Some t → HaveSame vs (map test_number (take i ts))
    → ws ≡ (if is_among (test_number t) vs then vs else vs ++ test_number t ∷ []) → HaveSame ws (map test_number (take (i + 1) ts))
same_next ts i t vs ws e v w n =
    let before = map test_number (take i ts) in
    ap (is_among n) w ∙ pushed vs (test_number t) n
    ∙ ap (λ b. b || nat_eq n (test_number t)) (v n) ∙ sym (among_append n before (test_number t))
    ∙ ap (is_among n) (sym (take_next test_number ts i t e) ∙ ap (λ m. map test_number (take m ts)) (sym (add-one i)))

pub ruleset gathering = (same_next)
