-- Places of constructors.
use Rattle.std.proofs.Common.{ℕ, zero, suc, ◌≡◌, ◌≤◌, ◌<◌, ◌+◌, ◌-◌, Bool, true, false, List, [], ◌∷◌, length, Option, Some, None, refl, ap, sym, ◌∙◌, arith, ◌⊎◌, inl, inr}
use Rattle.std.specs.Prelude.{slice_get, nat_le}
use Rattle.std.specs.Option.{option_map_or}
use Rattle.std.proofs.lemmas.List.{length-map}
use Rattle.std.proofs.lemmas.Bool.{le-leb, leb-true}
use Rattle.tg_model.specs.Tree.{literal}
use Rattle.tg_model.specs.Theory.{Datatype, numbered, first_constructor, constructors_before}
use Rattle.tg_declarations.specs.Owners.{numbers_from}
use Rattle.tg_declarations.specs.View.{constructor_numbers, datatype, constructor}
use Rattle.tg_declarations.specs.declared.definitions.DataDef.{DataDef}
use Rattle.tg_rows.specs.Parts.{only_if}
use Rattle.tg_rows.specs.Rows.{place_of_literal}
use Rattle.tg_term.specs.View.{elements-trees}

pub ruleset constructors = (elements-trees)

pub zero_opened : (n : ℕ) → ¬ (1 ≤ n) → (0, []) ≡ place_of_literal n
zero_opened zero h = refl
zero_opened (suc n) h = absurd (h (omega arith))

pub positive_opened : (n : ℕ) → 1 ≤ n → (1, literal (n - 1) ∷ []) ≡ place_of_literal n
positive_opened zero h = absurd (omega (arith, h))
positive_opened (suc n) h = let e : suc n - 1 ≡ n = omega arith in ap (λ k. (1, literal k ∷ [])) e

pub ruleset literals = (zero_opened, positive_opened)

first_found : (xs : List Datatype) (d c : ℕ) → slice_get (constructor_numbers xs d) 0 ≡ Some c → c ≡ first_constructor xs d
first_found xs d c e = by (numbered xs d) e
  where
    at : (n : ℕ) → slice_get (numbers_from (first_constructor xs d) n) 0 ≡ Some c → c ≡ first_constructor xs d
    at zero k = cc k
    at (suc n) k = let s : first_constructor xs d ≡ c = cc k in sym s

    by : (o : Option Datatype) → slice_get (option_map_or (λ (x : Datatype). numbers_from (first_constructor xs d) (length x.constructors)) o []) 0 ≡ Some c
        → c ≡ first_constructor xs d
    by None k = cc k
    by (Some x) k = at (length x.constructors) k

first_there : (xs : List Datatype) (d c first : ℕ) (cs : List ℕ) → Some first ≡ numbered cs 1 → cs ≡ constructor_numbers xs d → first ≡ first_constructor xs d
first_there xs d k c cs e is = first_found xs d c (ap (λ l. slice_get l 0) (sym is) ∙ sym e)

before_next : (xs : List Datatype) (k : ℕ) (x : Datatype) → Some x ≡ slice_get xs k
    → constructors_before (suc k) xs ≡ constructors_before k xs + length x.constructors
before_next [] k x e = cc e
before_next (y ∷ xs) zero x e = let s : x ≡ y = cc e in let m : length x.constructors ≡ length y.constructors = ap (λ (z : Datatype). length z.constructors) s in omega (arith, m)
before_next (y ∷ xs) (suc k) x e = let m = before_next xs k x e in omega (arith, m)

before_all : (xs : List Datatype) (k j : ℕ) → None ≡ slice_get xs k → k ≤ j → constructors_before j xs ≡ constructors_before k xs
before_all [] zero zero e h = refl
before_all [] zero (suc j) e h = refl
before_all [] (suc k) zero e h = absurd (omega (arith, h))
before_all [] (suc k) (suc j) e h = refl
before_all (y ∷ xs) zero j e h = cc e
before_all (y ∷ xs) (suc k) zero e h = absurd (omega (arith, h))
before_all (y ∷ xs) (suc k) (suc j) e h = let m = before_all xs k j e (omega (arith, h)) in omega (arith, m)

before_rises : (xs : List Datatype) (k j : ℕ) → k ≤ j → constructors_before k xs ≤ constructors_before j xs
before_rises xs zero j h = omega arith
before_rises xs (suc k) zero h = absurd (omega (arith, h))
before_rises [] (suc k) (suc j) h = omega arith
before_rises (x ∷ xs) (suc k) (suc j) h = let m = before_rises xs k j (omega (arith, h)) in omega (arith, m)

first_next : (xs : List Datatype) (n : ℕ) (x : Datatype) → Some x ≡ numbered xs n → first_constructor xs (n + 1) ≡ first_constructor xs n + length x.constructors
first_next xs zero x e = cc e
first_next xs (suc k) x e =
    let m = before_next xs k x e in
    ap (first_constructor xs) (let s : suc k + 1 ≡ suc (suc k) = omega arith in s) ∙ (omega (arith, m))

first_rises : (xs : List Datatype) (m n : ℕ) → 1 ≤ m → m ≤ n → first_constructor xs m ≤ first_constructor xs n
first_rises xs zero n a h = absurd (omega (arith, a))
first_rises xs (suc m) zero a h = absurd (omega (arith, h))
first_rises xs (suc m) (suc n) a h = let r = before_rises xs m n (omega (arith, h)) in omega (arith, r)

first_more : (xs : List Datatype) (n : ℕ) (def : DataDef) → Some (datatype def) ≡ numbered xs n
    → first_constructor xs n + length def.cons ≡ first_constructor xs (n + 1)
first_more xs n def e = sym (first_next xs n (datatype def) e ∙ ap (λ k. first_constructor xs n + k) (length-map def.cons constructor))

first_past : (xs : List Datatype) (n d : ℕ) → 1 ≤ n → n ≤ d → None ≡ numbered xs n → first_constructor xs n ≡ first_constructor xs d
first_past xs zero d a b e = absurd (omega (arith, a))
first_past xs (suc n) zero a b e = absurd (omega (arith, b))
first_past xs (suc n) (suc d) a b e = let m = before_all xs n d e (omega (arith, b)) in omega (arith, m)

first_positive : (xs : List Datatype) (d : ℕ) → 1 ≤ first_constructor xs d
first_positive xs zero = omega arith
first_positive xs (suc d) = omega arith

present_if : (first c : ℕ) → first ≤ c → Some (c - first) ≡ only_if (nat_le first c) (c - first)
present_if first c h = sym (ap (λ b. only_if b (c - first)) (le-leb first c h))

absent_is : (first c : ℕ) (b : Bool) → nat_le first c ≡ b → ¬ (first ≤ c) → None ≡ only_if b (c - first)
absent_is first c true e h = absurd (h (leb-true first c e))
absent_is first c false e h = refl

pub present : (first c : ℕ) → first ≤ c → Some (c - first) ≡ only_if (nat_le first c) (c - first)
present = present_if

pub absent : (first c : ℕ) → ¬ (first ≤ c) → None ≡ only_if (nat_le first c) (c - first)
absent first c h = absent_is first c _ refl h

pub placed : (o : Option ℕ) (xs : List Datatype) (d c first : ℕ) (cs : List ℕ) → o ≡ only_if (nat_le first c) (c - first) → Some first ≡ numbered cs 1
    → cs ≡ constructor_numbers xs d → o ≡ only_if (nat_le (first_constructor xs d) c) (c - first_constructor xs d)
placed o xs d c first cs h e is = h ∙ ap (λ n. only_if (nat_le n c) (c - n)) (first_there xs d c first cs e is)

pub ruleset places = (present, absent, placed)

-- What is left of number `c` after the constructors of the datatypes before number `n`, where those before `d` are to be left out.
pub record IsLeft (xs : List Datatype) (d c n place : ℕ) : Type 0 where
  pub sum : place + first_constructor xs n ≡ c
  pub positive : 1 ≤ n
  pub within : (n ≤ d) ⊎ (n ≡ 1)

abbrev pub is_place : List Datatype → ℕ → ℕ → Option ℕ
is_place xs d c = only_if (nat_le (first_constructor xs d) c) (c - first_constructor xs d)

pub none_left : (xs : List Datatype) (d c : ℕ) → ¬ (1 ≤ c) → None ≡ is_place xs d c
none_left xs d c h = let p = first_positive xs d in absent (first_constructor xs d) c (λ le. h (omega (arith, p, le)))

pub left_first : (xs : List Datatype) (d c : ℕ) → 1 ≤ c → IsLeft xs d c 1 (c - 1)
left_first xs d c h = record { sum = omega (arith, h); positive = omega arith; within = inr refl }

pub left_next : (xs : List Datatype) (d c n place : ℕ) (def : DataDef) → IsLeft xs d c n place → n < d → Some (datatype def) ≡ numbered xs n
    → length def.cons ≤ place → IsLeft xs d c (n + 1) (place - length def.cons)
left_next xs d c n place def k lt e h =
    let s = k.sum in let m = first_more xs n def e in
    record { sum = omega (arith, s, m, h); positive = omega arith; within = inl (omega (arith, lt)) }

at_first : (xs : List Datatype) (d c place first : ℕ) → place + first ≡ c → first ≡ first_constructor xs d → Some place ≡ is_place xs d c
at_first xs d c place first e f =
    let p : place ≡ c - first = omega (arith, e) in
    let h : first ≤ c = omega (arith, e) in
    ap Some p ∙ present first c h ∙ ap (λ n. only_if (nat_le n c) (c - n)) f

pub left_past : (xs : List Datatype) (d c n place : ℕ) → IsLeft xs d c n place → n < d → None ≡ numbered xs n → Some place ≡ is_place xs d c
left_past xs d c n place k lt e = at_first xs d c place _ k.sum (first_past xs n d k.positive (omega (arith, lt)) e)

pub left_short : (xs : List Datatype) (d c n place : ℕ) (def : DataDef) → IsLeft xs d c n place → n < d → Some (datatype def) ≡ numbered xs n
    → ¬ (length def.cons ≤ place) → None ≡ is_place xs d c
left_short xs d c n place def k lt e h =
    let s = k.sum in let m = first_more xs n def e in let r = first_rises xs (n + 1) d (omega arith) (omega (arith, lt)) in
    absent (first_constructor xs d) c (λ le. h (omega (arith, s, m, r, le)))

first_end : (xs : List Datatype) (n d : ℕ) → 1 ≤ n → d ≤ n → (n ≤ d) ⊎ (n ≡ 1) → first_constructor xs n ≡ first_constructor xs d
first_end xs zero d a b h = absurd (omega (arith, a))
first_end xs (suc n) zero a b (inl h) = absurd (omega (arith, h))
first_end xs (suc n) zero a b (inr h) = ap (first_constructor xs) h
first_end xs (suc n) (suc d) a b (inl h) = ap (first_constructor xs) (let s : suc n ≡ suc d = omega (arith, b, h) in s)
first_end xs (suc n) (suc d) a b (inr h) = ap (first_constructor xs) (let s : suc n ≡ suc d = omega (arith, b, h) in s)

pub left_last : (xs : List Datatype) (d c n place : ℕ) → IsLeft xs d c n place → ¬ (n < d) → Some place ≡ is_place xs d c
left_last xs d c n place k h = at_first xs d c place _ k.sum (first_end xs n d k.positive (omega (arith, h)) k.within)

pub ruleset left = (none_left, left_first, left_next, left_past, left_short, left_last)
