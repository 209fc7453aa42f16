-- Values taken apart, and what is looked up.
use Rattle.std.proofs.Common.{ℕ, zero, suc, ◌≡◌, ◌≤◌, ◌+◌, List, [], ◌∷◌, map, length, Option, Some, None, refl, ap, sym, ◌∙◌, arith, ◌⊎◌, inl, inr}
use Rattle.std.specs.Prelude.{slice_get, option_map}
use Rattle.std.specs.Option.{option_map_or}
use Rattle.std.proofs.lemmas.Option.{slice_get-map}
use Rattle.tg_model.specs.Theory.{Datatype, numbered, first_constructor, constructors_before, datatype_of}
use Rattle.tg_types.specs.Types.{ty, ty-Nat, ty-Bool, ty-Param, ty-Meta, ty-App}
use Rattle.tg_types.specs.declared.types.Ty.{Ty}
use Rattle.tg_declarations.specs.Owners.{numbers_from}
use Rattle.tg_declarations.specs.View.{constructor_numbers, datatype, constructor}
use Rattle.tg_declarations.specs.declared.definitions.DataDef.{DataDef}
use Rattle.std.proofs.lemmas.List.{length-map}
use Rattle.tg_eval.proofs.HeldLaws.{elements_values}

pub first_found : (xs : List Datatype) (d c : ℕ) → slice_get (constructor_numbers xs d) 0 ≡ Some c → c ≡ first_constructor xs d
first_found xs d c e = by (numbered xs d) e
  where
    at : (n : ℕ) → slice_get (numbers_from (first_constructor xs d) n) 0 ≡ Some c → c ≡ first_constructor xs d
    at zero k = cc k
    at (suc n) k = let s : first_constructor xs d ≡ c = cc k in sym s

    by : (o : Option Datatype) → slice_get (option_map_or (λ (x : Datatype). numbers_from (first_constructor xs d) (length x.constructors)) o []) 0 ≡ Some c
        → c ≡ first_constructor xs d
    by None k = cc k
    by (Some x) k = at (length x.constructors) k

before_next : (xs : List Datatype) (k : ℕ) (x : Datatype) → Some x ≡ slice_get xs k
    → constructors_before (suc k) xs ≡ constructors_before k xs + length x.constructors
before_next [] k x e = cc e
before_next (y ∷ xs) zero x e = let s : x ≡ y = cc e in let m : length x.constructors ≡ length y.constructors = ap (λ (z : Datatype). length z.constructors) s in omega (arith, m)
before_next (y ∷ xs) (suc k) x e = let m = before_next xs k x e in omega (arith, m)

before_all : (xs : List Datatype) (k j : ℕ) → None ≡ slice_get xs k → k ≤ j → constructors_before j xs ≡ constructors_before k xs
before_all [] zero zero e h = refl
before_all [] zero (suc j) e h = refl
before_all [] (suc k) zero e h = absurd (omega (arith, h))
before_all [] (suc k) (suc j) e h = refl
before_all (y ∷ xs) zero j e h = cc e
before_all (y ∷ xs) (suc k) zero e h = absurd (omega (arith, h))
before_all (y ∷ xs) (suc k) (suc j) e h = let m = before_all xs k j e (omega (arith, h)) in omega (arith, m)

pub first_next : (xs : List Datatype) (n : ℕ) (x : Datatype) → Some x ≡ numbered xs n → first_constructor xs (n + 1) ≡ first_constructor xs n + length x.constructors
first_next xs zero x e = cc e
first_next xs (suc k) x e =
    let m = before_next xs k x e in
    ap (first_constructor xs) (let s : suc k + 1 ≡ suc (suc k) = omega arith in s) ∙ (omega (arith, m))

pub first_more : (xs : List Datatype) (n : ℕ) (def : DataDef) → Some (datatype def) ≡ numbered xs n
    → first_constructor xs n + length def.cons ≡ first_constructor xs (n + 1)
first_more xs n def e = sym (first_next xs n (datatype def) e ∙ ap (λ k. first_constructor xs n + k) (length-map def.cons constructor))

pub first_past : (xs : List Datatype) (n d : ℕ) → 1 ≤ n → n ≤ d → None ≡ numbered xs n → first_constructor xs n ≡ first_constructor xs d
first_past xs zero d a b e = absurd (omega (arith, a))
first_past xs (suc n) zero a b e = absurd (omega (arith, b))
first_past xs (suc n) (suc d) a b e = let m = before_all xs n d e (omega (arith, b)) in omega (arith, m)

pub first_end : (xs : List Datatype) (n d : ℕ) → 1 ≤ n → d ≤ n → (n ≤ d) ⊎ (n ≡ 1) → first_constructor xs n ≡ first_constructor xs d
first_end xs zero d a b h = absurd (omega (arith, a))
first_end xs (suc n) zero a b (inl h) = absurd (omega (arith, h))
first_end xs (suc n) zero a b (inr h) = ap (first_constructor xs) h
first_end xs (suc n) (suc d) a b (inl h) = ap (first_constructor xs) (let s : suc n ≡ suc d = omega (arith, b, h) in s)
first_end xs (suc n) (suc d) a b (inr h) = ap (first_constructor xs) (let s : suc n ≡ suc d = omega (arith, b, h) in s)

pub typed_there : (ts : List Ty) (n d : ℕ) (t : Ty) → Some t ≡ numbered ts n → d ≡ datatype_of (ty t) → d ≡ option_map_or datatype_of (numbered (map ty ts) n) 0
typed_there ts zero d t e is = cc e
typed_there ts (suc k) d t e is = is ∙ ap (λ o. option_map_or datatype_of (option_map ty o) 0) e ∙ ap (λ o. option_map_or datatype_of o 0) (sym (slice_get-map ty ts k))

pub typed_absent : (ts : List Ty) (n : ℕ) → None ≡ numbered ts n → 0 ≡ option_map_or datatype_of (numbered (map ty ts) n) 0
typed_absent ts zero e = refl
typed_absent ts (suc k) e = ap (λ o. option_map_or datatype_of (option_map ty o) 0) e ∙ ap (λ o. option_map_or datatype_of o 0) (sym (slice_get-map ty ts k))

pub first_there : (xs : List Datatype) (d c : ℕ) (cs : List ℕ) → Some c ≡ numbered cs 1 → cs ≡ constructor_numbers xs d → c ≡ first_constructor xs d
first_there xs d c cs e is = first_found xs d c (ap (λ l. slice_get l 0) (sym is) ∙ sym e)

pub ruleset reading = (elements_values)

pub ruleset opening = (elements_values)

pub ruleset parts = (elements_values)

pub ruleset typed = (typed_there, typed_absent)

pub ruleset types = (ty-Nat, ty-Bool, ty-Param, ty-Meta, ty-App)

pub ruleset firsts = (first_there, first_more, first_past, first_end)
