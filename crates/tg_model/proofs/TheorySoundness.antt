-- In a well-typed theory, on answers of the program's type, calls of functions give values of their types.
use Rattle.std.proofs.Common.{ℕ, zero, suc, ◌≡◌, ◌<◌, ◌≤◌, ◌-◌, Bool, true, false, List, [], ◌∷◌, ◌++◌, map, length, take, drop, Some, None, refl, sym, ◌∙◌, ap, subst, nat_le, if◌then◌else◌, arith}
use Rattle.std.specs.Prelude.{slice_get, option_map}
use Rattle.std.proofs.lemmas.List.{map-append}
use Rattle.tg_model.specs.Types.{Ty}
use Rattle.tg_model.specs.Tree as tree
use Rattle.tg_model.specs.Tree.{Tree, Trees, free, elements}
use Rattle.tg_model.specs.Value as value
use Rattle.tg_model.specs.Value.{Value, Values, number, boolean, made, wrong, size, total_size}
use Rattle.tg_model.specs.Theory.{Theory, Function, numbered, first_constructor}
use Rattle.tg_model.specs.Typing.{HasType, AreTyped}
use Rattle.tg_model.specs.Table.{Table, answer_of}
use Rattle.tg_model.specs.Denotation.{World, value_in, values_in, opened, place_of, others, world_below}
use Rattle.tg_model.specs.TermTyping.{IsTyped, EachCall}
use Rattle.tg_model.specs.WellTyped.{IsLower, AreCases}
use Rattle.tg_model.proofs.ValueTyping.{typed_at, typed_append}

pub world_first : (th : Theory) (tb : Table) (n d : ℕ) → (world_below th tb n).first d ≡ first_constructor th.datatypes d
world_first th tb zero d = refl
world_first th tb (suc n) d = refl

pub world_answers : (th : Theory) (tb : Table) (n : ℕ) (vs : List Value) → (world_below th tb n).answers vs ≡ answer_of th tb vs
world_answers th tb zero vs = refl
world_answers th tb (suc n) vs = refl

-- an argument of a constructor is smaller than the value that it makes
part_size : (vs : Values) (i : ℕ) (v : Value) → slice_get (value.elements vs) i ≡ Some v → size v ≤ total_size vs
part_size value.none i v e = cc
part_size (value.more w vs) zero v e = let p : w ≡ v = cc e in omega (arith, ap size p)
part_size (value.more w vs) (suc i) v e = let p = part_size vs i v e in omega arith

opened_if : (b : Bool) (p q : ℕ × List Value) → (if b then Some p else None) ≡ Some q → p ≡ q
opened_if true p q e = cc
opened_if false p q e = cc

opened_parts : (p q : ℕ × List Value) → Some p ≡ Some q → p.1 ≡ q.1
opened_parts p q e = let r : p ≡ q = cc e in ap (λ (x : ℕ × List Value). x.1) r

pub smaller : (d first : ℕ) (v : Value) (k : ℕ) (parts : List Value) → opened d first v ≡ Some (k, parts) → (i : ℕ) (u : Value) → slice_get parts i ≡ Some u → size u < size v
smaller zero first (number zero) k parts e i u h =
    let p = opened_parts (0, []) (k, parts) e in
    let q : None ≡ Some u = ap (λ (l : List Value). slice_get l i) p ∙ h in cc
smaller zero first (number (suc n)) k parts e zero u h =
    let p = opened_parts (1, number n ∷ []) (k, parts) e in
    let q : Some (number n) ≡ Some u = ap (λ (l : List Value). slice_get l 0) p ∙ h in
    let r : number n ≡ u = cc q in omega (arith, ap size r)
smaller zero first (number (suc n)) k parts e (suc i) u h =
    let p = opened_parts (1, number n ∷ []) (k, parts) e in
    let q : None ≡ Some u = ap (λ (l : List Value). slice_get l (suc i)) p ∙ h in cc
smaller zero first (boolean b) k parts e i u h = cc
smaller zero first (made c vs) k parts e i u h = cc
smaller (suc d) first (number n) k parts e i u h = cc
smaller (suc d) first (boolean b) k parts e i u h = cc
smaller (suc d) first (made c vs) k parts e i u h =
    let p = ap (λ (q : ℕ × List Value). q.1) (opened_if (nat_le first c) (c - first, value.elements vs) (k, parts) e) in
    let q : slice_get (value.elements vs) i ≡ Some u = ap (λ (l : List Value). slice_get l i) p ∙ h in
    let r = part_size vs i u q in omega arith

pub case_at : (th : Theory) (self : ℕ) (x : Function) (place : ℕ) (cases : List Tree) (all : List (List Ty)) (k : ℕ) (args : List Ty)
    → AreCases th self x place cases all → slice_get all k ≡ Some args
    → (t : Tree) × (slice_get cases k ≡ Some t) × EachCall (IsLower self place (length (others x.arguments place)) (length args)) t
    × IsTyped th (others x.arguments place ++ args) [] t x.answer
case_at th self x place [] [] k args h e = cc
case_at th self x place [] (ts ∷ rest) k args h e = absurd h
case_at th self x place (t ∷ cases) [] k args h e = absurd h
case_at th self x place (t ∷ cases) (ts ∷ rest) zero args h e =
    let p : ts ≡ args = cc e in (
      t,
      refl,
      subst (λ (xs : List Ty). EachCall (IsLower self place (length (others x.arguments place)) (length xs)) t) p h.0,
      subst (λ (xs : List Ty). IsTyped th (others x.arguments place ++ xs) [] t x.answer) p h.1,
    )
case_at th self x place (t ∷ cases) (ts ∷ rest) (suc k) args h e = case_at th self x place cases rest k args h.2 e

typed_take : (th : Theory) (f : Ty → Ty) (n : ℕ) (vs : List Value) (ts : List Ty) → AreTyped th vs (map f ts) → AreTyped th (take n vs) (map f (take n ts))
typed_take th f zero vs ts h = tt
typed_take th f (suc n) [] [] h = tt
typed_take th f (suc n) [] (t ∷ ts) h = absurd h
typed_take th f (suc n) (v ∷ vs) [] h = absurd h
typed_take th f (suc n) (v ∷ vs) (t ∷ ts) h = (h.0, typed_take th f n vs ts h.1)

typed_drop : (th : Theory) (f : Ty → Ty) (n : ℕ) (vs : List Value) (ts : List Ty) → AreTyped th vs (map f ts) → AreTyped th (drop n vs) (map f (drop n ts))
typed_drop th f zero vs ts h = h
typed_drop th f (suc n) [] [] h = tt
typed_drop th f (suc n) [] (t ∷ ts) h = absurd h
typed_drop th f (suc n) (v ∷ vs) [] h = absurd h
typed_drop th f (suc n) (v ∷ vs) (t ∷ ts) h = typed_drop th f n vs ts h.1

pub typed_others : (th : Theory) (f : Ty → Ty) (n : ℕ) (vs : List Value) (ts : List Ty) → AreTyped th vs (map f ts) → AreTyped th (others vs n) (map f (others ts n))
typed_others th f n vs ts h =
    subst (λ (x : List Ty). AreTyped th (others vs n) x) (sym (map-append f (take (n - 1) ts) (drop n ts)))
    (typed_append th (take (n - 1) vs) (drop n vs) (map f (take (n - 1) ts)) (map f (drop n ts)) (typed_take th f (n - 1) vs ts h) (typed_drop th f n vs ts h))

pub typed_place : (th : Theory) (f : Ty → Ty) (n : ℕ) (vs : List Value) (ts : List Ty) (t : Ty) → AreTyped th vs (map f ts) → numbered ts n ≡ Some t → HasType th (place_of vs n) (f t)
typed_place th f zero vs ts t h e = cc
typed_place th f (suc n) vs ts t h e = typed_at th f ts vs n t h e

-- the value of an argument that is a variable
pub listed_value : (w : World) (env loc : List Value) (ts : Trees) (n : ℕ) → numbered (values_in w env loc ts) n ≡ option_map (value_in w env loc) (numbered (elements ts) n)
listed_value w env loc ts zero = refl
listed_value w env loc tree.none (suc n) = refl
listed_value w env loc (tree.more t ts) (suc zero) = refl
listed_value w env loc (tree.more t ts) (suc (suc n)) = listed_value w env loc ts (suc n)
