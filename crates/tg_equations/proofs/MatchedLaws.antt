-- Which equation is for a constructor, and how many are.
use Rattle.std.proofs.Common.{ℕ, zero, suc, ◌≡◌, ◌+◌, ◌↔◌, Bool, true, false, not, ◌&&◌, ◌||◌, nat_eq, List, [], ◌∷◌, map, Some, None, refl, sym, ◌∙◌, ap, subst, inl, inr, if◌then◌else◌, arith}
use Rattle.std.specs.Prelude.{slice_get, option_map}
use Rattle.std.specs.List.{list_all, list_any}
use Rattle.std.specs.Option.{option_map_or}
use Rattle.std.proofs.lemmas.Bool.{eqb-true}
use Rattle.std.proofs.lemmas.Bool.Decides.{eqb_tells}
use Rattle.tg_equations.proofs.LeftLaws.{equal_yes, equal_no}
use Rattle.std.proofs.lemmas.Option.{slice_get-map}
use Rattle.tg_model.specs.Theory.{datatype_of, numbered}
use Rattle.tg_model.proofs.Booleans.{and_left, and_right}
use Rattle.tg_accept.specs.Checks.{Each}
use Rattle.tg_accept.specs.Core.{same_head}
use Rattle.tg_accept.specs.Equations.{Pattern, variable, matched, Equation}
use Rattle.tg_accept.specs.Functions.{is_for, count_for, side_for, places, place_in, datatype_at_place}
use Rattle.tg_accept.specs.Core.{heads_of}
use Rattle.tg_accept.specs.Declared.{Declared, theory}
use Rattle.tg_model.specs.Theory.{Function}
use Rattle.tg_equations.specs.Shaped.{Covers}
use Rattle.tg_accept.specs.Resolved.{Head}
use Rattle.tg_types.specs.declared.types.Ty.{Ty}
use Rattle.tg_types.specs.Types.{ty}
use Rattle.tg_equations.specs.declared.places.Place.{Place}
use Rattle.tg_equations.specs.declared.places.Places.{Places}
use Rattle.tg_equations.specs.Places.{placed_from, held, holds_one}
use Rattle.tg_equations.specs.Matched.{datatype_in, first_head, AreEquationPlaces, side_at}

pub for_first : (h : Head) (ps : List Pattern) → is_for h ps ≡ option_map_or (λ x. same_head x h) (first_head ps) false
for_first h [] = refl
for_first h (variable x ∷ ps) = for_first h ps
for_first h (matched k xs ∷ ps) = refl

-- ---- how many

nat_step : (m n : ℕ) → nat_eq m n ≡ nat_eq (suc m) (suc n)
nat_step m n = elim (eqb_tells m n) [
  | inl p ↦ p.0 ∙ sym (equal_yes (suc m) (suc n) (ap suc p.1))
  | inr p ↦ p.0 ∙ sym (equal_no (suc m) (suc n) (λ q. p.1 (let r : m ≡ n = omega (arith, q) in r)))
]

nat_more : (n : ℕ) → false ≡ nat_eq (suc n) 0
nat_more n = sym (equal_no (suc n) 0 (λ q. let r : ⊥ = omega (arith, q) in r))

module _ (h : Head) where
  abbrev Is : Equation → Bool
  Is e = is_for h e.patterns

  none_counted : (es : List Equation) → not (list_any Is es) ≡ nat_eq (count_for h es) 0
  none_counted [] = refl
  none_counted (e ∷ es) = go (is_for h e.patterns) (none_counted es)
    where
      go : (b : Bool) → not (list_any Is es) ≡ nat_eq (count_for h es) 0
          → not (b || list_any Is es) ≡ nat_eq (if b then suc (count_for h es) else count_for h es) 0
      go true q = nat_more (count_for h es)
      go false q = q

  one_counted : (n : ℕ) (es : List Equation) → option_map_or (λ (p : Place). p.only) (placed_from Is n es) false ≡ nat_eq (count_for h es) 1
  one_counted n [] = refl
  one_counted n (e ∷ es) = go (is_for h e.patterns) (one_counted (suc n) es)
    where
      go : (b : Bool) → option_map_or (λ (p : Place). p.only) (placed_from Is (suc n) es) false ≡ nat_eq (count_for h es) 1
          → option_map_or (λ (p : Place). p.only) (if b then Some (record { first = n; only = not (list_any Is es) }) else placed_from Is (suc n) es) false
          ≡ nat_eq (if b then suc (count_for h es) else count_for h es) 1
      go true q = none_counted es ∙ nat_step (count_for h es) 0
      go false q = q

  -- the right side of the equation at the place is that of the first one
  side_found : (n : ℕ) (es ys : List Equation) → ((i : ℕ) → slice_get ys (n + i) ≡ slice_get es i) → side_at ys (placed_from Is n es) ≡ side_for es h
  side_found n [] ys e = refl
  side_found n (x ∷ es) ys e = go (is_for h x.patterns) (side_found (suc n) es ys (λ i. moved i ∙ e (suc i)))
    where
      moved : (i : ℕ) → slice_get ys (suc n + i) ≡ slice_get ys (n + suc i)
      moved i = let k : suc n + i ≡ n + suc i = omega arith in ap (slice_get ys) k

      here : slice_get ys n ≡ Some x
      here = let k : n ≡ n + 0 = omega arith in ap (slice_get ys) k ∙ e 0

      go : (b : Bool) → side_at ys (placed_from Is (suc n) es) ≡ side_for es h
          → side_at ys (if b then Some (record { first = n; only = not (list_any Is es) }) else placed_from Is (suc n) es) ≡ (if b then x.body else side_for es h)
      go true q = ap (λ o. option_map_or (λ (y : Equation). y.body) o (side_for [] h)) here
      go false q = q

pub side_first : (p : Places) (es : List Equation) (h : Head) → AreEquationPlaces p es → side_at es (held p h) ≡ side_for es h
side_first p es h are = ap (side_at es) (are h) ∙ side_found h 0 es es (λ i. let k : 0 + i ≡ i = omega arith in ap (slice_get es) k)

one_is : (p : Places) (es : List Equation) → AreEquationPlaces p es → (h : Head) → holds_one p h ≡ nat_eq (count_for h es) 1
one_is p es are h = ap (λ o. option_map_or (λ (x : Place). x.only) o false) (are h) ∙ one_counted h 0 es

pub covered_if : (p : Places) (es : List Equation) (hs : List Head) → AreEquationPlaces p es → list_all (holds_one p) hs ≡ true → Each (λ h. count_for h es ≡ 1) hs
covered_if p es [] are e = tt
covered_if p es (h ∷ hs) are e = (
  eqb-true (count_for h es) 1 (sym (one_is p es are h) ∙ and_left (holds_one p h) (list_all (holds_one p) hs) e),
  covered_if p es hs are (and_right (holds_one p h) (list_all (holds_one p) hs) e),
)

pub covered_yes : (p : Places) (es : List Equation) (hs : List Head) → AreEquationPlaces p es → Each (λ h. count_for h es ≡ 1) hs → list_all (holds_one p) hs ≡ true
covered_yes p es [] are h = refl
covered_yes p es (x ∷ hs) are h = λ i. (one_is p es are x ∙ ap (λ n. nat_eq n 1) h.0) i && covered_yes p es hs are h.1 i

-- ---- datatypes

at_number : (ts : List Ty) (n : ℕ) → numbered (map ty ts) n ≡ option_map ty (numbered ts n)
at_number ts zero = refl
at_number ts (suc n) = slice_get-map ty ts n

pub datatype_none : (ts : List Ty) (n : ℕ) → None ≡ numbered ts n → 0 ≡ datatype_in (map ty ts) n
datatype_none ts n e = sym (ap (λ o. option_map_or datatype_of o 0) (at_number ts n ∙ ap (option_map ty) (sym e)))

pub datatype_some : (ts : List Ty) (n : ℕ) (t : Ty) → Some t ≡ numbered ts n → datatype_of (ty t) ≡ datatype_in (map ty ts) n
datatype_some ts n t e = sym (ap (λ o. option_map_or datatype_of o 0) (at_number ts n ∙ ap (option_map ty) (sym e)))

pub ruleset datatypes = (datatype_none, datatype_some)

-- ---- a shape, part by part

pub covers_told : (D : Declared) (x : Function) (es : List Equation) (p : Places) (place : ℕ) (b : Bool) → place ≡ place_in es
    → Each (λ (e : Equation). places e.patterns ≡ place ∷ []) es → AreEquationPlaces p es
    → b ≡ list_all (holds_one p) (heads_of (theory [] D) (datatype_at_place x place)) → (b ≡ true) ↔ Covers D x es
covers_told D x es p place b here each are q = (
  (λ e. record {
    one_place = subst (λ n. Each (λ (k : Equation). places k.patterns ≡ n ∷ []) es) here each;
    covered = covered_if p es (heads_of (theory [] D) (datatype_at_place x (place_in es))) are (sym told ∙ e);
  }),
  (λ h. told ∙ covered_yes p es (heads_of (theory [] D) (datatype_at_place x (place_in es))) are h.covered),
)
  where
    told : b ≡ list_all (holds_one p) (heads_of (theory [] D) (datatype_at_place x (place_in es)))
    told = q ∙ ap (λ n. list_all (holds_one p) (heads_of (theory [] D) (datatype_at_place x n))) here
