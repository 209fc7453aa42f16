-- What walks down a term lean on: what stands in a term is less high, and a list of terms has its terms at their places.
use Rattle.std.proofs.Common.{ℕ, suc, ◌≡◌, Bool, true, false, not, ◌&&◌, ◌||◌, nat_eq, List, [], ◌∷◌, length, Option, inl, inr, Some, refl, sym, ◌∙◌, ap, map, arith}
use Rattle.std.specs.Prelude.{slice_get}
use Rattle.std.specs.Option.{option_map_or}
use Rattle.std.proofs.lemmas.Bool.Decides.{eqb_tells}
use Rattle.std.proofs.lemmas.List.{length-map}
use Rattle.tg_model.specs.Tree.{Tree, trees, elements}
use Rattle.tg_model.specs.Types as types
use Rattle.tg_model.specs.Theory.{numbered}
use Rattle.tg_accept.specs.Faults.{are_variables, are_inputs, are_parameters, is_smaller, is_lower_use, each_call, are_cases_shaped}
use Rattle.tg_types.specs.declared.types.Ty.{Ty}
use Rattle.tg_types.specs.Types.{ty, types}
use Rattle.tg_declarations.specs.declared.definitions.ConDef.{ConDef}
use Rattle.tg_theory.specs.Matched.{recursive_of}
use Rattle.tg_term.specs.View.{elements-trees}
use Rattle.tg_term.proofs.ListHeights.{height_at, branch_height_at}

pub ruleset lower = (height_at, branch_height_at)

same_yes : (m n : ℕ) → m ≡ n → nat_eq m n ≡ true
same_yes m n e = elim (eqb_tells m n) [ inl p ↦ p.0 | inr p ↦ absurd (p.1 e) ]

same_no : (m n : ℕ) → ¬ (m ≡ n) → nat_eq m n ≡ false
same_no m n e = elim (eqb_tells m n) [ inl p ↦ absurd (e p.1) | inr p ↦ p.0 ]

-- ---- so many, in order

pub inputs_yes : (ts : List Tree) (count : ℕ) → length ts ≡ count → are_variables 1 (trees ts) ≡ are_inputs count (trees ts)
inputs_yes ts count e =
    sym (ap (λ b. b && are_variables 1 (trees ts)) (same_yes (length (elements (trees ts))) count (ap length (elements-trees ts) ∙ e)))

pub inputs_no : (ts : List Tree) (count : ℕ) → ¬ (length ts ≡ count) → false ≡ are_inputs count (trees ts)
inputs_no ts count e =
    sym (ap (λ b. b && are_variables 1 (trees ts)) (same_no (length (elements (trees ts))) count (λ p. e (sym (ap length (elements-trees ts)) ∙ p))))

pub ruleset ordered = (inputs_yes, inputs_no)

elements_tys : (us : List types.Ty) → types.elements (types.tys us) ≡ us
elements_tys [] = refl
elements_tys (u ∷ us) = ap (λ l. u ∷ l) (elements_tys us)

pub type_count : (ts : List Ty) → length (types.elements (types ts)) ≡ length ts
type_count ts = ap length (elements_tys (map ty ts)) ∙ length-map ts ty

pub parameters_yes : (ts : List Ty) (count : ℕ) → length ts ≡ count
    → are_parameters 1 (types ts) ≡ (nat_eq (length (types.elements (types ts))) count && are_parameters 1 (types ts))
parameters_yes ts count e = sym (ap (λ b. b && are_parameters 1 (types ts)) (same_yes (length (types.elements (types ts))) count (type_count ts ∙ e)))

pub parameters_no : (ts : List Ty) (count : ℕ) → ¬ (length ts ≡ count)
    → false ≡ (nat_eq (length (types.elements (types ts))) count && are_parameters 1 (types ts))
parameters_no ts count e =
    sym (ap (λ b. b && are_parameters 1 (types ts)) (same_no (length (types.elements (types ts))) count (λ p. e (sym (type_count ts) ∙ p))))

pub ruleset ordered_types = (parameters_yes, parameters_no)

-- ---- the argument at a place

pub own_use : (self place start : ℕ) (flags : List Bool) (f : ℕ) (ts : List Tree) (o : Option Tree) → f ≡ self → o ≡ numbered ts place
    → option_map_or (is_smaller start flags) o false ≡ is_lower_use self place start flags f (trees ts)
own_use self place start flags f ts o same at =
    ap (λ p. option_map_or (is_smaller start flags) p false) (at ∙ ap (λ l. numbered l place) (sym (elements-trees ts)))
    ∙ ap (λ b. not b || option_map_or (is_smaller start flags) (numbered (elements (trees ts)) place) false) (sym (same_yes f self same))

pub other_use : (self place start : ℕ) (flags : List Bool) (f : ℕ) (ts : List Tree) → ¬ (f ≡ self) → true ≡ is_lower_use self place start flags f (trees ts)
other_use self place start flags f ts other =
    ap (λ b. not b || option_map_or (is_smaller start flags) (numbered (elements (trees ts)) place) false) (sym (same_no f self other))

pub ruleset places = (own_use, other_use)

-- ---- cases

-- where there are as many cases as constructors, what is left of both begins with the next ones
pub cases_other : (self place start : ℕ) (ts : List Tree) (ls : List (List Bool)) → ¬ (length ts ≡ length ls) → false ≡ are_cases_shaped self place start ts ls
cases_other self place start [] [] e = absurd (e refl)
cases_other self place start [] (l ∷ ls) e = refl
cases_other self place start (t ∷ ts) [] e = refl
cases_other self place start (t ∷ ts) (l ∷ ls) e =
    let rest = cases_other self place start ts ls (λ p. e (ap suc p)) in
    by (each_call (is_lower_use self place start l) t) rest
  where
    by : (b : Bool) → false ≡ are_cases_shaped self place start ts ls → false ≡ (b && are_cases_shaped self place start ts ls)
    by true q = q
    by false q = refl

pub cases_uneven : (self place start d : ℕ) (ts : List Tree) (cs : List ConDef) → ¬ (length ts ≡ length cs)
    → false ≡ are_cases_shaped self place start ts (map (recursive_of d) cs)
cases_uneven self place start d ts cs e =
    cases_other self place start ts (map (recursive_of d) cs) (λ p. e (p ∙ length-map cs (recursive_of d)))

second_case : (self place start : ℕ) (t u : Tree) → each_call (is_lower_use self place start []) t ≡ true
    → each_call (is_lower_use self place start (true ∷ [])) u ≡ are_cases_shaped self place start (t ∷ u ∷ []) ([] ∷ (true ∷ []) ∷ [])
second_case self place start t u e =
    sym (ap (λ b. b && (each_call (is_lower_use self place start (true ∷ [])) u && true)) e ∙ last (each_call (is_lower_use self place start (true ∷ [])) u))
  where
    last : (b : Bool) → (b && true) ≡ b
    last true = refl
    last false = refl

pub case_of_successor : (self place start : ℕ) (ts : List Tree) (t u : Tree) → slice_get ts 0 ≡ Some t → slice_get ts 1 ≡ Some u → length ts ≡ 2
    → each_call (is_lower_use self place start []) t ≡ true
    → each_call (is_lower_use self place start (true ∷ [])) u ≡ are_cases_shaped self place start ts ([] ∷ (true ∷ []) ∷ [])
case_of_successor self place start [] t u p q n e = cc p
case_of_successor self place start (x ∷ []) t u p q n e = cc q
case_of_successor self place start (x ∷ y ∷ []) t u p q n e =
    let a : t ≡ x = cc p in
    let b : u ≡ y = cc q in
    ap (each_call (is_lower_use self place start (true ∷ []))) b
    ∙ second_case self place start x y (ap (each_call (is_lower_use self place start [])) (sym a) ∙ e)
case_of_successor self place start (x ∷ y ∷ z ∷ ts) t u p q n e = absurd (omega (arith, n))

pub cases_not_two : (self place start : ℕ) (ts : List Tree) → ¬ (length ts ≡ 2) → false ≡ are_cases_shaped self place start ts ([] ∷ (true ∷ []) ∷ [])
cases_not_two self place start ts e = cases_other self place start ts ([] ∷ (true ∷ []) ∷ []) e

pub case_of_zero : (self place start : ℕ) (ts : List Tree) (t : Tree) → slice_get ts 0 ≡ Some t → each_call (is_lower_use self place start []) t ≡ false
    → false ≡ are_cases_shaped self place start ts ([] ∷ (true ∷ []) ∷ [])
case_of_zero self place start [] t p e = cc p
case_of_zero self place start (x ∷ ts) t p e =
    let a : t ≡ x = cc p in
    sym (ap (λ b. b && are_cases_shaped self place start ts ((true ∷ []) ∷ [])) (ap (each_call (is_lower_use self place start [])) (sym a) ∙ e))

pub ruleset cases = (cases_not_two, case_of_zero, case_of_successor)
