-- Equations whose words are looked up, and their typings.
use Rattle.std.specs.Prelude.{ℕ, zero, suc, ◌≡◌, ◌+◌, nat_eq, List, [], ◌∷◌, ◌++◌, reverse, length, Option, Some, None, option_map, option_and_then, if◌then◌else◌}
use Rattle.std.specs.Option.{option_map_or}
use Rattle.std.specs.List.{list_any}
use Rattle.tg_model.specs.Types.{Ty, nat, bool, parameter, meta, applied, elements}
use Rattle.tg_model.specs.Theory.{Theory, Function}
use Rattle.tg_model.specs.Accepted.{parameters_from}
use Rattle.tg_model.specs.TermTyping.{Typing, type_of}
use Rattle.tg_accept.specs.Faults.{is_taken}
use Rattle.tg_accept.specs.Resolved.{Head, zero_head, of, Resolved}
use Rattle.tg_accept.specs.ResolvedTyping.{head_at, IsTypingOf}
use Rattle.tg_accept.specs.Raw.{Name, RawPattern, bare, zero_pattern, bracketed, RawEquation}
use Rattle.tg_accept.specs.Meaning.{each_meant, constructor_named, head_meant, Scope, taken_names, resolve}

pub data Pattern : Type 0 where
  variable : (x : List ℕ) → Pattern
  -- a constructor with the variables for its arguments
  matched : (head : Head) (xs : List (List ℕ)) → Pattern

abbrev pub variable_meant : Scope → Name → Option Pattern
variable_meant S x = if is_taken x (taken_names S) then None else Some (variable x)

-- a bare word is a constructor where it is declared as one, and a variable otherwise
abbrev pub pattern_meant : Scope → RawPattern → Option Pattern
pattern_meant S (bare x) = option_map_or (λ c. Some (matched (of c) [])) (constructor_named S.declared x) (variable_meant S x)
pattern_meant S zero_pattern = Some (matched zero_head [])
pattern_meant S (bracketed head xs) =
    if list_any (λ x. is_taken x (taken_names S)) xs then None else option_map (λ h. matched h xs) (head_meant S.declared head)

-- how many of the patterns are variables
abbrev pub count_variables : List Pattern → ℕ
count_variables [] = 0
count_variables (variable x ∷ ps) = suc (count_variables ps)
count_variables (matched h xs ∷ ps) = count_variables ps

-- names with their numbers, which begin with `n`
abbrev pub numbered_from : ℕ → List Name → List (List ℕ × ℕ)
numbered_from n [] = []
numbered_from n (x ∷ xs) = (x, n) ∷ numbered_from (suc n) xs

-- the variables of the patterns from the left, where the next variable has the number `n` and the next of a constructor's arguments `m`
abbrev pub left_from : ℕ → ℕ → List Pattern → List (List ℕ × ℕ)
left_from n m [] = []
left_from n m (variable x ∷ ps) = (x, n) ∷ left_from (suc n) m ps
left_from n m (matched h xs ∷ ps) = numbered_from m xs ++ left_from n (m + length xs) ps

-- The variables of a left side, of two with one name the later one first. The arguments that are variables have the first numbers,
-- then come those of constructors.
abbrev pub left_variables : List Pattern → List (List ℕ × ℕ)
left_variables ps = reverse (left_from 1 (suc (count_variables ps)) ps)

abbrev pub left_names : List Pattern → List Name
left_names [] = []
left_names (variable x ∷ ps) = x ∷ left_names ps
left_names (matched h xs ∷ ps) = xs ++ left_names ps

pub record Equation : Type 0 where
  pub head : List ℕ
  pub patterns : List Pattern
  pub body : Resolved

-- the scope of an equation's right side
abbrev pub under : Scope → List Pattern → Scope
under S ps = record S { variables = left_variables ps }

abbrev pub equation_meant : Scope → RawEquation → Option Equation
equation_meant S e =
    option_and_then (λ ps. option_map (λ t. record { head = e.head; patterns = ps; body = t }) (resolve (under S ps) [] e.body))
    (each_meant (pattern_meant S) e.patterns)

-- ---- types

-- a type's datatype, 0 for nat, and the types that it is applied to
abbrev pub parts : Ty → Option (ℕ × List Ty)
parts nat = Some (0, [])
parts bool = None
parts (parameter n) = None
parts (meta n) = None
parts (applied zero ts) = None
parts (applied (suc d) ts) = Some (suc d, elements ts)

-- the types of a constructor's arguments where its result has this type
abbrev pub opened : Theory → Head → Ty → Option (List Ty)
opened th h t =
    option_and_then
    (λ (p : ℕ × List Ty). option_and_then (λ (q : ℕ × List Ty). if nat_eq q.0 p.0 then Some q.1 else None) (head_at th p.1 h))
    (parts t)

-- The types of a left side's variables: of the arguments that are variables, and of those of constructors. The patterns have the
-- types of the declared arguments.
abbrev pub left_types : Theory → List Pattern → List Ty → Option (List Ty × List Ty)
left_types th [] [] = Some ([], [])
left_types th (variable x ∷ ps) (t ∷ ts) = option_map (λ (l : List Ty × List Ty). (t ∷ l.0, l.1)) (left_types th ps ts)
left_types th (matched h xs ∷ ps) (t ∷ ts) =
    option_and_then
    (λ us. if nat_eq (length xs) (length us) then option_map (λ (l : List Ty × List Ty). (l.0, us ++ l.1)) (left_types th ps ts) else None)
    (opened th h t)
left_types th ps ts = None

-- the types at which a function's own equations use it: its type parameters
abbrev pub own_parameters : Option Function → List Ty
own_parameters None = []
own_parameters (Some x) = parameters_from 1 x.parameters

-- A typing of an equation of function `x`: its left side has the declared argument types and its right side the result type, where
-- the type parameters stand for themselves. `self` is the function where its equations may use it.
abbrev pub IsEquationTyping : Theory → Option Function → Function → Equation → Typing → Type 0
IsEquationTyping th self x e d =
    (l : List Ty × List Ty) × (left_types th e.patterns x.arguments ≡ Some l)
    × IsTypingOf th self (own_parameters self) (l.0 ++ l.1) [] e.body d × (type_of d ≡ x.answer)
