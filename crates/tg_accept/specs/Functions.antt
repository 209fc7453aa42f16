-- Declarations of functions: what they mean, and which of them are right.
use Rattle.std.specs.Prelude.{ℕ, suc, Bool, true, false, nat_eq, ◌+◌, ◌≡◌, List, [], ◌∷◌, map, length, Option, Some, None, slice_get, option_map, option_and_then, if◌then◌else◌}
use Rattle.std.specs.Option.{option_map_or}
use Rattle.tg_model.specs.Tree as tree
use Rattle.tg_model.specs.Types.{Ty}
use Rattle.tg_model.specs.Theory.{Function, Body, Owned, plain, recursive, numbered, constructor_at, datatype_of}
use Rattle.tg_model.specs.Accepted.{AreDistinct}
use Rattle.tg_accept.specs.Declared.{Declared, theory}
use Rattle.tg_accept.specs.Kept.{names_of_types, names_of_values}
use Rattle.tg_accept.specs.Faults.{is_taken}
use Rattle.tg_accept.specs.Meant.{AreMade}
use Rattle.tg_accept.specs.Resolved as resolved
use Rattle.tg_accept.specs.Resolved.{Head, zero_head, successor_head, of, Resolved, Resolveds, free, calls_program}
use Rattle.tg_accept.specs.Core.{core, same_head, heads_of}
use Rattle.tg_accept.specs.Raw.{Name, RawType, RawEquation}
use Rattle.tg_accept.specs.Checks.{Each, Any}
use Rattle.tg_accept.specs.Typings.{HasTyping, HasOneTyping, HasTwoTypings}
use Rattle.tg_accept.specs.Meaning.{each_meant, type_meant, type_variables, Scope}
use Rattle.tg_accept.specs.Equations.{Pattern, variable, matched, count_variables, left_names, Equation, equation_meant, IsEquationTyping}
use Rattle.tg_accept.specs.Cases.{AreCasesShaped}
use Rattle.tg_accept.specs.Uses.{EachOwnUse, terms_in}

-- all but the last item, and the last one
abbrev pub behind : {A : Type 0} → A → Option (List A × A) → List A × A
behind x None = ([], x)
behind x (Some p) = (x ∷ p.0, p.1)

abbrev pub split_last : {A : Type 0} → List A → Option (List A × A)
split_last [] = None
split_last (x ∷ xs) = Some (behind x (split_last xs))

-- ---- what is declared

-- a function's name and types, and its equations; the body of `signature` says nothing
pub record Meant : Type 0 where
  pub signature : Function
  pub equations : List Equation

abbrev pub unsaid : Body
unsaid = plain (tree.truth false)

abbrev pub signature_of : Name → ℕ → List Ty × Ty → Function
signature_of x params p = record { name = x; parameters = params; arguments = p.0; answer = p.1; body = unsaid }

abbrev pub signature_meant : Declared → Name → List RawType → Option Function
signature_meant D x ts =
    option_map (signature_of x (length (type_variables ts)))
    (option_and_then split_last (each_meant (type_meant (type_variables ts) (names_of_types D)) ts))

-- the scope of the left sides of its equations
abbrev pub scope_of : Declared → Name → Bool → Scope
scope_of D x is_recursive = record { declared = D; own = x ∷ []; is_recursive = is_recursive; variables = []; in_certificate = false }

-- there is no meaning where a name is declared already or isn't declared
abbrev pub function_meant : Declared → Name → Bool → List RawType → List RawEquation → Option Meant
function_meant D x is_recursive ts es =
    if is_taken x (names_of_values D) then None
    else option_and_then (λ f. option_map (λ ks. record { signature = f; equations = ks }) (each_meant (equation_meant (scope_of D x is_recursive)) es))
    (signature_meant D x ts)

-- ---- types

abbrev pub self_of : Bool → Function → Option Function
self_of true f = Some f
self_of false f = None

pub record IsTypable (D : Declared) (is_recursive : Bool) (m : Meant) : Type 0 where
  -- each datatype has its number of arguments
  pub types : AreMade (theory [] D) m.signature.parameters (m.signature.answer ∷ m.signature.arguments)
  -- each equation has a typing
  pub equations : Each (λ e. HasTyping (IsEquationTyping (theory [] D) (self_of is_recursive m.signature) m.signature e)) m.equations

abbrev pub HasOneTypingEach : Declared → Bool → Meant → Type 0
HasOneTypingEach D is_recursive m =
    Each (λ e. HasOneTyping (IsEquationTyping (theory [] D) (self_of is_recursive m.signature) m.signature e)) m.equations

abbrev pub HasTwoTypingsSomewhere : Declared → Bool → Meant → Type 0
HasTwoTypingsSomewhere D is_recursive m =
    Any (λ e. HasTwoTypings (IsEquationTyping (theory [] D) (self_of is_recursive m.signature) m.signature e)) m.equations

-- ---- the body

-- the places of the constructor patterns, where the first pattern is at place `n`
abbrev pub places_from : ℕ → List Pattern → List ℕ
places_from n [] = []
places_from n (variable x ∷ ps) = places_from (suc n) ps
places_from n (matched h xs ∷ ps) = n ∷ places_from (suc n) ps

abbrev pub places : List Pattern → List ℕ
places ps = places_from 1 ps

abbrev pub first_or_zero : List ℕ → ℕ
first_or_zero [] = 0
first_or_zero (n ∷ ns) = n

-- the place of the first constructor pattern of the first equation, 0 where there is none
abbrev pub place_in : List Equation → ℕ
place_in [] = 0
place_in (e ∷ es) = first_or_zero (places e.patterns)

-- the first constructor pattern is of this head
abbrev pub is_for : Head → List Pattern → Bool
is_for h [] = false
is_for h (variable x ∷ ps) = is_for h ps
is_for h (matched k xs ∷ ps) = same_head k h

abbrev pub count_for : Head → List Equation → ℕ
count_for h [] = 0
count_for h (e ∷ es) = if is_for h e.patterns then suc (count_for h es) else count_for h es

-- the right side of the first equation for a head; False where there is none
abbrev pub side_for : List Equation → Head → Resolved
side_for [] h = resolved.truth false
side_for (e ∷ es) h = if is_for h e.patterns then e.body else side_for es h

-- the datatype of the argument at a place, 0 for nat
abbrev pub datatype_at_place : Function → ℕ → ℕ
datatype_at_place f place = option_map_or datatype_of (numbered f.arguments place) 0

abbrev pub own_number : Declared → ℕ
own_number D = suc (length D.functions)

-- the right side of the first equation
abbrev pub first_side : List Equation → Resolved
first_side [] = resolved.truth false
first_side (e ∷ es) = e.body

-- A primitive recursive function has a case for each constructor of the type of the argument that its patterns match.
abbrev pub body_of : Declared → Bool → Meant → Body
body_of D true m =
    recursive (place_in m.equations)
    (map (λ h. core (theory [] D) (own_number D) (side_for m.equations h)) (heads_of (theory [] D) (datatype_at_place m.signature (place_in m.equations))))
body_of D false m = plain (core (theory [] D) (own_number D) (first_side m.equations))

abbrev pub whole_function : Declared → Bool → Meant → Function
whole_function D is_recursive m = record m.signature { body = body_of D is_recursive m }

-- ---- uses of the function itself

-- of the arguments of a constructor, which are of its datatype itself: it is told by the declaration and not by an instance
abbrev pub recursive_flags : Declared → Head → List Bool
recursive_flags D zero_head = []
recursive_flags D successor_head = true ∷ []
recursive_flags D (of c) =
    option_map_or (λ (o : Owned). map (λ t. nat_eq (datatype_of t) o.datatype) o.constructor.arguments) (constructor_at (theory [] D) c) []

-- variable `n` of an equation with a pattern of this head stands for a recursive argument of the constructor
pub record IsRecursiveVariable (D : Declared) (e : Equation) (h : Head) (n : ℕ) : Type 0 where
  pub index : ℕ
  -- the arguments that are variables have the first numbers
  pub number : n ≡ suc (count_variables e.patterns + index)
  pub recursive : slice_get (recursive_flags D h) index ≡ Some true

-- the argument at the place of the constructor pattern is a variable that stands for a recursive argument
pub record IsRecursiveUse (D : Declared) (place : ℕ) (e : Equation) (ts : Resolveds) : Type 0 where
  pub head : Head
  pub is_head : is_for head e.patterns ≡ true
  pub number : ℕ
  pub argument : numbered (terms_in ts) place ≡ Some (free number)
  pub recursive : IsRecursiveVariable D e head number

-- ---- shape

pub record IsEquationShaped (D : Declared) (x : Function) (e : Equation) : Type 0 where
  pub begins : e.head ≡ x.name
  -- no variable stands twice on the left
  pub distinct : AreDistinct (left_names e.patterns)
  pub cases : AreCasesShaped (theory [] D) e.body

-- what is said of the equations of a `primrec` as they are written
pub record IsPrimrecWritten (D : Declared) (m : Meant) : Type 0 where
  pub equations : Each (IsEquationShaped D m.signature) m.equations
  -- each has exactly one constructor pattern
  pub one_pattern : Each (λ e. length (places e.patterns) ≡ 1) m.equations
  -- and all of them in the same place
  pub one_place : Each (λ e. places e.patterns ≡ place_in m.equations ∷ []) m.equations
  -- each constructor of the type that is matched has exactly one equation
  pub covered : Each (λ h. count_for h m.equations ≡ 1) (heads_of (theory [] D) (datatype_at_place m.signature (place_in m.equations)))

pub record IsPrimrecShaped (D : Declared) (m : Meant) : Type 0 where
  pub written : IsPrimrecWritten D m
  -- where it uses itself, the argument in that place is a variable that stands for a recursive argument of the equation's constructor
  pub lower : Each (λ e. EachOwnUse (IsRecursiveUse D (place_in m.equations) e) e.body) m.equations

pub record IsDefinitionShaped (D : Declared) (m : Meant) : Type 0 where
  pub equations : Each (IsEquationShaped D m.signature) m.equations
  pub one_equation : length m.equations ≡ 1
  pub no_pattern : Each (λ e. places e.patterns ≡ []) m.equations

abbrev pub IsFunctionShaped : Declared → Bool → Meant → Type 0
IsFunctionShaped D true m = IsPrimrecShaped D m
IsFunctionShaped D false m = IsDefinitionShaped D m

-- the program isn't named in it
abbrev pub NamesNoProgram : Meant → Type 0
NamesNoProgram m = Each (λ e. calls_program e.body ≡ false) m.equations
