-- Texts that are refused for their names, with the declarations beside them that pass.
use Rattle.std.proofs.Common.{ℕ, zero, suc, ◌≡◌, ◌≤◌, true, false, List, [], ◌∷◌, map, Option, Some, None, refl, inl, inr, arith}
use Rattle.std.specs.Prelude.{codes, option_map}
use Rattle.tg_model.specs.Tree.{equality, negation}
use Rattle.tg_model.specs.Types.{parameter, applied, tys}
use Rattle.tg_accept.specs.Declared.{Declared, nothing}
use Rattle.tg_accept.specs.Resolved as resolved
use Rattle.tg_accept.specs.Resolved.{of, Resolved}
use Rattle.tg_accept.specs.Raw as raw
use Rattle.tg_accept.specs.Raw.{nodes, RawType, natural_type, type_variable, type_word, RawTerm, RawTerms, RawPattern, bare, zero_pattern, bracketed, successor_word, constructor_word, RawEquation, RawConstructor, RawDeclaration}
use Rattle.tg_accept.specs.Checks.{Kind, term_size, name, First, Pass, Exists}
use Rattle.tg_accept.specs.Meaning.{each_meant, type_meant, type_variables}
use Rattle.tg_accept.specs.Equations.{Pattern, variable, matched, pattern_meant, left_variables, Equation}
use Rattle.tg_accept.specs.Datatypes.{datatype_meant}
use Rattle.tg_accept.specs.Functions.{Meant, function_meant, scope_of}
use Rattle.tg_accept.specs.Programs.{program_meant}
use Rattle.tg_accept.specs.Theories.{checks_of, after, IsRefused, most_nodes}

-- ---- how texts are written here

abbrev pub one : RawTerm → RawTerms
one t = raw.more t raw.none

abbrev pub two : RawTerm → RawTerm → RawTerms
two t u = raw.more t (one u)

abbrev pub word : List ℕ → RawTerm
word x = raw.word x raw.none

abbrev pub equals : RawTerm → RawTerm → RawTerm
equals t u = raw.op equality (two t u)

abbrev pub lets : List ℕ → RawTerm → RawTerm → RawTerm
lets x t u = raw.bind (raw.name x) t u

abbrev pub equation : List ℕ → List RawPattern → RawTerm → RawEquation
equation f ps t = record { head = f; patterns = ps; body = t }

abbrev pub constructor_of : List ℕ → List RawType → RawConstructor
constructor_of x ts = record { name = x; arguments = ts }

abbrev pub of_one : List ℕ → RawType → RawType
of_one x t = type_word x (raw.more_types t raw.no_types)

abbrev pub f : List ℕ
f = codes "f"

abbrev pub x : List ℕ
x = codes "x"

abbrev pub xs : List ℕ
xs = codes "xs"

abbrev pub list_of : RawType → RawType
list_of t = of_one (codes "list") t

-- datatype 'a list = Nil | Cons 'a ('a list);
abbrev pub lists : RawDeclaration
lists = raw.datatype (codes "list") (codes "'a" ∷ [])
    (constructor_of (codes "Nil") [] ∷ constructor_of (codes "Cons") (type_variable (codes "'a") ∷ list_of (type_variable (codes "'a")) ∷ []) ∷ [])

abbrev pub listed : Declared
listed = after nothing lists

pub lists_pass : Pass (checks_of nothing lists)
lists_pass = (
  tt,
  (
    (tt, (((omega arith, omega arith), (((omega arith, (_, refl, refl)), ((omega arith, omega arith), tt)), tt)), tt)),
    (record { parameters = ((λ h. h), tt); arguments = refl; base = refl }, tt),
  ),
)

-- behind lists, at the second declaration
abbrev pub IsRefusedNext : RawDeclaration → Kind → Type 0
IsRefusedNext d k = IsRefused nothing 1 (lists ∷ d ∷ []) 2 k

pub next : (d : RawDeclaration) (k : Kind) → First (checks_of listed d) k → IsRefusedNext d k
next d k h = inr (lists_pass, inl (h, refl))

-- a function from naturals by one equation, and one from lists of them by two
abbrev pub numbers_to_numbers : List RawType
numbers_to_numbers = natural_type ∷ natural_type ∷ []

abbrev pub lists_to_numbers : List RawType
lists_to_numbers = list_of natural_type ∷ natural_type ∷ []

abbrev pub on_numbers : RawEquation → RawDeclaration
on_numbers e = raw.definition f numbers_to_numbers (e ∷ [])

abbrev pub on_lists : RawEquation → RawEquation → RawDeclaration
on_lists e k = raw.primrec f lists_to_numbers (e ∷ k ∷ [])

abbrev pub empty : RawPattern
empty = bare (codes "Nil")

abbrev pub filled : List ℕ → List ℕ → RawPattern
filled y ys = bracketed (constructor_word (codes "Cons")) (y ∷ ys ∷ [])

no_meaning : {A : Type 0} (o : Option A) → o ≡ None → ¬ (Exists o)
no_meaning None e h = h
no_meaning (Some m) e h = cc e

misnamed : (e : RawEquation) → nodes e.body ≤ most_nodes → function_meant listed f false numbers_to_numbers (e ∷ []) ≡ None → IsRefusedNext (on_numbers e) name
misnamed e small none = next (on_numbers e) name (inr ((small, tt), inl (no_meaning _ none, refl)))

both_misnamed : (e k : RawEquation) → nodes e.body ≤ most_nodes → nodes k.body ≤ most_nodes
    → function_meant listed f true lists_to_numbers (e ∷ k ∷ []) ≡ None → IsRefusedNext (on_lists e k) name
both_misnamed e k small little none = next (on_lists e k) name (inr ((small, (little, tt)), inl (no_meaning _ none, refl)))

-- what is looked up in an equation of the function
abbrev Body : RawEquation → Resolved → Type 0
Body e t = option_map (λ (m : Meant). map (λ (k : Equation). k.body) m.equations) (function_meant listed f false numbers_to_numbers (e ∷ [])) ≡ Some (t ∷ [])

-- ---- words in terms

-- f x = y
abbrev unknown : RawEquation
unknown = equation f (bare x ∷ []) (word (codes "y"))

unknown_word : IsRefusedNext (on_numbers unknown) name
unknown_word = misnamed unknown (omega arith) refl

-- a first equation is ambiguous and a second has an unknown word: f Nil = if Nil = Nil then 0 else 0; f (Cons x xs) = y
abbrev empty_ambiguous : RawEquation
empty_ambiguous =
    equation f (empty ∷ []) (raw.choice (raw.more (equals (word (codes "Nil")) (word (codes "Nil"))) (two (raw.number 0) (raw.number 0))))

abbrev filled_unknown : RawEquation
filled_unknown = equation f (filled x xs ∷ []) (word (codes "y"))

name_before_ambiguous : IsRefusedNext (on_lists empty_ambiguous filled_unknown) name
name_before_ambiguous = both_misnamed empty_ambiguous filled_unknown (omega arith) (omega arith) refl

-- a definition doesn't use itself: f x = f x; a primrec may
abbrev uses_itself : RawEquation
uses_itself = equation f (bare x ∷ []) (raw.word f (one (word x)))

itself : IsRefusedNext (on_numbers uses_itself) name
itself = misnamed uses_itself (omega arith) refl

itself_again : Exists (function_meant listed f true numbers_to_numbers (uses_itself ∷ []))
itself_again = tt

-- a variable with arguments passes when the words in its arguments do: f x = x x, and f x = x y
misused : Body (equation f (bare x ∷ []) (raw.word x (one (word x)))) (resolved.misused (resolved.more (resolved.free 1) resolved.none))
misused = refl

abbrev misused_on_unknown : RawEquation
misused_on_unknown = equation f (bare x ∷ []) (raw.word x (one (word (codes "y"))))

argument_first : IsRefusedNext (on_numbers misused_on_unknown) name
argument_first = misnamed misused_on_unknown (omega arith) refl

-- a word with a wrong number of arguments passes: f x = Cons
too_few : Body (equation f (bare x ∷ []) (word (codes "Cons"))) (resolved.con 2 resolved.none)
too_few = refl

-- an inner variable hides an outer one: f x = let x = 0 in x
hidden : Body (equation f (bare x ∷ []) (lets x (raw.number 0) (word x))) (resolved.bind (resolved.literal 0) (resolved.bound 0))
hidden = refl

-- the bound term of a let isn't under its binder: f x = let y = y in x
abbrev bound_too_early : RawEquation
bound_too_early = equation f (bare x ∷ []) (lets (codes "y") (word (codes "y")) (word x))

not_yet_bound : IsRefusedNext (on_numbers bound_too_early) name
not_yet_bound = misnamed bound_too_early (omega arith) refl

-- ---- variables

-- the function's own name: f f = 0, and f x = let f = x in x
abbrev own_pattern : RawEquation
own_pattern = equation f (bare f ∷ []) (raw.number 0)

named_as_itself : IsRefusedNext (on_numbers own_pattern) name
named_as_itself = misnamed own_pattern (omega arith) refl

abbrev own_let : RawEquation
own_let = equation f (bare x ∷ []) (lets f (word x) (word x))

let_as_itself : IsRefusedNext (on_numbers own_let) name
let_as_itself = misnamed own_let (omega arith) refl

-- a constructor's: f x = let Nil = x in x; another name may be declared later
abbrev constructor_let : RawEquation
constructor_let = equation f (bare x ∷ []) (lets (codes "Nil") (word x) (word x))

let_as_constructor : IsRefusedNext (on_numbers constructor_let) name
let_as_constructor = misnamed constructor_let (omega arith) refl

other_let : Body (equation f (bare x ∷ []) (lets (codes "g") (word x) (word x))) (resolved.bind (resolved.free 1) (resolved.free 1))
other_let = refl

-- a variable of a branch: f x = case x of {Suc Nil => 0}
abbrev branch_variable : RawEquation
branch_variable = equation f (bare x ∷ []) (raw.case (word x) (raw.branch successor_word (raw.name (codes "Nil") ∷ []) (raw.number 0) raw.end))

branch_as_constructor : IsRefusedNext (on_numbers branch_variable) name
branch_as_constructor = misnamed branch_variable (omega arith) refl

-- of two variables of one name in a branch the later one is meant: case x of {Cons y y => y}
later_of_branch :
    Body (equation f (bare x ∷ []) (raw.case (word x) (raw.branch (constructor_word (codes "Cons")) (raw.name (codes "y") ∷ raw.name (codes "y") ∷ []) (word (codes "y")) raw.end)))
    (resolved.case 1 (resolved.free 1) (resolved.branch (of 2) (codes "y" ∷ codes "y" ∷ []) (resolved.bound 0) resolved.end))
later_of_branch = refl

-- no constructor: case x of {foo => 0}
abbrev unknown_branch : RawEquation
unknown_branch = equation f (bare x ∷ []) (raw.case (word x) (raw.branch (constructor_word (codes "foo")) [] (raw.number 0) raw.end))

no_such_constructor : IsRefusedNext (on_numbers unknown_branch) name
no_such_constructor = misnamed unknown_branch (omega arith) refl

-- ---- patterns

abbrev Patterns : List RawPattern → List Pattern → Type 0
Patterns ps qs = each_meant (pattern_meant (scope_of listed f true)) ps ≡ Some qs

-- a bare word is a constructor where it is declared as one; `(Nil)` is `Nil`
bare_words : Patterns (bare x ∷ bare (codes "Nil") ∷ bracketed (constructor_word (codes "Nil")) [] ∷ [])
    (variable x ∷ matched (of 1) [] ∷ matched (of 1) [] ∷ [])
bare_words = refl

-- only the first word in brackets may be a constructor: f (Cons Nil xs)
constructor_inside : each_meant (pattern_meant (scope_of listed f true)) (filled (codes "Nil") xs ∷ []) ≡ None
constructor_inside = refl

own_name : each_meant (pattern_meant (scope_of listed f true)) (bare f ∷ []) ≡ None
own_name = refl

not_declared : each_meant (pattern_meant (scope_of listed f true)) (bracketed (constructor_word (codes "foo")) (x ∷ []) ∷ []) ≡ None
not_declared = refl

-- the later variable of the left side is meant; others have the first numbers, then come the constructor's: f (Cons x xs) x
left_order : left_variables (matched (of 2) (x ∷ xs ∷ []) ∷ variable x ∷ []) ≡ (x, 1) ∷ (xs, 3) ∷ (x, 2) ∷ []
left_order = refl

-- ---- types

-- a name that is declared, one that isn't, and a type variable that is no parameter
known_types : (type_meant (codes "'a" ∷ []) (codes "list" ∷ []) (list_of (type_variable (codes "'a"))) ≡ Some (applied 1 (tys (parameter 1 ∷ []))))
    × (type_meant [] (codes "list" ∷ []) (of_one (codes "set") natural_type) ≡ None) × (type_meant [] [] (type_variable (codes "'a")) ≡ None)
    × (type_meant [] (codes "list" ∷ []) (type_word (codes "list") raw.no_types) ≡ Some (applied 1 (tys [])))
known_types = (refl, refl, refl, refl)

-- the parameters of a declared type, in the order in which they first stand there
parameters_in_order : type_variables (list_of (type_variable (codes "'b")) ∷ type_variable (codes "'a") ∷ type_variable (codes "'b") ∷ [])
    ≡ codes "'b" ∷ codes "'a" ∷ []
parameters_in_order = refl

-- ---- new names

taken : (datatype_meant listed (codes "list") [] (constructor_of (codes "A") [] ∷ []) ≡ None)
    × (datatype_meant listed (codes "t") [] (constructor_of (codes "Nil") [] ∷ []) ≡ None)
    × (datatype_meant listed (codes "t") [] (constructor_of (codes "A") [] ∷ constructor_of (codes "A") [] ∷ []) ≡ None)
    × (datatype_meant listed (codes "t") [] (constructor_of (codes "A") (type_variable (codes "'a") ∷ []) ∷ []) ≡ None)
    × (program_meant listed (codes "Cons") numbers_to_numbers ≡ None)
taken = (refl, refl, refl, refl, refl)

-- types and values are two spaces: datatype Nil = list
two_spaces : Exists (datatype_meant listed (codes "Nil") [] (constructor_of (codes "list") [] ∷ []))
two_spaces = tt

-- ---- sizes

-- a term of 100,001 nodes, found before words are looked up: ~ ~ .. y
deeper : ℕ → RawTerm
deeper zero = word (codes "y")
deeper (suc n) = raw.op negation (one (deeper n))

deeper_nodes : (n : ℕ) → nodes (deeper n) ≡ suc n
unfolding deeper
deeper_nodes zero = refl
deeper_nodes (suc n) = let e = deeper_nodes n in omega (arith, e)

abbrev too_deep : RawEquation
too_deep = equation f (bare x ∷ []) (deeper 100000)

too_large : IsRefusedNext (on_numbers too_deep) term_size
too_large = next (on_numbers too_deep) term_size (inl ((λ h. let e = deeper_nodes 100000 in let l = h.0 in omega (arith, e, l)), refl))
