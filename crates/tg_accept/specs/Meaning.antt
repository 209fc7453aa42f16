-- What words, types and terms mean among what is declared before. Nothing is asked here but that each word can be looked up.
use Rattle.std.specs.Prelude.{ℕ, suc, Bool, true, false, not, ◌&&◌, nat_eq, List, [], ◌∷◌, ◌++◌, map, reverse, length, Option, Some, None, option_map, option_and_then, if◌then◌else◌}
use Rattle.std.specs.Option.{option_map_or}
use Rattle.std.specs.Str.{bytes_eq}
use Rattle.tg_model.specs.Types as types
use Rattle.tg_model.specs.Types.{Ty, Tys}
use Rattle.tg_model.specs.Theory.{Function}
use Rattle.tg_model.specs.Accepted.{constructor_names}
use Rattle.tg_accept.specs.Declared.{Declared, theory}
use Rattle.tg_accept.specs.Kept.{names_of_values, name_of_program}
use Rattle.tg_accept.specs.Faults.{is_taken}
use Rattle.tg_accept.specs.Resolved as resolved
use Rattle.tg_accept.specs.Resolved.{Head, zero_head, successor_head, of, Resolved, Resolveds, Branches}
use Rattle.tg_accept.specs.ResolvedTyping.{head_at}
use Rattle.tg_accept.specs.Raw as raw
use Rattle.tg_accept.specs.Raw.{Name, RawType, RawTypes, natural_type, truth_type, type_variable, type_word, Binder, level, RawHead, zero_word, successor_word, constructor_word, RawTerm, RawTerms, RawBranches}

-- the meanings of all items, if each has one
abbrev pub each_meant : {A B : Type 0} → (A → Option B) → List A → Option (List B)
each_meant f [] = Some []
each_meant f (x ∷ xs) = option_and_then (λ y. option_map (λ ys. y ∷ ys) (each_meant f xs)) (f x)

-- the place, from 1, of the first of the names that is this one
abbrev pub number_of : Name → List Name → Option ℕ
number_of x [] = None
number_of x (y ∷ ys) = if bytes_eq x y then Some 1 else option_map suc (number_of x ys)

-- ---- types

-- `params` are the type variables, each of which stands for the parameter of its place; `names` are those of the datatypes
module _ (params names : List Name) where
  abbrev mutual
    pub type_meant : RawType → Option Ty
    type_meant natural_type = Some types.nat
    type_meant truth_type = Some types.bool
    type_meant (type_variable x) = option_map types.parameter (number_of x params)
    type_meant (type_word x ts) = option_and_then (λ d. option_map (types.applied d) (all_types_meant ts)) (number_of x names)

    pub all_types_meant : RawTypes → Option Tys
    all_types_meant raw.no_types = Some types.none
    all_types_meant (raw.more_types t ts) = option_and_then (λ u. option_map (types.more u) (all_types_meant ts)) (type_meant t)

-- the type variables in a type, each once, behind those found before
abbrev mutual
  pub variables_in : List Name → RawType → List Name
  variables_in xs natural_type = xs
  variables_in xs truth_type = xs
  variables_in xs (type_variable x) = if is_taken x xs then xs else xs ++ x ∷ []
  variables_in xs (type_word x ts) = all_variables_in xs ts

  pub all_variables_in : List Name → RawTypes → List Name
  all_variables_in xs raw.no_types = xs
  all_variables_in xs (raw.more_types t ts) = all_variables_in (variables_in xs t) ts

abbrev pub variables_from : List Name → List RawType → List Name
variables_from xs [] = xs
variables_from xs (t ∷ ts) = variables_from (variables_in xs t) ts

-- the type variables of a declared type, in the order in which they first stand there: the parameters of the declaration
abbrev pub type_variables : List RawType → List Name
type_variables ts = variables_from [] ts

-- ---- words

pub data Word : Type 0 where
  constructor : (c : ℕ) → Word
  function : (f : ℕ) → Word
  the_program : Word

abbrev pub names_of_functions : Declared → List Name
names_of_functions D = map (λ (x : Function). x.name) D.functions

-- the number of a declared constructor
abbrev pub constructor_named : Declared → Name → Option ℕ
constructor_named D x = number_of x (constructor_names D.datatypes)

-- what a word is declared as
abbrev pub word_named : Declared → Name → Option Word
word_named D x =
    option_map_or (λ c. Some (constructor c))
    (constructor_named D x)
    (option_map_or (λ f. Some (function f))
    (number_of x (names_of_functions D))
    (if is_taken x (name_of_program D.program) then Some the_program else None))

abbrev pub head_meant : Declared → RawHead → Option Head
head_meant D zero_word = Some zero_head
head_meant D successor_word = Some successor_head
head_meant D (constructor_word x) = option_map of (constructor_named D x)

-- ---- terms

-- Where a term stands: in an equation of the function `own`, which it may call if `is_recursive`; in the specification; or in a
-- certificate, where variables are numbers and no words. Of two variables of one name the first is meant.
pub record Scope : Type 0 where
  pub declared : Declared
  pub own : List (List ℕ)
  pub is_recursive : Bool
  pub variables : List (List ℕ × ℕ)
  pub in_certificate : Bool

-- no variable may have one of these names
abbrev pub taken_names : Scope → List Name
taken_names S = names_of_values S.declared ++ S.own

abbrev pub same_binder : Binder → Binder → Bool
same_binder (raw.name x) (raw.name y) = bytes_eq x y
same_binder (level m) (level n) = nat_eq m n
same_binder _ _ = false

-- the place, from 0, of the innermost binder that is this one
abbrev pub place_of : Binder → List Binder → Option ℕ
place_of x [] = None
place_of x (y ∷ ys) = if same_binder x y then Some 0 else option_map suc (place_of x ys)

abbrev pub variable_named : Name → List (List ℕ × ℕ) → Option ℕ
variable_named x [] = None
variable_named x (v ∷ vs) = if bytes_eq x v.0 then Some v.1 else variable_named x vs

-- a name that isn't declared; in a certificate, the number of the binder itself
abbrev pub may_bind : Scope → List Binder → Binder → Bool
may_bind S locs (raw.name x) = not S.in_certificate && not (is_taken x (taken_names S))
may_bind S locs (level n) = S.in_certificate && nat_eq n (suc (length locs))

abbrev pub may_bind_all : Scope → List Binder → List Binder → Bool
may_bind_all S locs [] = true
may_bind_all S locs (x ∷ xs) = may_bind S locs x && may_bind_all S (x ∷ locs) xs

abbrev pub name_of : Binder → Name
name_of (raw.name x) = x
name_of (level n) = []

-- a variable on its arguments, of which it may have none
abbrev pub variable_on : Resolved → Resolveds → Resolved
variable_on v resolved.none = v
variable_on v us = resolved.misused us

abbrev pub word_on : Resolveds → Word → Resolved
word_on us (constructor c) = resolved.con c us
word_on us (function f) = resolved.call f us
word_on us the_program = resolved.put us

-- what a word is that is no variable
abbrev pub declared_on : Scope → Name → Resolveds → Option Resolved
declared_on S x us =
    if S.is_recursive && is_taken x S.own then Some (resolved.own us) else option_map (word_on us) (word_named S.declared x)

-- An inner variable hides an outer one.
abbrev pub word_meant : Scope → List Binder → Name → Resolveds → Option Resolved
word_meant S locs x us =
    option_map_or (λ k. Some (variable_on (resolved.bound k) us))
    (place_of (raw.name x) locs)
    (option_map_or (λ n. Some (variable_on (resolved.free n) us)) (variable_named x S.variables) (declared_on S x us))

-- the datatype that a branch belongs to, 0 for nat
abbrev pub datatype_of_head : Declared → Head → ℕ
datatype_of_head D h = option_map_or (λ (p : ℕ × List Ty). p.0) (head_at (theory [] D) [] h) 0

abbrev pub datatype_of_first : Declared → Branches → ℕ
datatype_of_first D resolved.end = 0
datatype_of_first D (resolved.branch head xs body bs) = datatype_of_head D head

module _ (S : Scope) where
  abbrev mutual
    pub resolve : List Binder → RawTerm → Option Resolved
    resolve locs (raw.number n) = Some (resolved.literal n)
    resolve locs (raw.truth b) = Some (resolved.truth b)
    resolve locs (raw.word x ts) = option_and_then (word_meant S locs x) (resolve_all locs ts)
    resolve locs (raw.question n) = if S.in_certificate then Some (resolved.free n) else None
    resolve locs (raw.bang n) = option_map resolved.bound (place_of (level n) locs)
    resolve locs (raw.op o ts) = option_map (resolved.op o) (resolve_all locs ts)
    resolve locs (raw.choice ts) = option_map resolved.choice (resolve_all locs ts)
    resolve locs (raw.bind x t body) =
        if may_bind S locs x then option_and_then (λ u. option_map (resolved.bind u) (resolve (x ∷ locs) body)) (resolve locs t) else None
    resolve locs (raw.case t bs) =
        option_and_then (λ u. option_map (λ vs. resolved.case (datatype_of_first S.declared vs) u vs) (resolve_branches locs bs)) (resolve locs t)
    resolve locs raw.unread = None

    pub resolve_all : List Binder → RawTerms → Option Resolveds
    resolve_all locs raw.none = Some resolved.none
    resolve_all locs (raw.more t ts) = option_and_then (λ u. option_map (resolved.more u) (resolve_all locs ts)) (resolve locs t)

    pub resolve_branches : List Binder → RawBranches → Option Branches
    resolve_branches locs raw.end = Some resolved.end
    resolve_branches locs (raw.branch head xs body bs) =
        if may_bind_all S locs xs
        then option_and_then
        (λ h. option_and_then (λ u. option_map (resolved.branch h (map name_of xs) u) (resolve_branches locs bs)) (resolve (reverse xs ++ locs) body))
        (head_meant S.declared head)
        else None
