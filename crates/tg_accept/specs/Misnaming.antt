-- What is wrong with the names of a declaration, sentence by sentence.
use Rattle.std.specs.Prelude.{ℕ, suc, Bool, true, false, ◌≡◌, ◌⊎◌, ◌↔◌, List, [], ◌∷◌, ◌++◌, map, reverse, length, Some, None, if◌then◌else◌}
use Rattle.tg_model.specs.Accepted.{IsAmong, constructor_names}
use Rattle.tg_accept.specs.Declared.{Declared}
use Rattle.tg_accept.specs.Kept.{names_of_types, names_of_values}
use Rattle.tg_accept.specs.Raw as raw
use Rattle.tg_accept.specs.Raw.{Name, RawType, RawTypes, natural_type, truth_type, type_variable, type_word, Binder, level, RawHead, zero_word, successor_word, constructor_word, RawTerm, RawTerms, RawBranches, RawPattern, bare, zero_pattern, bracketed, RawEquation, RawConstructor}
use Rattle.tg_accept.specs.Checks.{Any}
use Rattle.tg_accept.specs.Meaning.{each_meant, type_variables, Scope, taken_names, resolve}
use Rattle.tg_accept.specs.Equations.{Pattern, pattern_meant, under}
use Rattle.tg_accept.specs.Datatypes.{names_in, datatype_meant}
use Rattle.tg_accept.specs.Functions.{scope_of, function_meant}
use Rattle.tg_accept.specs.Programs.{program_meant, specification_scope, specification_meant}

-- ---- types

-- a type name isn't declared, or a type variable isn't a parameter
module _ (params names : List Name) where
  abbrev mutual
    pub TypeMisnamed : RawType → Type 0
    TypeMisnamed natural_type = ⊥
    TypeMisnamed truth_type = ⊥
    TypeMisnamed (type_variable x) = ¬ (IsAmong x params)
    TypeMisnamed (type_word x ts) = (¬ (IsAmong x names)) ⊎ TypesMisnamed ts

    pub TypesMisnamed : RawTypes → Type 0
    TypesMisnamed raw.no_types = ⊥
    TypesMisnamed (raw.more_types t ts) = TypeMisnamed t ⊎ TypesMisnamed ts

-- ---- terms

abbrev pub variable_names : Scope → List Name
variable_names S = map (λ (v : Name × ℕ). v.0) S.variables

-- what is declared before, and the function's own name where its equations may use it
abbrev pub usable_names : Scope → List Name
usable_names S = if S.is_recursive then names_of_values S.declared ++ S.own else names_of_values S.declared

-- a word is neither a variable in scope nor declared before
pub record IsUnknown (S : Scope) (locs : List Binder) (x : Name) : Type 0 where
  pub not_bound : ¬ (IsAmong (raw.name x) locs)
  pub no_variable : ¬ (IsAmong x (variable_names S))
  pub not_declared : ¬ (IsAmong x (usable_names S))

-- A variable that is bound has a declared name. In a certificate it is a number, which must be that of the binder.
abbrev pub IsBadBinder : Scope → List Binder → Binder → Type 0
IsBadBinder S locs (raw.name x) = IsAmong x (taken_names S) ⊎ (S.in_certificate ≡ true)
IsBadBinder S locs (level n) = (S.in_certificate ≡ false) ⊎ (¬ (n ≡ suc (length locs)))

abbrev pub AreBadBinders : Scope → List Binder → List Binder → Type 0
AreBadBinders S locs [] = ⊥
AreBadBinders S locs (x ∷ xs) = IsBadBinder S locs x ⊎ AreBadBinders S (x ∷ locs) xs

-- the constructor of a bracketed pattern or a branch isn't declared as one
abbrev pub IsNoConstructor : Declared → RawHead → Type 0
IsNoConstructor D zero_word = ⊥
IsNoConstructor D successor_word = ⊥
IsNoConstructor D (constructor_word x) = ¬ (IsAmong x (constructor_names D.datatypes))

module _ (S : Scope) where
  abbrev mutual
    pub Misnamed : List Binder → RawTerm → Type 0
    Misnamed locs (raw.number n) = ⊥
    Misnamed locs (raw.truth b) = ⊥
    Misnamed locs (raw.word x ts) = AllMisnamed locs ts ⊎ IsUnknown S locs x
    Misnamed locs (raw.question n) = S.in_certificate ≡ false
    Misnamed locs (raw.bang n) = ¬ (IsAmong (level n) locs)
    Misnamed locs (raw.op o ts) = AllMisnamed locs ts
    Misnamed locs (raw.choice ts) = AllMisnamed locs ts
    Misnamed locs (raw.bind x t body) = IsBadBinder S locs x ⊎ (Misnamed locs t ⊎ Misnamed (x ∷ locs) body)
    Misnamed locs (raw.case t bs) = Misnamed locs t ⊎ BranchesMisnamed locs bs
    Misnamed locs raw.unread = Unit {0}

    pub AllMisnamed : List Binder → RawTerms → Type 0
    AllMisnamed locs raw.none = ⊥
    AllMisnamed locs (raw.more t ts) = Misnamed locs t ⊎ AllMisnamed locs ts

    pub BranchesMisnamed : List Binder → RawBranches → Type 0
    BranchesMisnamed locs raw.end = ⊥
    BranchesMisnamed locs (raw.branch head xs body bs) =
        AreBadBinders S locs xs ⊎ (IsNoConstructor S.declared head ⊎ (Misnamed (reverse xs ++ locs) body ⊎ BranchesMisnamed locs bs))

-- ---- declarations

-- a bare word that isn't declared as a constructor is a variable, which may have no declared name
abbrev pub PatternMisnamed : Scope → RawPattern → Type 0
PatternMisnamed S (bare x) = (¬ (IsAmong x (constructor_names S.declared.datatypes))) × IsAmong x (taken_names S)
PatternMisnamed S zero_pattern = ⊥
PatternMisnamed S (bracketed head xs) = Any (λ x. IsAmong x (taken_names S)) xs ⊎ IsNoConstructor S.declared head

-- the right side has a fault where the left side has none
abbrev pub SideMisnamed : Scope → RawEquation → Type 0
SideMisnamed S e = (ps : List Pattern) × (each_meant (pattern_meant S) e.patterns ≡ Some ps) × Misnamed (under S ps) [] e.body

abbrev pub EquationMisnamed : Scope → RawEquation → Type 0
EquationMisnamed S e = Any (PatternMisnamed S) e.patterns ⊎ SideMisnamed S e

-- a name is declared already, or it stands twice
abbrev pub AreTaken : List Name → List Name → Type 0
AreTaken ys [] = ⊥
AreTaken ys (x ∷ xs) = IsAmong x ys ⊎ AreTaken (x ∷ ys) xs

abbrev pub DatatypeMisnamed : Declared → Name → List Name → List RawConstructor → Type 0
DatatypeMisnamed D x params cs =
    (IsAmong x (names_of_types D) ⊎ AreTaken (names_of_values D) (names_in cs))
    ⊎ Any (λ (c : RawConstructor). Any (TypeMisnamed params (names_of_types D ++ x ∷ [])) c.arguments) cs

-- the types of a function or the program: no text has none
abbrev pub SignatureMisnamed : Declared → List RawType → Type 0
SignatureMisnamed D ts = Any (TypeMisnamed (type_variables ts) (names_of_types D)) ts ⊎ (ts ≡ [])

abbrev pub FunctionMisnamed : Declared → Name → Bool → List RawType → List RawEquation → Type 0
FunctionMisnamed D x is_recursive ts es =
    IsAmong x (names_of_values D) ⊎ (SignatureMisnamed D ts ⊎ Any (EquationMisnamed (scope_of D x is_recursive)) es)

abbrev pub ProgramMisnamed : Declared → Name → List RawType → Type 0
ProgramMisnamed D x ts = IsAmong x (names_of_values D) ⊎ SignatureMisnamed D ts

abbrev pub SpecificationMisnamed : Declared → List Name → RawTerm → Type 0
SpecificationMisnamed D xs t = Any (λ x. IsAmong x (names_of_values D)) xs ⊎ Misnamed (specification_scope D xs) [] t

-- ---- a term, and a declaration, has no meaning exactly where its names are wrong

abbrev pub TermsAreMisnamed : Type 0
TermsAreMisnamed = (S : Scope) (locs : List Binder) (t : RawTerm) → (resolve S locs t ≡ None) ↔ Misnamed S locs t

abbrev pub DatatypesAreMisnamed : Type 0
DatatypesAreMisnamed = (D : Declared) (x : Name) (params : List Name) (cs : List RawConstructor)
    → (datatype_meant D x params cs ≡ None) ↔ DatatypeMisnamed D x params cs

abbrev pub FunctionsAreMisnamed : Type 0
FunctionsAreMisnamed = (D : Declared) (x : Name) (is_recursive : Bool) (ts : List RawType) (es : List RawEquation)
    → (function_meant D x is_recursive ts es ≡ None) ↔ FunctionMisnamed D x is_recursive ts es

abbrev pub ProgramsAreMisnamed : Type 0
ProgramsAreMisnamed = (D : Declared) (x : Name) (ts : List RawType) → (program_meant D x ts ≡ None) ↔ ProgramMisnamed D x ts

abbrev pub SpecificationsAreMisnamed : Type 0
SpecificationsAreMisnamed = (D : Declared) (xs : List Name) (t : RawTerm) → (specification_meant D xs t ≡ None) ↔ SpecificationMisnamed D xs t
