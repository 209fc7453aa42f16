-- A declaration has no meaning exactly where its names are wrong.
use Rattle.std.proofs.Common.{ℕ, ◌≡◌, ◌⊎◌, Bool, true, false, List, [], ◌∷◌, ◌++◌, length, Option, Some, None, refl, sym, ◌∙◌, subst, inl, inr, if◌then◌else◌}
use Rattle.std.specs.Prelude.{◌||◌, ◌↔◌, is_some, option_map, option_and_then}
use Rattle.std.specs.Option.{option_map_or}
use Rattle.std.specs.List.{list_any}
use Rattle.std.specs.Bool.{Decides}
use Rattle.tg_model.specs.Types as types
use Rattle.tg_model.specs.Types.{Ty}
use Rattle.tg_model.specs.Accepted.{IsAmong, constructor_names}
use Rattle.tg_model.proofs.Booleans.{or_cases}
use Rattle.tg_accept.specs.Declared.{Declared}
use Rattle.tg_accept.specs.Kept.{names_of_types, names_of_values}
use Rattle.tg_accept.specs.Faults.{is_taken, first_taken}
use Rattle.tg_accept.specs.Resolved.{of, Resolved}
use Rattle.tg_accept.specs.Raw as raw
use Rattle.tg_accept.specs.Raw.{Name, RawType, RawTypes, natural_type, truth_type, type_variable, type_word, RawPattern, bare, zero_pattern, bracketed, RawEquation, RawConstructor}
use Rattle.tg_accept.specs.Checks.{Any}
use Rattle.tg_accept.specs.Meaning.{each_meant, number_of, type_meant, all_types_meant, type_variables, constructor_named, head_meant, Scope, taken_names, resolve}
use Rattle.tg_accept.specs.Equations.{Pattern, variable, matched, pattern_meant, under, Equation, equation_meant}
use Rattle.tg_accept.specs.Datatypes.{are_taken, names_in, constructor_meant}
use Rattle.tg_accept.specs.Functions.{split_last, signature_of, signature_meant, scope_of}
use Rattle.tg_accept.specs.Programs.{specification_scope}
use Rattle.tg_accept.specs.Misnaming.{TypeMisnamed, TypesMisnamed, IsNoConstructor, Misnamed, PatternMisnamed, SideMisnamed, EquationMisnamed, AreTaken, SignatureMisnamed, DatatypesAreMisnamed, FunctionsAreMisnamed, ProgramsAreMisnamed, SpecificationsAreMisnamed}
use Rattle.tg_accept.proofs.LeftSides.{mapped, then_some}
use Rattle.tg_accept.proofs.Misnamed.{never, map_none, then_none, none_or, taken_decides, not_numbered, no_constructor, misnamed}

each_none : {A B : Type 0} (P : A → Type 0) (f : A → Option B) → ((x : A) → (f x ≡ None) ↔ P x) → (xs : List A) → (each_meant f xs ≡ None) ↔ Any P xs
each_none P f h [] = never []
each_none P f h (x ∷ xs) =
    let rest = each_none P f h xs in
    then_none (P x) (Any P xs) (λ y. option_map (λ ys. y ∷ ys) (each_meant f xs)) (f x) (h x) (λ y e. map_none (Any P xs) (λ ys. y ∷ ys) (each_meant f xs) rest)

-- a test is true exactly where it decides that something holds
is_true : (P : Type 0) (b : Bool) → Decides b P → (b ≡ true) ↔ P
is_true P b d = (d.0, d.1)

any_taken : (ys xs : List Name) → (list_any (λ x. is_taken x ys) xs ≡ true) ↔ Any (λ x. IsAmong x ys) xs
any_taken ys [] = (λ e. cc e, λ h. absurd h)
any_taken ys (x ∷ xs) =
    let rest = any_taken ys xs in (
      λ e. elim (or_cases (is_taken x ys) (list_any (λ x. is_taken x ys) xs) e) [ inl q ↦ inl ((taken_decides x ys).0 q) | inr q ↦ inr (rest.0 q) ],
      λ h. by (is_taken x ys) refl (elim h [ inl p ↦ inl ((taken_decides x ys).1 p) | inr p ↦ inr (rest.1 p) ]),
    )
  where
    by : (b : Bool) → is_taken x ys ≡ b → (is_taken x ys ≡ true) ⊎ (list_any (λ x. is_taken x ys) xs ≡ true) → (b || list_any (λ x. is_taken x ys) xs) ≡ true
    by true q h = refl
    by false q (inl p) = let r : false ≡ true = sym q ∙ p in cc r
    by false q (inr p) = p

-- ---- types

module _ (params names : List Name) where
  mutual
    type_misnamed : (t : RawType) → (type_meant params names t ≡ None) ↔ TypeMisnamed params names t
    type_misnamed natural_type = never types.nat
    type_misnamed truth_type = never types.bool
    type_misnamed (type_variable x) = map_none (¬ (IsAmong x params)) types.parameter (number_of x params) (not_numbered x params)
    type_misnamed (type_word x ts) =
        let inner = types_misnamed ts in
        then_none (¬ (IsAmong x names)) (TypesMisnamed params names ts) (λ d. option_map (types.applied d) (all_types_meant params names ts)) (number_of x names)
        (not_numbered x names) (λ d e. map_none (TypesMisnamed params names ts) (types.applied d) (all_types_meant params names ts) inner)

    types_misnamed : (ts : RawTypes) → (all_types_meant params names ts ≡ None) ↔ TypesMisnamed params names ts
    types_misnamed raw.no_types = never types.none
    types_misnamed (raw.more_types t ts) =
        let inner = types_misnamed ts in
        then_none (TypeMisnamed params names t) (TypesMisnamed params names ts) (λ u. option_map (types.more u) (all_types_meant params names ts))
        (type_meant params names t) (type_misnamed t) (λ u e. map_none (TypesMisnamed params names ts) (types.more u) (all_types_meant params names ts) inner)

-- ---- datatypes

any_new : (ys xs : List Name) → (are_taken ys xs ≡ true) ↔ AreTaken ys xs
any_new ys [] = (λ e. cc e, λ h. absurd h)
any_new ys (x ∷ xs) = by (is_taken x ys) refl (any_new (x ∷ ys) xs)
  where
    by : (b : Bool) → is_taken x ys ≡ b → (are_taken (x ∷ ys) xs ≡ true) ↔ AreTaken (x ∷ ys) xs
        → (is_some (if b then Some x else first_taken (x ∷ ys) xs) ≡ true) ↔ (IsAmong x ys ⊎ AreTaken (x ∷ ys) xs)
    by true q h = (λ e. inl ((taken_decides x ys).0 q), λ p. refl)
    by false q h = (
      λ e. inr (h.0 e),
      λ p. elim p [ inl r ↦ (let s : false ≡ true = sym q ∙ (taken_decides x ys).1 r in cc s) | inr r ↦ h.1 r ],
    )

either : (P Q : Type 0) (a b : Bool) → (a ≡ true) ↔ P → (b ≡ true) ↔ Q → ((a || b) ≡ true) ↔ (P ⊎ Q)
either P Q true b h k = (λ e. inl (h.0 refl), λ p. refl)
either P Q false b h k = (λ e. inr (k.0 e), λ p. elim p [ inl x ↦ (let q = h.1 x in cc q) | inr y ↦ k.1 y ])

pub datatypes_are_misnamed : DatatypesAreMisnamed
datatypes_are_misnamed D x params cs =
    let names = names_of_types D ++ x ∷ [] in
    let Arguments : RawConstructor → Type 0 = λ c. Any (TypeMisnamed params names) c.arguments in
    let taken = either (IsAmong x (names_of_types D)) (AreTaken (names_of_values D) (names_in cs)) (is_taken x (names_of_types D))
    (are_taken (names_of_values D) (names_in cs)) (is_true (IsAmong x (names_of_types D)) (is_taken x (names_of_types D)) (taken_decides x (names_of_types D)))
    (any_new (names_of_values D) (names_in cs)) in
    let arguments = each_none Arguments (constructor_meant params names)
    (λ c. map_none (Arguments c) (λ ts. record { name = c.name; arguments = ts }) (each_meant (type_meant params names) c.arguments)
    (each_none (TypeMisnamed params names) (type_meant params names) (type_misnamed params names) c.arguments)) cs in
    none_or (IsAmong x (names_of_types D) ⊎ AreTaken (names_of_values D) (names_in cs)) (Any Arguments cs)
    (is_taken x (names_of_types D) || are_taken (names_of_values D) (names_in cs))
    (option_map (λ ks. record { name = x; parameters = length params; constructors = ks }) (each_meant (constructor_meant params names) cs)) taken
    (map_none (Any Arguments cs) (λ ks. record { name = x; parameters = length params; constructors = ks }) (each_meant (constructor_meant params names) cs) arguments)

-- ---- functions

no_last : {A : Type 0} (xs : List A) → (split_last xs ≡ None) ↔ (xs ≡ [])
no_last [] = (λ e. refl, λ e. refl)
no_last (x ∷ xs) = (λ e. cc e, λ e. cc e)

-- as many types as are written
as_many : {A B : Type 0} (f : A → Option B) (xs : List A) (ys : List B) → each_meant f xs ≡ Some ys → (ys ≡ []) ↔ (xs ≡ [])
as_many f [] ys e = (λ q. refl, λ q. let r : [] ≡ ys = cc e in sym r)
as_many f (x ∷ xs) ys e =
    let a = then_some _ (f x) ys e in
    let b = mapped (λ zs. a.0 ∷ zs) (each_meant f xs) ys a.2 in
    (λ q. (let r : a.0 ∷ b.0 ≡ [] = b.2 ∙ q in cc r), λ q. cc q)

types_none : (D : Declared) (ts : List RawType)
    → (option_and_then split_last (each_meant (type_meant (type_variables ts) (names_of_types D)) ts) ≡ None) ↔ SignatureMisnamed D ts
types_none D ts =
    let f = type_meant (type_variables ts) (names_of_types D) in
    let P = TypeMisnamed (type_variables ts) (names_of_types D) in
    then_none (Any P ts) (ts ≡ []) split_last (each_meant f ts) (each_none P f (type_misnamed (type_variables ts) (names_of_types D)) ts)
    (λ us e. (λ q. (as_many f ts us e).0 ((no_last us).0 q), λ q. (no_last us).1 ((as_many f ts us e).1 q)))

pattern_misnamed : (S : Scope) (p : RawPattern) → (pattern_meant S p ≡ None) ↔ PatternMisnamed S p
pattern_misnamed S (bare x) = by (constructor_named S.declared x) (not_numbered x (constructor_names S.declared.datatypes)) (is_taken x (taken_names S)) refl
  where
    by : (o : Option ℕ) → (o ≡ None) ↔ (¬ (IsAmong x (constructor_names S.declared.datatypes))) → (b : Bool) → is_taken x (taken_names S) ≡ b
        → (option_map_or (λ c. Some (matched (of c) [])) o (if b then None else Some (variable x)) ≡ None)
        ↔ ((¬ (IsAmong x (constructor_names S.declared.datatypes))) × IsAmong x (taken_names S))
    by (Some c) h b q = (λ e. cc e, λ p. let r = h.1 p.0 in cc r)
    by None h true q = (λ e. (h.0 refl, (taken_decides x (taken_names S)).0 q), λ p. refl)
    by None h false q = (λ e. cc e, λ p. let r : false ≡ true = sym q ∙ (taken_decides x (taken_names S)).1 p.1 in cc r)
pattern_misnamed S zero_pattern = (λ e. cc e, λ h. absurd h)
pattern_misnamed S (bracketed head xs) =
    none_or (Any (λ x. IsAmong x (taken_names S)) xs) (IsNoConstructor S.declared head) (list_any (λ x. is_taken x (taken_names S)) xs)
    (option_map (λ h. matched h xs) (head_meant S.declared head)) (any_taken (taken_names S) xs)
    (map_none (IsNoConstructor S.declared head) (λ h. matched h xs) (head_meant S.declared head) (no_constructor S.declared head))

abbrev made : RawEquation → List Pattern → Resolved → Equation
made e ps t = record { head = e.head; patterns = ps; body = t }

equation_misnamed : (S : Scope) (e : RawEquation) → (equation_meant S e ≡ None) ↔ EquationMisnamed S e
equation_misnamed S e =
    then_none (Any (PatternMisnamed S) e.patterns) (SideMisnamed S e)
    (λ ps. option_map (made e ps) (resolve (under S ps) [] e.body)) (each_meant (pattern_meant S) e.patterns)
    (each_none (PatternMisnamed S) (pattern_meant S) (pattern_misnamed S) e.patterns) side
  where
    side : (ps : List Pattern) → each_meant (pattern_meant S) e.patterns ≡ Some ps
        → (option_map (made e ps) (resolve (under S ps) [] e.body) ≡ None) ↔ SideMisnamed S e
    side ps is =
        let r = map_none (Misnamed (under S ps) [] e.body) (made e ps) (resolve (under S ps) [] e.body) (misnamed (under S ps) [] e.body) in (
          λ q. (ps, is, r.0 q),
          λ h. let same : h.0 ≡ ps = (let z : Some h.0 ≡ Some ps = sym h.1 ∙ is in cc z) in r.1 (subst (λ k. Misnamed (under S k) [] e.body) same h.2),
        )

pub functions_are_misnamed : FunctionsAreMisnamed
functions_are_misnamed D x r ts es =
    let Equations = Any (EquationMisnamed (scope_of D x r)) es in
    let each = each_meant (equation_meant (scope_of D x r)) es in
    none_or (IsAmong x (names_of_values D)) (SignatureMisnamed D ts ⊎ Equations) (is_taken x (names_of_values D))
    (option_and_then (λ f. option_map (λ ks. record { signature = f; equations = ks }) each) (signature_meant D x ts))
    (is_true (IsAmong x (names_of_values D)) (is_taken x (names_of_values D)) (taken_decides x (names_of_values D)))
    (then_none (SignatureMisnamed D ts) Equations (λ f. option_map (λ ks. record { signature = f; equations = ks }) each) (signature_meant D x ts)
    (map_none (SignatureMisnamed D ts) (signature_of x (length (type_variables ts)))
    (option_and_then split_last (each_meant (type_meant (type_variables ts) (names_of_types D)) ts)) (types_none D ts))
    (λ f e. map_none Equations (λ ks. record { signature = f; equations = ks }) each
    (each_none (EquationMisnamed (scope_of D x r)) (equation_meant (scope_of D x r)) (equation_misnamed (scope_of D x r)) es)))

-- ---- the program and the specification

pub programs_are_misnamed : ProgramsAreMisnamed
programs_are_misnamed D x ts =
    none_or (IsAmong x (names_of_values D)) (SignatureMisnamed D ts) (is_taken x (names_of_values D))
    (option_map (λ (p : List Ty × Ty). record { name = x; inputs = p.0; answer = p.1 })
    (option_and_then split_last (each_meant (type_meant (type_variables ts) (names_of_types D)) ts)))
    (is_true (IsAmong x (names_of_values D)) (is_taken x (names_of_values D)) (taken_decides x (names_of_values D)))
    (map_none (SignatureMisnamed D ts) (λ (p : List Ty × Ty). record { name = x; inputs = p.0; answer = p.1 })
    (option_and_then split_last (each_meant (type_meant (type_variables ts) (names_of_types D)) ts)) (types_none D ts))

pub specifications_are_misnamed : SpecificationsAreMisnamed
specifications_are_misnamed D xs t =
    none_or (Any (λ x. IsAmong x (names_of_values D)) xs) (Misnamed (specification_scope D xs) [] t) (list_any (λ x. is_taken x (names_of_values D)) xs)
    (resolve (specification_scope D xs) [] t) (any_taken (names_of_values D) xs) (misnamed (specification_scope D xs) [] t)
