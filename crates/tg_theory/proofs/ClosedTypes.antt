-- What the tests of types tell.
use Rattle.std.proofs.Common.{ℕ, ◌≡◌, Bool, true, false, ◌&&◌, nat_eq, List, [], length, Option, Some, None, refl, sym, ◌∙◌, ap, inl, inr}
use Rattle.std.specs.Option.{option_map_or}
use Rattle.std.proofs.lemmas.Bool.Decides.{eqb_tells}
use Rattle.tg_model.specs.Types as types
use Rattle.tg_model.specs.Types.{Ty, Tys, nat, bool, parameter, meta, applied}
use Rattle.tg_model.specs.Theory.{Theory, Datatype, numbered, IsClosed, AreClosed}
use Rattle.tg_model.proofs.Booleans.{and_left, and_right, and_both}
use Rattle.tg_accept.specs.Declared.{Declared, theory}
use Rattle.tg_types.specs.declared.types.Ty as declared
use Rattle.tg_types.specs.Types.{types as types_of}
use Rattle.tg_shared_types.specs.Growth.{IsDeclared, AreDeclared}
use Rattle.tg_declarations.specs.declared.definitions.DataDef.{DataDef}
use Rattle.tg_declarations.specs.View.{datatype}
use Rattle.tg_theory.specs.Typed.{is_declared, are_declared, is_closed, are_closed}
use Rattle.tg_theory.proofs.Terms.{type_count}

mutual
  pub declared_if : (t : Ty) → is_declared t ≡ true → IsDeclared t
  declared_if nat e = tt
  declared_if bool e = tt
  declared_if (parameter n) e = tt
  declared_if (meta n) e = cc e
  declared_if (applied d ts) e = all_declared_if ts e

  pub all_declared_if : (ts : Tys) → are_declared ts ≡ true → AreDeclared ts
  all_declared_if types.none e = tt
  all_declared_if (types.more t ts) e =
      (declared_if t (and_left (is_declared t) (are_declared ts) e), all_declared_if ts (and_right (is_declared t) (are_declared ts) e))

mutual
  pub is_declared_yes : (t : Ty) → IsDeclared t → is_declared t ≡ true
  is_declared_yes nat h = refl
  is_declared_yes bool h = refl
  is_declared_yes (parameter n) h = refl
  is_declared_yes (meta n) h = absurd h
  is_declared_yes (applied d ts) h = are_declared_yes ts h

  pub are_declared_yes : (ts : Tys) → AreDeclared ts → are_declared ts ≡ true
  are_declared_yes types.none h = refl
  are_declared_yes (types.more t ts) h = and_both (is_declared t) (are_declared ts) (is_declared_yes t h.0) (are_declared_yes ts h.1)

equal : (m n : ℕ) → nat_eq m n ≡ true → m ≡ n
equal m n e = elim (eqb_tells m n) [ inl p ↦ p.1 | inr p ↦ (let q : true ≡ false = sym e ∙ p.0 in cc q) ]

equal_yes : (m n : ℕ) → m ≡ n → nat_eq m n ≡ true
equal_yes m n e = elim (eqb_tells m n) [ inl p ↦ p.0 | inr p ↦ absurd (p.1 e) ]

module _ (th : Theory) where
  abbrev Fits : ℕ → Ty → Type 0
  Fits d t = Unit {0}

  found : (d count : ℕ) → option_map_or (λ (x : Datatype). nat_eq count x.parameters) (numbered th.datatypes d) false ≡ true
      → (x : Datatype) × (numbered th.datatypes d ≡ Some x) × (count ≡ x.parameters)
  found d count e = by (numbered th.datatypes d) refl e
    where
      by : (o : Option Datatype) → numbered th.datatypes d ≡ o → option_map_or (λ (x : Datatype). nat_eq count x.parameters) o false ≡ true
          → (x : Datatype) × (numbered th.datatypes d ≡ Some x) × (count ≡ x.parameters)
      by None p e = cc e
      by (Some x) p e = (x, p, equal count x.parameters e)

  mutual
    pub closed_if : (t : Ty) → is_closed th t ≡ true → IsClosed th t
    closed_if nat e = tt
    closed_if bool e = tt
    closed_if (parameter n) e = cc e
    closed_if (meta n) e = cc e
    closed_if (applied d ts) e =
        let a = option_map_or (λ (x : Datatype). nat_eq (length (types.elements ts)) x.parameters) (numbered th.datatypes d) false in
        (found d (length (types.elements ts)) (and_left a (are_closed th ts) e), all_closed_if ts (and_right a (are_closed th ts) e))

    pub all_closed_if : (ts : Tys) → are_closed th ts ≡ true → AreClosed th ts
    all_closed_if types.none e = tt
    all_closed_if (types.more t ts) e =
        (closed_if t (and_left (is_closed th t) (are_closed th ts) e), all_closed_if ts (and_right (is_closed th t) (are_closed th ts) e))

  mutual
    pub is_closed_yes : (t : Ty) → IsClosed th t → is_closed th t ≡ true
    is_closed_yes nat h = refl
    is_closed_yes bool h = refl
    is_closed_yes (parameter n) h = absurd h
    is_closed_yes (meta n) h = absurd h
    is_closed_yes (applied d ts) ((x, at, count), rest) =
        and_both (option_map_or (λ (x : Datatype). nat_eq (length (types.elements ts)) x.parameters) (numbered th.datatypes d) false) (are_closed th ts)
        (ap (λ o. option_map_or (λ (x : Datatype). nat_eq (length (types.elements ts)) x.parameters) o false) at ∙ equal_yes (length (types.elements ts)) x.parameters count)
        (are_closed_yes ts rest)

    pub are_closed_yes : (ts : Tys) → AreClosed th ts → are_closed th ts ≡ true
    are_closed_yes types.none h = refl
    are_closed_yes (types.more t ts) h = and_both (is_closed th t) (are_closed th ts) (is_closed_yes t h.0) (are_closed_yes ts h.1)

  -- a closed type has no open one in it
  mutual
    pub closed_declared : (t : Ty) → IsClosed th t → IsDeclared t
    closed_declared nat h = tt
    closed_declared bool h = tt
    closed_declared (parameter n) h = absurd h
    closed_declared (meta n) h = absurd h
    closed_declared (applied d ts) h = all_closed_declared ts h.1

    pub all_closed_declared : (ts : Tys) → AreClosed th ts → AreDeclared ts
    all_closed_declared types.none h = tt
    all_closed_declared (types.more t ts) h = (closed_declared t h.0, all_closed_declared ts h.1)

-- ---- in the forms that the code asks for

module _ (D : Declared) (d : ℕ) (ts : List declared.Ty) where
  abbrev Test : Option Datatype → Bool
  Test o = option_map_or (λ (x : Datatype). nat_eq (length (types.elements (types_of ts))) x.parameters) o false && are_closed (theory [] D) (types_of ts)

  pub closed_datatype : (def : DataDef) → Some (datatype def) ≡ numbered D.datatypes d → length ts ≡ def.params
      → are_closed (theory [] D) (types_of ts) ≡ is_closed (theory [] D) (applied d (types_of ts))
  closed_datatype def at count =
      sym (ap (λ b. b && are_closed (theory [] D) (types_of ts)) (equal_yes (length (types.elements (types_of ts))) def.params (type_count ts ∙ count))) ∙ ap Test at

  pub other_datatype : (def : DataDef) → Some (datatype def) ≡ numbered D.datatypes d → ¬ (length ts ≡ def.params) → false ≡ is_closed (theory [] D) (applied d (types_of ts))
  other_datatype def at count =
      sym (ap (λ b. b && are_closed (theory [] D) (types_of ts)) (not_equal (length (types.elements (types_of ts))) def.params (λ e. count (sym (type_count ts) ∙ e))))
      ∙ ap Test at
    where
      not_equal : (m n : ℕ) → ¬ (m ≡ n) → nat_eq m n ≡ false
      not_equal m n e = elim (eqb_tells m n) [ inl p ↦ absurd (e p.1) | inr p ↦ p.0 ]

  pub no_datatype : None ≡ numbered D.datatypes d → false ≡ is_closed (theory [] D) (applied d (types_of ts))
  no_datatype at = ap Test at

pub ruleset closing = (closed_datatype, other_datatype, no_datatype)
