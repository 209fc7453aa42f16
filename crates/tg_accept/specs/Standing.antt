-- What terms, formulas and types of a certificate, and values of outcomes, stand for in an accepted theory.
use Rattle.std.specs.Prelude.{ℕ, zero, suc, true, false, ◌≡◌, List, [], ◌∷◌, length, Option, Some, None, option_map, option_and_then}
use Rattle.tg_model.specs.Tree as tree
use Rattle.tg_model.specs.Tree.{Tree, Trees}
use Rattle.tg_model.specs.Types.{Ty, bool}
use Rattle.tg_model.specs.Formula as model
use Rattle.tg_model.specs.Formula.{Formula}
use Rattle.tg_model.specs.Value as value
use Rattle.tg_model.specs.Value.{Value, Values}
use Rattle.tg_model.specs.Theory.{Theory, IsClosed}
use Rattle.tg_model.specs.Typing.{HasType}
use Rattle.tg_model.specs.TermTyping.{type_of}
use Rattle.tg_accept.specs.Declared.{Declared}
use Rattle.tg_accept.specs.Kept.{names_of_types}
use Rattle.tg_accept.specs.Resolved.{Resolved}
use Rattle.tg_accept.specs.ResolvedTyping.{IsTypingOf}
use Rattle.tg_accept.specs.Core.{core, EachCaseWhole}
use Rattle.tg_accept.specs.Cases.{EachCaseIn, AreOnce}
use Rattle.tg_accept.specs.Raw as raw
use Rattle.tg_accept.specs.Raw.{RawType, Binder, level, RawTerm, RawTerms, RawFormula, raw_atom, raw_both, raw_implies, raw_all, raw_some, raw_thyp, raw_tested, raw_deep}
use Rattle.tg_accept.specs.Typings.{HasTyping}
use Rattle.tg_accept.specs.Meaning.{type_meant, constructor_named, Scope, resolve}

-- all that the theory declares
abbrev pub declared_in : Theory → Declared
declared_in th =
    record { datatypes = th.datatypes; functions = th.functions; program = Some th.program; specification = Some th.specification }

abbrev pub certificate_scope : Theory → Scope
certificate_scope th = record { declared = declared_in th; own = []; is_recursive = false; variables = []; in_certificate = true }

-- the binders outside, the innermost first
abbrev pub levels : ℕ → List Binder
levels zero = []
levels (suc n) = level (suc n) ∷ levels n

-- an answer: what a text stands for, and None where it stands for nothing
abbrev pub IsAnswer : {A : Type 0} → (A → Type 0) → Option A → Type 0
IsAnswer Is (Some x) = Is x
IsAnswer Is None = (x : _) → ¬ (Is x)

-- ---- types

-- a closed type
abbrev pub IsTypeOf : Theory → RawType → Ty → Type 0
IsTypeOf th r t = (type_meant [] (names_of_types (declared_in th)) r ≡ Some t) × IsClosed th t

-- ---- terms

-- what is said of a term whose words are looked up: some typing is enough
pub record IsRight (th : Theory) (vars locs : List Ty) (u : Ty) (r : Resolved) : Type 0 where
  -- no `case` lacks a constructor
  pub whole : EachCaseWhole th r
  -- none has one twice
  pub once : EachCaseIn AreOnce r
  pub typed : HasTyping (λ d. IsTypingOf th None [] vars locs r d × (type_of d ≡ u))

-- the term stands for `t`, of type `u`, where `vars` are the types of the variables and `locs` those of the binders outside
pub record IsTermAt (th : Theory) (vars locs : List Ty) (u : Ty) (t : RawTerm) (result : Tree) : Type 0 where
  pub resolved : Resolved
  pub is : resolve (certificate_scope th) (levels (length locs)) t ≡ Some resolved
  pub right : IsRight th vars locs u resolved
  pub same : result ≡ core th 0 resolved

-- a term argument has some type
abbrev pub IsTermOf : Theory → List Ty → RawTerm → Tree → Type 0
IsTermOf th vars t result = (u : Ty) × IsTermAt th vars [] u t result

-- ---- formulas

abbrev pub AreTermsAt : Theory → List Ty → List Ty → List Ty → RawTerms → Trees → Type 0
AreTermsAt th vars locs [] raw.none tree.none = Unit {0}
AreTermsAt th vars locs (u ∷ us) (raw.more t ts) (tree.more x xs) = IsTermAt th vars locs u t x × AreTermsAt th vars locs us ts xs
AreTermsAt th vars locs us ts xs = ⊥

module _ (th : Theory) (vars : List Ty) where
  abbrev pub IsFormulaAt : List Ty → RawFormula → Formula → Type 0
  IsFormulaAt locs (raw_atom t) (model.atom x) = IsTermAt th vars locs bool t x
  IsFormulaAt locs (raw_both f g) (model.both x y) = IsFormulaAt locs f x × IsFormulaAt locs g y
  IsFormulaAt locs (raw_implies f g) (model.implies x y) = IsFormulaAt locs f x × IsFormulaAt locs g y
  IsFormulaAt locs (raw_all t f) (model.all u x) = IsTypeOf th t u × IsFormulaAt (u ∷ locs) f x
  IsFormulaAt locs (raw_some t f) (model.some u x) = IsTypeOf th t u × IsFormulaAt (u ∷ locs) f x
  IsFormulaAt locs (raw_thyp f) (model.thyp x) = IsFormulaAt locs f x
  IsFormulaAt locs (raw_tested ts) (model.tested xs) = AreTermsAt th vars locs th.program.inputs ts xs
  IsFormulaAt locs (raw_deep k ts) (model.deep n xs) = (n ≡ k) × AreTermsAt th vars locs th.program.inputs ts xs
  IsFormulaAt locs f x = ⊥

abbrev pub IsFormulaOf : Theory → List Ty → RawFormula → Formula → Type 0
IsFormulaOf th vars f x = IsFormulaAt th vars [] f x

-- ---- values

-- numbers, truth values, and constructors on values: `Suc 0` is none
module _ (D : Declared) where
  abbrev mutual
    pub value_meant : RawTerm → Option Value
    value_meant (raw.number n) = Some (value.number n)
    value_meant (raw.truth b) = Some (value.boolean b)
    value_meant (raw.word x ts) = option_and_then (λ c. option_map (value.made c) (values_meant ts)) (constructor_named D x)
    value_meant t = None

    pub values_meant : RawTerms → Option Values
    values_meant raw.none = Some value.none
    values_meant (raw.more t ts) = option_and_then (λ v. option_map (value.more v) (values_meant ts)) (value_meant t)

abbrev pub IsValueOf : Theory → Ty → RawTerm → Value → Type 0
IsValueOf th t r v = (value_meant (declared_in th) r ≡ Some v) × HasType th v t
