-- What is asked of a declaration before it is put behind others: its types are made of what is declared, and its terms are typed.
use Rattle.std.specs.Prelude.{ℕ, suc, ◌≡◌, List, [], ◌∷◌, length, Option, Some, None}
use Rattle.tg_model.specs.Tree.{Tree}
use Rattle.tg_model.specs.Types.{Ty, bool, tys}
use Rattle.tg_model.specs.Theory.{Theory, Datatype, Constructor, Function, Body, Program, plain, recursive, numbered}
use Rattle.tg_model.specs.TermTyping.{IsTyped, IsDatatype, datatype_at, constructor_arguments}
use Rattle.tg_model.specs.WellTyped.{AreBefore}
use Rattle.tg_model.specs.Accepted.{UseThemselves}
use Rattle.tg_accept.specs.Declared.{Declared, theory, with_datatype, with_function}

-- made of nat, bool, the first `params` parameters and the datatypes of the theory with their number of arguments
abbrev pub AreMade : Theory → ℕ → List Ty → Type 0
AreMade th params ts = AreBefore th (suc (length th.datatypes)) params (tys ts)

abbrev pub AreConstructorsMade : Theory → ℕ → List Constructor → Type 0
AreConstructorsMade th params [] = Unit {0}
AreConstructorsMade th params (c ∷ cs) = AreMade th params c.arguments × AreConstructorsMade th params cs

-- a datatype is declared in its own arguments
abbrev pub IsDatatypeMeant : Declared → Datatype → Type 0
IsDatatypeMeant D x = AreConstructorsMade (theory [] (with_datatype D x)) x.parameters x.constructors

-- A definition is typed without itself. A primitive recursive function with a case for each constructor is typed with itself, at
-- its declared type; of another number of cases nothing is asked.
abbrev pub IsBodyTyped : Declared → Function → Body → Type 0
IsBodyTyped D x (plain t) = IsTyped (theory [] D) x.arguments [] t x.answer
IsBodyTyped D x (recursive place cases) =
    (d : ℕ) (us : List Ty) → numbered x.arguments place ≡ Some (datatype_at d us) → IsDatatype (theory [] D) d us
    → length cases ≡ length (constructor_arguments (theory [] D) d us)
    → UseThemselves (theory [] (with_function D x)) (suc (length D.functions)) x place cases (constructor_arguments (theory [] D) d us)

pub record IsFunctionMeant (D : Declared) (x : Function) : Type 0 where
  pub types : AreMade (theory [] D) x.parameters (x.answer ∷ x.arguments)
  pub body : IsBodyTyped D x x.body

-- a program may name type parameters, which is told as a fault
pub record IsProgramMeant (D : Declared) (p : Program) : Type 0 where
  pub params : ℕ
  pub types : AreMade (theory [] D) params (p.answer ∷ p.inputs)

abbrev pub IsSpecificationMeant : Theory → Option Program → Tree → Type 0
IsSpecificationMeant th None t = Unit {0}
IsSpecificationMeant th (Some p) t = IsTyped th p.inputs [] t bool
