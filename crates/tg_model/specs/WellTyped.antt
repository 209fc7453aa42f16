-- Theories whose bodies are well typed and well shaped: what acceptance gives, and all that the meaning rests on.
use Rattle.std.specs.Prelude.{ℕ, suc, ◌≡◌, ◌<◌, ◌≤◌, ◌+◌, ◌⊎◌, ◌++◌, List, [], ◌∷◌, length, Some, slice_get}
use Rattle.tg_model.specs.Tree.{Tree, Trees, free, elements}
use Rattle.tg_model.specs.Types as types
use Rattle.tg_model.specs.Types.{Ty, nat, bool, parameter, meta, applied, Tys, tys}
use Rattle.tg_model.specs.Theory.{Theory, Datatype, Constructor, Function, Body, plain, recursive, numbered, first_constructor, IsClosed, AreClosed}
use Rattle.tg_model.specs.Typing.{base_constructor}
use Rattle.tg_model.specs.Denotation.{others}
use Rattle.tg_model.specs.TermTyping.{IsTyped, EachCall, IsDatatype, datatype_at, constructor_arguments}

-- made of nat, bool, the first `params` parameters, and datatypes before `d` with their number of arguments
module _ (th : Theory) (d params : ℕ) where
  abbrev mutual
    pub IsBefore : Ty → Type 0
    IsBefore nat = Unit {0}
    IsBefore bool = Unit {0}
    IsBefore (parameter n) = (0 < n) × (n ≤ params)
    IsBefore (meta n) = ⊥
    IsBefore (applied e ts) = ((e < d) × ((x : Datatype) × (numbered th.datatypes e ≡ Some x) × (length (types.elements ts) ≡ x.parameters))) × AreBefore ts

    pub AreBefore : Tys → Type 0
    AreBefore types.none = Unit {0}
    AreBefore (types.more t ts) = IsBefore t × AreBefore ts

-- some constructor has no argument of the datatype itself, and the first such one has arguments of earlier types only
pub record IsInhabited (th : Theory) (d : ℕ) (x : Datatype) : Type 0 where
  pub number : ℕ
  pub constructor : Constructor
  pub base : base_constructor d (first_constructor th.datatypes d) x.constructors ≡ Some (number, constructor)
  pub before : AreBefore th d x.parameters (tys constructor.arguments)

-- The calls that a case of the primitive recursive function `self` may make: earlier functions, and itself where the argument
-- at `place` is one of the variables past the first `start`, which stand for the constructor's `count` arguments
abbrev pub IsLower : ℕ → ℕ → ℕ → ℕ → ℕ → Trees → Type 0
IsLower self place start count f ts =
    (f < self) ⊎ ((f ≡ self) × ((i : ℕ) × (i < count) × (numbered (elements ts) place ≡ Some (free (suc (start + i))))))

-- one case for each constructor, typed where the other arguments and then the constructor's are its variables
module _ (th : Theory) (self : ℕ) (x : Function) (place : ℕ) where
  abbrev pub AreCases : List Tree → List (List Ty) → Type 0
  AreCases [] [] = Unit {0}
  AreCases (t ∷ ts) (args ∷ rest) =
      EachCall (IsLower self place (length (others x.arguments place)) (length args)) t
      × IsTyped th (others x.arguments place ++ args) [] t x.answer × AreCases ts rest
  AreCases _ _ = ⊥

abbrev pub IsBody : Theory → ℕ → Function → Body → Type 0
IsBody th self x (plain t) = EachCall (λ f ts. f < self) t × IsTyped th x.arguments [] t x.answer
IsBody th self x (recursive place cases) =
    (d : ℕ) × (us : List Ty) × (numbered x.arguments place ≡ Some (datatype_at d us)) × IsDatatype th d us
    × AreCases th self x place cases (constructor_arguments th d us)

pub record IsWellTyped (th : Theory) : Type 0 where
  pub datatypes : (d : ℕ) (x : Datatype) → slice_get th.datatypes d ≡ Some x → IsInhabited th (suc d) x
  pub functions : (n : ℕ) (x : Function) → numbered th.functions n ≡ Some x → IsBody th n x x.body
  pub inputs : AreClosed th (tys th.program.inputs)
  pub answer : IsClosed th th.program.answer
  pub specification : IsTyped th th.program.inputs [] th.specification bool
