-- A theory as plain data. Datatypes, constructors, functions, type parameters and arguments are numbered from 1;
-- constructors through all datatypes in the order of declaration.
use Rattle.std.specs.Prelude.{ℕ, zero, suc, ◌+◌, ◌≡◌, List, [], ◌∷◌, ◌++◌, map, length, Option, Some, None, slice_get, unwrap_or}
use Rattle.tg_model.specs.Tree.{Tree}
use Rattle.tg_model.specs.Types as types
use Rattle.tg_model.specs.Types.{Ty, nat, bool, parameter, meta, applied, Tys}

pub record Constructor : Type 0 where
  pub name : List ℕ
  pub arguments : List Ty

pub record Datatype : Type 0 where
  pub name : List ℕ
  pub parameters : ℕ
  pub constructors : List Constructor

-- `plain` is the body of a definition, whose free variables are its arguments. `recursive place cases` has one body for
-- each constructor of the type of the argument at `place`; its free variables are the other arguments in order, then the
-- constructor's. On nat the cases are those of 0 and of `Suc`.
pub data Body : Type 0 where
  plain : (t : Tree) → Body
  recursive : (place : ℕ) (cases : List Tree) → Body

pub record Function : Type 0 where
  pub name : List ℕ
  pub parameters : ℕ
  pub arguments : List Ty
  pub answer : Ty
  pub body : Body

pub record Program : Type 0 where
  pub name : List ℕ
  pub inputs : List Ty
  pub answer : Ty

-- the free variables of the specification are the program's inputs
pub record Theory : Type 0 where
  pub name : List ℕ
  pub datatypes : List Datatype
  pub functions : List Function
  pub program : Program
  pub specification : Tree

-- the n-th item, counted from 1
abbrev pub numbered : {A : Type 0} → List A → ℕ → Option A
numbered xs zero = None
numbered xs (suc n) = slice_get xs n

-- a constructor and the number of its datatype
pub record Owned : Type 0 where
  pub datatype : ℕ
  pub constructor : Constructor

abbrev pub constructors_from : ℕ → List Datatype → List Owned
constructors_from d [] = []
constructors_from d (x ∷ xs) =
    map (λ (c : Constructor). let o : Owned = record { datatype = d; constructor = c } in o) x.constructors ++ constructors_from (suc d) xs

abbrev pub constructor_at : Theory → ℕ → Option Owned
constructor_at th c = numbered (constructors_from 1 th.datatypes) c

abbrev pub constructors_before : ℕ → List Datatype → ℕ
constructors_before zero xs = 0
constructors_before (suc d) [] = 0
constructors_before (suc d) (x ∷ xs) = length x.constructors + constructors_before d xs

-- the number of the first constructor of datatype `d`
abbrev pub first_constructor : List Datatype → ℕ → ℕ
first_constructor xs zero = 1
first_constructor xs (suc d) = 1 + constructors_before d xs

-- the number of a type's datatype, and 0 for every other type
abbrev pub datatype_of : Ty → ℕ
datatype_of nat = 0
datatype_of bool = 0
datatype_of (parameter n) = 0
datatype_of (meta n) = 0
datatype_of (applied d ts) = d

-- A declared type at the arguments `us`. A parameter without an argument, which no declared type has, is nat: so an instance
-- of an instance is an instance.
abbrev mutual
  pub instance : List Ty → Ty → Ty
  instance us nat = nat
  instance us bool = bool
  instance us (parameter n) = unwrap_or (numbered us n) nat
  instance us (meta n) = meta n
  instance us (applied d ts) = applied d (instances us ts)

  pub instances : List Ty → Tys → Tys
  instances us types.none = types.none
  instances us (types.more t ts) = types.more (instance us t) (instances us ts)

-- made of nat, bool and declared datatypes with their number of arguments
abbrev mutual
  pub IsClosed : Theory → Ty → Type 0
  IsClosed th nat = Unit {0}
  IsClosed th bool = Unit {0}
  IsClosed th (parameter n) = ⊥
  IsClosed th (meta n) = ⊥
  IsClosed th (applied d ts) =
      ((x : Datatype) × (numbered th.datatypes d ≡ Some x) × (length (types.elements ts) ≡ x.parameters)) × AreClosed th ts

  pub AreClosed : Theory → Tys → Type 0
  AreClosed th types.none = Unit {0}
  AreClosed th (types.more t ts) = IsClosed th t × AreClosed th ts
