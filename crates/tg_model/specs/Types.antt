-- Types.
use Rattle.std.specs.Prelude.{ℕ, List, [], ◌∷◌}

mutual
  -- `parameter n` is the n-th type parameter of a declaration, from 1; `meta n` is a type that is still to be found;
  -- `applied d ts` is the datatype of number `d` at the arguments `ts`
  pub data Ty : Type 0 where
    nat : Ty
    bool : Ty
    parameter : (n : ℕ) → Ty
    meta : (n : ℕ) → Ty
    applied : (d : ℕ) (ts : Tys) → Ty
    deriving Discrete as type_discrete

  pub data Tys : Type 0 where
    none : Tys
    more : (t : Ty) (ts : Tys) → Tys
    deriving Discrete as types_discrete

abbrev pub tys : List Ty → Tys
tys [] = none
tys (t ∷ ts) = more t (tys ts)

abbrev pub elements : Tys → List Ty
elements none = []
elements (more t ts) = t ∷ elements ts
