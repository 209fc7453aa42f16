-- The shapes of the values of a type to a constructor depth: constructors down to naturals and truth values.
use Rattle.std.specs.Prelude.{ℕ, zero, suc, List, [], ◌∷◌, ◌++◌, map}
use Rattle.std.specs.Option.{option_map_or}
use Rattle.tg_model.specs.Types.{Ty, nat, bool, parameter, meta, applied, elements}
use Rattle.tg_model.specs.Theory.{Datatype, Constructor, first_constructor, numbered, instance}

mutual
  -- `hole t` stands for each value of type `t`
  pub data Shape : Type 0 where
    hole : (t : Ty) → Shape
    node : (c : ℕ) (ss : Shapes) → Shape

  pub data Shapes : Type 0 where
    none : Shapes
    more : (s : Shape) (ss : Shapes) → Shapes

-- each of the shapes before each of the lists, the shape slowest
abbrev pub product : List Shape → List Shapes → List Shapes
product [] rests = []
product (s ∷ ss) rests = map (more s) rests ++ product ss rests

-- one shape for each item, of those that `shapes` gives for it, the first item slowest
module _ {A : Type 0} (shapes : A → List Shape) where
  abbrev pub products : List A → List Shapes
  products [] = none ∷ []
  products (x ∷ xs) = product (shapes x) (products xs)

-- the constructors from number `c`, in order, at shapes of their arguments
module _ (shapes : Ty → List Shape) where
  abbrev pub of_constructors : ℕ → List (List Ty) → List Shape
  of_constructors c [] = []
  of_constructors c (ts ∷ rest) = map (node c) (products shapes ts) ++ of_constructors (suc c) rest

-- the arguments' types of each constructor of datatype `d` at `us`, in order
abbrev pub arguments_at : List Datatype → ℕ → List Ty → List (List Ty)
arguments_at ds d us =
    option_map_or (λ (x : Datatype). map (λ (c : Constructor). map (instance us) c.arguments) x.constructors) (numbered ds d) []

-- the shapes of a type to depth `k`
abbrev pub of_type : List Datatype → ℕ → Ty → List Shape
of_type ds k nat = hole nat ∷ []
of_type ds k bool = hole bool ∷ []
of_type ds k (parameter n) = []
of_type ds k (meta n) = []
of_type ds zero (applied d ts) = []
of_type ds (suc k) (applied d ts) = of_constructors (of_type ds k) (first_constructor ds d) (arguments_at ds d (elements ts))
