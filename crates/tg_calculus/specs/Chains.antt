-- Terms that are deeper than a number: under a chain of so many constructors from the root stands an argument of a datatype's type.
use Rattle.std.specs.Prelude.{ℕ, zero, suc, Bool, true, false, ◌||◌, List, [], ◌∷◌, map}
use Rattle.std.specs.Option.{option_map_or}
use Rattle.tg_model.specs.Tree as tree
use Rattle.tg_model.specs.Tree.{Tree, Trees, con}
use Rattle.tg_model.specs.Types.{Ty, applied, elements}
use Rattle.tg_model.specs.Theory.{Theory, Owned, constructor_at, instance}

abbrev pub is_data : Ty → Bool
is_data (applied d Ts) = true
is_data T = false

-- the types of the arguments of constructor `c` where it makes a term of the type
abbrev pub arguments_at : Theory → ℕ → Ty → List Ty
arguments_at th c (applied d Ts) = option_map_or (λ (o : Owned). map (instance (elements Ts)) o.constructor.arguments) (constructor_at th c) []
arguments_at th c T = []

-- a chain of `k` constructors from the root of a term of the type
module _ (th : Theory) where
  abbrev mutual
    pub has_chain : Tree → ℕ → Ty → Bool
    has_chain t zero T = is_data T
    has_chain (con c ts) (suc k) T = some_has_chain ts k (arguments_at th c T)
    has_chain t (suc k) T = false

    pub some_has_chain : Trees → ℕ → List Ty → Bool
    some_has_chain (tree.more t ts) k (T ∷ Ts) = has_chain t k T || some_has_chain ts k Ts
    some_has_chain ts k Ts = false
