-- Types whose datatypes are declared and have their numbers of arguments.
use Rattle.std.specs.Prelude.{ℕ, Bool, true, false, ◌&&◌, ◌+◌, nat_eq, nat_lt, List, [], ◌∷◌, ◌++◌, length, map, Option, Some, None}
use Rattle.std.specs.Option.{option_map_or}
use Rattle.tg_model.specs.Types as types
use Rattle.tg_model.specs.Types.{Ty, Tys, nat, bool, parameter, meta, applied, elements}
use Rattle.tg_model.specs.Theory.{Datatype, numbered}
use Rattle.tg_accept.specs.Declared.{Declared}

-- how many arguments each datatype takes; the one that is being declared stands last
abbrev pub counts : Declared → Option ℕ → List ℕ
counts D None = map (λ (x : Datatype). x.parameters) D.datatypes
counts D (Some own) = map (λ (x : Datatype). x.parameters) D.datatypes ++ own ∷ []

-- made of nat, bool, the first `params` parameters, and datatypes at as many arguments as they take
module _ (takes : List ℕ) (params : ℕ) where
  abbrev mutual
    pub is_made : Ty → Bool
    is_made nat = true
    is_made bool = true
    is_made (parameter n) = nat_lt 0 n && nat_lt n (params + 1)
    is_made (meta n) = false
    is_made (applied d ts) = option_map_or (λ n. nat_eq (length (elements ts)) n) (numbered takes d) false && are_made ts

    pub are_made : Tys → Bool
    are_made types.none = true
    are_made (types.more t ts) = is_made t && are_made ts
