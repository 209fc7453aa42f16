-- Where constructors stand: by datatype, and by place in it.
use Rattle.std.specs.Prelude.{ℕ, zero, suc, ◌+◌, ◌++◌, List, [], ◌∷◌, length, Option, None, option_map, slice_get}
use Rattle.std.specs.Option.{option_map_or}
use Rattle.tg_model.specs.Theory.{Datatype, Constructor, Owned, numbered}
use Rattle.tg_declarations.specs.declared.owners.Owner.{Owner}

-- the places of `count` constructors of datatype `d`, from place `p`
abbrev pub places_from : ℕ → ℕ → ℕ → List Owner
places_from d p zero = []
places_from d p (suc count) = record { datatype = d; place = p } ∷ places_from d (suc p) count

-- the place of each constructor, where the first datatype has number `d`
abbrev pub owners_from : ℕ → List Datatype → List Owner
owners_from d [] = []
owners_from d (x ∷ xs) = places_from d 0 (length x.constructors) ++ owners_from (suc d) xs

-- `count` numbers from `n`
abbrev pub numbers_from : ℕ → ℕ → List ℕ
numbers_from n zero = []
numbers_from n (suc count) = n ∷ numbers_from (suc n) count

-- the numbers of the constructors of each datatype, where those of the first begin with `n`
abbrev pub all_numbers_from : ℕ → List Datatype → List (List ℕ)
all_numbers_from n [] = []
all_numbers_from n (x ∷ xs) = numbers_from n (length x.constructors) ∷ all_numbers_from (n + length x.constructors) xs

-- the constructor at a place
abbrev pub at_owner : List Datatype → Owner → Option Owned
at_owner xs o =
    option_map_or
    (λ (x : Datatype). option_map (λ (c : Constructor). let w : Owned = record { datatype = o.datatype; constructor = c } in w) (slice_get x.constructors o.place))
    (numbered xs o.datatype) None
