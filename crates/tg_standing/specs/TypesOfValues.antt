-- Whether a value has a type, as a truth value.
use Rattle.std.specs.Prelude.{ℕ, Bool, true, false, ◌&&◌, nat_eq, List, [], ◌∷◌, map}
use Rattle.std.specs.Option.{option_map_or}
use Rattle.tg_model.specs.Theory.{Datatype, Owned, constructors_from, numbered, instance}
use Rattle.tg_model.specs.Types.{Ty, nat, bool, applied, elements}
use Rattle.tg_model.specs.Value as value
use Rattle.tg_model.specs.Value.{Value, Values, number, boolean, made}

module _ (ds : List Datatype) where
  abbrev mutual
    pub has_type : Value → Ty → Bool
    has_type (number n) nat = true
    has_type (boolean b) bool = true
    has_type (made c vs) (applied d ts) =
        option_map_or
        (λ (o : Owned). nat_eq o.datatype d && have_types vs (map (instance (elements ts)) o.constructor.arguments))
        (numbered (constructors_from 1 ds) c) false
    has_type v t = false

    pub have_types : Values → List Ty → Bool
    have_types value.none [] = true
    have_types (value.more v vs) (t ∷ ts) = has_type v t && have_types vs ts
    have_types vs ts = false

  -- a constructor on values makes one of datatype `d` at the types `us`
  abbrev pub is_made : ℕ → Values → ℕ → List Ty → Bool
  is_made c vs d us =
      option_map_or
      (λ (o : Owned). nat_eq o.datatype d && have_types vs (map (instance us) o.constructor.arguments))
      (numbered (constructors_from 1 ds) c) false
