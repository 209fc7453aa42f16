-- Which values a closed type has, and its least value.
use Rattle.std.specs.Prelude.{ℕ, zero, suc, false, ◌≡◌, nat_eq, List, [], ◌∷◌, map, length, Option, Some, None, if◌then◌else◌}
use Rattle.std.specs.List.{list_any}
use Rattle.std.specs.Option.{option_map_or}
use Rattle.tg_model.specs.Types as types
use Rattle.tg_model.specs.Types.{Ty, nat, bool, parameter, meta, applied, Tys, tys}
use Rattle.tg_model.specs.Value.{Value, Values, number, boolean, made, values, wrong}
use Rattle.tg_model.specs.Value as value
use Rattle.tg_model.specs.Theory.{Theory, Datatype, Constructor, Owned, constructor_at, first_constructor, numbered, instance, datatype_of}

-- `HasType th v t`: a natural has type nat, a truth value type bool, and a constructor on arguments of its declared
-- types at some `us` the datatype at `us`
abbrev mutual
  pub HasType : Theory → Value → Ty → Type 0
  HasType th (number n) t = t ≡ nat
  HasType th (boolean b) t = t ≡ bool
  HasType th (made c vs) t =
      (o : Owned) × (constructor_at th c ≡ Some o)
      × ((us : List Ty) × (t ≡ applied o.datatype (tys us)) × HaveTypes th vs (map (instance us) o.constructor.arguments))

  pub HaveTypes : Theory → Values → List Ty → Type 0
  HaveTypes th value.none [] = Unit {0}
  HaveTypes th value.none (t ∷ ts) = ⊥
  HaveTypes th (value.more v vs) [] = ⊥
  HaveTypes th (value.more v vs) (t ∷ ts) = HasType th v t × HaveTypes th vs ts

abbrev pub AreTyped : Theory → List Value → List Ty → Type 0
AreTyped th vs ts = HaveTypes th (values vs) ts

-- the first constructor, counted from number `c`, that has no argument of the datatype `d` itself
abbrev pub base_constructor : ℕ → ℕ → List Constructor → Option (ℕ × Constructor)
base_constructor d c [] = None
base_constructor d c (k ∷ ks) =
    if list_any (λ t. nat_eq (datatype_of t) d) k.arguments then base_constructor d (suc c) ks else Some (c, k)

-- the least value of a type, where `data` gives that of a datatype from those of its arguments
module _ (least_data : ℕ → List Value → Value) (params : List Value) where
  abbrev mutual
    pub least_at : Ty → Value
    least_at nat = number 0
    least_at bool = boolean false
    least_at (parameter n) = option_map_or (λ v. v) (numbered params n) wrong
    least_at (meta n) = wrong
    least_at (applied d ts) = least_data d (all_least ts)

    pub all_least : Tys → List Value
    all_least types.none = []
    all_least (types.more t ts) = least_at t ∷ all_least ts

-- A constructor's arguments name only datatypes that are declared earlier, so the place of the datatype falls.
abbrev pub least_below : List Datatype → ℕ → ℕ → List Value → Value
least_below ds zero d vs = wrong
least_below ds (suc n) d vs =
    if nat_eq d (suc n)
    then option_map_or
    (λ (x : Datatype). option_map_or
    (λ (p : ℕ × Constructor). made p.0 (values (map (least_at (least_below ds n) vs) p.1.arguments)))
    (base_constructor d (first_constructor ds d) x.constructors) wrong)
    (numbered ds d) wrong
    else least_below ds n d vs

-- 0, False, or the first constructor without an argument of the datatype itself, on least values
abbrev pub least : Theory → Ty → Value
least th t = least_at (least_below th.datatypes (length th.datatypes)) [] t
