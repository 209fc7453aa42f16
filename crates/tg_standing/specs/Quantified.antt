-- The variables of the quantifiers around a formula.
use Rattle.std.specs.Prelude.{ℕ, ◌≡◌, List, [], ◌∷◌, ◌++◌, length, map, reverse, take, Option, Some, None}
use Rattle.tg_model.specs.Types as model
use Rattle.tg_accept.specs.Standing.{levels}
use Rattle.tg_infer.specs.Binders.{binders, AreRight}
use Rattle.tg_shared_types.specs.Growth.{AreDeclared}
use Rattle.tg_types.specs.declared.types.Ty.{Ty}
use Rattle.tg_types.specs.Types.{ty, types}
use Rattle.tg_standing.specs.declared.quantified.Under.{Under}

-- their types, the innermost first
abbrev pub types_under : Under → List model.Ty
types_under u = reverse (map ty u.types.items)

-- they are numbered from the outside, and no open type stands in their types
pub record IsUnder (u : Under) : Type 0 where
  pub right : AreRight u.binders
  pub numbered : binders u.binders ≡ levels (length u.types.items)
  pub declared : AreDeclared (types u.types.items)

-- one more stands around
pub record Enters (old new : Under) (t : Ty) : Type 0 where
  pub is : new.types.items ≡ old.types.items ++ t ∷ []
  pub under : IsUnder new

-- the first `n` are left
pub record Leaves (old new : Under) (n : ℕ) : Type 0 where
  pub is : new.types.items ≡ take n old.types.items
  pub under : IsUnder new

-- the same stand around
pub record IsSame (old new : Under) : Type 0 where
  pub is : new.types.items ≡ old.types.items
  pub under : IsUnder new

-- what there is, under the same quantifiers, or that there is nothing
abbrev pub Stands : {A : Type 0} → Under → Under → (A → Type 0) → Option A → Type 0
Stands old new Is (Some x) = Is x × IsSame old new
Stands old new Is None = (x : _) → ¬ (Is x)
