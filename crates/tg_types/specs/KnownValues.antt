-- Types of the program, each with the type of the model that it stands for.
use Rattle.std.specs.Prelude.{◌≡◌, [], ◌∷◌}
use Rattle.std.proofs.Common.{refl}
use Rattle.tg_model.specs.Types as model
use Rattle.tg_types.specs.declared.types.Ty.TheVariants.{Nat, Bool, Param, Meta, App}
use Rattle.tg_types.specs.Types.{ty, ty-Nat, ty-Bool, ty-Param, ty-Meta, ty-App}

pub truth_value : ty Bool ≡ model.bool
truth_value = ty-Bool

pub unknown : ty (Meta 7) ≡ model.meta 7
unknown = ty-Meta 7

-- lists of naturals, where lists are the datatype of number 1
pub naturals : ty (App 1 (Nat ∷ [])) ≡ model.applied 1 (model.more model.nat model.none)
naturals = rw (ty-App, ty-Nat) refl

-- pairs of a natural and of what the first parameter stands for
pub pair : ty (App 2 (Nat ∷ Param 1 ∷ [])) ≡ model.applied 2 (model.more model.nat (model.more (model.parameter 1) model.none))
pair = rw (ty-App, ty-Nat, ty-Param) refl
