-- The arguments of two types, which a walk over the types goes on with.
use Rattle.std.specs.Prelude.{◌≡◌, List, length, Option, Some, None}
use Rattle.std.specs.Borrow.{Bor}
use Rattle.tg_model.specs.Types as model
use Rattle.tg_types.specs.declared.types.Ty.{Ty}
use Rattle.tg_types.specs.Types.{types}
use Rattle.tg_types.specs.Substitutions.{Substitution}
use Rattle.tg_types.specs.Walks.{Outcome, Walk, Walks}

-- where there are some they are as many, and a walk over them is one over the types
abbrev pub OnArguments : Substitution → model.Ty → model.Ty → Option (Bor (List Ty) × Bor (List Ty)) → Type 0
OnArguments s a b None = Unit {0}
OnArguments s a b (Some p) =
    (length p.0.now ≡ length p.1.now) × ((r : Outcome) → Walks s (types p.0.now) (types p.1.now) r → Walk s a b r)
