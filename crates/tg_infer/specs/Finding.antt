-- What looking up the words of a term gives, where the variables that are bound around it are as before.
use Rattle.std.specs.Prelude.{ℕ, ◌≡◌, List, ◌++◌, map, reverse, Option, Some, None, option_map, option_and_then, if◌then◌else◌}
use Rattle.tg_accept.specs.Meaning.{Scope, may_bind_all, name_of, head_meant, resolve}
use Rattle.tg_accept.specs.Raw as raw
use Rattle.tg_accept.specs.Raw.{Binder}
use Rattle.tg_typing.specs.View as typing
use Rattle.tg_infer.specs.declared.binders.Binders.{Binders}
use Rattle.tg_infer.specs.Binders.{binders, AreRight}
use Rattle.tg_infer.specs.View as view

-- the same variables are bound
pub record AreKept (old new : Binders) : Type 0 where
  pub is : binders new ≡ binders old
  pub right : AreRight new

-- the meaning, if there is one
abbrev pub Finds : {A : Type 0} → Binders → Binders → Option A → Option A → Type 0
Finds old new None meant = None ≡ meant
Finds old new (Some r) meant = (Some r ≡ meant) × AreKept old new

-- a branch whose body is already seen
abbrev pub branch_meant : Scope → List Binder → view.Seen → Option typing.Seen
branch_meant S locs b =
    if may_bind_all S locs b.variables
    then option_and_then
    (λ h. option_map (λ u. record { head = h; names = map name_of b.variables; body = u }) (resolve S (reverse b.variables ++ locs) b.body))
    (head_meant S.declared b.head)
    else None
