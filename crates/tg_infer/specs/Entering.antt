-- Going under binders, and back.
use Rattle.std.specs.Prelude.{ℕ, ◌≡◌, ◌-◌, Bool, true, false, List, ◌++◌, reverse, drop, length}
use Rattle.tg_accept.specs.Meaning.{Scope, may_bind, may_bind_all}
use Rattle.tg_accept.specs.Raw.{Binder}
use Rattle.tg_infer.specs.declared.binders.Binders.{Binders}
use Rattle.tg_infer.specs.Binders.{binders, AreRight, HaveBound}

-- a variable is bound, or it may not be
abbrev pub Enters : Scope → Binders → Binders → Binder → Bool → Type 0
Enters S old new x true = (may_bind S (binders old) x ≡ true) × HaveBound old new x
Enters S old new x false = may_bind S (binders old) x ≡ false

-- variables are bound, the last of them the innermost
pub record HaveAllBound (old new : Binders) (xs : List Binder) : Type 0 where
  pub is : binders new ≡ reverse xs ++ binders old
  pub right : AreRight new

abbrev pub EntersAll : Scope → Binders → Binders → List Binder → Bool → Type 0
EntersAll S old new xs true = (may_bind_all S (binders old) xs ≡ true) × HaveAllBound old new xs
EntersAll S old new xs false = may_bind_all S (binders old) xs ≡ false

-- the innermost are gone, and so many are left
pub record AreLeft (old new : Binders) (count : ℕ) : Type 0 where
  pub is : binders new ≡ drop (length (binders old) - count) (binders old)
  pub right : AreRight new
