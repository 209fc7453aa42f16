-- Substitutions for open types, and the assignments that extend them.
use Rattle.std.specs.Prelude.{ℕ, ◌≡◌, Bool, true, false, List, [], ◌∷◌, ◌++◌, nat_eq, if◌then◌else◌}
use Rattle.tg_model.specs.Types.{Ty, Tys, nat, bool, parameter, meta, applied, none, more}

-- a type for each open type
abbrev pub Assignment : Type 0
Assignment = ℕ → Ty

-- a type in which each open type is replaced by what the assignment gives for it
abbrev mutual
  pub at : Assignment → Ty → Ty
  at θ nat = nat
  at θ bool = bool
  at θ (parameter n) = parameter n
  at θ (meta n) = θ n
  at θ (applied d ts) = applied d (all_at θ ts)

  pub all_at : Assignment → Tys → Tys
  all_at θ none = none
  all_at θ (more t ts) = more (at θ t) (all_at θ ts)

-- the open type of this number stands in the type
abbrev mutual
  pub holds : ℕ → Ty → Bool
  holds v nat = false
  holds v bool = false
  holds v (parameter n) = false
  holds v (meta n) = nat_eq n v
  holds v (applied d ts) = any_holds v ts

  pub any_holds : ℕ → Tys → Bool
  any_holds v none = false
  any_holds v (more t ts) = if holds v t then true else any_holds v ts

-- that an open type stands for a type
pub record Agreement : Type 0 where
  pub variable : ℕ
  pub meaning : Ty

-- agreements, the oldest first
abbrev pub Substitution : Type 0
Substitution = List Agreement

-- what one agreement gives for each open type
abbrev pub only : Agreement → Assignment
only x v = if nat_eq v x.variable then x.meaning else meta v

abbrev pub put : Agreement → Ty → Ty
put x t = at (only x) t

-- a type with each agreement put in, the oldest first
abbrev pub apply : Substitution → Ty → Ty
apply [] t = t
apply (x ∷ s) t = apply s (put x t)

-- what a substitution gives for each open type
abbrev pub given : Substitution → Assignment
given s v = apply s (meta v)

-- the assignment gives each open type what it gives for the type that the substitution puts there
pub record Extends (θ : Assignment) (s : Substitution) : Type 0 where
  pub each : (v : ℕ) → at θ (given s v) ≡ θ v

-- nothing is left to put in: putting in twice is putting in once
abbrev pub IsWhole : Substitution → Type 0
IsWhole s = Extends (given s) s

-- An agreement that may follow the others: nothing is left to put into its sides, and the one doesn't hold the other.
pub record IsFresh (s : Substitution) (x : Agreement) : Type 0 where
  pub unset : apply s (meta x.variable) ≡ meta x.variable
  pub settled : apply s x.meaning ≡ x.meaning
  pub apart : holds x.variable x.meaning ≡ false

-- the new substitution has the old one's agreements and maybe more
abbrev pub Continues : Substitution → Substitution → Type 0
Continues old new = (more : Substitution) × (new ≡ old ++ more)
