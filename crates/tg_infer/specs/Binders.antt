-- The variables that are bound where a term stands.
use Rattle.std.specs.Prelude.{ℕ, suc, ◌≡◌, List, [], ◌∷◌, reverse, length, drop, Option, Some, None, option_and_then, if◌then◌else◌}
use Rattle.std.specs.Option.{option_map_or}
use Rattle.std.specs.Str.{bytes_eq}
use Rattle.indexmap.specs.IndexMap.{get}
use Rattle.tg_accept.specs.Raw.{Binder, name, level}
use Rattle.tg_accept.specs.Meaning.{same_binder}
use Rattle.tg_infer.specs.declared.binders.Bound.{Bound}
use Rattle.tg_infer.specs.declared.binders.Binders.{Binders}

-- where the innermost variable of a name is bound, counted from the outside, from 0; the innermost stands first
abbrev pub level_of : List ℕ → List Binder → Option ℕ
level_of x [] = None
level_of x (y ∷ ys) = if same_binder (name x) y then Some (length ys) else level_of x ys

-- the innermost first
abbrev pub seen : List Bound → List Binder
seen [] = []
seen (b ∷ bs) = option_map_or name b.name (level (suc (length bs))) ∷ seen bs

-- each tells which variable it hides
abbrev pub AreHiding : List Bound → Type 0
AreHiding [] = Unit {0}
AreHiding (b ∷ bs) = ((x : List ℕ) → b.name ≡ Some x → b.hidden ≡ level_of x (seen bs)) × AreHiding bs

-- the binders around a term, the innermost first
abbrev pub binders : Binders → List Binder
binders b = seen (reverse b.bound.items)

abbrev pub known : Option (Option ℕ) → Option ℕ
known o = option_and_then (λ l. l) o

pub record AreRight (b : Binders) : Type 0 where
  pub hiding : AreHiding (reverse b.bound.items)
  pub levels : (x : List ℕ) → known (get bytes_eq b.levels x) ≡ level_of x (binders b)

-- one more is bound
pub record HaveBound (old new : Binders) (x : Binder) : Type 0 where
  pub is : binders new ≡ x ∷ binders old
  pub right : AreRight new

-- the innermost is gone
pub record HaveLeft (old new : Binders) : Type 0 where
  pub is : binders new ≡ drop 1 (binders old)
  pub right : AreRight new
