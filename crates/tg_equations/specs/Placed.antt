-- The places of branches, and what is asked of them.
use Rattle.std.specs.Prelude.{ℕ, ◌≡◌, Bool, true, false, List, [], Option, Some, None}
use Rattle.tg_accept.specs.Core.{same_head}
use Rattle.tg_accept.specs.Cases.{heads_in}
use Rattle.tg_accept.specs.Declared.{theory}
use Rattle.tg_accept.specs.Resolved.{Head, Branches}
use Rattle.tg_equations.specs.declared.cases.Checks.{Checks}
use Rattle.tg_equations.specs.declared.places.Places.{Places}
use Rattle.tg_equations.specs.Checked.{are_once, are_branches}
use Rattle.tg_equations.specs.Places.{placed_from, held}

-- each head has its place in the list
abbrev pub ArePlaces : Places → List Head → Type 0
ArePlaces p hs = (h : Head) → held p h ≡ placed_from (λ x. same_head x h) 0 hs

-- the places of branches, of which no two are for one constructor
abbrev pub IsPlaced : Branches → Option Places → Type 0
IsPlaced bs None = are_once bs ≡ false
IsPlaced bs (Some p) = (are_once bs ≡ true) × ArePlaces p (heads_in bs)

abbrev pub passes : Checks → ℕ → Branches → Bool
passes x n bs = are_branches (theory [] x.declared.now) x.named n bs
