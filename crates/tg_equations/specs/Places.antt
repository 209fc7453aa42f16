-- Where something stands in a list, and whether it stands there once.
use Rattle.std.specs.Prelude.{ℕ, suc, Bool, true, false, not, nat_eq, List, [], ◌∷◌, Option, Some, None, is_some, if◌then◌else◌}
use Rattle.std.specs.List.{list_any}
use Rattle.std.specs.Option.{option_map_or}
use Rattle.indexmap.specs.IndexMap.{get}
use Rattle.tg_accept.specs.Resolved.{Head, zero_head, successor_head, of}
use Rattle.tg_equations.specs.declared.places.Place.{Place}
use Rattle.tg_equations.specs.declared.places.Places.{Places}

-- the first item that passes the test, where the items are numbered from `n`, and whether no later one does
abbrev pub placed_from : {A : Type 0} → (A → Bool) → ℕ → List A → Option Place
placed_from is n [] = None
placed_from is n (x ∷ xs) = if is x then Some (record { first = n; only = not (list_any is xs) }) else placed_from is (suc n) xs

abbrev pub held : Places → Head → Option Place
held p zero_head = p.zero
held p successor_head = p.successor
held p (of c) = get nat_eq p.constructors c

-- the place where one more is noted
abbrev pub noted : ℕ → Option Place → Place
noted n None = record { first = n; only = true }
noted n (Some p) = record { first = p.first; only = false }

-- there is something for the head
abbrev pub holds : Places → Head → Bool
holds p h = is_some (held p h)

-- there is exactly one thing for it
abbrev pub holds_one : Places → Head → Bool
holds_one p h = option_map_or (λ (x : Place). x.only) (held p h) false
