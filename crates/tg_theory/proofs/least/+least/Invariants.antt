use Rattle.std.proofs.Common.{◌≡◌, ◌+◌, ◌*◌, map, take}
use Rattle.tg_model.specs.Typing.{least_at, least_below}
use Rattle.tg_term.specs.Values.{value}
use Rattle.tg_types.specs.Types.{ty}
use Rattle.tg_theory.proofs.least.+least.Given as goal

abbrev pub decreases-least_at : goal.decreases-least_at
decreases-least_at l = 2 * l.left

abbrev pub decreases-all_least : goal.decreases-all_least
decreases-all_least l = 2 * l.left + 1

abbrev pub decreases-least_data : goal.decreases-least_data
decreases-least_data l = 2 * l.left

-- of the types so far
abbrev pub invariant-all_least-loop-t : goal.invariant-all_least-loop-t
invariant-all_least-loop-t l =
    map value l.vs ≡ map (least_at (least_below l.declared.datatypes l.below) (map value l.params)) (map ty (take l.t-index l.ts))
