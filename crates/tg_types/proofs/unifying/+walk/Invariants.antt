use Rattle.std.proofs.Common.{◌+◌, ◌*◌, drop}
use Rattle.tg_types.specs.Types.{types}
use Rattle.tg_types.specs.Substitutions.{Continues}
use Rattle.tg_types.specs.Walks.{Outcome, Walks}
use Rattle.tg_types.proofs.unifying.+walk.Given as goal

abbrev pub decreases-walk : goal.decreases-walk
decreases-walk l = 2 * l.room

abbrev pub decreases-walk_all : goal.decreases-walk_all
decreases-walk_all l = 2 * l.room + 1

-- a walk of what is left leads to one of the whole
abbrev pub invariant-walk_all-loop-i : goal.invariant-walk_all-loop-i
invariant-walk_all-loop-i l = record {
  kept : Continues l.fn.s l.s;
  leads : (r : Outcome) → Walks l.s (types (drop l.i l.ts)) (types (drop l.i l.us)) r → Walks l.fn.s (types l.ts) (types l.us) r;
}
