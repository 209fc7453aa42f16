use Rattle.std.proofs.Common.{◌+◌, ◌*◌, take}
use Rattle.tg_types.specs.Types.{ty, types}
use Rattle.tg_shared_types.proofs.Sizes.{size, sizes}
use Rattle.tg_typing.specs.Nodes.{AllStand}
use Rattle.tg_typing.proofs.opening.+state.Given as goal

abbrev pub invariant-state_all-loop-t : goal.invariant-state_all-loop-t
invariant-state_all-loop-t l = AllStand l.initial.table (types (take l.t-index l.ts)) l.table l.ks

abbrev pub decreases-state : goal.decreases-state
decreases-state l = 2 * size (ty l.t.now)

abbrev pub decreases-state_all : goal.decreases-state_all
decreases-state_all l = 2 * sizes (types l.ts.now) + 1
