use Rattle.std.proofs.Common.{◌≡◌, ◌+◌, ◌*◌, ◌≤◌, map, take, drop, length}
use Rattle.tg_model.specs.Theory.{instance}
use Rattle.tg_declarations.specs.View.{constructor}
use Rattle.std.specs.Prelude.{slice_get, Some}
use Rattle.tg_types.specs.declared.types.Ty as declared
use Rattle.tg_types.specs.Types.{ty}
use Rattle.tg_split.specs.Scopes.{arguments}
use Rattle.tg_split.specs.Shapes.{of_type, products}
use Rattle.tg_split.specs.Sizes.{size_of, size_of_lists, AreMade}
use Rattle.tg_split.specs.Known.{AreRight}
use Rattle.tg_split.proofs.counting.+size.Given as goal

abbrev pub decreases-size_at : goal.decreases-size_at
decreases-size_at l = 6 * l.depth + 2

abbrev pub decreases-size_of_data : goal.decreases-size_of_data
decreases-size_of_data l = 6 * l.depth + 1

abbrev pub decreases-counted_data : goal.decreases-counted_data
decreases-counted_data l = 6 * l.depth

abbrev pub decreases-size_of_constructors : goal.decreases-size_of_constructors
decreases-size_of_constructors l = 6 * l.depth + 5

abbrev pub decreases-size_of_arguments : goal.decreases-size_of_arguments
decreases-size_of_arguments l = 6 * l.depth + 4

abbrev pub decreases-size_of_argument : goal.decreases-size_of_argument
decreases-size_of_argument l = 6 * l.depth + 3

-- of the arguments that are left behind, from the last on
abbrev pub invariant-size_of_arguments-loop-left : goal.invariant-size_of_arguments-loop-left
invariant-size_of_arguments-loop-left l =
    (l.left ≤ length l.ts) × (l.size ≡ size_of_lists (products (of_type l.declared.datatypes l.depth) (map (instance (arguments l.scope)) (map ty (drop l.left l.ts)))))
    × ((t : declared.Ty) → slice_get l.ts l.left ≡ Some t → l.part ≡ size_of (of_type l.declared.datatypes l.depth (instance (arguments l.scope) (ty t))))
    × AreRight l.declared.datatypes l.known

abbrev pub decreases-size_of_arguments-loop-left : goal.decreases-size_of_arguments-loop-left
decreases-size_of_arguments-loop-left l = l.left

-- of the constructors so far
abbrev pub invariant-size_of_constructors-loop-con : goal.invariant-size_of_constructors-loop-con
invariant-size_of_constructors-loop-con l =
    AreMade l.declared.datatypes l.depth (arguments l.scope) (map constructor (take l.con-index l.cons)) l.total × AreRight l.declared.datatypes l.known
