use Rattle.std.proofs.Common.{ℕ, ◌≡◌, ◌+◌, ◌*◌, map, take, length}
use Rattle.tg_model.specs.Theory.{Constructor, instance}
use Rattle.tg_declarations.specs.Owners.{numbers_from}
use Rattle.tg_declarations.specs.View.{constructor}
use Rattle.tg_types.specs.Types.{ty}
use Rattle.tg_split.specs.Scopes.{arguments}
use Rattle.tg_split.specs.Shapes.{of_type, of_constructors, products}
use Rattle.tg_split.specs.Known.{AreRight}
use Rattle.tg_split.specs.Listing.{pattern, part, part_of}
use Rattle.tg_split.specs.Patterns.{pattern_of}
use Rattle.tg_split.proofs.listing.+shapes.Given as goal

abbrev pub decreases-shapes_of : goal.decreases-shapes_of
decreases-shapes_of l = 4 * l.depth + 1

abbrev pub decreases-shapes_of_data : goal.decreases-shapes_of_data
decreases-shapes_of_data l = 4 * l.depth

abbrev pub decreases-shapes_of_constructors : goal.decreases-shapes_of_constructors
decreases-shapes_of_constructors l = 4 * l.depth + 3

abbrev pub decreases-rows_of : goal.decreases-rows_of
decreases-rows_of l = 4 * l.depth + 2

-- of the types so far
abbrev pub invariant-rows_of-loop-t : goal.invariant-rows_of-loop-t
invariant-rows_of-loop-t l =
    (map pattern l.rows.items ≡ map pattern_of (products (of_type l.declared.datatypes l.depth) (map (instance (arguments l.scope)) (map ty (take l.t-index l.ts)))))
    × AreRight l.declared.datatypes l.known

-- of the constructors so far
abbrev pub invariant-shapes_of_constructors-loop-place : goal.invariant-shapes_of_constructors-loop-place
invariant-shapes_of_constructors-loop-place l =
    ((c : ℕ) → l.numbers ≡ numbers_from c (length l.cons)
    → map part l.shapes.items ≡ map part_of (of_constructors (of_type l.declared.datatypes l.depth) c
    (map (λ (x : Constructor). map (instance (arguments l.scope)) x.arguments) (map constructor (take l.place l.cons)))))
    × AreRight l.declared.datatypes l.known
