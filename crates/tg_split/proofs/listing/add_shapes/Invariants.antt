use Rattle.std.proofs.Common.{◌≡◌, ◌++◌, map}
use Rattle.tg_split.specs.Listing.{pattern, part, on_top}
use Rattle.tg_split.proofs.listing.add_shapes.Given as goal

abbrev pub invariant-loop-row : goal.invariant-loop-row
invariant-loop-row l =
    (map part l.shapes.items ≡ map part l.fn.shapes.items ++ map (on_top l.number) (map pattern l.yielded)) × (l.fn.rows.items ≡ l.yielded ++ l.row-iterator.rest.items)
