use Rattle.std.proofs.Common.{◌≡◌, ◌++◌, List, All, map}
use Rattle.tg_split.specs.Shapes.{Shape}
use Rattle.tg_split.specs.Listing.{pattern, part, part_of, extended, IsBehind}
use Rattle.tg_split.proofs.listing.extend.Given as goal

abbrev pub invariant-loop-row : goal.invariant-loop-row
invariant-loop-row l =
    ((shapes : List Shape) → map part l.parts ≡ map part_of shapes → map pattern l.out.items ≡ extended (map pattern l.yielded) shapes)
    × (l.fn.rows.items ≡ l.yielded ++ l.row-iterator.rest.items) × All (IsBehind l.parts) l.made.items
