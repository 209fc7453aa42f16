use Rattle.std.proofs.Common.{◌≡◌, ◌+◌, ◌++◌, List, map, take, length}
use Rattle.tg_split.specs.Shapes.{Shape}
use Rattle.tg_split.specs.Patterns.{term_from}
use Rattle.tg_split.specs.Listing.{pattern, part, part_of, added}
use Rattle.tg_split.proofs.listing.add_rows.Given as goal

abbrev pub invariant-loop-place : goal.invariant-loop-place
invariant-loop-place l =
    (shapes : List Shape) → map part l.parts ≡ map part_of shapes → l.terms ≡ map (term_from (1 + length l.row.vars)) shapes
    → map pattern l.out.items ≡ map pattern l.fn.out.items ++ map (added (pattern l.row)) (take l.place shapes)
