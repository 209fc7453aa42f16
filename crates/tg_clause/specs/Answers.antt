-- What the program answers of clauses.
use Rattle.std.specs.Prelude.{◌≡◌, Bool, true, false, ◌&&◌, List, [], map}
use Rattle.tg_clause.specs.declared.literals.Clause as declared
use Rattle.tg_clause.specs.declared.sides.Sides as code
use Rattle.tg_clause.specs.declared.sides.Asked.{Asked}
use Rattle.tg_clause.specs.declared.sides.Asked.TheVariants.{Positive, Negative, Both}
use Rattle.tg_clause.specs.declared.errors.ClauseErr.{ClauseErr}
use Rattle.tg_clause.specs.declared.errors.ClauseErr.TheVariants.{Clauses, Memory}
use Rattle.tg_clause.specs.Clauses.{Clause, Side, Sides, made}

abbrev pub literals : declared.Clause → Clause
literals c = c.literals

-- a list that fits
abbrev pub side_of : List declared.Clause → Side
side_of cs = record { list = map literals cs; fits = true }

abbrev pub sides_of : code.Sides → Sides
sides_of s = record { positive = side_of s.positive.items; negative = side_of s.negative.items }

-- a side that isn't asked for
abbrev pub unasked : Side
unasked = made [] true

-- the sides that are asked for
abbrev pub asked : Asked → Sides → Sides
asked Positive s = record { positive = s.positive; negative = unasked }
asked Negative s = record { positive = unasked; negative = s.negative }
asked Both s = s

abbrev pub both_fit : Sides → Bool
both_fit s = s.positive.fits && s.negative.fits

-- an error other than want of memory comes where something doesn't fit
abbrev pub IsExcess : Bool → ClauseErr → Type 0
IsExcess fits Clauses = fits ≡ false
IsExcess fits Memory = Unit {0}
