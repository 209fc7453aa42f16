-- What stands below a value.
use Rattle.std.specs.Prelude.{zero, suc, Bool, List, [], ◌∷◌, Option, Some, None}
use Rattle.tg_model.specs.Value.{Value, number, boolean, made, elements}

-- what a branch of a `case` gets: the number before a natural, or the arguments of a constructor
abbrev pub parts_of : Value → List Value
parts_of (number zero) = []
parts_of (number (suc n)) = number n ∷ []
parts_of (boolean b) = []
parts_of (made c vs) = elements vs

-- the truth value that a value is
abbrev pub truth_of : Value → Option Bool
truth_of (boolean b) = Some b
truth_of v = None
