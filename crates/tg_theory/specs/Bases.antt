-- The constructor that makes a datatype's least value.
use Rattle.std.specs.Prelude.{ℕ, suc, List, [], ◌∷◌, Option, Some, None, option_map, if◌then◌else◌}
use Rattle.tg_model.specs.Theory.{Constructor}
use Rattle.tg_accept.specs.Faults.{is_base}

-- the place, from 0, of the first constructor without an argument of datatype `d`
abbrev pub first_base : ℕ → List Constructor → Option ℕ
first_base d [] = None
first_base d (c ∷ cs) = if is_base d c.arguments then Some 0 else option_map suc (first_base d cs)
