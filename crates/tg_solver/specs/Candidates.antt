-- The datum of a class: the first candidate that satisfies its constraints.
use Rattle.std.specs.Prelude.{ℕ, Bool, List, map, length, ◌++◌, Option}
use Rattle.std.specs.List.{find, list_all}
use Rattle.tg_model.specs.Theory.{Theory}
use Rattle.tg_model.specs.Tree.{Tree}
use Rattle.tg_model.specs.Types.{Ty}
use Rattle.tg_model.specs.Value.{Value, wrong}
use Rattle.tg_types.specs.declared.options.Settings.{Settings}
use Rattle.tg_eval.specs.Answering.{is_true, value_part}
use Rattle.tg_eval.specs.Limited.{limited_value}
use Rattle.tg_solver.specs.Numbers.{is_truth, in_order, most_number}
use Rattle.tg_solver.specs.Draws.{generator, draws}

-- first small numbers in order, then draws
abbrev pub candidates : List Bool → Settings → ℕ → List (List Value)
candidates truths s index =
    in_order (most_number (length truths) s.bound) truths ++ draws s.tries s.width truths (generator s.seed index)

-- the limited value of a constraint is True
unfoldable pub holds : Theory → List Value → Tree → Bool
holds th vars t = is_true (value_part (limited_value th wrong vars t))

abbrev pub satisfies : Theory → List Tree → List Value → Bool
satisfies th constraints vars = list_all (holds th vars) constraints

-- which of the variables are truth variables
abbrev pub truths_of : List Ty → List Bool
truths_of ts = map is_truth ts

-- the first of them for variables of these types, where `index` is the class's number
abbrev pub first_candidate : Theory → List Ty → List Tree → Settings → ℕ → Option (List Value)
first_candidate th variables constraints s index = find (satisfies th constraints) (candidates (truths_of variables) s index)
