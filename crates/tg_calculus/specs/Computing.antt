-- Computing a term: its limited value is True.
use Rattle.std.specs.Prelude.{Bool, true, false, [], Some}
use Rattle.tg_model.specs.Tree.{Tree}
use Rattle.tg_model.specs.Value.{boolean, wrong}
use Rattle.tg_model.specs.Theory.{Theory}
use Rattle.tg_eval.specs.Limited.{Outcome, limited_value}

abbrev pub is_true : Outcome → Bool
is_true (Some (boolean true, left)) = true
is_true o = false

-- of a term without variables and program calls; a bound that is passed gives False
abbrev pub computes : Theory → Tree → Bool
computes th t = is_true (limited_value th wrong [] t)
