-- What the public calls answer, of the outcome of the definition.
use Rattle.std.specs.Prelude.{Bool, false, Option, Some, None, option_map}
use Rattle.tg_model.specs.Value as model
use Rattle.tg_model.specs.Value.{boolean}
use Rattle.tg_term.specs.Values.{value}
use Rattle.tg_eval.specs.Limited.{Outcome}
use Rattle.tg_eval.specs.declared.limiting.Limited.{Limited}
use Rattle.tg_eval.specs.declared.limiting.Limited.TheVariants.{Val, Over}

-- the value alone
abbrev pub value_part : Outcome → Option model.Value
value_part o = option_map (λ r. r.0) o

abbrev pub answered : Limited → Option model.Value
answered (Val v) = Some (value v)
answered Over = None

-- it is True, and no bound is passed
abbrev pub is_true : Option model.Value → Bool
is_true (Some (boolean b)) = b
is_true _ = false
