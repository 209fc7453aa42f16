-- What computes to True, as the limited value tells it.
use Rattle.std.proofs.Common.{◌≡◌, Bool, true, false, [], Option, Some, None, refl, sym, ◌∙◌, ap}
use Rattle.tg_model.specs.Tree.{Tree}
use Rattle.tg_model.specs.Theory.{Theory}
use Rattle.tg_model.specs.Value.{Value, boolean, wrong}
use Rattle.tg_eval.specs.Answering as answering
use Rattle.tg_eval.specs.Answering.{value_part}
use Rattle.tg_eval.specs.Limited.{Outcome, limited_value}
use Rattle.tg_calculus.specs.Computing.{is_true, computes}

true_part : (o : Outcome) → is_true o ≡ answering.is_true (value_part o)
true_part None = refl
true_part (Some (boolean true, left)) = refl
true_part (Some (boolean false, left)) = refl
true_part (Some (v, left)) = refl

pub told_by : (th : Theory) (t : Tree) (o : Option Value) → o ≡ value_part (limited_value th wrong [] t) → answering.is_true o ≡ computes th t
told_by th t o e = ap answering.is_true e ∙ sym (true_part (limited_value th wrong [] t))
