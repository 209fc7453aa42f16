-- The public answers, of the outcome of the definition.
use Rattle.std.proofs.Common.{ℕ, ◌≡◌, false, Option, Some, None, ap}
use Rattle.std.specs.Prelude.{unwrap_or}
use Rattle.tg_model.specs.Value.{Value, number, boolean, made}
use Rattle.tg_eval.specs.Limited.{Outcome}
use Rattle.tg_eval.specs.Evaluating.{outcome}
use Rattle.tg_eval.specs.Opening.{truth_of}
use Rattle.tg_eval.specs.Answering.{value_part, is_true}

pub part_of : (r : Option Value) (left : ℕ) (o : Outcome) → outcome r left ≡ o → r ≡ value_part o
part_of None left o e = ap value_part e
part_of (Some v) left o e = ap value_part e

pub truth_part : (v : Value) (o : Option Value) → Some v ≡ o → unwrap_or (truth_of v) false ≡ is_true o
truth_part (boolean b) o e = ap is_true e
truth_part (number n) o e = ap is_true e
truth_part (made c vs) o e = ap is_true e

pub over_part : (o : Option Value) → None ≡ o → false ≡ is_true o
over_part o e = ap is_true e

pub ruleset answers = (part_of, truth_part, over_part)
