-- What the code answers, as an outcome of the definition.
use Rattle.std.specs.Prelude.{ℕ, List, Option, Some, None}
use Rattle.tg_model.specs.Value.{Value}
use Rattle.tg_eval.specs.Limited.{Outcome}

-- a value and the calls that are left, or nothing
abbrev pub outcome : Option Value → ℕ → Outcome
outcome None left = None
outcome (Some v) left = Some (v, left)

abbrev pub outcomes : Option (List Value) → ℕ → Option (List Value × ℕ)
outcomes None left = None
outcomes (Some vs) left = Some (vs, left)
