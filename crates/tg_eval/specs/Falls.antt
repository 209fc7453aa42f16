-- Each argument of a constructor is less high than the constructor.
use Rattle.std.specs.Prelude.{◌+◌, ◌≤◌, max, List, [], ◌∷◌}
use Rattle.std.proofs.Common.{arith}
use denote.Param.Weighed.{most}
use Rattle.tg_model.specs.Value.{Value, values}
use Rattle.tg_eval.specs.Sizes.{height, heights}
use Rattle.tg_eval.specs.Held.{held}
use Rattle.tg_eval.specs.declared.held.Kind.{Kind}
use Rattle.tg_eval.specs.declared.held.Kind.TheVariants.{Nat, Truth, Con}
use Rattle.tg_eval.specs.declared.held.Held.TheDeep.{deep-Kind}

pub most_values : (vs : List Value) → most (λ v. height v + 1) vs ≤ heights (values vs)
most_values [] = omega arith
most_values (v ∷ vs) = omega (arith, most_values vs)

pub falls : (k : Kind) → max (deep-Kind k) 0 ≤ height (held k)
falls (Nat n) = omega arith
falls (Truth b) = omega arith
falls (Con m) = omega (arith, most_values m.value.args)
