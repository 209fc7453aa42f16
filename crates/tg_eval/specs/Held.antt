-- The values of the evaluator as those of the model. In a contract the arguments of a constructor are values already.
use Rattle.std.specs.Prelude.{◌≡◌, ◌≤◌}
use Rattle.tg_model.specs.Value.{Value, number, boolean, made, values}
use Rattle.tg_eval.specs.Limited.{value_nodes}
use Rattle.tg_eval.specs.Sizes.{height, counted, most_height}
use Rattle.tg_eval.specs.declared.held.Made.{Made}
use Rattle.tg_eval.specs.declared.held.Kind.{Kind}
use Rattle.tg_eval.specs.declared.held.Kind.TheVariants.{Nat, Truth, Con}

abbrev pub made_of : Made → Value
made_of m = made m.con (values m.args)

abbrev pub held : Kind → Value
held (Nat n) = number n
held (Truth b) = boolean b
held (Con m) = made_of m.value

-- what is kept with a constructor is what measures it, and it isn't too high
pub record IsMeasured (m : Made) : Type 0 where
  pub counts : m.nodes ≡ counted (value_nodes (made_of m))
  pub rises : m.height ≡ height (made_of m)
  pub bounded : height (made_of m) ≤ most_height

abbrev pub IsKnown : Kind → Type 0
IsKnown (Nat n) = Unit {0}
IsKnown (Truth b) = Unit {0}
IsKnown (Con m) = IsMeasured m.value
