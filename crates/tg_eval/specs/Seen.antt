-- A value, by what is seen of it.
use Rattle.tg_model.specs.Value.{Value, number, boolean, made, values}
use Rattle.tg_eval.specs.declared.held.Seen.{Seen}
use Rattle.tg_eval.specs.declared.held.Seen.TheVariants.{Nat, Truth, Con}

abbrev pub seen : Seen → Value
seen (Nat n) = number n
seen (Truth b) = boolean b
seen (Con c vs) = made c (values vs.now)
