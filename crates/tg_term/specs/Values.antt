-- The values of the program as those of the model.
use Rattle.std.specs.Prelude.{◌≡◌, ℕ, Bool as Truth, List, map}
use Rattle.std.proofs.Common.{ap, sym, ◌∙◌}
use Rattle.tg_model.specs.Value as model
use Rattle.tg_term.specs.declared.values.Value.{Value, fold-Value}
use Rattle.tg_term.specs.declared.values.Value.TheFolds.{fold-roll-Value}
use Rattle.tg_term.specs.declared.values.Value.TheOpen.{Value-F}
use Rattle.tg_term.specs.declared.values.Value.TheVariants.{Nat, Bool, Con, rolls-Nat, rolls-Bool, rolls-Con}

-- one level, with each argument already seen as a value of the model
abbrev pub value_step : Value-F model.Value → model.Value
value_step (Value-F.Nat n) = model.number n
value_step (Value-F.Bool b) = model.boolean b
value_step (Value-F.Con c vs) = model.made c (model.values vs)

abbrev pub value : Value → model.Value
value = fold-Value model.Value value_step

abbrev pub values : List Value → model.Values
values vs = model.values (map value vs)

pub value-Nat : (n : ℕ) → value (Nat n) ≡ model.number n
value-Nat n = ap value (sym (rolls-Nat n)) ∙ fold-roll-Value model.Value value_step _

pub value-Bool : (b : Truth) → value (Bool b) ≡ model.boolean b
value-Bool b = ap value (sym (rolls-Bool b)) ∙ fold-roll-Value model.Value value_step _

pub value-Con : (c : ℕ) (vs : List Value) → value (Con c vs) ≡ model.made c (values vs)
value-Con c vs = ap value (sym (rolls-Con c vs)) ∙ fold-roll-Value model.Value value_step _

pub ruleset value_laws = (value-Nat, value-Bool, value-Con)
