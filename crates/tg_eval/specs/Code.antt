-- How the logic stores a value: as a tree of numbers that gives it back.
use Rattle.std.specs.Prelude.{◌≡◌, true, false, refl}
use Rattle.std.proofs.Common.{ap, sym, ◌∙◌}
use base.Stored.{Gv, gnil, gnum, gcons, Coded}
use Rattle.tg_model.specs.Value.{Value, Values, number, boolean, made, none, more}

abbrev mutual
  pub code_value : Value → Gv
  code_value (number n) = gnum n
  code_value (boolean false) = gnil
  code_value (boolean true) = gcons gnil gnil
  code_value (made c vs) = gcons (gnum c) (code_values vs)

  pub code_values : Values → Gv
  code_values none = gnil
  code_values (more v vs) = gcons (code_value v) (code_values vs)

abbrev mutual
  pub back_value : Gv → Value
  back_value gnil = boolean false
  back_value (gnum n) = number n
  back_value (gcons gnil vs) = boolean true
  back_value (gcons (gnum c) vs) = made c (back_values vs)
  back_value (gcons (gcons a b) vs) = boolean false

  pub back_values : Gv → Values
  back_values gnil = none
  back_values (gnum n) = none
  back_values (gcons v vs) = more (back_value v) (back_values vs)

mutual
  pub again_value : (v : Value) → back_value (code_value v) ≡ v
  again_value (number n) = refl
  again_value (boolean false) = refl
  again_value (boolean true) = refl
  again_value (made c vs) = ap (made c) (again_values vs)

  pub again_values : (vs : Values) → back_values (code_values vs) ≡ vs
  again_values none = refl
  again_values (more v vs) = λ i. more (again_value v i) (again_values vs i)

abbrev pub coded_value : Coded Value
coded_value = record { code = code_value; inj = λ v w same. sym (again_value v) ∙ ap back_value same ∙ again_value w }
