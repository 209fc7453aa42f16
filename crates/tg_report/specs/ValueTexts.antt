-- Values: a number, `True`, `False`, a constructor's name alone, or with its arguments in brackets.
use Rattle.std.specs.Prelude.{List, [], ◌∷◌}
use Rattle.tg_model.specs.Theory.{Theory}
use Rattle.tg_model.specs.Value.{Value, Values, number, boolean, made, none, more}
use Rattle.tg_grammar.specs.Seen.{Seen}
use Rattle.tg_render.specs.Tokens.{name, numeral, application}
use Rattle.tg_report.specs.Words.{truth_token}
use Rattle.tg_report.specs.Names.{constructor_name}

abbrev mutual
  pub value_tokens : Theory → Value → List Seen
  value_tokens th (number n) = numeral n ∷ []
  value_tokens th (boolean b) = truth_token b ∷ []
  value_tokens th (made c vs) = application (name (constructor_name th c)) (values_tokens th vs)

  pub values_tokens : Theory → Values → List (List Seen)
  values_tokens th none = []
  values_tokens th (more v vs) = value_tokens th v ∷ values_tokens th vs
