-- What the grammar reads in the text of a value, and what is asked of the value.
use Rattle.std.specs.Prelude.{◌<◌, ◌^◌, IsSome, List, [], ◌∷◌}
use Rattle.tg_model.specs.Theory.{Theory, constructor_at}
use Rattle.tg_model.specs.Value as values
use Rattle.tg_grammar.specs.declared.terms.RawTerm.{RawTerm}
use Rattle.tg_grammar.specs.declared.terms.RawTerm.TheVariants as terms
use Rattle.tg_report.specs.Names.{constructor_name}

-- a value with the names of its constructors
abbrev mutual
  pub raw_value : Theory → values.Value → RawTerm
  raw_value th (values.number n) = terms.Num n
  raw_value th (values.boolean b) = terms.Truth b
  raw_value th (values.made c vs) = terms.Use (constructor_name th c) (raw_values th vs)

  pub raw_values : Theory → values.Values → List RawTerm
  raw_values th values.none = []
  raw_values th (values.more v vs) = raw_value th v ∷ raw_values th vs

-- its numbers are below 2^64, and its constructors are declared
abbrev mutual
  pub IsNamed : Theory → values.Value → Type 0
  IsNamed th (values.number n) = n < 2 ^ 64
  IsNamed th (values.boolean b) = Unit {0}
  IsNamed th (values.made c vs) = IsSome (constructor_at th c) × AreNamed th vs

  pub AreNamed : Theory → values.Values → Type 0
  AreNamed th values.none = Unit {0}
  AreNamed th (values.more v vs) = IsNamed th v × AreNamed th vs
