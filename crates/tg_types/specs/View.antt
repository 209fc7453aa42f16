-- The agreements of the program as those of the definitions.
use Rattle.std.specs.Prelude.{List, map}
use Rattle.tg_types.specs.declared.substitutions.Agreement.{Agreement}
use Rattle.tg_types.specs.Types.{ty}
use Rattle.tg_types.specs.Substitutions as model
use Rattle.tg_types.specs.Substitutions.{Substitution}

abbrev pub agreement : Agreement → model.Agreement
agreement x = record { variable = x.var; meaning = ty x.meaning }

abbrev pub substitution : List Agreement → Substitution
substitution xs = map agreement xs
