-- What declarations mean, and what is kept to find a constructor by its number.
use Rattle.std.specs.Prelude.{◌≡◌, ◌<◌, List, length, map, option_map}
use Rattle.tg_model.specs.Theory as model
use Rattle.tg_accept.specs.Declared.{Declared}
use Rattle.tg_declarations.specs.declared.declarations.Datatype.{Datatype}
use Rattle.tg_declarations.specs.declared.declarations.Declarations.TheInside.{Inside}
use Rattle.tg_declarations.specs.View.{datatype, function, program}
use Rattle.tg_declarations.specs.Owners.{owners_from, all_numbers_from}

abbrev pub datatypes : List Datatype → List model.Datatype
datatypes xs = map (λ (x : Datatype). datatype x.def) xs

abbrev pub declared : Inside → Declared
declared s = record {
  datatypes = datatypes s.datatypes.items;
  functions = map function s.functions.items;
  program = option_map program s.program;
  specification = s.specification;
}

pub record AreNumbered (s : Inside) : Type 0 where
  pub owners : s.owners.items ≡ owners_from 1 (datatypes s.datatypes.items)
  pub numbers : map (λ (x : Datatype). x.numbers) s.datatypes.items ≡ all_numbers_from 1 (datatypes s.datatypes.items)
  -- a number fits 32 bits
  pub few_datatypes : length s.datatypes.items < 4294967296
  pub few_functions : length s.functions.items < 4294967296
