-- Type variables and their numbers.
use Rattle.std.specs.Prelude.{ℕ, ◌≡◌, ◌<◌, List, Option, length}
use Rattle.std.specs.Str.{bytes_eq}
use Rattle.indexmap.specs.IndexMap.{get}
use Rattle.tg_accept.specs.Meaning.{number_of}
use Rattle.tg_infer.specs.declared.params.Params.TheInside.{Inside}

-- each name is found at the place where it first stands
pub record IsPlaced (params : Inside) : Type 0 where
  pub at : (x : List ℕ) → get bytes_eq params.numbers x ≡ number_of x params.names.items
  pub few : length params.names.items < 4294967296
