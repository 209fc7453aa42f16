-- The arguments' types of a constructor at an instance.
use Rattle.std.specs.Prelude.{List, map}
use Rattle.tg_model.specs.Types.{Ty}
use Rattle.tg_model.specs.Theory.{Constructor, instance}

abbrev pub at_instance : List Ty → Constructor → List Ty
at_instance us k = map (instance us) k.arguments
