-- What a term of a certificate stands for, by the types that are given.
use Rattle.std.specs.Prelude.{List, map}
use Rattle.tg_model.specs.Theory.{Theory}
use Rattle.tg_model.specs.Tree.{Tree}
use Rattle.tg_accept.specs.Raw.{RawTerm}
use Rattle.tg_accept.specs.Standing.{IsTermOf}
use Rattle.tg_shared_types.specs.Growth.{AreDeclared}
use Rattle.tg_types.specs.declared.types.Ty.{Ty}
use Rattle.tg_types.specs.Types.{ty, types}

-- the text stands for the term, where no open type stands in one that is given
pub record IsTermIn (th : Theory) (vars : List Ty) (r : RawTerm) (t : Tree) : Type 0 where
  pub variables : AreDeclared (types vars)
  pub stands : IsTermOf th (map ty vars) r t
