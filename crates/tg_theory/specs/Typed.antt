-- What is told of typings.
use Rattle.std.specs.Prelude.{Bool, true, false, ◌&&◌, nat_eq, List, [], map, length}
use Rattle.std.specs.Option.{option_map_or}
use Rattle.tg_model.specs.Tree.{Tree}
use Rattle.tg_model.specs.Formula.{Formula}
use Rattle.tg_model.specs.Types as types
use Rattle.tg_model.specs.Types.{Ty, Tys, nat, bool, parameter, meta, applied}
use Rattle.tg_model.specs.Theory.{Theory, Datatype, numbered}
use Rattle.tg_model.specs.TermTyping.{IsTyped, IsWellFormed}
use Rattle.tg_types.specs.declared.types.Ty as declared
use Rattle.tg_types.specs.Types.{ty, types as types_of}
use Rattle.tg_typing.specs.declared.typings.Typings.{Typings}
use Rattle.tg_typing.specs.declared.typings.Typings.TheVariants.{None, One, Several}
use Rattle.tg_shared_types.specs.Growth.{IsDeclared, AreDeclared}

-- there is a typing
abbrev pub has_typing : Typings → Bool
has_typing None = false
has_typing One = true
has_typing Several = true

-- no type that is open stands in the type
abbrev mutual
  pub is_declared : Ty → Bool
  is_declared nat = true
  is_declared bool = true
  is_declared (parameter n) = true
  is_declared (meta n) = false
  is_declared (applied d ts) = are_declared ts

  pub are_declared : Tys → Bool
  are_declared types.none = true
  are_declared (types.more t ts) = is_declared t && are_declared ts

-- nat, bool, or a declared datatype at as many closed types as it has parameters
abbrev mutual
  pub is_closed : Theory → Ty → Bool
  is_closed th nat = true
  is_closed th bool = true
  is_closed th (parameter n) = false
  is_closed th (meta n) = false
  is_closed th (applied d ts) =
      option_map_or (λ (x : Datatype). nat_eq (length (types.elements ts)) x.parameters) (numbered th.datatypes d) false && are_closed th ts

  pub are_closed : Theory → Tys → Bool
  are_closed th types.none = true
  are_closed th (types.more t ts) = is_closed th t && are_closed th ts

-- the term has the type, where no type that is given has an open one in it
pub record IsTypedAt (th : Theory) (vars : List declared.Ty) (t : Tree) (u : declared.Ty) : Type 0 where
  pub variables : AreDeclared (types_of vars)
  pub type : IsDeclared (ty u)
  pub typed : IsTyped th (map ty vars) [] t (ty u)

pub record IsFormedIn (th : Theory) (vars : List declared.Ty) (f : Formula) : Type 0 where
  pub variables : AreDeclared (types_of vars)
  pub formed : IsWellFormed th (map ty vars) [] f
