-- What the grammar reads in the text of a type.
use Rattle.std.specs.Prelude.{List, [], ◌∷◌}
use Rattle.tg_model.specs.Theory.{Theory}
use Rattle.tg_model.specs.Types as types
use Rattle.tg_model.specs.Types.{Ty, Tys}
use Rattle.tg_grammar.specs.declared.types.RawTy.{RawTy}
use Rattle.tg_grammar.specs.declared.types.RawTy.TheVariants as raw
use Rattle.tg_report.specs.Names.{datatype_name}

-- a closed type of the theory with its names; no other type is written so that it is read
abbrev mutual
  pub raw_ty : Theory → Ty → RawTy
  raw_ty th types.nat = raw.Nat
  raw_ty th types.bool = raw.Bool
  raw_ty th (types.parameter n) = raw.Word [] []
  raw_ty th (types.meta n) = raw.Word [] []
  raw_ty th (types.applied d ts) = raw.Word (datatype_name th d) (raw_tys th ts)

  pub raw_tys : Theory → Tys → List RawTy
  raw_tys th types.none = []
  raw_tys th (types.more t ts) = raw_ty th t ∷ raw_tys th ts
