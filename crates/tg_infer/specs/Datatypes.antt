-- What a declaration of a datatype means among names.
use Rattle.std.specs.Prelude.{◌≡◌, ◌||◌, List, [], ◌∷◌, ◌++◌, length, Option, None, option_map, if◌then◌else◌}
use Rattle.tg_accept.specs.Datatypes.{are_taken, names_in, constructor_meant}
use Rattle.tg_accept.specs.Faults.{is_taken}
use Rattle.tg_accept.specs.Meaning.{each_meant}
use Rattle.tg_accept.specs.Raw.{Name, RawConstructor}
use Rattle.tg_model.specs.Theory.{Datatype}
use Rattle.tg_infer.specs.declared.words.Words.{Words}
use Rattle.tg_infer.specs.Words.{HaveType, HaveConstructors}

-- where these are the names of the datatypes, and of all values
abbrev pub datatype_in : List Name → List Name → Name → List Name → List RawConstructor → Option Datatype
datatype_in types values x params cs =
    if is_taken x types || are_taken values (names_in cs) then None
    else option_map (λ ks. record { name = x; parameters = length params; constructors = ks }) (each_meant (constructor_meant params (types ++ x ∷ [])) cs)

-- the names of a datatype and of its constructors are added
pub record HaveNames (old new : Words) (x : Name) (xs : List Name) : Type 0 where
  pub between : Words
  pub type_name : HaveType old between x
  pub constructors : HaveConstructors between new xs
