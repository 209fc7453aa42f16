-- The types of declarations.
use Rattle.std.specs.Prelude.{ℕ, List, [], ◌∷◌, None, if◌then◌else◌, length, map, Option, option_map, option_and_then}
use Rattle.tg_model.specs.Types.{Ty}
use Rattle.tg_types.specs.Types.{ty}
use Rattle.tg_accept.specs.Declared.{Declared, theory}
use Rattle.tg_accept.specs.Faults.{is_taken}
use Rattle.tg_accept.specs.Meant.{AreMade}
use Rattle.tg_accept.specs.Functions.{split_last}
use Rattle.tg_accept.specs.Meaning.{each_meant, type_meant, type_variables}
use Rattle.tg_accept.specs.Raw.{Name, RawType}
use Rattle.tg_infer.specs.declared.signatures.Signature.{Signature}

-- the types of the arguments and of the value
abbrev pub types_meant : List Name → List RawType → Option (List Ty × Ty)
types_meant names ts = option_and_then split_last (each_meant (type_meant (type_variables ts) names) ts)

-- how many type variables there are, and the types
abbrev pub signature_meant : List Name → List RawType → Option (ℕ × (List Ty × Ty))
signature_meant names ts = option_map (λ p. (length (type_variables ts), p)) (types_meant names ts)

abbrev pub seen_signature : Signature → ℕ × (List Ty × Ty)
seen_signature s = (s.params, (map ty s.args, ty s.result))

-- of a value whose name isn't declared yet
abbrev pub value_meant : List Name → List Name → Name → List RawType → Option (ℕ × (List Ty × Ty))
value_meant types values x ts = if is_taken x values then None else signature_meant types ts

-- the datatypes in the types are declared and have their numbers of arguments
abbrev pub IsSignatureMade : Declared → ℕ × (List Ty × Ty) → Type 0
IsSignatureMade D s = AreMade (theory [] D) s.0 (s.1.1 ∷ s.1.0)
