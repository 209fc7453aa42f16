-- Types: `nat`, `bool`, a datatype's name, `(T name)` with one argument, `((T, U) name)` with more.
use Rattle.std.specs.Prelude.{List, [], ◌∷◌, ◌++◌, codes}
use Rattle.tg_model.specs.Theory.{Theory}
use Rattle.tg_model.specs.Types.{Ty, Tys, nat, bool, parameter, meta, applied, none, more}
use Rattle.tg_grammar.specs.Kinds.{nat_word, bool_word}
use Rattle.tg_grammar.specs.Seen.{Seen}
use Rattle.tg_render.specs.Tokens.{mark, name, enclosed, divided}
use Rattle.tg_report.specs.Words.{comma, free_variable}
use Rattle.tg_report.specs.Names.{datatype_name}

-- the arguments before a datatype's name
abbrev pub arguments : List (List Seen) → List Seen
arguments [] = []
arguments (x ∷ []) = x
arguments (x ∷ y ∷ xs) = enclosed (divided comma (x ∷ y ∷ xs))

abbrev pub type_application : Seen → List (List Seen) → List Seen
type_application head [] = head ∷ []
type_application head (x ∷ xs) = enclosed (arguments (x ∷ xs) ++ head ∷ [])

-- A closed type has no parameter and no open type; those of number `n` are written `?n`, which no text of a type is.
abbrev mutual
  pub ty_tokens : Theory → Ty → List Seen
  ty_tokens th nat = mark nat_word (codes "nat") ∷ []
  ty_tokens th bool = mark bool_word (codes "bool") ∷ []
  ty_tokens th (parameter n) = free_variable n
  ty_tokens th (meta n) = free_variable n
  ty_tokens th (applied d ts) = type_application (name (datatype_name th d)) (tys_tokens th ts)

  pub tys_tokens : Theory → Tys → List (List Seen)
  tys_tokens th none = []
  tys_tokens th (more t ts) = ty_tokens th t ∷ tys_tokens th ts
