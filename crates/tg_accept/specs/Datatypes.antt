-- Declarations of datatypes: what they mean, and which of them are right.
use Rattle.std.specs.Prelude.{ℕ, suc, Bool, true, ◌≡◌, ◌||◌, List, [], ◌∷◌, ◌++◌, map, length, Option, None, option_map, is_some, if◌then◌else◌}
use Rattle.std.specs.List.{list_any, list_all}
use Rattle.tg_model.specs.Theory.{Datatype, Constructor}
use Rattle.tg_model.specs.Accepted.{AreDistinct}
use Rattle.tg_accept.specs.Declared.{Declared}
use Rattle.tg_accept.specs.Kept.{names_of_types, names_of_values}
use Rattle.tg_accept.specs.Faults.{is_taken, first_taken, is_argument, is_base}
use Rattle.tg_accept.specs.Raw.{Name, RawConstructor}
use Rattle.tg_accept.specs.Meaning.{each_meant, type_meant}

-- the names are declared already, or one of them stands twice
abbrev pub are_taken : List Name → List Name → Bool
are_taken ys xs = is_some (first_taken ys xs)

abbrev pub names_in : List RawConstructor → List Name
names_in cs = map (λ (c : RawConstructor). c.name) cs

abbrev pub constructor_meant : List Name → List Name → RawConstructor → Option Constructor
constructor_meant params names c = option_map (λ ts. record { name = c.name; arguments = ts }) (each_meant (type_meant params names) c.arguments)

-- A datatype is declared in its own arguments. There is no meaning where a name is declared already or isn't declared.
abbrev pub datatype_meant : Declared → Name → List Name → List RawConstructor → Option Datatype
datatype_meant D x params cs =
    if is_taken x (names_of_types D) || are_taken (names_of_values D) (names_in cs) then None
    else option_map (λ ks. record { name = x; parameters = length params; constructors = ks })
    (each_meant (constructor_meant params (names_of_types D ++ x ∷ [])) cs)

-- the number that it will have
abbrev pub next_datatype : Declared → ℕ
next_datatype D = suc (length D.datatypes)

pub record IsDatatypeShaped (D : Declared) (params : List Name) (x : Datatype) : Type 0 where
  -- no parameter repeats
  pub parameters : AreDistinct params
  -- an argument that holds the datatype is the datatype itself applied to its parameters in order
  pub arguments : list_all (λ (c : Constructor). list_all (is_argument (next_datatype D) x.parameters) c.arguments) x.constructors ≡ true
  -- some constructor has no argument of the datatype itself
  pub base : list_any (λ (c : Constructor). is_base (next_datatype D) c.arguments) x.constructors ≡ true
