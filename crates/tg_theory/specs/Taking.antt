-- Names that a declaration takes.
use Rattle.std.specs.Prelude.{ℕ, ◌≡◌, List, ◌++◌, map, Option, option_map}
use Rattle.tg_accept.specs.Faults.{Fault, name}
use Rattle.tg_declarations.specs.declared.definitions.ConDef.{ConDef}

abbrev pub constructor_names : List ConDef → List (List ℕ)
constructor_names cs = map (λ (c : ConDef). c.name) cs

-- the fault that a taken name is
abbrev pub name_fault : Option (List ℕ) → Option Fault
name_fault o = option_map name o

-- the later list is the earlier one, and maybe more behind it
pub record BeginsWith {A : Type 0} (earlier later : List A) : Type 0 where
  pub more : List A
  pub is : later ≡ earlier ++ more
