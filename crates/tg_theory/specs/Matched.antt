-- Which arguments of a constructor are recursive.
use Rattle.std.specs.Prelude.{ℕ, Bool, true, nat_eq, List, [], ◌∷◌, map}
use Rattle.std.specs.List.{list_all, list_any}
use Rattle.tg_model.specs.Theory.{Constructor, datatype_of}
use Rattle.tg_accept.specs.Faults.{is_argument, is_base}
use Rattle.tg_declarations.specs.declared.definitions.ConDef.{ConDef}
use Rattle.tg_types.specs.Types.{ty}
use Rattle.tg_theory.specs.declared.calls.Arguments.{Arguments}
use Rattle.tg_theory.specs.declared.calls.Arguments.TheVariants.{OfZero, OfSuc, Of}

abbrev pub recursive : Arguments → List Bool
recursive OfZero = []
recursive OfSuc = true ∷ []
recursive (Of d ts) = map (λ t. nat_eq (datatype_of (ty t)) d) ts.now

-- of a constructor of datatype `d`
abbrev pub recursive_of : ℕ → ConDef → List Bool
recursive_of d c = map (λ t. nat_eq (datatype_of (ty t)) d) c.args

-- the two parts of a datatype's shape
abbrev pub are_argued : ℕ → ℕ → List Constructor → Bool
are_argued d params cs = list_all (λ (c : Constructor). list_all (is_argument d params) c.arguments) cs

abbrev pub has_base : ℕ → List Constructor → Bool
has_base d cs = list_any (λ (c : Constructor). is_base d c.arguments) cs
