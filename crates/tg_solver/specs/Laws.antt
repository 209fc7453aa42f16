-- What a datum is good for.
use Rattle.std.specs.Prelude.{ℕ, true, ◌≡◌, List, [], ◌∷◌, Some}
use Rattle.tg_model.specs.Theory.{Theory}
use Rattle.tg_model.specs.Tree.{Tree}
use Rattle.tg_model.specs.Types.{Ty, nat, bool, parameter, meta, applied}
use Rattle.tg_model.specs.Typing.{AreTyped}
use Rattle.tg_model.specs.Value.{Value}
use Rattle.tg_types.specs.declared.options.Settings.{Settings}
use Rattle.tg_solver.specs.Candidates.{satisfies, first_candidate}

-- the naturals and the truth values
abbrev pub IsSimple : Ty → Type 0
IsSimple nat = Unit {0}
IsSimple bool = Unit {0}
IsSimple (parameter n) = ⊥
IsSimple (meta n) = ⊥
IsSimple (applied d ts) = ⊥

abbrev pub AreSimple : List Ty → Type 0
AreSimple [] = Unit {0}
AreSimple (t ∷ ts) = IsSimple t × AreSimple ts

-- A datum satisfies the constraints, and where all variables are naturals or truth values it has one value of each one's type.
abbrev pub DataFit : Type 0
DataFit = (th : Theory) (variables : List Ty) (constraints : List Tree) (s : Settings) (index : ℕ) (vs : List Value)
    → first_candidate th variables constraints s index ≡ Some vs
    → (satisfies th constraints vs ≡ true) × (AreSimple variables → AreTyped th vs variables)
