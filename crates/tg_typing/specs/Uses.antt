-- Uses of constructors, functions, the program, `if` and operators: what each asks of its instance and types.
use Rattle.std.specs.Prelude.{ℕ, ◌≡◌, List, [], ◌∷◌, map, length, Option, Some, None}
use Rattle.tg_model.specs.Tree.{Operator}
use Rattle.tg_model.specs.Types.{Ty, bool, applied, tys}
use Rattle.tg_model.specs.Theory.{Theory, Function, Owned, constructor_at, numbered, instance}
use Rattle.tg_model.specs.TermTyping.{IsOperation, IsDatatype}
use Rattle.tg_types.specs.Substitutions.{Assignment}
use Rattle.tg_shared_types.specs.declared.nodes.Node.{Node}
use Rattle.tg_shared_types.specs.Nodes.{Fits, AreBelow}
use Rattle.tg_typing.specs.Growing.{Grown, IsImpossible}

-- the types that something is used at, those of its arguments, and that of the whole
pub record Use : Type 0 where
  pub at : List Ty
  pub arguments : List Ty
  pub answer : Ty

abbrev pub UsesConstructor : Theory → ℕ → Use → Type 0
UsesConstructor th c u =
    (o : Owned) × (constructor_at th c ≡ Some o) × IsDatatype th o.datatype u.at × (u.answer ≡ applied o.datatype (tys u.at))
    × (u.arguments ≡ map (instance u.at) o.constructor.arguments)

abbrev pub UsesFunction : Theory → ℕ → Use → Type 0
UsesFunction th f u =
    (x : Function) × (numbered th.functions f ≡ Some x) × (length u.at ≡ x.parameters) × (u.answer ≡ instance u.at x.answer)
    × (u.arguments ≡ map (instance u.at) x.arguments)

-- a use of the function that is being declared, at the types `ps`
abbrev pub UsesOwn : Option Function → List Ty → Use → Type 0
UsesOwn self ps u =
    (x : Function) × (self ≡ Some x) × (u.at ≡ ps) × (u.answer ≡ instance u.at x.answer) × (u.arguments ≡ map (instance u.at) x.arguments)

abbrev pub UsesProgram : Theory → Use → Type 0
UsesProgram th u = (u.at ≡ []) × (u.answer ≡ th.program.answer) × (u.arguments ≡ th.program.inputs)

abbrev pub UsesChoice : Use → Type 0
UsesChoice u = (u.at ≡ []) × (u.arguments ≡ bool ∷ u.answer ∷ u.answer ∷ [])

abbrev pub UsesOperator : Operator → Use → Type 0
UsesOperator o u = (u.at ≡ []) × IsOperation o u.arguments u.answer

-- a use at the type of node `e`
abbrev pub IsUsed : (Assignment → Use → Type 0) → ℕ → Assignment → Use → Type 0
IsUsed Uses e ρ u = Uses ρ u × (u.answer ≡ ρ e)

-- the table that has nodes of these arguments' types
pub record Framed (old new : List Node) (Uses : Assignment → Use → Type 0) (e : ℕ) (es : List ℕ) : Type 0 where
  pub read : Assignment → Use
  pub grown : Grown old new Use read (IsUsed Uses e)
  pub arguments : (ρ : Assignment) → Fits ρ new → map ρ es ≡ (read ρ).arguments
  pub inside : AreBelow (length new) es

abbrev pub Frames : List Node → List Node → (Assignment → Use → Type 0) → ℕ → Option (List ℕ) → Type 0
Frames old new Uses e (Some es) = Framed old new Uses e es
Frames old new Uses e None = IsImpossible old Use (IsUsed Uses e)
