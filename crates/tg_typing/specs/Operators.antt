-- The types of the operators, as the program has them.
use Rattle.std.specs.Prelude.{◌≡◌, Bool as Truth, true, false, if◌then◌else◌, List, [], ◌∷◌, Option, Some, None}
use Rattle.tg_model.specs.Tree.{Operator, successor, negation, conjunction, disjunction, implication, equality, less, less_equal, plus, minus, times, divide, modulo, unnamed}
use Rattle.tg_model.specs.Types.{Ty, nat, bool}
use Rattle.tg_typing.specs.Uses.{Use}
use Rattle.tg_typing.specs.declared.operators.Shape.{Shape}
use Rattle.tg_typing.specs.declared.operators.Shape.TheVariants as shapes
use Rattle.tg_typing.specs.declared.operators.Fixed.{Fixed}
use Rattle.tg_typing.specs.declared.operators.Kind.{Kind}
use Rattle.tg_typing.specs.declared.operators.Kind.TheVariants as kinds

abbrev pub kind_type : Kind → Ty
kind_type kinds.Nat = nat
kind_type kinds.Bool = bool

abbrev pub fixed : Kind → Truth → Kind → Shape
fixed operands binary answer = shapes.Fixed (record { operands = operands; is_binary = binary; answer = answer })

abbrev pub shape_of : Operator → Option Shape
shape_of successor = Some (fixed kinds.Nat false kinds.Nat)
shape_of negation = Some (fixed kinds.Bool false kinds.Bool)
shape_of conjunction = Some (fixed kinds.Bool true kinds.Bool)
shape_of disjunction = Some (fixed kinds.Bool true kinds.Bool)
shape_of implication = Some (fixed kinds.Bool true kinds.Bool)
shape_of equality = Some shapes.Equality
shape_of less = Some (fixed kinds.Nat true kinds.Bool)
shape_of less_equal = Some (fixed kinds.Nat true kinds.Bool)
shape_of plus = Some (fixed kinds.Nat true kinds.Nat)
shape_of minus = Some (fixed kinds.Nat true kinds.Nat)
shape_of times = Some (fixed kinds.Nat true kinds.Nat)
shape_of divide = Some (fixed kinds.Nat true kinds.Nat)
shape_of modulo = Some (fixed kinds.Nat true kinds.Nat)
shape_of (unnamed n) = None

abbrev pub operand_types : Fixed → List Ty
operand_types x = if x.is_binary then kind_type x.operands ∷ kind_type x.operands ∷ [] else kind_type x.operands ∷ []

-- a use of an operator whose types are fixed
abbrev pub FixedUse : Fixed → Use → Type 0
FixedUse x u = (u.at ≡ []) × (u.arguments ≡ operand_types x) × (u.answer ≡ kind_type x.answer)
