-- Values and formulas of the program, with those of the model that they stand for, and measures of formulas.
use Rattle.std.specs.Prelude.{◌≡◌, [], ◌∷◌, true}
use Rattle.std.proofs.Common.{refl}
use Rattle.tg_model.specs.Formula as formulas
use Rattle.tg_model.specs.Tree as trees
use Rattle.tg_model.specs.Types as types
use Rattle.tg_model.specs.Value as values
use Rattle.tg_types.specs.Types.{ty-Nat}
use Rattle.tg_types.specs.declared.types.Ty.TheVariants.{Nat}
use Rattle.tg_term.specs.FormulaMeasures.{formula_nodes, formula_height, formula_range}
use Rattle.tg_term.specs.Formulas.{formula}
use Rattle.tg_term.specs.Values.{value, value-Nat, value-Bool, value-Con}
use Rattle.tg_term.specs.declared.formulas.FormulaNode.TheVariants.{Imp, All, Tested, Deep}
use Rattle.tg_term.specs.declared.values.Value.TheVariants as program

pub true_value : value (program.Bool true) ≡ values.boolean true
true_value = value-Bool true

-- `Cons 4 Nil`, where these are the constructors 2 and 1
pub single : value (program.Con 2 (program.Nat 4 ∷ program.Con 1 [] ∷ [])) ≡ values.made 2 (values.more (values.number 4) (values.more (values.made 1 values.none) values.none))
single = rw (value-Con, value-Con, value-Nat) refl

-- `((tested !1) --> [(!1 = 0)])`
abbrev pub zero_if_tested : formulas.Formula
zero_if_tested = formulas.implies (formulas.tested (trees.one (trees.bound 0))) (formulas.atom (trees.op trees.equality (trees.two (trees.bound 0) (trees.literal 0))))

pub always_zero : formula (All Nat zero_if_tested) ≡ formulas.all types.nat zero_if_tested
always_zero = rw ty-Nat refl

pub tested_variable : formula (Tested (trees.bound 0 ∷ [])) ≡ formulas.tested (trees.one (trees.bound 0))
tested_variable = refl

-- an implication isn't a conjunction, and its sides have their order
pub implication : formula (Imp zero_if_tested (formulas.atom (trees.truth true))) ≡ formulas.implies zero_if_tested (formulas.atom (trees.truth true))
implication = refl

-- `(deep 3 ?1)`
pub deeper : formula (Deep 3 (trees.free 1 ∷ [])) ≡ formulas.deep 3 (trees.one (trees.free 1))
deeper = refl

-- each connective and each atom is a node; the height has the term's in it
pub nodes-implication : formula_nodes zero_if_tested ≡ 7
nodes-implication = refl

pub height-implication : formula_height zero_if_tested ≡ 3
height-implication = refl

-- the quantifier binds the one loose variable
pub range-implication : formula_range zero_if_tested ≡ 1
range-implication = refl

pub range-quantified : formula_range (formulas.all types.nat zero_if_tested) ≡ 0
range-quantified = refl

pub range-outer : formula_range (formulas.some types.nat (formulas.thyp (formulas.atom (trees.bound 4)))) ≡ 4
range-outer = refl
