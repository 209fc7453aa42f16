use Rattle.std.proofs.Common.{◌≡◌, ◌++◌, map, drop}
use Rattle.tg_types.specs.Types.{ty}
use Rattle.tg_equations.specs.LeftSides.{of_variables}
use Rattle.tg_equations.specs.View.{patterns}
use Rattle.tg_equations.proofs.left_sides.push_variables.Given as goal

-- what stands, and what is left, are all the types
abbrev pub invariant-loop-at : goal.invariant-loop-at
invariant-loop-at l =
    map ty l.all ++ of_variables (patterns (drop l.at l.ps)) (map ty (drop l.at l.args)) ≡ map ty l.initial.all ++ of_variables (patterns l.ps) (map ty l.args)
