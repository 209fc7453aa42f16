use Rattle.std.proofs.Common.{◌≡◌, ◌++◌, [], map, drop}
use Rattle.std.specs.Prelude.{option_map}
use Rattle.tg_accept.specs.Declared.{theory}
use Rattle.tg_types.specs.Types.{ty}
use Rattle.tg_equations.specs.LeftSides.{of_constructors}
use Rattle.tg_equations.specs.View.{patterns}
use Rattle.tg_equations.proofs.left_sides.push_constructors.Given as goal

-- what stands, and what is left, are all the types
abbrev pub invariant-loop-at : goal.invariant-loop-at
invariant-loop-at l =
    option_map (λ us. map ty l.all ++ us) (of_constructors (theory [] l.declared) (patterns (drop l.at l.ps)) (map ty (drop l.at l.args)))
    ≡ option_map (λ us. map ty l.initial.all ++ us) (of_constructors (theory [] l.declared) (patterns l.ps) (map ty l.args))
