use Rattle.std.proofs.Common.{◌≡◌, ◌+◌, map, drop}
use Rattle.std.specs.Prelude.{option_map}
use Rattle.tg_declarations.specs.View.{constructor}
use Rattle.tg_theory.specs.Bases.{first_base}
use Rattle.tg_theory.proofs.least.first_base.Given as goal

-- what is left decides
abbrev pub invariant-loop-at : goal.invariant-loop-at
invariant-loop-at l = option_map (λ i. i + l.at) (first_base l.d (map constructor (drop l.at l.cons))) ≡ first_base l.d (map constructor l.cons)
