use Rattle.std.proofs.Common.{◌≡◌, map, drop}
use Rattle.tg_declarations.specs.View.{constructor}
use Rattle.tg_theory.specs.Matched.{are_argued}
use Rattle.tg_theory.proofs.shapes.are_argued.Given as goal

-- what is left decides
abbrev pub invariant-loop-con : goal.invariant-loop-con
invariant-loop-con l = are_argued l.d l.params (map constructor (drop l.con-index l.cons)) ≡ are_argued l.d l.params (map constructor l.cons)
