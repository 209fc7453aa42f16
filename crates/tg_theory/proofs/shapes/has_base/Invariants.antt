use Rattle.std.proofs.Common.{◌≡◌, map, drop}
use Rattle.tg_declarations.specs.View.{constructor}
use Rattle.tg_theory.specs.Matched.{has_base}
use Rattle.tg_theory.proofs.shapes.has_base.Given as goal

-- what is left decides
abbrev pub invariant-loop-con : goal.invariant-loop-con
invariant-loop-con l = has_base l.d (map constructor (drop l.con-index l.cons)) ≡ has_base l.d (map constructor l.cons)
