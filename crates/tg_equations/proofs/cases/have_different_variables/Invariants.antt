use Rattle.std.proofs.Common.{◌≡◌, drop}
use Rattle.tg_typing.specs.View.{branches}
use Rattle.tg_equations.specs.Checked.{have_different_variables}
use Rattle.tg_equations.proofs.cases.have_different_variables.Given as goal

-- what is left decides
abbrev pub invariant-loop-b : goal.invariant-loop-b
invariant-loop-b l = have_different_variables (branches (drop l.b-index l.bs)) ≡ have_different_variables (branches l.bs)
