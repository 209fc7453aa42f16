use Rattle.std.proofs.Common.{◌≡◌, take}
use Rattle.tg_types.specs.Substitutions.{apply}
use Rattle.tg_types.specs.Types.{ty}
use Rattle.tg_types.specs.View.{substitution}
use Rattle.tg_types.proofs.substitutions.Subst.apply.Given as goal

-- the agreements so far are put in
abbrev pub invariant-loop-x : goal.invariant-loop-x
invariant-loop-x l = ty l.done ≡ apply (substitution (take l.x-index l.x-items)) (ty l.t)
