use Rattle.std.proofs.Common.{◌≡◌, drop, map}
use Rattle.tg_types.specs.Types.{ty}
use Rattle.tg_calculus.specs.Sequent.{some_use_new}
use Rattle.tg_kernel.proofs.using.some_use_new.Given as goal

-- what is left decides
abbrev pub invariant-loop-f : goal.invariant-loop-f
invariant-loop-f l = some_use_new l.context (map ty l.new) (drop l.f-index l.fs) ≡ some_use_new l.context (map ty l.new) l.fs
