use Rattle.std.proofs.Common.{◌≡◌, map, take}
use Rattle.tg_accept.specs.Meaning.{name_of}
use Rattle.tg_infer.specs.View.{binder}
use Rattle.tg_infer.proofs.uses.names_of.Given as goal

abbrev pub invariant-loop-x : goal.invariant-loop-x
invariant-loop-x l = l.names ≡ map name_of (map binder (take l.x-index l.xs))
