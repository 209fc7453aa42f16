use Rattle.std.proofs.Common.{◌≡◌, map, take}
use Rattle.tg_types.specs.Substitutions.{put}
use Rattle.tg_types.specs.Types.{ty}
use Rattle.tg_types.specs.View.{agreement}
use Rattle.tg_types.proofs.copying.+put.Given as goal

abbrev pub invariant-put_all-loop-t : goal.invariant-put_all-loop-t
invariant-put_all-loop-t l = map ty l.out ≡ map (put (agreement l.x)) (map ty (take l.t-index l.ts))
