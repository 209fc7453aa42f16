use Rattle.std.proofs.Common.{◌≡◌, map, drop}
use Rattle.tg_types.specs.Types.{ty}
use Rattle.tg_hyps.specs.Hypotheses.{some_data}
use Rattle.tg_hyps.proofs.theories.some_data.Given as goal

abbrev pub invariant-loop-t : goal.invariant-loop-t
invariant-loop-t l = some_data (map ty (drop l.t-index l.ts)) ≡ some_data (map ty l.ts)
