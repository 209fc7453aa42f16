use Rattle.std.proofs.Common.{◌≡◌, ◌+◌, ◌*◌, drop}
use Rattle.tg_accept.specs.Meaning.{all_variables_in}
use Rattle.tg_infer.specs.View.{raw_types}
use Rattle.tg_infer.proofs.signatures.+variables.Given as goal

abbrev pub invariant-add_all_variables-loop-t : goal.invariant-add_all_variables-loop-t
invariant-add_all_variables-loop-t l = all_variables_in l.names (raw_types (drop l.t-index l.ts)) ≡ all_variables_in l.initial.names (raw_types l.ts)
