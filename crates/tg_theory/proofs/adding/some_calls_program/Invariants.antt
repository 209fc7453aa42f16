use Rattle.std.proofs.Common.{◌≡◌, drop}
use Rattle.std.specs.List.{list_any}
use Rattle.tg_model.specs.Calls.{has_call}
use Rattle.tg_theory.proofs.adding.some_calls_program.Given as goal

-- what is left decides
abbrev pub invariant-loop-t : goal.invariant-loop-t
invariant-loop-t l = list_any has_call (drop l.t-index l.ts) ≡ list_any has_call l.ts
