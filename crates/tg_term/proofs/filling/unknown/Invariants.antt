use Rattle.std.proofs.Common.{◌≡◌, map}
use Rattle.tg_term.specs.Matching.{held, unknown}
use Rattle.tg_term.proofs.filling.unknown.Given as goal

abbrev pub invariant-loop : goal.invariant-loop
invariant-loop l = map held l.slots.items ≡ unknown l.counter
