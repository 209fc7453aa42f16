use Rattle.std.proofs.Common.{◌≡◌}
use Rattle.tg_accept.specs.Core.{unnamed}
use Rattle.tg_theory.proofs.embedding.unnamed.Given as goal

abbrev pub invariant-loop : goal.invariant-loop
invariant-loop l = l.names ≡ unnamed l.counter
