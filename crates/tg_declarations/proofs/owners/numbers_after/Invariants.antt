use Rattle.std.proofs.Common.{◌≡◌, ◌+◌}
use Rattle.tg_declarations.specs.Owners.{numbers_from}
use Rattle.tg_declarations.proofs.owners.numbers_after.Given as goal

abbrev pub invariant-loop-place : goal.invariant-loop-place
invariant-loop-place l = l.numbers ≡ numbers_from (l.before + 1) l.place
