use Rattle.std.proofs.Common.{◌≡◌, take}
use Rattle.tg_model.specs.Accepted.{constructor_names}
use Rattle.tg_standing.proofs.names.names_of_constructors.Given as goal

abbrev pub invariant-loop-i : goal.invariant-loop-i
invariant-loop-i l = l.names ≡ constructor_names (take l.i l.th.datatypes)
