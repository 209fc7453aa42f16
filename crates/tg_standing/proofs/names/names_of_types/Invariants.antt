use Rattle.std.proofs.Common.{◌≡◌, map, take}
use Rattle.tg_model.specs.Theory.{Datatype}
use Rattle.tg_standing.proofs.names.names_of_types.Given as goal

abbrev pub invariant-loop-i : goal.invariant-loop-i
invariant-loop-i l = l.names ≡ map (λ (x : Datatype). x.name) (take l.i l.th.datatypes)
