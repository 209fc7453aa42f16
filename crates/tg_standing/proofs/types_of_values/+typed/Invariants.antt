use Rattle.std.proofs.Common.{◌≡◌, drop}
use Rattle.tg_term.specs.Values.{values}
use Rattle.tg_standing.specs.TypesOfValues.{have_types}
use Rattle.tg_standing.proofs.ValueTypes.{At}
use Rattle.tg_standing.proofs.types_of_values.+typed.Given as goal

-- what is left decides
abbrev pub invariant-are_typed-loop-i : goal.invariant-are_typed-loop-i
invariant-are_typed-loop-i l =
    have_types l.declared.datatypes (values (drop l.i l.vs)) (At l.us (drop l.i l.ts)) ≡ have_types l.declared.datatypes (values l.vs) (At l.us l.ts)
