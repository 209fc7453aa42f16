use Rattle.tg_schema.proofs.OpeningLaws.{IsLeft}
use Rattle.tg_schema.proofs.opening.place_past.Given as goal

abbrev pub invariant-loop-number : goal.invariant-loop-number
invariant-loop-number l = IsLeft l.declared.datatypes l.d l.c l.number l.place
