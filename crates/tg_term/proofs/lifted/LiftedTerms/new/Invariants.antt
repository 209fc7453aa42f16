use Rattle.std.proofs.Common.{◌≡◌, take}
use Rattle.tg_term.proofs.lifted.LiftedTerms.new.Given as goal

abbrev pub invariant-loop-term : goal.invariant-loop-term
invariant-loop-term l = l.items.items ≡ take l.term-index l.terms
