use Rattle.std.proofs.Common.{◌≡◌, take}
use Rattle.tg_term.proofs.PartLaws.{rebodied}
use Rattle.tg_term.proofs.parts.with_bodies.Given as goal

abbrev pub invariant-loop-at : goal.invariant-loop-at
invariant-loop-at l = l.branches ≡ rebodied (take l.at l.bs) l.bodies
