use Rattle.std.proofs.Common.{map}
use Rattle.tg_types.specs.Types.{ty}
use Rattle.tg_standing.proofs.InputLaws.{AreFound}
use Rattle.tg_standing.proofs.places.Place.terms_at.Given as goal

abbrev pub invariant-loop-i : goal.invariant-loop-i
invariant-loop-i l = AreFound l.self.th.now (map ty l.self.vars.now) l.initial.under l.under l.at l.ts l.all l.i
