use Rattle.std.proofs.Common.{map, drop}
use Rattle.tg_hyps.specs.Hypotheses.{seen}
use Rattle.tg_split.specs.Listing.{pattern}
use Rattle.tg_derive.specs.Classes.{whole}
use Rattle.tg_derive.specs.Working.{AreReached}
use Rattle.tg_derive.proofs.listing.classes_at.Given as goal

abbrev pub invariant-loop-p : goal.invariant-loop-p
invariant-loop-p l = AreReached l.fn.th whole (map pattern l.fn.ps) (map seen l.cs.items) l.left (drop l.p-index (map pattern l.fn.ps))
