use Rattle.std.proofs.Common.{map, take}
use Rattle.tg_types.specs.Types.{ty}
use Rattle.tg_cert.specs.Lines.{AreTypesOf}
use Rattle.tg_cert.proofs.lines.types_of.Given as goal

-- those of the texts so far
abbrev pub invariant-loop-r : goal.invariant-loop-r
invariant-loop-r l = AreTypesOf l.th (take l.r-index l.raw) (map ty l.types)
