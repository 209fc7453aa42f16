use Rattle.std.proofs.Common.{◌≡◌, map, take}
use Rattle.tg_split.specs.declared.numbering.Part.{Part}
use Rattle.tg_split.proofs.numbering.terms_of.Given as goal

abbrev pub invariant-loop-part : goal.invariant-loop-part
invariant-loop-part l = l.terms.items ≡ map (λ (p : Part). p.term) (take l.part-index l.parts)
