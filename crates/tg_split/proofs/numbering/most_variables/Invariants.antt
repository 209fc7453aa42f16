use Rattle.std.proofs.Common.{◌≤◌, All, length, take}
use Rattle.tg_split.specs.declared.numbering.Part.{Part}
use Rattle.tg_split.proofs.numbering.most_variables.Given as goal

abbrev pub invariant-loop-part : goal.invariant-loop-part
invariant-loop-part l = All (λ (p : Part). length p.vars ≤ l.most) (take l.part-index l.parts)
