use Rattle.std.proofs.Common.{◌≡◌, ◌++◌, map, take}
use Rattle.tg_declarations.specs.declared.definitions.ConDef.{ConDef}
use Rattle.tg_standing.proofs.names.add_each.Given as goal

abbrev pub invariant-loop-con : goal.invariant-loop-con
invariant-loop-con l = l.names ≡ l.initial.names ++ map (λ (c : ConDef). c.name) (take l.con-index l.cons)
