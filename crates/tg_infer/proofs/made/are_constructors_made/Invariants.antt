use Rattle.std.proofs.Common.{◌≡◌, Some, drop, map}
use Rattle.std.specs.List.{list_all}
use Rattle.tg_declarations.specs.declared.definitions.ConDef.{ConDef}
use Rattle.tg_infer.specs.Made.{counts, are_made}
use Rattle.tg_types.specs.Types.{types}
use Rattle.tg_infer.proofs.made.are_constructors_made.Given as goal

-- what is left decides
abbrev pub invariant-loop-con : goal.invariant-loop-con
invariant-loop-con l =
    list_all (λ ts. are_made (counts l.declared (Some l.params)) l.params (types ts)) (map (λ (c : ConDef). c.args) (drop l.con-index l.cons))
    ≡ list_all (λ ts. are_made (counts l.declared (Some l.params)) l.params (types ts)) (map (λ (c : ConDef). c.args) l.cons)
