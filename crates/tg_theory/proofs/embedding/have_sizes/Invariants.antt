use Rattle.std.proofs.Common.{◌≡◌, map, drop, length}
use Rattle.tg_model.specs.TypeLaws.{branch_sizes}
use Rattle.tg_declarations.specs.declared.definitions.ConDef.{ConDef}
use Rattle.tg_term.specs.View.{arms}
use Rattle.tg_theory.specs.Embedded.{same_sizes}
use Rattle.tg_theory.proofs.embedding.have_sizes.Given as goal

-- what is left decides
abbrev pub invariant-loop-at : goal.invariant-loop-at
invariant-loop-at l =
    same_sizes (map (λ (c : ConDef). length c.args) (drop l.at l.cons)) (branch_sizes (arms (drop l.at l.bs)))
    ≡ same_sizes (map (λ (c : ConDef). length c.args) l.cons) (branch_sizes (arms l.bs))
