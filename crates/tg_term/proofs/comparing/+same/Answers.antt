use Rattle.std.proofs.Common.{◌≡◌, sym, ◌∙◌, ap}
use Rattle.std.proofs.lemmas.Bool.{eqb-true}
use Rattle.tg_term.specs.declared.terms.Node.TheVariants.{Op}
use Rattle.tg_term.specs.View.{tree, tree-inj}
use Rattle.tg_term.proofs.comparing.+same.Goals as goal

pub same-returns-else-o-p : goal.same-returns-else-o-p
same-returns-else-o-p t c =
    let a : tree (Op c.in-Op-Op.o c.in-Op-Op.ts) ≡ c.args.a.now = ap tree (sym c.in-Op-Op.is-0) ∙ c.node.ensures in
    let b : tree (Op c.in-Op-Op.p c.in-Op-Op.us) ≡ c.args.b.now = ap tree (sym c.in-Op-Op.is-1) ∙ c.node-2.ensures in (
      λ yes. absurd (c.if-o-p.false (eqb-true c.in-Op-Op.o c.in-Op-Op.p yes)),
      λ e. let n : Op c.in-Op-Op.o c.in-Op-Op.ts ≡ Op c.in-Op-Op.p c.in-Op-Op.us = tree-inj _ _ (a ∙ (e ∙ sym b)) in
          let o : c.in-Op-Op.o ≡ c.in-Op-Op.p = cc n in absurd (c.if-o-p.false o),
    )
