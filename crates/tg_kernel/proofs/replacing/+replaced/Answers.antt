use Rattle.std.proofs.Common.{◌≡◌, false, nat_eq, sym, ◌∙◌, ap}
use Rattle.std.proofs.lemmas.Bool.{eqb-true}
use Rattle.tg_model.specs.Tree.{op, trees}
use Rattle.tg_term.specs.Operators.{operator}
use Rattle.tg_term.specs.View.{tree}
use Rattle.tg_calculus.specs.Replacing.{below}
use Rattle.tg_kernel.proofs.ReplacingLaws.{other_operator, not_equal}
use Rattle.tg_kernel.proofs.replacing.+replaced.Goals as goal

pub is_below-returns-else-o-p : goal.is_below-returns-else-o-p
is_below-returns-else-o-p t c =
    let a : op (operator c.in-Op-Op.o) (trees c.in-Op-Op.us) ≡ c.args.u.now = ap tree (sym c.in-Op-Op.is-0) ∙ c.node.ensures in
    let b : op (operator c.in-Op-Op.p) (trees c.in-Op-Op.vs) ≡ c.args.v.now = ap tree (sym c.in-Op-Op.is-1) ∙ c.node-2.ensures in
    not_equal c.in-Op-Op.o c.in-Op-Op.p c.if-o-p.false
    ∙ other_operator c.args.s.now c.args.t.now c.in-Op-Op.o c.in-Op-Op.p (trees c.in-Op-Op.us) (trees c.in-Op-Op.vs) c.if-o-p.false
    ∙ (λ i. below c.args.s.now c.args.t.now (a i) (b i))
