use Rattle.tg_report.proofs.TermLaws.{binder_next}
use Rattle.tg_report.proofs.terms.put_binders.Goals as goal

pub loop-at-preserved : goal.loop-at-preserved
loop-at-preserved c =
    binder_next _ _ _ _ _ _ _ _ c.loop-at-test.true c.loop-at.invariant c.in_ok-variable.ensures c.in_ok-within.ensures c.in_ok-put_variable.ensures
