use Rattle.std.proofs.lemmas.Result.{on_ok_weaker}
use Rattle.tg_report.proofs.TypeLaws.{more_next, several}
use Rattle.tg_report.proofs.types.+types.Goals as goal

pub put_more-loop-at-preserved : goal.put_more-loop-at-preserved
put_more-loop-at-preserved t c =
    more_next _ _ _ _ _ _ _ _ c.loop-at-test.true c.index-ts-at.is c.loop-at.invariant c.in_ok-put_token.ensures c.in_ok-put_ty.ensures

pub put_arguments-returns : goal.put_arguments-returns
put_arguments-returns t c =
    on_ok_weaker _ (several _ _ _ _ _ _ _ _ c.requires c.if-ts-eq1.false c.index-ts-0-2.is c.in_ok-put_token.ensures c.in_ok-put_ty.ensures
    c.in_ok-put_more.ensures) c.put_token-2.ensures
