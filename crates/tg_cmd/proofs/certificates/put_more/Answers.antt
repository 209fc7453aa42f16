use Rattle.tg_cmd.proofs.CheckedLaws.{type_next}
use Rattle.tg_cmd.proofs.certificates.put_more.Goals as goal

pub loop-t-preserved : goal.loop-t-preserved
loop-t-preserved c =
    type_next _ _ _ _ _ _ _ _ c.loop-t-test.true c.t-item.is c.loop-t.invariant c.in_ok-put_token.ensures c.in_ok-put_ty.ensures
