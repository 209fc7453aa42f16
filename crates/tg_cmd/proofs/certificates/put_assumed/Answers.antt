use Rattle.tg_cmd.proofs.CheckedLaws.{assumed_next}
use Rattle.tg_cmd.proofs.certificates.put_assumed.Goals as goal

pub loop-f-preserved : goal.loop-f-preserved
loop-f-preserved c = assumed_next _ _ _ _ _ _ _ c.loop-f-test.true c.f-item.is c.loop-f.invariant c.in_ok-put_formula_line.ensures
