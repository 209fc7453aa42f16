use Rattle.tg_harness.proofs.HarnessLaws.{test_next}
use Rattle.tg_harness.proofs.writing.put_tests.Goals as goal

pub loop-test-preserved : goal.loop-test-preserved
loop-test-preserved c = test_next _ _ _ _ _ _ _ c.loop-test-test.true c.test-item.is c.loop-test.invariant c.in_ok-put_test.ensures
