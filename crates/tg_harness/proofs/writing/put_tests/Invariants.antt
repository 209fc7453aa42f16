use Rattle.std.proofs.Common.{◌≡◌, ◌++◌, drop, map}
use Rattle.tg_harness.specs.HarnessTexts.{test_lines}
use Rattle.tg_harness.specs.Tests.{test}
use Rattle.tg_harness.proofs.writing.put_tests.Given as goal

-- with what is left it is the whole
abbrev pub invariant-loop-test : goal.invariant-loop-test
invariant-loop-test l = l.out.items ++ test_lines l.th (map test (drop l.test-index l.tests)) ≡ l.fn.out.items ++ test_lines l.th (map test l.tests)
