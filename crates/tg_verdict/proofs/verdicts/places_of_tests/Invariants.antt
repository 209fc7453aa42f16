use Rattle.std.proofs.Common.{◌≡◌, map, take}
use Rattle.tg_verdict.specs.Places.{test_number}
use Rattle.tg_verdict.proofs.verdicts.places_of_tests.Given as goal

-- those so far
abbrev pub invariant-loop-test : goal.invariant-loop-test
invariant-loop-test l = l.numbers ≡ map test_number (take l.test-index l.tests)
