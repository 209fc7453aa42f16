use Rattle.std.proofs.Common.{map, take}
use Rattle.tg_verdict.specs.Places.{test_number, HaveSame}
use Rattle.tg_verdict.proofs.reading.numbers_of.Given as goal

-- those of the tests so far
abbrev pub invariant-loop-test : goal.invariant-loop-test
invariant-loop-test l = HaveSame l.numbers (map test_number (take l.test-index l.tests))
