use Rattle.std.proofs.Common.{[]}
use Rattle.tg_accept.specs.Declared.{theory}
use Rattle.tg_schema.proofs.StepLaws.{NoneBelow}
use Rattle.tg_schema.proofs.first.Given as goal

abbrev pub invariant-loop-number : goal.invariant-loop-number
invariant-loop-number l = NoneBelow (theory [] l.declared) l.number l.t
