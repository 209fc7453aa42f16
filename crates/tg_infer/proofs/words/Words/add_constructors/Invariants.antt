use Rattle.std.proofs.Common.{drop, map}
use Rattle.tg_infer.specs.View.{raw_constructor}
use Rattle.tg_infer.proofs.WordLaws.{AreTaking}
use Rattle.tg_infer.proofs.words.Words.add_constructors.Given as goal

abbrev pub invariant-loop-con : goal.invariant-loop-con
invariant-loop-con l = AreTaking l.initial.self l.self (map raw_constructor l.cons) (map raw_constructor (drop l.con-index l.cons))
