use Rattle.std.proofs.Common.{◌+◌, drop, map}
use Rattle.tg_infer.specs.View.{raw_declaration}
use Rattle.tg_infer.proofs.TheoryLaws.{Reaches}
use Rattle.tg_infer.proofs.elaborating.elaborate.Given as goal

abbrev pub invariant-loop-at : goal.invariant-loop-at
invariant-loop-at l = Reaches (map raw_declaration l.decls) (map raw_declaration (drop l.at l.decls)) l.builder (l.at + 1) l.words
