use Rattle.std.proofs.Common.{◌≡◌, ◌++◌, map, take}
use Rattle.tg_clause.specs.Answers.{literals}
use Rattle.tg_hyps.specs.Hypotheses.{seen}
use Rattle.tg_split.specs.Listing.{pattern}
use Rattle.tg_derive.specs.Classes.{class_of}
use Rattle.tg_derive.proofs.listing.append_classes.Given as goal

abbrev pub invariant-loop-c : goal.invariant-loop-c
invariant-loop-c l = map seen l.cs.items ≡ map seen l.initial.cs.items ++ map (class_of (pattern l.p)) (map literals (take l.c-index l.clauses))
