use Rattle.std.proofs.Common.{◌≡◌, map, take}
use Rattle.tg_derive.specs.Theorem.{formulas}
use Rattle.tg_derive.specs.Answers.{hypothesis}
use Rattle.tg_derive.proofs.theorems.formulas.Given as goal

-- those so far
abbrev pub invariant-loop-h : goal.invariant-loop-h
invariant-loop-h l = l.fs ≡ formulas (map hypothesis (take l.h-index l.hs))
