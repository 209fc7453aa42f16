use Rattle.std.proofs.Common.{◌≡◌, map, drop}
use Rattle.std.specs.List.{list_all}
use Rattle.tg_typing.specs.View.{head}
use Rattle.tg_equations.specs.Places.{holds}
use Rattle.tg_equations.proofs.cases.has_all.Given as goal

-- what is left decides
abbrev pub invariant-loop-h : goal.invariant-loop-h
invariant-loop-h l = list_all (holds l.places) (map head (drop l.h-index l.h-items)) ≡ list_all (holds l.places) (map head l.h-items)
