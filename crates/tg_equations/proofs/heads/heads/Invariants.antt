use Rattle.std.proofs.Common.{◌≡◌, map, take}
use Rattle.tg_accept.specs.Resolved.{of}
use Rattle.tg_typing.specs.View.{head}
use Rattle.tg_equations.proofs.heads.heads.Given as goal

abbrev pub invariant-loop-c : goal.invariant-loop-c
invariant-loop-c l = map head l.all ≡ map of (take l.c-index l.c-items)
