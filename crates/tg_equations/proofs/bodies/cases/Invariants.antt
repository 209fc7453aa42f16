use Rattle.std.proofs.Common.{◌≡◌, [], map, take}
use Rattle.tg_accept.specs.Core.{core}
use Rattle.tg_accept.specs.Declared.{theory}
use Rattle.tg_accept.specs.Functions.{side_for}
use Rattle.tg_typing.specs.View.{head}
use Rattle.tg_equations.specs.View.{equations}
use Rattle.tg_equations.proofs.bodies.cases.Given as goal

abbrev pub invariant-loop-h : goal.invariant-loop-h
invariant-loop-h l = l.all ≡ map (λ h. core (theory [] l.declared) l.own (side_for (equations l.es) (head h))) (take l.h-index l.h-items)
