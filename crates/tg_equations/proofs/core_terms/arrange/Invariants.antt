use Rattle.std.proofs.Common.{◌≡◌, map, take}
use Rattle.tg_accept.specs.Core.{branch_of}
use Rattle.tg_typing.specs.View.{head}
use Rattle.tg_equations.specs.Written.{written_branch, bare}
use Rattle.tg_equations.proofs.core_terms.arrange.Given as goal

abbrev pub invariant-loop-h : goal.invariant-loop-h
invariant-loop-h l = l.all ≡ map (λ h. bare (branch_of (map written_branch l.ws) (head h))) (take l.h-index l.h-items)
