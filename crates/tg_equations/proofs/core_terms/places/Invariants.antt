use Rattle.std.proofs.Common.{◌≡◌, map, take}
use Rattle.tg_accept.specs.Core as model
use Rattle.tg_accept.specs.Core.{same_head}
use Rattle.tg_accept.specs.Resolved.{Head}
use Rattle.tg_equations.specs.Places.{held, placed_from}
use Rattle.tg_equations.specs.Written.{written_branch}
use Rattle.tg_equations.proofs.core_terms.places.Given as goal

abbrev pub invariant-loop-at : goal.invariant-loop-at
invariant-loop-at l = (h : Head) → held l.places h ≡ placed_from (λ (w : model.Written). same_head w.head h) 0 (take l.at (map written_branch l.ws))
