use Rattle.std.proofs.Common.{ℕ, ◌≤◌}
use Rattle.tg_model.specs.Theory.{Function}
use Rattle.tg_cmd.specs.StandIn.{IsNamed}
use Rattle.tg_cmd.proofs.standing.function_named.Given as goal

-- none so far has the name
abbrev pub invariant-loop-before : goal.invariant-loop-before
invariant-loop-before l = (n : ℕ) → n ≤ l.before → (f : Function) → IsNamed l.theory l.name n f → ⊥
