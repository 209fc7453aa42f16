use Rattle.std.proofs.Common.{◌≡◌, drop}
use Rattle.std.specs.List.{list_any}
use Rattle.tg_accept.specs.Faults.{is_taken}
use Rattle.tg_accept.specs.Meaning.{taken_names}
use Rattle.tg_infer.specs.Scopes.{scope_of}
use Rattle.tg_infer.proofs.patterns.some_taken.Given as goal

abbrev pub invariant-loop-x : goal.invariant-loop-x
invariant-loop-x l =
    list_any (λ x. is_taken x (taken_names (scope_of l.scope))) (drop l.x-index l.xs) ≡ list_any (λ x. is_taken x (taken_names (scope_of l.scope))) l.xs
