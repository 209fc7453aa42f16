use Rattle.std.proofs.Common.{◌≡◌, drop}
use Rattle.std.specs.List.{list_any}
use Rattle.tg_accept.specs.Faults.{is_taken}
use Rattle.tg_infer.specs.Words.{values_in}
use Rattle.tg_infer.proofs.specifications.some_value.Given as goal

abbrev pub invariant-loop-x : goal.invariant-loop-x
invariant-loop-x l =
    list_any (λ x. is_taken x (values_in l.words)) (drop l.x-index l.xs) ≡ list_any (λ x. is_taken x (values_in l.words)) l.xs
