use Rattle.std.proofs.Common.{◌≡◌, drop}
use Rattle.tg_infer.specs.Made.{counts, are_made}
use Rattle.tg_types.specs.Types.{types}
use Rattle.tg_infer.proofs.made.+made.Given as goal

-- what is left decides
abbrev pub invariant-are_made-loop-t : goal.invariant-are_made-loop-t
invariant-are_made-loop-t l = are_made (counts l.declared l.own) l.params (types (drop l.t-index l.ts)) ≡ are_made (counts l.declared l.own) l.params (types l.ts)
