use Rattle.std.proofs.Common.{◌≡◌, map, drop}
use Rattle.std.specs.List.{list_all}
use Rattle.tg_accept.specs.Faults.{is_argument}
use Rattle.tg_types.specs.Types.{ty}
use Rattle.tg_theory.proofs.shapes.are_arguments.Given as goal

-- what is left decides
abbrev pub invariant-loop-t : goal.invariant-loop-t
invariant-loop-t l = list_all (is_argument l.d l.params) (map ty (drop l.t-index l.ts)) ≡ list_all (is_argument l.d l.params) (map ty l.ts)
