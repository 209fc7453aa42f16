use Rattle.std.proofs.Common.{◌≡◌, map, drop}
use Rattle.tg_accept.specs.Faults.{are_cases_shaped}
use Rattle.tg_theory.specs.Matched.{recursive_of}
use Rattle.tg_theory.proofs.shapes.are_cases_shaped.Given as goal

-- what is left decides
abbrev pub invariant-loop-at : goal.invariant-loop-at
invariant-loop-at l =
    are_cases_shaped l.own.function l.own.place l.own.others (drop l.at l.cases) (map (recursive_of l.d) (drop l.at l.cons))
    ≡ are_cases_shaped l.own.function l.own.place l.own.others l.cases (map (recursive_of l.d) l.cons)
