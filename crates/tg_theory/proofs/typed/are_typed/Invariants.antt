use Rattle.std.proofs.Common.{◌↔◌, [], map, reverse, drop}
use Rattle.tg_model.specs.TermTyping.{AllTyped}
use Rattle.tg_model.specs.Tree.{trees}
use Rattle.tg_accept.specs.Declared.{theory}
use Rattle.tg_types.specs.Types.{ty}
use Rattle.tg_theory.proofs.typed.are_typed.Given as goal

-- what is left decides
abbrev pub invariant-loop-i : goal.invariant-loop-i
invariant-loop-i l =
    AllTyped (theory [] l.declared) (map ty l.vars) (reverse (map ty l.locs)) (trees (drop l.i l.ts)) (map ty (drop l.i l.at))
    ↔ AllTyped (theory [] l.declared) (map ty l.vars) (reverse (map ty l.locs)) (trees l.ts) (map ty l.at)
