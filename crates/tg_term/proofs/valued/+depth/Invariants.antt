use Rattle.std.proofs.Common.{◌≡◌, ◌≤◌, max, min, drop}
use Rattle.tg_model.specs.Value.{deepest}
use Rattle.tg_term.specs.Values.{values}
use Rattle.tg_term.proofs.valued.+depth.Given as goal

-- what is left decides
abbrev pub invariant-deepest-loop-v : goal.invariant-deepest-loop-v
invariant-deepest-loop-v l = record {
  left : min (max l.most (deepest (values (drop l.v-index l.vs)))) 4294967295 ≡ min (deepest (values l.vs)) 4294967295;
  stops : l.most ≤ 4294967295;
}
