use Rattle.std.proofs.Common.{◌≡◌, ◌≤◌, max, drop}
use Rattle.tg_model.specs.Value.{values}
use Rattle.tg_eval.specs.Sizes.{heights}
use Rattle.tg_eval.proofs.held.heights.Given as goal

-- what is left decides
abbrev pub invariant-loop-v : goal.invariant-loop-v
invariant-loop-v l = record {
  left : max l.most (heights (values (drop l.v-index l.vs))) ≡ heights (values l.vs);
  bounded : l.most ≤ 10001;
}
