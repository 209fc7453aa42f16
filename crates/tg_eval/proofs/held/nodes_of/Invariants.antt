use Rattle.std.proofs.Common.{◌≡◌, ◌+◌, drop}
use Rattle.tg_model.specs.Value.{values}
use Rattle.tg_eval.specs.Limited.{nodes_of}
use Rattle.tg_eval.specs.Sizes.{counted}
use Rattle.tg_eval.proofs.held.nodes_of.Given as goal

-- what is left decides
abbrev pub invariant-loop-v : goal.invariant-loop-v
invariant-loop-v l = record {
  left : counted (l.nodes + nodes_of (values (drop l.v-index l.vs))) ≡ counted (nodes_of (values l.vs));
  stops : counted l.nodes ≡ l.nodes;
}
