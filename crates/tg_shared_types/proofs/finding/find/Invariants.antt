use Rattle.std.proofs.Common.{◌≡◌, ◌<◌, length}
use Rattle.tg_shared_types.specs.Nodes.{SameFits, HasTypeOf, KeepsRoots}
use Rattle.tg_shared_types.specs.Pairs.{weights}
use Rattle.tg_shared_types.proofs.finding.find.Given as goal

-- the node here has the type of the one that was asked for
abbrev pub invariant-loop-nodes : goal.invariant-loop-nodes
invariant-loop-nodes l = record {
  fits : SameFits l.initial.nodes l.nodes;
  weights : weights l.nodes ≡ weights l.initial.nodes;
  kept : KeepsRoots l.initial.nodes l.nodes;
  inside : l.here < length l.nodes;
  there : HasTypeOf l.initial.nodes l.initial.here l.here;
}

abbrev pub decreases-loop-nodes : goal.decreases-loop-nodes
decreases-loop-nodes l = l.here
