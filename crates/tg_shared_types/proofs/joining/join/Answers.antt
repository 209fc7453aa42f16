use Rattle.std.proofs.Common.{◌++◌, [], ◌∷◌, sym, subst, length, ◌+◌, ◌≤◌, set}
use Rattle.tg_shared_types.specs.Pairs.{Carries, weights}
use Rattle.tg_shared_types.specs.declared.nodes.Node.TheVariants.{Link}
use Rattle.tg_shared_types.proofs.JoinLaws.{first_carries, first_weights, second_written, second_written_weights, parts_carries, parts_weights, none_meets}
use Rattle.tg_shared_types.proofs.joining.join.Goals as goal

pub returns-in-Never-clause-carries : goal.returns-in-Never-clause-carries
returns-in-Never-clause-carries c = none_meets _ _ _ _ c.requires.table c.requires.work c.requires.order c.requires.inside _ _ c.index-nodes-low.is c.index-nodes-high.is
    c.requires.low c.requires.high c.in-Never.ensures

pub returns-in-First-clause-carries : goal.returns-in-First-clause-carries
returns-in-First-clause-carries c = first_carries _ _ _ _ c.requires.table c.requires.work c.requires.order c.requires.inside _ _ c.index-nodes-low.is c.index-nodes-high.is
    c.requires.low c.requires.high c.in-First.ensures

pub returns-in-First-clause-weights : goal.returns-in-First-clause-weights
returns-in-First-clause-weights c = first_weights _ _ _ _ c.requires.table c.requires.work c.requires.order c.requires.inside _ _ c.index-nodes-low.is c.index-nodes-high.is
    c.requires.low c.requires.high

pub returns-in-Second-clause-carries : goal.returns-in-Second-clause-carries
returns-in-Second-clause-carries c = second_written _ _ _ _ c.requires.table c.requires.work c.requires.order c.requires.inside _ _ c.index-nodes-low.is c.index-nodes-high.is
    c.requires.low c.requires.high
    _ _ _ c.replace-node.ensures.after c.replace-node.ensures.value c.in-Second.ensures

pub returns-in-Second-clause-weights : goal.returns-in-Second-clause-weights
returns-in-Second-clause-weights c = second_written_weights _ _ _ _ c.requires.table c.requires.work c.requires.order c.requires.inside _ _ c.index-nodes-low.is c.index-nodes-high.is
    c.requires.low c.requires.high
    _ _ _ c.replace-node.ensures.after c.replace-node.ensures.value c.in-Second.ensures

pub returns-in_ok-push_pairs-in-Parts-clause-carries :
    goal.returns-in_ok-push_pairs-in-Parts-clause-carries
returns-in_ok-push_pairs-in-Parts-clause-carries c =
    subst
    (λ left. Carries c.args.nodes.now (c.args.work.now.items ++ (c.args.low, c.args.high) ∷ []) (set c.args.nodes.now c.args.high (Link c.args.low)) left)
    (sym c.in_ok-push_pairs-in-Parts.ensures)
    (parts_carries _ _ _ _ c.requires.table c.requires.work c.requires.order c.requires.inside _ _ c.index-nodes-low.is c.index-nodes-high.is
    c.requires.low c.requires.high _ _ c.in-Parts.ensures)

pub returns-in_ok-push_pairs-in-Parts-clause-weights :
    goal.returns-in_ok-push_pairs-in-Parts-clause-weights
returns-in_ok-push_pairs-in-Parts-clause-weights c =
    subst
    (λ left. weights (set c.args.nodes.now c.args.high (Link c.args.low)) + length left ≤ weights c.args.nodes.now + length c.args.work.now.items)
    (sym c.in_ok-push_pairs-in-Parts.ensures)
    (parts_weights _ _ _ _ c.requires.table c.requires.work c.requires.order c.requires.inside _ _ c.index-nodes-low.is c.index-nodes-high.is
    c.requires.low c.requires.high _ _ c.in-Parts.ensures)
