use Rattle.std.proofs.Common.{◌≡◌, Some, sym, ◌∙◌}
use Rattle.tg_rows.specs.Rows.{row}
use Rattle.tg_norm.proofs.RootLaws.{first_makes, rooted, too_large_after}
use Rattle.tg_norm.proofs.walking.at_root.Goals as goal

pub unwrap-after-requires : goal.unwrap-after-requires
unwrap-after-requires c = first_makes c.args.th.now c.args.t.now c.in-Some.schema c.in_ok-step.field-0 c.in-Some.ensures c.in_ok-step.ensures.is

pub returns-then-nodes-gt-MAX_NODES-2-clause-steps : goal.returns-then-nodes-gt-MAX_NODES-2-clause-steps
returns-then-nodes-gt-MAX_NODES-2-clause-steps c = λ _.
    let e : Some c.unwrap-after.result ≡ row c.args.th.now c.in-Some.schema c.args.t.now = sym c.unwrap-after.ensures ∙ c.in_ok-step.ensures.is in
    too_large_after c.args.th.now c.args.t.now c.in-Some.schema c.unwrap-after.result c.nodes-2.result c.in-Some.ensures e c.nodes-2.ensures c.if-nodes-gt-MAX_NODES-2.true

pub returns-clause-ok : goal.returns-clause-ok
returns-clause-ok c =
    let e : Some c.unwrap-after.result ≡ row c.args.th.now c.in-Some.schema c.args.t.now = sym c.unwrap-after.ensures ∙ c.in_ok-step.ensures.is in (
      c.in-Some.schema,
      rooted c.args.th.now c.args.run.now c.add_step.new.run c.args.t.now c.in-Some.schema c.unwrap-after.result c.nodes-2.result c.in-Some.ensures e
          c.nodes-2.ensures c.if-nodes-gt-MAX_NODES-2.false c.in_ok-add_step.ensures.left c.in_ok-add_step.ensures.steps,
    )
