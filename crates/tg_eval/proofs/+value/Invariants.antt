use Rattle.std.proofs.Common.{◌≡◌, ◌+◌, ◌*◌, [], drop, reverse}
use Rattle.tg_accept.specs.Declared.{theory}
use Rattle.tg_model.specs.Tree.{trees}
use Rattle.tg_eval.specs.Limited.{limited, all_by}
use Rattle.tg_eval.proofs.StepLaws.{preceded}
use Rattle.tg_eval.proofs.+value.Given as goal

-- what is left decides
abbrev pub invariant-evaluating::values_of-loop-t : goal.invariant-evaluating::values_of-loop-t
invariant-evaluating::values_of-loop-t l = record {
  value : preceded l.out.items
      (all_by (theory [] l.given.declared.now) l.given.answer.now (limited (theory [] l.given.declared.now) l.given.answer.now l.levels) l.run.left l.env (reverse l.loc.items) (trees (drop l.t-index l.ts)))
      ≡ all_by (theory [] l.given.declared.now) l.given.answer.now (limited (theory [] l.given.declared.now) l.given.answer.now l.levels) l.initial.run.left l.env (reverse l.initial.loc.items) (trees l.ts);
  kept : l.loc.items ≡ l.initial.loc.items;
}

abbrev pub decreases-evaluating::value_of : goal.decreases-evaluating::value_of
decreases-evaluating::value_of l = 8 * l.levels

abbrev pub decreases-evaluating::values_of : goal.decreases-evaluating::values_of
decreases-evaluating::values_of l = 8 * l.levels + 1

abbrev pub decreases-operations::operated_on_one : goal.decreases-operations::operated_on_one
decreases-operations::operated_on_one l = 8 * l.levels + 1

abbrev pub decreases-operations::operated_on_two : goal.decreases-operations::operated_on_two
decreases-operations::operated_on_two l = 8 * l.levels + 1

abbrev pub decreases-operations::operated_on_others : goal.decreases-operations::operated_on_others
decreases-operations::operated_on_others l = 8 * l.levels + 2

abbrev pub decreases-operations::connected : goal.decreases-operations::connected
decreases-operations::connected l = 8 * l.levels + 1

abbrev pub decreases-evaluating::chosen : goal.decreases-evaluating::chosen
decreases-evaluating::chosen l = 8 * l.levels + 1

abbrev pub decreases-evaluating::bound : goal.decreases-evaluating::bound
decreases-evaluating::bound l = 8 * l.levels + 1

abbrev pub decreases-evaluating::opened : goal.decreases-evaluating::opened
decreases-evaluating::opened l = 8 * l.levels + 1

abbrev pub decreases-evaluating::recursed : goal.decreases-evaluating::recursed
decreases-evaluating::recursed l = 8 * l.levels + 1

abbrev pub decreases-evaluating::body_of : goal.decreases-evaluating::body_of
decreases-evaluating::body_of l = 8 * l.levels + 2

abbrev pub decreases-evaluating::called : goal.decreases-evaluating::called
decreases-evaluating::called l = 8 * l.levels + 3

abbrev pub decreases-evaluating::call_of : goal.decreases-evaluating::call_of
decreases-evaluating::call_of l = 8 * l.levels + 4

abbrev pub decreases-evaluating::constructed : goal.decreases-evaluating::constructed
decreases-evaluating::constructed l = 8 * l.levels + 2

abbrev pub decreases-evaluating::put_of : goal.decreases-evaluating::put_of
decreases-evaluating::put_of l = 8 * l.levels + 2

abbrev pub decreases-operations::operated : goal.decreases-operations::operated
decreases-operations::operated l = 8 * l.levels + 3

abbrev pub decreases-evaluating::value_at : goal.decreases-evaluating::value_at
decreases-evaluating::value_at l = 8 * l.levels + 7
