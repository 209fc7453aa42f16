use Rattle.std.proofs.Common.{◌≡◌, take}
use Rattle.tg_model.specs.Tree.{trees}
use Rattle.tg_term.specs.Parts.{plain, IsWalked}
use Rattle.tg_term.proofs.WalkLaws.{walked}
use Rattle.tg_term.proofs.walking.walk_list.Given as goal

abbrev pub invariant-loop-at : goal.invariant-loop-at
invariant-loop-at g l = record {
  walked : IsWalked (walked (g.R.Replace.on_bound l.initial.r) (g.R.Replace.on_free l.initial.r) l.depth) (plain (trees (take l.at l.ts))) l.out.items;
  kept : l.r ≡ l.initial.r;
}
