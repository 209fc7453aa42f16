use Rattle.std.proofs.Common.{◌≡◌, take}
use Rattle.tg_term.specs.Measures.{height}
use Rattle.tg_term.specs.Parts.{parts, IsWalked}
use Rattle.tg_term.specs.View.{tree}
use Rattle.tg_term.proofs.WalkLaws.{walked}
use Rattle.tg_term.proofs.walking.+walk_at.Given as goal

abbrev pub decreases-walk_at : goal.decreases-walk_at
decreases-walk_at g l = height l.t.now

abbrev pub invariant-loop-at : goal.invariant-loop-at
invariant-loop-at g l = record {
  walked : IsWalked (walked (g.R.Replace.on_bound l.initial.r) (g.R.Replace.on_free l.initial.r) l.depth) (take l.at (parts (tree l.node))) l.terms.items;
  kept : l.r ≡ l.initial.r;
}
