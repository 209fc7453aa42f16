use Rattle.std.proofs.Common.{◌≡◌, ◌-◌, ◌≤◌, length, drop, false}
use Rattle.tg_lex.specs.Grammar.{after_open, after_comment}
use Rattle.tg_lex.proofs.comment.comment_len.Given as goal

-- what the rest says is what the whole says
abbrev pub invariant-loop-at : goal.invariant-loop-at
invariant-loop-at l = record {
  within : l.at ≤ length l.bytes;
  inside : 1 ≤ l.depth;
  small : l.depth ≤ l.at;
  so_far : after_open false l.depth (drop l.at l.bytes) ≡ after_comment l.bytes;
}

abbrev pub decreases-loop-at : goal.decreases-loop-at
decreases-loop-at l = length l.bytes - l.at
