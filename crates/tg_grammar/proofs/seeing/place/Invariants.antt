use Rattle.std.proofs.Common.{◌≡◌, ◌+◌, ◌≤◌, drop}
use Rattle.tg_grammar.specs.Seen.{declarations, seen}
use Rattle.tg_grammar.proofs.seeing.place.Given as goal

abbrev pub invariant-loop-token : goal.invariant-loop-token
invariant-loop-token l = record {
  below : l.count ≤ l.token-index;
  so_far : l.count + declarations (seen l.bytes (drop l.token-index l.tokens)) ≡ declarations (seen l.bytes l.tokens);
}
