use Rattle.std.proofs.Common.{◌≡◌, ◌≤◌, [], ◌∷◌, drop, map}
use Rattle.tg_lex.specs.Load.{passes, load_of, load_limit, text_of}
use Rattle.tg_lex.proofs.load.is_nested.Given as goal

-- what the rest says is what the whole says
abbrev pub invariant-loop-token : goal.invariant-loop-token
invariant-loop-token l = record {
  below : load_of l.counters ≤ load_limit;
  so_far : passes load_limit l.counters (map (text_of l.bytes) (drop l.token-index l.tokens)) ≡ passes load_limit (0 ∷ []) (map (text_of l.bytes) l.tokens);
}
