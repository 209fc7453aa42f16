use Rattle.std.proofs.Common.{◌≡◌, ◌++◌, drop, map}
use Rattle.tg_term.specs.Values.{value}
use Rattle.tg_harness.specs.HarnessTexts.{words}
use Rattle.tg_harness.proofs.writing.put_words.Given as goal

-- with what is left it is the whole
abbrev pub invariant-loop-v : goal.invariant-loop-v
invariant-loop-v l = l.out.items ++ words l.th (map value (drop l.v-index l.vs)) ≡ l.fn.out.items ++ words l.th (map value l.vs)
