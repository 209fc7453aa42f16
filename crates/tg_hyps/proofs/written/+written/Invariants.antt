use Rattle.std.proofs.Common.{◌≡◌, take, map}
use Rattle.tg_term.specs.Values.{value}
use Rattle.tg_hyps.specs.Written.{term_of}
use Rattle.tg_hyps.proofs.written.+written.Given as goal

abbrev pub invariant-terms_of-loop-v : goal.invariant-terms_of-loop-v
invariant-terms_of-loop-v l = l.terms ≡ map term_of (map value (take l.v-index l.vs))
