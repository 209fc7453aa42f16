use Rattle.std.proofs.Common.{◌≡◌, ◌++◌, map, take}
use Rattle.tg_term.specs.Parts.{parts, term_of}
use Rattle.tg_term.specs.View.{tree}
use Rattle.tg_term.proofs.parts.share_parts.Given as goal

abbrev pub invariant-loop-at : goal.invariant-loop-at
invariant-loop-at l = l.terms.items ≡ l.fn.terms.items ++ map term_of (take l.at (parts (tree l.node)))
