use Rattle.std.proofs.Common.{◌≡◌, ◌++◌, take}
use Rattle.tg_text.specs.Text.{text_of}
use Rattle.tg_text.proofs.put.Given as goal

abbrev pub invariant-loop-part : goal.invariant-loop-part
invariant-loop-part l = l.out.items ≡ l.fn.out.items ++ text_of (take l.part-index l.parts)
