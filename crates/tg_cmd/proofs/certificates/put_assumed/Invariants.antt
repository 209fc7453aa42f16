use Rattle.std.proofs.Common.{◌≡◌, take}
use Rattle.tg_render.specs.Render.{written_lines}
use Rattle.tg_cmd.specs.CheckedLines.{assumed_lines}
use Rattle.tg_cmd.proofs.certificates.put_assumed.Given as goal

-- those so far
abbrev pub invariant-loop-f : goal.invariant-loop-f
invariant-loop-f l = l.out.items ≡ written_lines l.fn.out.items (assumed_lines l.th (take l.f-index l.formulas))
