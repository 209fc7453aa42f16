use Rattle.std.proofs.Common.{◌≡◌, drop}
use Rattle.tg_render.specs.Render.{written}
use Rattle.tg_cmd.proofs.CheckedLaws.{types_behind}
use Rattle.tg_cmd.proofs.certificates.put_more.Given as goal

-- with what is left it is the whole
abbrev pub invariant-loop-t : goal.invariant-loop-t
invariant-loop-t l = written l.out.items (types_behind l.th (drop l.t-index l.types)) ≡ written l.fn.out.items (types_behind l.th l.types)
