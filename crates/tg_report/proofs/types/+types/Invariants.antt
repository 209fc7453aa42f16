use Rattle.std.proofs.Common.{◌≡◌, drop}
use Rattle.tg_types.specs.Types.{types}
use Rattle.tg_render.specs.Render.{written}
use Rattle.tg_render.specs.Tokens.{continued}
use Rattle.tg_report.specs.Words.{comma}
use Rattle.tg_report.specs.TypeTexts.{tys_tokens}
use Rattle.tg_report.proofs.types.+types.Given as goal

-- with what is left it is the whole
abbrev pub invariant-put_more-loop-at : goal.invariant-put_more-loop-at
invariant-put_more-loop-at l =
    written l.out.items (continued comma (tys_tokens l.th (types (drop l.at l.ts))))
    ≡ written l.fn.out.items (continued comma (tys_tokens l.th (types (drop 1 l.ts))))
