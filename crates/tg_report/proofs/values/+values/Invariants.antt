use Rattle.std.proofs.Common.{◌≡◌, drop}
use Rattle.tg_term.specs.Values.{values}
use Rattle.tg_render.specs.Render.{written}
use Rattle.tg_render.specs.Tokens.{joined}
use Rattle.tg_report.specs.ValueTexts.{values_tokens}
use Rattle.tg_report.proofs.values.+values.Given as goal

-- with what is left it is the whole
abbrev pub invariant-put_values-loop-v : goal.invariant-put_values-loop-v
invariant-put_values-loop-v l =
    written l.out.items (joined (values_tokens l.th (values (drop l.v-index l.vs)))) ≡ written l.fn.out.items (joined (values_tokens l.th (values l.vs)))
