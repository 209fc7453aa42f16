use Rattle.std.proofs.Common.{◌-◌, length, take, sym, ap, ◌∙◌}
use Rattle.std.proofs.lemmas.List.{take-map}
use Rattle.tg_grammar.specs.Seen.{seen, seen_token, declarations}
use Rattle.tg_grammar.specs.Words.{version_one}
use Rattle.tg_syntax.specs.declared.parsing.FormErr.TheVariants.{Form}
use Rattle.tg_syntax.proofs.parsing.fault_before.Goals as goal

pub returns : goal.returns
returns c =
    let bytes = c.args.bytes.now in
    let tokens = c.args.tokens.now in
    ap Form (c.place.ensures ∙ ap (λ k. declarations (seen bytes (take k tokens))) c.saturating_sub.ensures
    ∙ ap declarations (sym (take-map (seen_token version_one bytes) (length tokens - c.args.left) tokens)))
