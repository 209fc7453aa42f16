use Rattle.std.proofs.Common.{drop, sym, ap, ◌∙◌, subst}
use Rattle.std.proofs.lemmas.List.{take_rest}
use Rattle.tg_lex.specs.Grammar.{is_word}
use Rattle.tg_cmd.specs.Options.{ReadsOptions}
use Rattle.tg_cmd.proofs.Choices.{one_more}
use Rattle.tg_cmd.proofs.RequestLaws.{with_name, no_name, no_options}
use Rattle.tg_cmd.proofs.request.named.Goals as goal

pub returns-in_err-settings-in-len1-up : goal.returns-in_err-settings-in-len1-up
returns-in_err-settings-in-len1-up c =
    let words = c.args.words.now in
    let cut = one_more words c.name-item.result c.in-len1-up.len_at_least c.name-item.is in
    rw c.from_residual.ensures (no_options words (drop 1 words) c.name-item.result cut
    (λ s h. c.in_err-settings-in-len1-up.ensures s (subst (λ ws. ReadsOptions ws s) (sym (take_rest words 1)) h)))

pub returns-then-is_word : goal.returns-then-is_word
returns-then-is_word c =
    let words = c.args.words.now in
    let cut = one_more words c.name-item.result c.in-len1-up.len_at_least c.name-item.is in
    let s = c.in_ok-settings-in-len1-up.settings in
    with_name words (drop 1 words) c.name-item.result s cut (ap is_word (sym c.bytes.ensures) ∙ sym c.is_word.ensures ∙ c.if-is_word.true)
    (subst (λ ws. ReadsOptions ws s) (take_rest words 1) c.in_ok-settings-in-len1-up.ensures)

pub returns-else-is_word : goal.returns-else-is_word
returns-else-is_word c =
    let words = c.args.words.now in
    let cut = one_more words c.name-item.result c.in-len1-up.len_at_least c.name-item.is in
    no_name words (drop 1 words) c.name-item.result cut (ap is_word (sym c.bytes.ensures) ∙ sym c.is_word.ensures ∙ c.if-is_word.false)
