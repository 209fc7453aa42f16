use Rattle.std.proofs.Common.{drop, sym, ◌∙◌, ap, subst}
use Rattle.std.proofs.lemmas.List.{take_rest}
use Rattle.tg_cmd.specs.Options.{ReadsOptions}
use Rattle.tg_cmd.specs.Requests.{generate, harness, judge, simulate, command_word, NamesWith}
use Rattle.tg_cmd.specs.declared.request.Command.TheVariants.{Generate, Harness, Judge, Simulate}
use Rattle.tg_cmd.proofs.Choices.{one_more}
use Rattle.tg_cmd.proofs.RequestLaws.{asks, no_command, nothing_behind}
use Rattle.tg_cmd.proofs.request.request_of.Goals as goal

pub returns-in_err-command_of-in-len1-up : goal.returns-in_err-command_of-in-len1-up
returns-in_err-command_of-in-len1-up c =
    let words = c.args.words.now in
    let cut = one_more words c.command-item.result c.in-len1-up.len_at_least c.command-item.is in
    rw c.from_residual.ensures (no_command words (drop 1 words) c.command-item.result cut c.in_err-command_of-in-len1-up.ensures)

pub returns-in_err-settings_of-in-Generate : goal.returns-in_err-settings_of-in-Generate
returns-in_err-settings_of-in-Generate c =
    let words = c.args.words.now in
    let cut = one_more words c.command-item.result c.in-len1-up.len_at_least c.command-item.is in
    let word = c.in_ok-command_of-in-len1-up.ensures ∙ ap command_word c.in-Generate.is in
    rw c.from_residual-in_err-settings_of-in-Generate.ensures (nothing_behind words (drop 1 words) c.command-item.result Generate cut word
    (λ h. c.in_err-settings_of-in-Generate.ensures h.0 (subst (λ ws. ReadsOptions ws h.0) (sym (take_rest words 1)) h.1)))

pub returns-in_err-settings_of-in-Harness : goal.returns-in_err-settings_of-in-Harness
returns-in_err-settings_of-in-Harness c =
    let words = c.args.words.now in
    let cut = one_more words c.command-item.result c.in-len1-up.len_at_least c.command-item.is in
    let word = c.in_ok-command_of-in-len1-up.ensures ∙ ap command_word c.in-Harness.is in
    rw c.from_residual-in_err-settings_of-in-Harness.ensures (nothing_behind words (drop 1 words) c.command-item.result Harness cut word
    (λ h. c.in_err-settings_of-in-Harness.ensures h.0 (subst (λ ws. ReadsOptions ws h.0) (sym (take_rest words 1)) h.1)))

pub returns-in_err-settings_of-in-Judge : goal.returns-in_err-settings_of-in-Judge
returns-in_err-settings_of-in-Judge c =
    let words = c.args.words.now in
    let cut = one_more words c.command-item.result c.in-len1-up.len_at_least c.command-item.is in
    let word = c.in_ok-command_of-in-len1-up.ensures ∙ ap command_word c.in-Judge.is in
    rw c.from_residual-in_err-settings_of-in-Judge.ensures (nothing_behind words (drop 1 words) c.command-item.result Judge cut word
    (λ h. c.in_err-settings_of-in-Judge.ensures h.0 (subst (λ ws. ReadsOptions ws h.0) (sym (take_rest words 1)) h.1)))

pub returns-in_err-name-in-Simulate : goal.returns-in_err-name-in-Simulate
returns-in_err-name-in-Simulate c =
    let words = c.args.words.now in
    let cut = one_more words c.command-item.result c.in-len1-up.len_at_least c.command-item.is in
    let word = c.in_ok-command_of-in-len1-up.ensures ∙ ap command_word c.in-Simulate.is in
    rw c.from_residual-in_err-name-in-Simulate.ensures (nothing_behind words (drop 1 words) c.command-item.result Simulate cut word
    (λ h. c.in_err-name-in-Simulate.ensures h.0 h.1 (subst (λ ws. NamesWith ws h.0 h.1) (sym (take_rest words 1)) h.2)))

pub returns-in_ok-settings_of-in-Generate : goal.returns-in_ok-settings_of-in-Generate
returns-in_ok-settings_of-in-Generate c =
    let words = c.args.words.now in
    let s = c.in_ok-settings_of-in-Generate.field-0 in
    let cut = one_more words c.command-item.result c.in-len1-up.len_at_least c.command-item.is in
    let word = c.in_ok-command_of-in-len1-up.ensures ∙ ap command_word c.in-Generate.is in
    asks words (drop 1 words) c.command-item.result (generate s) cut word (subst (λ ws. ReadsOptions ws s) (take_rest words 1) c.in_ok-settings_of-in-Generate.ensures)

pub returns-in_ok-settings_of-in-Harness : goal.returns-in_ok-settings_of-in-Harness
returns-in_ok-settings_of-in-Harness c =
    let words = c.args.words.now in
    let s = c.in_ok-settings_of-in-Harness.field-0 in
    let cut = one_more words c.command-item.result c.in-len1-up.len_at_least c.command-item.is in
    let word = c.in_ok-command_of-in-len1-up.ensures ∙ ap command_word c.in-Harness.is in
    asks words (drop 1 words) c.command-item.result (harness s) cut word (subst (λ ws. ReadsOptions ws s) (take_rest words 1) c.in_ok-settings_of-in-Harness.ensures)

pub returns-in_ok-settings_of-in-Judge : goal.returns-in_ok-settings_of-in-Judge
returns-in_ok-settings_of-in-Judge c =
    let words = c.args.words.now in
    let s = c.in_ok-settings_of-in-Judge.field-0 in
    let cut = one_more words c.command-item.result c.in-len1-up.len_at_least c.command-item.is in
    let word = c.in_ok-command_of-in-len1-up.ensures ∙ ap command_word c.in-Judge.is in
    asks words (drop 1 words) c.command-item.result (judge s) cut word (subst (λ ws. ReadsOptions ws s) (take_rest words 1) c.in_ok-settings_of-in-Judge.ensures)

pub returns-in_ok-name-in-Simulate : goal.returns-in_ok-name-in-Simulate
returns-in_ok-name-in-Simulate c =
    let words = c.args.words.now in
    let name = c.in_ok-name-in-Simulate.name.now in
    let s = c.in_ok-name-in-Simulate.settings in
    let cut = one_more words c.command-item.result c.in-len1-up.len_at_least c.command-item.is in
    let word = c.in_ok-command_of-in-len1-up.ensures ∙ ap command_word c.in-Simulate.is in
    asks words (drop 1 words) c.command-item.result (simulate name s) cut word (subst (λ ws. NamesWith ws name s) (take_rest words 1) c.in_ok-name-in-Simulate.ensures)
