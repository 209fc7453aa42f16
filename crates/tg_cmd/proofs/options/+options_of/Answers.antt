use Rattle.std.proofs.Common.{◌≡◌, ◌-◌, List, drop, take, length, subst, MatchOption}
use Rattle.std.proofs.lemmas.List.{take_rest}
use Rattle.tg_cmd.specs.Options.{Choice, Spell, all_chosen}
use Rattle.tg_cmd.proofs.Choices.{two_words, one_word, no_choice, given_twice, with_choice}
use Rattle.tg_cmd.proofs.options.+options_of.Goals as goal

pub returns-in_err-setting-in-len2-up : goal.returns-in_err-setting-in-len2-up
returns-in_err-setting-in-len2-up n c =
    let words = c.args.words.now in
    let cut = two_words words c.option-item.result c.number-item.result c.in-len2-up.len_at_least c.option-item.is c.number-item.is in
    rw c.from_residual.ensures (no_choice words c.option-item.result c.number-item.result (drop 2 words) cut c.args.given c.in_err-setting-in-len2-up.ensures)

pub returns-in_err-add-in-len2-up : goal.returns-in_err-add-in-len2-up
returns-in_err-add-in-len2-up n c =
    let words = c.args.words.now in
    let cut = two_words words c.option-item.result c.number-item.result c.in-len2-up.len_at_least c.option-item.is c.number-item.is in
    let read = c.in_ok-setting-in-len2-up in
    rw c.from_residual-in_err-add-in-len2-up.ensures
    (given_twice words c.option-item.result c.number-item.result (drop 2 words) cut c.args.given read.setting read.number read.ensures c.in_err-add-in-len2-up.ensures)

pub returns-in-len1 : goal.returns-in-len1
returns-in-len1 n c = one_word c.args.words.now c.args.given c.in-len1.len_at_least c.in-len1.len_below

pub returns-in_ok-add-in-len2-up : goal.returns-in_ok-add-in-len2-up
returns-in_ok-add-in-len2-up n c =
    let words = c.args.words.now in
    let cut = two_words words c.option-item.result c.number-item.result c.in-len2-up.len_at_least c.option-item.is c.number-item.is in
    let read = c.in_ok-setting-in-len2-up in
    let added = c.in_ok-add-in-len2-up.ensures in
    let later : MatchOption c.options_of.result ((cs : List Choice) → Spell (take (length words - 2) (drop 2 words)) c.in_ok-add-in-len2-up.field-0 cs → ⊥)
    (λ r. (cs : List Choice) × Spell (take (length words - 2) (drop 2 words)) c.in_ok-add-in-len2-up.field-0 cs × (r ≡ all_chosen c.in_ok-add-in-len2-up.field-0 cs)) = c.options_of.ensures in
    with_choice words c.option-item.result c.number-item.result (drop 2 words) cut c.args.given read.setting read.number read.ensures added.0 c.options_of.result
    (subst (λ g. MatchOption c.options_of.result ((cs : List Choice) → Spell (drop 2 words) g cs → ⊥) (λ r. (cs : List Choice) × Spell (drop 2 words) g cs × (r ≡ all_chosen g cs))) added.1
    (subst (λ ws. MatchOption c.options_of.result ((cs : List Choice) → Spell ws c.in_ok-add-in-len2-up.field-0 cs → ⊥) (λ r. (cs : List Choice) × Spell ws c.in_ok-add-in-len2-up.field-0 cs × (r ≡ all_chosen c.in_ok-add-in-len2-up.field-0 cs)))
    (take_rest words 2) later))
