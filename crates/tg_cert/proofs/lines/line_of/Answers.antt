use Rattle.std.proofs.Common.{◌∙◌, Some, None, sym, ap}
use Rattle.std.specs.Prelude.{option_map}
use Rattle.tg_calculus.specs.Book.{sequents}
use Rattle.tg_kernel.specs.Rules.{as_rule}
use Rattle.tg_cert.specs.Arguments.{numbers_apart}
use Rattle.tg_cert.specs.Code.{arguments}
use Rattle.tg_cert.specs.Lines.{AreTypesOf}
use Rattle.tg_cert.proofs.LineLaws.{are_closed, types_given, arguments_given, no_arguments, no_rule_there, said_there}
use Rattle.tg_cert.proofs.lines.line_of.Goals as goal

pub context_at-requires : goal.context_at-requires
context_at-requires c =
    are_closed c.args.book.now.theory c.args.raw.now.vars c.in_ok-types-2.types
    (types_given c.theory.result.now _ c.as_slice.result.now _ c.in_ok-types.field-0 c.in-Some.types c.in_ok-types-2.types c.theory.ensures c.as_slice.ensures
    c.in-Some.is c.in_ok-types-2.ensures c.in_ok-types.ensures)

pub returns-in_default-3 : goal.returns-in_default-3
returns-in_default-3 c =
    let th = c.args.book.now.theory in
    let raw = c.args.raw.now in
    let types = c.in_ok-types-2.types in
    let given : AreTypesOf th raw.vars types =
    types_given c.theory.result.now _ c.as_slice.result.now _ c.in_ok-types.field-0 c.in-Some.types types c.theory.ensures c.as_slice.ensures c.in-Some.is
    c.in_ok-types-2.ensures c.in_ok-types.ensures in
    let number = c.numbers_apart-number.ensures.number ∙ ap (λ ns. (numbers_apart raw.rule ns).0) c.as_slice-2.ensures in
    let premises = c.numbers_apart-number.ensures.premises ∙ ap (λ ns. (numbers_apart raw.rule ns).1) c.as_slice-2.ensures in
    let there = sym c.in-Some-2.is ∙ c.in_ok-context.ensures.is in
    no_arguments th (sequents c.args.book.now.entries) raw types given c.numbers_apart-number.result.0 c.numbers_apart-number.result.1.now number premises
    c.in-Some-2.context there
    (arguments_given c.theory-2.result.now th c.in-Some-2.context raw c.in_ok-given.field-0 None c.theory-2.ensures c.in_default-3.is c.in_ok-given.ensures)

pub returns-in_default-4 : goal.returns-in_default-4
returns-in_default-4 c =
    let th = c.args.book.now.theory in
    let raw = c.args.raw.now in
    let types = c.in_ok-types-2.types in
    let given : AreTypesOf th raw.vars types =
    types_given c.theory.result.now _ c.as_slice.result.now _ c.in_ok-types.field-0 c.in-Some.types types c.theory.ensures c.as_slice.ensures c.in-Some.is
    c.in_ok-types-2.ensures c.in_ok-types.ensures in
    let number = c.numbers_apart-number.ensures.number ∙ ap (λ ns. (numbers_apart raw.rule ns).0) c.as_slice-2.ensures in
    let premises = c.numbers_apart-number.ensures.premises ∙ ap (λ ns. (numbers_apart raw.rule ns).1) c.as_slice-2.ensures in
    let there = sym c.in-Some-2.is ∙ c.in_ok-context.ensures.is in
    let stand = arguments_given c.theory-2.result.now th c.in-Some-2.context raw c.in_ok-given.field-0 (Some c.in-Some-3.given) c.theory-2.ensures c.in-Some-3.is
    c.in_ok-given.ensures in
    no_rule_there th (sequents c.args.book.now.entries) raw types given c.numbers_apart-number.result.0 c.numbers_apart-number.result.1.now number premises
    c.in-Some-2.context there (arguments c.in-Some-3.given) stand (ap (option_map as_rule) (sym c.in_default-4.is) ∙ c.in_ok-rule.ensures)

pub returns : goal.returns
returns c =
    let th = c.args.book.now.theory in
    let raw = c.args.raw.now in
    let types = c.in_ok-types-2.types in
    let given : AreTypesOf th raw.vars types =
    types_given c.theory.result.now _ c.as_slice.result.now _ c.in_ok-types.field-0 c.in-Some.types types c.theory.ensures c.as_slice.ensures c.in-Some.is
    c.in_ok-types-2.ensures c.in_ok-types.ensures in
    let number = c.numbers_apart-number.ensures.number ∙ ap (λ ns. (numbers_apart raw.rule ns).0) c.as_slice-2.ensures in
    let premises = c.numbers_apart-number.ensures.premises ∙ ap (λ ns. (numbers_apart raw.rule ns).1) c.as_slice-2.ensures in
    let there = sym c.in-Some-2.is ∙ c.in_ok-context.ensures.is in
    let stand = arguments_given c.theory-2.result.now th c.in-Some-2.context raw c.in_ok-given.field-0 (Some c.in-Some-3.given) c.theory-2.ensures c.in-Some-3.is
    c.in_ok-given.ensures in
    said_there th (sequents c.args.book.now.entries) raw types given c.numbers_apart-number.result.0 c.numbers_apart-number.result.1.now number premises
    c.in-Some-2.context there (arguments c.in-Some-3.given) stand (as_rule c.in-Some-4.rule)
    (ap (option_map as_rule) (sym c.in-Some-4.is) ∙ c.in_ok-rule.ensures) _ (λ i. record { rule = as_rule c.in-Some-4.rule; premises = c.in_ok-premises.ensures i })
