use Rattle.std.proofs.Common.{length}
use Rattle.tg_lex.proofs.Runs.{texts}
use Rattle.tg_grammar.specs.Parts.{Check}
use Rattle.tg_infer.proofs.TextNames.{texts_are_named}
use Rattle.tg_cmd.specs.declared.output.Output as code
use Rattle.tg_cmd.specs.Answers.{answer_after}
use Rattle.tg_cmd.specs.Causes.{OfInput}
use Rattle.tg_cmd.specs.Ends.{IsFaultLine}
use Rattle.tg_cmd.specs.Output.{Checked}
use Rattle.tg_cmd.proofs.Outputs.{mapped_ok, text_output, fault_output}
use Rattle.tg_cmd.proofs.output.of_certificate.Goals as goal

pub parse_check-requires : goal.parse_check-requires
parse_check-requires c = texts c.args.bytes.now c.args.tokens.now (length c.args.bytes.now) c.requires

pub checked-requires : goal.checked-requires
checked-requires c =
    texts_are_named.checked c.args.bytes.now c.args.tokens.now (c.in-Ok.theory, c.in-Ok.certificate)
    (texts c.args.bytes.now c.args.tokens.now (length c.args.bytes.now) c.requires) c.in-Ok.ensures.reading.1

pub returns-in-Ok : goal.returns-in-Ok
returns-in-Ok c =
    let bytes = c.args.bytes.now in
    λ short. mapped_ok (λ (o : code.Output). Checked (c.in-Ok.theory, c.in-Ok.certificate) (answer_after o.ending) o.text.items)
    (λ (o : code.Output). OfInput Check Checked bytes (answer_after o.ending) o.text.items) c.checked.result
    (λ o h. text_output Check Checked bytes c.args.tokens.now c.requires short (c.in-Ok.theory, c.in-Ok.certificate) (answer_after o.ending) o.text.items
    c.in-Ok.ensures.reading h) c.checked.ensures

pub returns-in-Err : goal.returns-in-Err
returns-in-Err c =
    let bytes = c.args.bytes.now in
    let error = c.in-Err.error in
    λ short. mapped_ok (λ (o : code.Output). IsFaultLine error (answer_after o.ending) o.text.items)
    (λ (o : code.Output). OfInput Check Checked bytes (answer_after o.ending) o.text.items) c.without_text.result
    (λ o h. fault_output Check Checked bytes c.args.tokens.now c.requires short error (answer_after o.ending) o.text.items c.in-Err.ensures.reading h) c.without_text.ensures
