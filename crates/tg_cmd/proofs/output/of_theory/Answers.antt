use Rattle.std.proofs.Common.{length}
use Rattle.tg_lex.proofs.Runs.{texts}
use Rattle.tg_grammar.specs.Parts.{Theory}
use Rattle.tg_infer.proofs.TextNames.{texts_are_named}
use Rattle.tg_cmd.specs.declared.output.Output as code
use Rattle.tg_cmd.specs.Answers.{answer_after}
use Rattle.tg_cmd.specs.Causes.{OfInput}
use Rattle.tg_cmd.specs.Ends.{IsFaultLine}
use Rattle.tg_cmd.specs.Output.{OfTheory, Makes}
use Rattle.tg_cmd.proofs.Outputs.{mapped_ok, text_output, fault_output}
use Rattle.tg_cmd.proofs.output.of_theory.Goals as goal

pub parse_theory-requires : goal.parse_theory-requires
parse_theory-requires c = texts c.args.bytes.now c.args.tokens.now (length c.args.bytes.now) c.requires

pub worked-requires : goal.worked-requires
worked-requires c =
    texts_are_named.alone c.args.bytes.now c.args.tokens.now c.in-Ok.theory (texts c.args.bytes.now c.args.tokens.now (length c.args.bytes.now) c.requires) c.in-Ok.ensures.reading.1

pub returns-in-Ok : goal.returns-in-Ok
returns-in-Ok c =
    let bytes = c.args.bytes.now in
    let Of = OfTheory (Makes c.args.task.now) c.args.settings.now in
    λ short. mapped_ok (λ (o : code.Output). Of c.in-Ok.theory (answer_after o.ending) o.text.items)
    (λ (o : code.Output). OfInput Theory Of bytes (answer_after o.ending) o.text.items) c.worked.result
    (λ o h. text_output Theory Of bytes c.args.tokens.now c.requires short c.in-Ok.theory (answer_after o.ending) o.text.items c.in-Ok.ensures.reading h) c.worked.ensures

pub returns-in-Err : goal.returns-in-Err
returns-in-Err c =
    let bytes = c.args.bytes.now in
    let error = c.in-Err.error in
    let Of = OfTheory (Makes c.args.task.now) c.args.settings.now in
    λ short. mapped_ok (λ (o : code.Output). IsFaultLine error (answer_after o.ending) o.text.items)
    (λ (o : code.Output). OfInput Theory Of bytes (answer_after o.ending) o.text.items) c.without_text.result
    (λ o h. fault_output Theory Of bytes c.args.tokens.now c.requires short error (answer_after o.ending) o.text.items c.in-Err.ensures.reading h) c.without_text.ensures
