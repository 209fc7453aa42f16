use Rattle.std.proofs.Common.{length}
use Rattle.tg_lex.proofs.Runs.{texts}
use Rattle.tg_grammar.specs.Parts.{Judge}
use Rattle.tg_infer.proofs.TextNames.{texts_are_named}
use Rattle.tg_cmd.specs.declared.output.Output as code
use Rattle.tg_cmd.specs.Answers.{answer_after}
use Rattle.tg_cmd.specs.Causes.{OfInput}
use Rattle.tg_cmd.specs.Ends.{IsFaultLine}
use Rattle.tg_cmd.specs.Output.{Judged}
use Rattle.tg_cmd.proofs.Outputs.{mapped_ok, text_output, fault_output}
use Rattle.tg_cmd.proofs.output.of_outcomes.Goals as goal

pub parse_judge-requires : goal.parse_judge-requires
parse_judge-requires c = texts c.args.bytes.now c.args.tokens.now (length c.args.bytes.now) c.requires

pub judged-requires : goal.judged-requires
judged-requires c =
    texts_are_named.judged c.args.bytes.now c.args.tokens.now (c.in-Ok.theory, c.in-Ok.outcomes)
    (texts c.args.bytes.now c.args.tokens.now (length c.args.bytes.now) c.requires) c.in-Ok.ensures.reading.1

pub returns-in-Ok : goal.returns-in-Ok
returns-in-Ok c =
    let bytes = c.args.bytes.now in
    let Of = Judged c.args.settings.now in
    λ short. mapped_ok (λ (o : code.Output). Of (c.in-Ok.theory, c.in-Ok.outcomes) (answer_after o.ending) o.text.items)
    (λ (o : code.Output). OfInput Judge Of bytes (answer_after o.ending) o.text.items) c.judged.result
    (λ o h. text_output Judge Of bytes c.args.tokens.now c.requires short (c.in-Ok.theory, c.in-Ok.outcomes) (answer_after o.ending) o.text.items
    c.in-Ok.ensures.reading h) c.judged.ensures

pub returns-in-Err : goal.returns-in-Err
returns-in-Err c =
    let bytes = c.args.bytes.now in
    let error = c.in-Err.error in
    let Of = Judged c.args.settings.now in
    λ short. mapped_ok (λ (o : code.Output). IsFaultLine error (answer_after o.ending) o.text.items)
    (λ (o : code.Output). OfInput Judge Of bytes (answer_after o.ending) o.text.items) c.without_text.result
    (λ o h. fault_output Judge Of bytes c.args.tokens.now c.requires short error (answer_after o.ending) o.text.items c.in-Err.ensures.reading h) c.without_text.ensures
