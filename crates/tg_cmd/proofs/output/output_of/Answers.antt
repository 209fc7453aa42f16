use Rattle.tg_cmd.specs.declared.output.Output as code
use Rattle.tg_cmd.specs.Answers.{answer_after}
use Rattle.tg_cmd.specs.Ends.{HasTokenLine}
use Rattle.tg_cmd.specs.Output.{IsOutput}
use Rattle.tg_cmd.specs.Requests.{asked}
use Rattle.tg_cmd.proofs.Outputs.{mapped_ok, token_output}
use Rattle.tg_cmd.proofs.output.output_of.Goals as goal

pub returns-in-Err : goal.returns-in-Err
returns-in-Err c =
    let r = asked c.args.request.now in
    let bytes = c.args.bytes.now in
    λ short. mapped_ok (λ (o : code.Output). HasTokenLine bytes (answer_after o.ending) o.text.items)
    (λ (o : code.Output). IsOutput r bytes (answer_after o.ending) o.text.items) c.without_tokens.result
    (λ o h. token_output bytes r (answer_after o.ending) o.text.items short h) c.without_tokens.ensures
