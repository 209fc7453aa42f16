use Rattle.tg_model.specs.Theory.{Theory}
use Rattle.tg_cmd.specs.declared.output.Output as code
use Rattle.tg_cmd.specs.Answers.{answer_after}
use Rattle.tg_cmd.specs.Causes.{accepted}
use Rattle.tg_cmd.specs.Ends.{IsTheoryLine}
use Rattle.tg_cmd.specs.Output.{OfCertificate, Checked}
use Rattle.tg_cmd.proofs.Outputs.{mapped_ok, unaccepted}
use Rattle.tg_cmd.proofs.output.checked.Goals as goal

pub returns-in-Ok : goal.returns-in-Ok
returns-in-Ok c =
    let raw = c.args.certificate.now in
    let th = c.in-Ok.theory in
    mapped_ok (λ (o : code.Output). OfCertificate th raw.lines (answer_after o.ending) o.text.items)
    (λ (o : code.Output). Checked (c.args.read.now, raw) (answer_after o.ending) o.text.items) c.checked_theory.result
    (λ o h. accepted th c.in-Ok.ensures.accepted h) c.checked_theory.ensures

pub returns-in-Err : goal.returns-in-Err
returns-in-Err c =
    let raw = c.args.certificate.now in
    mapped_ok (λ (o : code.Output). IsTheoryLine c.in-Err.error (answer_after o.ending) o.text.items)
    (λ (o : code.Output). Checked (c.args.read.now, raw) (answer_after o.ending) o.text.items) c.unaccepted.result
    (λ o h. unaccepted (λ (th : Theory). OfCertificate th raw.lines) c.args.read.now c.in-Err.error (answer_after o.ending) o.text.items
    c.in-Err.ensures.refused h) c.unaccepted.ensures
