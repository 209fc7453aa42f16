use Rattle.std.proofs.Common.{refl, ap, ◌∙◌, subst}
use Rattle.tg_cert.specs.declared.errors.CertErr.{CertErr}
use Rattle.tg_cert.specs.Code.{Refuses}
use Rattle.tg_kernel.specs.Sequents.{sequent}
use Rattle.tg_cmd.specs.declared.answer.Refusal.TheVariants.{Certificate}
use Rattle.tg_cmd.specs.declared.output.Output as code
use Rattle.tg_cmd.specs.Answers.{answer_after}
use Rattle.tg_cmd.specs.Causes.{IsRefusal}
use Rattle.tg_cmd.specs.CheckedLines.{checked_text}
use Rattle.tg_cmd.specs.Output.{OfCertificate, proves, fails}
use Rattle.tg_cmd.proofs.Outputs.{mapped_ok}
use Rattle.tg_cmd.proofs.certificates.checked_theory.Goals as goal

pub returns-in_ok-checked_text-in-Ok : goal.returns-in_ok-checked_text-in-Ok
returns-in_ok-checked_text-in-Ok c =
    let s = sequent c.in-Ok.sequent in
    proves s c.in-Ok.ensures.proves (record {
      answers = refl;
      says = c.in_ok-checked_text-in-Ok.ensures ∙ ap (λ n. checked_text c.args.th.now n s) c.len.ensures;
    })

pub returns-in-Err-Step : goal.returns-in-Err-Step
returns-in-Err-Step c =
    let th = c.args.th.now in
    let rs = c.args.raw.now.lines in
    let line = c.in-Err-Step.line in
    mapped_ok (λ (o : code.Output). IsRefusal (Certificate line) (answer_after o.ending) o.text.items)
    (λ (o : code.Output). OfCertificate th rs (answer_after o.ending) o.text.items) c.refused.result
    (λ o h. fails line (subst (λ (e : CertErr). Refuses th rs e) c.in-Err-Step.field-0-is c.in-Err-Step.ensures.refused) h) c.refused.ensures
