use Rattle.std.proofs.Common.{Option, subst}
use Rattle.std.specs.Prelude.{option_map}
use Rattle.tg_accept.specs.Standing.{IsAnswer}
use Rattle.tg_calculus.specs.Book.{sequents}
use Rattle.tg_kernel.specs.Entries.{Refuses}
use Rattle.tg_kernel.specs.Rules.{as_line}
use Rattle.tg_kernel.specs.declared.errors.StepErr.{StepErr}
use Rattle.tg_kernel.specs.declared.rules.RuleLine.{RuleLine}
use Rattle.tg_cert.specs.Lines.{Says}
use Rattle.tg_cert.proofs.CheckLaws.{says_none, no_instance}
use Rattle.tg_cert.proofs.checking.takes.Goals as goal

pub returns-in_default : goal.returns-in_default
returns-in_default c =
    let b = c.args.book.now in
    says_none b c.args.raw.now
    (subst (λ (o : Option RuleLine). IsAnswer (Says b.theory (sequents b.entries) c.args.raw.now) (option_map as_line o)) c.in_default.is c.in_ok-line.ensures)

pub returns-in-Err-Bad : goal.returns-in-Err-Bad
returns-in-Err-Bad c =
    let b = c.args.book.now in
    let l = as_line c.in-Some.line in
    let said = subst (λ (o : Option RuleLine). IsAnswer (Says b.theory (sequents b.entries) c.args.raw.now) (option_map as_line o)) c.in-Some.is c.in_ok-line.ensures in
    let refused = subst (λ (x : StepErr). Refuses b l x) c.in-Err-Bad.field-0-is c.in-Err-Bad.ensures.err in
    no_instance b c.args.raw.now l said c.try_step.new.self c.in-Err-Bad.ensures.kept refused.1
