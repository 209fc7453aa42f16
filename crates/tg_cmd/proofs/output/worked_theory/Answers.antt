use Rattle.std.proofs.Common.{List, map, subst}
use Rattle.tg_hyps.specs.Hypotheses.{seen}
use Rattle.tg_term.specs.declared.classes.Class.{Class}
use Rattle.tg_cmd.specs.declared.output.Output as code
use Rattle.tg_cmd.specs.Answers.{answer_after}
use Rattle.tg_cmd.specs.Ends.{IsPassedLine}
use Rattle.tg_cmd.specs.Output.{OfClasses, classes, Makes}
use Rattle.tg_cmd.proofs.Outputs.{mapped_ok, passed_by}
use Rattle.tg_cmd.proofs.output.worked_theory.Goals as goal

pub returns-in-Ok : goal.returns-in-Ok
returns-in-Ok c =
    let s = c.args.settings.now in
    let th = c.args.theory.now in
    let Of = Makes c.args.task.now s th in
    mapped_ok (λ (o : code.Output). Of (map seen c.as_slice.result.now) (answer_after o.ending) o.text.items)
    (λ (o : code.Output). OfClasses Of s.depth th (answer_after o.ending) o.text.items) c.make.result
    (λ o h. classes (map seen c.in-Ok.classes.items) c.in-Ok.ensures.classes
    (subst (λ (cs : List Class). Of (map seen cs) (answer_after o.ending) o.text.items) c.as_slice.ensures.value h)) c.make.ensures

pub returns-in-Err : goal.returns-in-Err
returns-in-Err c =
    let s = c.args.settings.now in
    let th = c.args.theory.now in
    let Of = Makes c.args.task.now s th in
    mapped_ok (λ (o : code.Output). IsPassedLine c.in-Err.error (answer_after o.ending) o.text.items)
    (λ (o : code.Output). OfClasses Of s.depth th (answer_after o.ending) o.text.items) c.without_classes.result
    (λ o h. passed_by Of s.depth th c.in-Err.error (answer_after o.ending) o.text.items c.in-Err.ensures.limit h) c.without_classes.ensures
