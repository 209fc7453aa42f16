use Rattle.std.proofs.Common.{List, map, sym, subst}
use Rattle.tg_hyps.specs.Hypotheses.{seen}
use Rattle.tg_derive.specs.Classes.{AreClasses}
use Rattle.tg_term.specs.declared.classes.Class.{Class}
use Rattle.tg_cmd.specs.declared.output.Output as code
use Rattle.tg_cmd.specs.Answers.{answer_after}
use Rattle.tg_cmd.specs.Ends.{IsPassedLine}
use Rattle.tg_cmd.specs.Output.{OfClasses, classes, OfOutcomes}
use Rattle.tg_cmd.proofs.Outputs.{mapped_ok, passed_by}
use Rattle.tg_cmd.proofs.output.judged_theory.Goals as goal

pub judged_classes-requires : goal.judged_classes-requires
judged_classes-requires c =
    subst (λ (cs : List Class). AreClasses c.args.theory.now c.args.settings.now.depth (map seen cs)) (sym c.as_slice.ensures.value) c.in-Ok.ensures.classes

pub returns-in-Ok : goal.returns-in-Ok
returns-in-Ok c =
    let s = c.args.settings.now in
    let th = c.args.theory.now in
    let raw = c.args.outcomes.now in
    let cs = map seen c.as_slice.result.now in
    let are = subst (λ (cs : List Class). AreClasses th s.depth (map seen cs)) (sym c.as_slice.ensures.value) c.in-Ok.ensures.classes in
    mapped_ok (λ (o : code.Output). OfOutcomes s raw th cs (answer_after o.ending) o.text.items)
    (λ (o : code.Output). OfClasses (OfOutcomes s raw th) s.depth th (answer_after o.ending) o.text.items) c.judged_classes.result
    (λ o h. classes cs are h) c.judged_classes.ensures

pub returns-in-Err : goal.returns-in-Err
returns-in-Err c =
    let s = c.args.settings.now in
    let th = c.args.theory.now in
    let raw = c.args.outcomes.now in
    mapped_ok (λ (o : code.Output). IsPassedLine c.in-Err.error (answer_after o.ending) o.text.items)
    (λ (o : code.Output). OfClasses (OfOutcomes s raw th) s.depth th (answer_after o.ending) o.text.items) c.without_classes.result
    (λ o h. passed_by (OfOutcomes s raw th) s.depth th c.in-Err.error (answer_after o.ending) o.text.items c.in-Err.ensures.limit h) c.without_classes.ensures
