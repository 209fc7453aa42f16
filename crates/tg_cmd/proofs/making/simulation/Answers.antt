use Rattle.std.proofs.Common.{refl, map}
use Rattle.tg_hyps.specs.Hypotheses.{seen}
use Rattle.tg_cmd.specs.declared.answer.Refusal.TheVariants as refusals
use Rattle.tg_cmd.specs.declared.output.Output as code
use Rattle.tg_cmd.specs.Answers.{answer_after}
use Rattle.tg_cmd.specs.Causes.{IsRefusal}
use Rattle.tg_cmd.specs.Output.{OfStandIn, none, stands_in}
use Rattle.tg_cmd.proofs.Outputs.{mapped_ok}
use Rattle.tg_cmd.proofs.StandIns.{if_found, if_none}
use Rattle.tg_cmd.proofs.making.simulation.Goals as goal

pub returns-in_ok-simulated-in-Some : goal.returns-in_ok-simulated-in-Some
returns-in_ok-simulated-in-Some c =
    stands_in c.in-Some.f (if_found _ _ c.in_ok-f.field-0 c.in-Some.f c.in-Some.is c.in_ok-f.ensures) (record { answers = refl; says = c.in_ok-simulated-in-Some.ensures })

pub returns-in-None : goal.returns-in-None
returns-in-None c =
    mapped_ok (λ (o : code.Output). IsRefusal refusals.StandIn (answer_after o.ending) o.text.items)
    (λ (o : code.Output). OfStandIn c.args.name.now c.args.settings.now c.args.theory.now (map seen c.args.classes.now) (answer_after o.ending) o.text.items) c.refused.result
    (λ o h. none (if_none _ _ c.in_ok-f.field-0 c.in-None.is c.in_ok-f.ensures) h) c.refused.ensures
