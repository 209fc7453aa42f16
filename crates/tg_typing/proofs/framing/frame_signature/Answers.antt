use Rattle.std.proofs.Common.{length, subst}
use Rattle.tg_types.specs.Types.{types}
use Rattle.tg_shared_types.specs.Growth.{PlantsAll}
use Rattle.tg_typing.proofs.Scoped.{below_more}
use Rattle.tg_typing.proofs.FrameLaws.{signature_ends, if_ok}
use Rattle.tg_typing.proofs.framing.frame_signature.Goals as goal

pub plant-requires-clause-given : goal.plant-requires-clause-given
plant-requires-clause-given c =
    below_more (length c.args.table.now) (length c.plant_all.new.table) c.args.us.now c.in_ok-es.ensures.grows.longer c.requires.given

pub returns : goal.returns
returns c =
    let plants : PlantsAll c.args.table.now c.args.us.now (types c.args.def.now.args) c.plant_all.new.table c.in_ok-es.es =
    subst (λ x. PlantsAll c.args.table.now c.args.us.now (types x) c.plant_all.new.table c.in_ok-es.es) c.as_slice.ensures c.in_ok-es.ensures in
    if_ok c.close.result (λ found closes.
    signature_ends c.args.table.now c.plant_all.new.table c.plant.new.self c.close.new.table c.args.us.now c.in_ok-es.es c.args.expected c.in_ok-top.top
    c.args.def.now.args c.args.def.now.result found plants c.in_ok-top.ensures closes)
    c.close.ensures
