use Rattle.tg_shared_types.proofs.GrowthLaws.{if_parameter, parameter_zero, parameter_past, given_parameter}
use Rattle.tg_shared_types.proofs.planting.plant_parameter.Goals as goal

pub returns-then-place-eq0-clause-plants : goal.returns-then-place-eq0-clause-plants
returns-then-place-eq0-clause-plants c =
    if_parameter c.args.nodes.now.items c.args.given.now c.requires.table c.args.number c.push.new.nodes.items c.push.result
    (λ ρ. parameter_zero ρ c.args.given.now c.args.number c.if-place-eq0.true) c.push.ensures.ok c.push.ensures.place

pub returns-then-given-place-clause-plants : goal.returns-then-given-place-clause-plants
returns-then-given-place-clause-plants c =
    if_parameter c.args.nodes.now.items c.args.given.now c.requires.table c.args.number c.push-then-given-place.new.nodes.items c.push-then-given-place.result
    (λ ρ. parameter_past ρ c.args.given.now c.args.number c.if-given-place.true) c.push-then-given-place.ensures.ok c.push-then-given-place.ensures.place

pub returns-clause-plants : goal.returns-clause-plants
returns-clause-plants c =
    given_parameter c.args.nodes.now.items c.args.given.now c.args.number c.requires.given c.if-place-eq0.false c.if-given-place.false
