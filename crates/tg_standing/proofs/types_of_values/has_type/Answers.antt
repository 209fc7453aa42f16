use Rattle.tg_types.specs.Types.{ty}
use Rattle.tg_term.specs.Values.{value}
use Rattle.tg_standing.proofs.ValueTypes.{test_tells}
use Rattle.tg_standing.proofs.types_of_values.has_type.Goals as goal

pub returns : goal.returns
returns c =
    test_tells c.args.th.now.name c.declarations.result.now c.args.th.now (value c.args.v.now) (ty c.args.t.now) c.in_ok-typed.typed c.declarations.ensures.named
    c.in_ok-typed.ensures
