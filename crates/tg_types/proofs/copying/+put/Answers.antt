use Rattle.std.proofs.Common.{◌∙◌, ap}
use Rattle.std.proofs.lemmas.List.{take_all}
use Rattle.tg_model.specs.Types as model
use Rattle.tg_types.specs.Substitutions.{all_at, only}
use Rattle.tg_types.specs.Types.{types}
use Rattle.tg_types.specs.View.{agreement}
use Rattle.tg_types.proofs.Arguments.{put_all_map}
use Rattle.tg_types.proofs.copying.+put.Goals as goal

pub put_all-returns : goal.put_all-returns
put_all-returns t c = ap model.tys c.loop-t.invariant ∙ put_all_map _ _
    ∙ ap (λ ts. all_at (only (agreement c.args.x.now)) (types ts)) (take_all c.loop-t.t-index c.args.ts.now c.loop-t-test.false)
