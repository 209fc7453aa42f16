use Rattle.std.proofs.Common.{◌++◌, ◌∷◌, [], refl, ap, ◌∙◌}
use Rattle.std.proofs.lemmas.Option.{slice_get_read}
use Rattle.tg_derive.proofs.HypothesisLaws.{formula_next}
use Rattle.tg_derive.proofs.theorems.formulas.Goals as goal

pub loop-h-preserved : goal.loop-h-preserved
loop-h-preserved c =
    formula_next c.args.hs.now c.loop-h.h-index c.h-item.result c.loop-h.fs _
    (slice_get_read c.args.hs.now _ _ c.h-item.result refl c.loop-h-test.true c.h-item.is) c.loop-h.invariant
    (c.in_ok-push.ensures.ok ∙ ap (λ f. c.loop-h.fs ++ f ∷ []) c.in_ok-share.ensures)
