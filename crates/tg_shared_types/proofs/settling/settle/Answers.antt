use Rattle.std.proofs.Common.{◌∙◌}
use Rattle.tg_shared_types.proofs.MarkLaws.{marks_none}
use Rattle.tg_shared_types.proofs.settling.settle.Goals as goal

pub visit-requires-clause-marks : goal.visit-requires-clause-marks
visit-requires-clause-marks c = marks_none _ _ (c.deref_mut.ensures.value ∙ c.in_ok-marks.ensures.items_if_clones_equal (λ y e. e))
