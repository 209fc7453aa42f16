use Rattle.std.proofs.Common.{◌≡◌, take}
use Rattle.tg_solver.specs.Draws.{draw, after_draw}
use Rattle.tg_solver.proofs.drawing.draw.Given as goal

abbrev pub invariant-loop-truth : goal.invariant-loop-truth
invariant-loop-truth l = record {
  drawn : l.vars.items ≡ draw l.width (take l.truth-index l.truths) l.fn.rng;
  left : l.rng ≡ after_draw (take l.truth-index l.truths) l.fn.rng;
}
