use Rattle.std.proofs.Common.{rules, arith, refl}
use Rattle.std.proofs.lemmas.Grind.{common_steps}
use Rattle.std.proofs.lemmas.List.{take_rest}
use Rattle.tg_io.specs.Turns.{none, more}
use Rattle.tg_io.proofs.Fronts.{Appends-next}
use Rattle.tg_io.proofs.whole.write_all.Goals as goal

pub loop-written-init : goal.loop-written-init
loop-written-init g c = record {
  within = grind (arith, common_steps);
  front = grind (arith, common_steps);
  kept = refl;
  turns = none;
  idle = λ _. refl;
}

pub loop-written-preserved : goal.loop-written-preserved
loop-written-preserved g c = record {
  within = omega (arith, c.in-Ok.ensures.bound, c.loop-written.invariant.within);
  front = Appends-next _ _ _ c.args.bytes.now c.loop-written.written c.in-Ok.count c.loop-written.invariant.front c.in-Ok.ensures.bytes;
  kept = search rules;
  turns = more c.loop-written.invariant.turns (take_rest c.args.bytes.now c.loop-written.written) c.in-Ok.ensures.step c.in-Ok.ensures.bound.0;
  idle = λ none. absurd (omega (arith, none, c.in-Ok.ensures.bound));
}
