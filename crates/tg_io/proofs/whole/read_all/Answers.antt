use Rattle.std.proofs.Common.{◌≡◌, ◌+◌, vec_len, min, length, length-take, ◌∙◌, refl, arith}
use Rattle.std.proofs.lemmas.Grind.{common_steps}
use Rattle.tg_io.specs.Turns.{none, more, IsBuffer}
use Rattle.tg_io.proofs.whole.read_all.Goals as goal

pub loop-buf-init : goal.loop-buf-init
loop-buf-init g c = record {
  given = grind (arith, common_steps);
  within = grind (arith, common_steps);
  buffer = refl;
  kept = refl;
  turns = rw c.new-bytes.ensures.len none;
}

pub loop-buf-preserved : goal.loop-buf-preserved
loop-buf-preserved g c =
    let longer : vec_len c.extend_from_slice.new.self ≡ vec_len c.loop-buf.bytes + c.in-Ok.count = grind (arith, common_steps) in
    let buffer : length c.loop-buf.buf ≡ 4096 = c.loop-buf.invariant.buffer in
    let fits : min c.min-wanted.result (length c.loop-buf.buf) ≡ c.min-wanted.result = omega (arith, buffer) in
    let len : length c.read.new.buf ≡ c.min-wanted.result = simp length-take at c.read.auto.buf ∙ fits in
    let room : IsBuffer (c.args.max + 1) (vec_len c.loop-buf.bytes) c.read.new.buf = (omega (arith, len), omega (arith, len)) in
    record {
      given = grind (arith, common_steps);
      within = grind (arith, common_steps);
      buffer = grind (arith, common_steps);
      kept = grind (arith, common_steps);
      turns = rw longer (more {piece = c.read.new.buf} c.loop-buf.invariant.turns (room.0, room.1) c.in-Ok.ensures.step (omega arith));
    }
