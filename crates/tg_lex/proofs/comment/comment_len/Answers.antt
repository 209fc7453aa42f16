use Rattle.std.proofs.Common.{◌≡◌, ◌-◌, ◌≤◌, sym, subst, drop, ◌∙◌, arith, false}
use Rattle.tg_lex.specs.Grammar.{after_open, after_comment}
use Rattle.tg_lex.proofs.Comments.{opens_at, closes_at, last_at, past_at, room_to_open, room_to_close, opens_rest, closes_rest}
use Rattle.tg_lex.proofs.comment.comment_len.Goals as goal

pub loop-at-preserved-then-opens : goal.loop-at-preserved-then-opens
loop-at-preserved-then-opens c =
    let known = c.loop-at.invariant in
    let here = opens_rest c.loop-at.at c.args.bytes.now ∙ sym c.opens.ensures ∙ c.if-opens.true in
    record {
      within = room_to_open c.loop-at.at c.args.bytes.now here known.within;
      inside = omega arith;
      small = omega (arith, known.small);
      so_far = opens_at c.loop-at.depth c.loop-at.at c.args.bytes.now _ known.so_far here;
    }

pub returns-then-depth-eq0-clause-after : goal.returns-then-depth-eq0-clause-after
returns-then-depth-eq0-clause-after c =
    let known = c.loop-at.invariant in
    let last : c.loop-at.depth ≡ 1 = omega (arith, known.inside, c.if-depth-eq0.true) in
    last_at c.loop-at.at c.args.bytes.now _ (subst (λ d. after_open false d (drop c.loop-at.at c.args.bytes.now) ≡ after_comment c.args.bytes.now) last known.so_far)
    (opens_rest c.loop-at.at c.args.bytes.now ∙ sym c.opens.ensures ∙ c.if-opens.false) (closes_rest c.loop-at.at c.args.bytes.now ∙ sym c.closes.ensures ∙ c.if-closes.true)

pub loop-at-preserved-else-depth-eq0 : goal.loop-at-preserved-else-depth-eq0
loop-at-preserved-else-depth-eq0 c =
    let known = c.loop-at.invariant in
    let here = closes_rest c.loop-at.at c.args.bytes.now ∙ sym c.closes.ensures ∙ c.if-closes.true in
    let deep : 1 ≤ c.loop-at.depth - 1 = omega (arith, known.inside, c.if-depth-eq0.false) in
    record {
      within = room_to_close c.loop-at.at c.args.bytes.now here known.within;
      inside = deep;
      small = omega (arith, known.small);
      so_far = closes_at c.loop-at.depth c.loop-at.at c.args.bytes.now _ known.so_far (opens_rest c.loop-at.at c.args.bytes.now ∙ sym c.opens.ensures ∙ c.if-opens.false) here (omega (arith, deep));
    }

pub loop-at-preserved : goal.loop-at-preserved
loop-at-preserved c =
    let known = c.loop-at.invariant in
    record {
      within = omega (arith, c.loop-at-test.true);
      inside = known.inside;
      small = omega (arith, known.small);
      so_far = past_at c.loop-at.depth c.loop-at.at c.args.bytes.now _ known.so_far (opens_rest c.loop-at.at c.args.bytes.now ∙ sym c.opens.ensures ∙ c.if-opens.false) (closes_rest c.loop-at.at c.args.bytes.now ∙ sym c.closes.ensures ∙ c.if-closes.false);
    }
