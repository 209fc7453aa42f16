use Rattle.std.proofs.Common.{ℕ, ◌≡◌, ◌≤◌, subst}
use Rattle.std.proofs.lemmas.Bool.Decides.{Decides-eqb}
use Rattle.std.proofs.lemmas.Slice.Eq.{slice_eq-Decides}
use Rattle.std.specs.Bool.{Decides}
use Rattle.tg_cmd.proofs.StandIns.{none_next, none_at_all}
use Rattle.tg_cmd.proofs.standing.function_named.Goals as goal

pub loop-before-preserved : goal.loop-before-preserved
loop-before-preserved c =
    let other = c.bytes.result.now in
    none_next c.args.theory.now c.args.name.now c.loop-before.before _ c.eq.result other c.loop-before.invariant c.fun.ensures
    c.bytes.ensures c.if-eq.false
    (subst (λ l. Decides c.eq.result (other ≡ l)) c.bytes-in-loop-before.ensures
    (slice_eq-Decides Decides-eqb other c.bytes-in-loop-before.result.now c.eq.result c.eq.ensures))

pub returns : goal.returns
returns c =
    none_at_all c.args.theory.now c.args.name.now c.loop-before.before c.loop-before.invariant
    (subst (λ (n : ℕ). n ≤ c.loop-before.before) c.fun_count-before-end.ensures c.loop-before-test.false)
