use Rattle.std.proofs.Common.{◌≡◌, ◌∙◌, [], map, take, Some, refl, ap, arith}
use Rattle.std.specs.Prelude.{slice_get}
use Rattle.std.proofs.lemmas.List.{take_all}
use Rattle.std.proofs.lemmas.Option.{slice_get_read}
use Rattle.tg_accept.specs.Core.{core}
use Rattle.tg_accept.specs.Declared.{theory}
use Rattle.tg_typing.specs.View.{resolved, seen}
use Rattle.tg_typing.proofs.ResolvedSizes.{size_at, body_at}
use Rattle.tg_equations.specs.Written.{written_branch}
use Rattle.tg_equations.specs.declared.core_terms.Written.{Written}
use Rattle.tg_equations.proofs.CoreLaws.{core_seen, core_list, written_list, written_one, mapped_next}
use Rattle.tg_equations.proofs.core_terms.+core.Goals as goal

pub core_all-core_term-requires : goal.core_all-core_term-requires
core_all-core_term-requires t c = (omega (arith, c.decreases, size_at c.args.ts.now c.loop-t.t-index c.t-item.result c.loop-t-test.true c.t-item.is), tt)

pub core_all-returns : goal.core_all-returns
core_all-returns t c =
    let th = theory [] c.args.declared.now in
    let full : take c.loop-t.t-index c.args.ts.now ≡ c.args.ts.now = take_all c.loop-t.t-index c.args.ts.now (omega (arith, c.loop-t-test.false)) in
    core_list th c.args.own c.args.ts.now c.loop-t.all (c.loop-t.invariant ∙ ap (map (λ u. core th c.args.own (resolved u))) full)

pub core_branches-core_term-requires : goal.core_branches-core_term-requires
core_branches-core_term-requires t c = (omega (arith, c.decreases, body_at c.args.bs.now c.loop-b.b-index c.b-item.result c.loop-b-test.true c.b-item.is), tt)

pub core_branches-loop-b-preserved : goal.core_branches-loop-b-preserved
core_branches-loop-b-preserved t c =
    let th = theory [] c.args.declared.now in
    let at : slice_get c.args.bs.now c.loop-b.b-index ≡ Some c.b-item.result = slice_get_read c.args.bs.now _ _ c.b-item.result refl c.loop-b-test.true c.b-item.is in
    let w : Written = record { head = c.b-item.result.head; branch = record { vars = c.in_ok-vars.vars; body = c.in_ok-body.body } } in
    mapped_next (λ b. core_seen th c.args.own (seen b)) written_branch c.args.bs.now c.loop-b.b-index c.b-item.result c.loop-b.all c.push.new.self w at
    c.loop-b.invariant c.in_ok-push.ensures.ok (written_one th c.args.own c.b-item.result w refl (c.in_ok-vars.ensures ∙ c.len.ensures) c.in_ok-body.ensures)

pub core_branches-returns : goal.core_branches-returns
core_branches-returns t c =
    let th = theory [] c.args.declared.now in
    let full : take c.loop-b.b-index c.args.bs.now ≡ c.args.bs.now = take_all c.loop-b.b-index c.args.bs.now (omega (arith, c.loop-b-test.false)) in
    written_list th c.args.own c.args.bs.now c.loop-b.all (c.loop-b.invariant ∙ ap (map (λ b. core_seen th c.args.own (seen b))) full)
