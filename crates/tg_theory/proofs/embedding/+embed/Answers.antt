use Rattle.std.proofs.Common.{◌≡◌, ◌∙◌, [], ap, map, take, drop, Some, None, refl, arith, rules}
use Rattle.std.proofs.lemmas.List.{take_all, drop_all}
use Rattle.std.specs.Prelude.{slice_get}
use Rattle.std.proofs.lemmas.Option.{slice_get_read}
use Rattle.tg_accept.specs.Core.{heads_of}
use Rattle.tg_accept.specs.Declared.{theory}
use Rattle.tg_typing.specs.View.{head}
use Rattle.tg_theory.specs.Embedded.{embedded}
use Rattle.tg_theory.proofs.Embeddings.{seen_all, embedded_list, no_head, none_left, branch_kept, branches_end}
use Rattle.tg_theory.proofs.embedding.+embed.Goals as goal

pub embed_all-returns : goal.embed_all-returns
embed_all-returns _ c =
    let full : take c.loop-t.t-index c.args.ts.now ≡ c.args.ts.now = take_all c.loop-t.t-index c.args.ts.now (omega (arith, c.loop-t-test.false)) in
    embedded_list (theory [] c.args.declared.now) c.args.ts.now c.loop-t.all (c.loop-t.invariant ∙ ap (map (embedded (theory [] c.args.declared.now))) full)

pub embed_branches-returns-in_default : goal.embed_branches-returns-in_default
embed_branches-returns-in_default _ c =
    let th = theory [] c.args.declared.now in
    let hs = heads_of th c.args.n in
    let gone : slice_get hs c.loop-at.at ≡ None = search rules in
    branches_end th c.args.bs.now hs (seen_all th (drop c.loop-at.at c.args.bs.now) (drop c.loop-at.at hs)) c.loop-at.all c.loop-at.invariant
    (no_head th c.args.bs.now hs c.loop-at.at gone)

pub embed_branches-loop-at-preserved : goal.embed_branches-loop-at-preserved
embed_branches-loop-at-preserved _ c =
    let th = theory [] c.args.declared.now in
    let hs = heads_of th c.args.n in
    let at : slice_get c.args.bs.now c.loop-at.at ≡ Some c.index-bs-at.result = slice_get_read c.args.bs.now _ _ c.index-bs-at.result refl c.loop-at-test.true c.index-bs-at.is in
    let here : slice_get hs c.loop-at.at ≡ Some (head c.in-Some.head) = search rules in
    branch_kept th c.args.bs.now hs c.loop-at.at c.index-bs-at.result (head c.in-Some.head) c.loop-at.all c.push.new.self
    (record { head = c.in-Some.head; names = c.in_ok-names.names; body = c.in_ok-body.body })
    (seen_all th c.args.bs.now hs) at here c.loop-at.invariant c.in_ok-push.ensures.ok refl c.in_ok-names.ensures c.in_ok-body.ensures

pub embed_branches-returns : goal.embed_branches-returns
embed_branches-returns _ c =
    let th = theory [] c.args.declared.now in
    let hs = heads_of th c.args.n in
    let end : drop c.loop-at.at c.args.bs.now ≡ [] = drop_all c.loop-at.at c.args.bs.now (omega (arith, c.loop-at-test.false)) in
    branches_end th c.args.bs.now hs (seen_all th (drop c.loop-at.at c.args.bs.now) (drop c.loop-at.at hs)) c.loop-at.all c.loop-at.invariant
    (none_left th c.args.bs.now hs c.loop-at.at end)
