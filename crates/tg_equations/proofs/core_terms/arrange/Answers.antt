use Rattle.std.proofs.Common.{◌≡◌, ◌∙◌, [], map, take, get_or, Some, ap, arith}
use Rattle.std.specs.Prelude.{slice_get}
use Rattle.std.proofs.lemmas.List.{take_all}
use Rattle.std.proofs.lemmas.Option.{slice_get-get_or}
use Rattle.tg_accept.specs.Core.{branch_of}
use Rattle.tg_accept.specs.Declared.{theory}
use Rattle.tg_accept.specs.Core.{heads_of}
use Rattle.tg_term.specs.View.{arms}
use Rattle.tg_typing.specs.declared.resolved.Head.{Head}
use Rattle.tg_typing.specs.declared.resolved.Head.TheVariants.{Zero}
use Rattle.tg_typing.specs.View.{head}
use Rattle.tg_equations.specs.Written.{written_branch, bare}
use Rattle.tg_equations.proofs.CoreLaws.{next_branch, arms_of, list_next, map_both}
use Rattle.tg_equations.proofs.core_terms.arrange.Goals as goal

pub loop-h-preserved : goal.loop-h-preserved
loop-h-preserved c =
    let ws = map written_branch c.args.ws.now in
    let hs = c.as_slice-h-items.result.now in
    let h : Head = get_or hs c.loop-h.h-index Zero in
    let at : slice_get hs c.loop-h.h-index ≡ Some h = slice_get-get_or hs c.loop-h.h-index Zero c.loop-h-test.true in
    list_next (λ h. bare (branch_of ws (head h))) hs c.loop-h.h-index h c.loop-h.all c.push.new.self c.in_ok-branch_at.field-0 at c.loop-h.invariant c.in_ok-push.ensures.ok
    (next_branch ws (head h) c.find.result c.in_ok-branch_at.field-0 (c.find.ensures ∙ c.in_ok-places.ensures (head h)) c.in_ok-branch_at.ensures)

pub returns : goal.returns
returns c =
    let ws = map written_branch c.args.ws.now in
    let hs = c.as_slice-h-items.result.now in
    let full : take c.loop-h.h-index hs ≡ hs = take_all c.loop-h.h-index hs (omega (arith, c.loop-h-test.false)) in
    let same : map head hs ≡ heads_of (theory [] c.args.declared.now) c.args.n = ap (map head) c.as_slice-h-items.ensures ∙ c.in_ok-heads.ensures in
    ap arms (c.loop-h.invariant ∙ ap (map (λ h. bare (branch_of ws (head h)))) full ∙ map_both (λ h. bare (branch_of ws h)) head hs ∙ ap (map (λ h. bare (branch_of ws h))) same)
    ∙ arms_of ws (heads_of (theory [] c.args.declared.now) c.args.n)
