use Rattle.std.proofs.Common.{◌≡◌, ◌∙◌, map, Some, refl, ap}
use Rattle.std.specs.Prelude.{slice_get, option_map}
use Rattle.std.proofs.lemmas.Option.{slice_get_read, slice_get-map}
use Rattle.tg_accept.specs.Core as model
use Rattle.tg_accept.specs.Core.{same_head}
use Rattle.tg_accept.specs.Resolved.{Head}
use Rattle.tg_typing.specs.View.{head}
use Rattle.tg_equations.specs.Written.{written_branch}
use Rattle.tg_equations.proofs.PlaceLaws.{placed_next}
use Rattle.tg_equations.proofs.core_terms.places.Goals as goal

pub loop-at-preserved : goal.loop-at-preserved
loop-at-preserved c =
    let w : slice_get c.args.ws.now c.loop-at.at ≡ Some c.index-ws-at.result = slice_get_read c.args.ws.now _ _ c.index-ws-at.result refl c.loop-at-test.true c.index-ws-at.is in
    let at : slice_get (map written_branch c.args.ws.now) c.loop-at.at ≡ Some (written_branch c.index-ws-at.result) =
    slice_get-map written_branch c.args.ws.now c.loop-at.at ∙ ap (option_map written_branch) w in
    placed_next (λ (h : Head) (x : model.Written). same_head x.head h) (map written_branch c.args.ws.now) c.loop-at.at (written_branch c.index-ws-at.result) at
    c.loop-at.places c.note.new.self (head c.index-ws-at.result.head) (λ h. refl) c.loop-at.invariant c.in_ok-note.ensures.noted
