use Rattle.std.proofs.Common.{◌≡◌, Bool, true, ◌↔◌, map, ap, ◌∙◌}
use Rattle.tg_model.specs.Theory.{Program}
use Rattle.tg_types.specs.Types.{ty}
use Rattle.tg_theory.specs.Typed.{IsTypedAt}
use Rattle.tg_cmd.proofs.Outputs.{mapped_ok}
use Rattle.tg_cmd.proofs.StandIns.{Fits, fits_exactly}
use Rattle.tg_cmd.proofs.standing.fits.Goals as goal

pub returns : goal.returns
returns c =
    let th = c.args.theory.now in
    let program = c.program-program.ensures in
    let inputs = ap (map ty) c.as_slice.ensures ∙ ap (λ (p : Program). p.inputs) program in
    mapped_ok (λ (yes : Bool). (yes ≡ true) ↔ IsTypedAt th c.as_slice.result.now c.in_ok-call.call c.program-program.result.now.answer)
    (λ (yes : Bool). (yes ≡ true) ↔ Fits th c.args.f) c.typed.result
    (λ yes h. fits_exactly th c.accepted.ensures.accepted c.args.f c.as_slice.result.now c.program-program.result.now.answer c.in_ok-call.call yes inputs
    (ap (λ (p : Program). p.answer) program) c.in_ok-call.ensures h) c.typed.ensures
