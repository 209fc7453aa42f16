use Rattle.std.proofs.Common.{◌≡◌, ℕ, List, Some, ap, ◌∙◌, subst}
use Rattle.std.specs.Prelude.{slice_get}
use Rattle.tg_verdict.proofs.PlaceLaws.{found_number}
use Rattle.tg_verdict.proofs.places.Places.place.Goals as goal

pub returns-in-Some : goal.returns-in-Some
returns-in-Some c =
    subst (λ (ns : List ℕ). slice_get ns c.in-Some.at ≡ Some c.args.number) c.self.view_is
    (c.in-Some.ensures.stored ∙ ap Some (found_number c.self.inside.set.keys c.args.number c.in-Some.field-0-1.now c.in-Some.ensures.key))
