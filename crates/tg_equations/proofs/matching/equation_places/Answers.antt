use Rattle.std.proofs.Common.{◌≡◌, ◌∙◌, Some, false, refl, sym, ap}
use Rattle.std.specs.Prelude.{slice_get, option_map}
use Rattle.std.specs.Option.{option_map_or}
use Rattle.std.proofs.lemmas.Option.{slice_get_read, slice_get-map}
use Rattle.tg_accept.specs.Core.{same_head}
use Rattle.tg_accept.specs.Equations.{Equation}
use Rattle.tg_accept.specs.Functions.{is_for}
use Rattle.tg_accept.specs.Resolved.{Head}
use Rattle.tg_typing.specs.View.{head}
use Rattle.tg_equations.specs.View.{equation, equations, patterns}
use Rattle.tg_equations.specs.Matched.{first_head}
use Rattle.tg_equations.specs.Places.{held}
use Rattle.tg_equations.proofs.MatchedLaws.{for_first}
use Rattle.tg_equations.proofs.PlaceLaws.{placed_next, placed_skip}
use Rattle.tg_equations.proofs.matching.equation_places.Goals as goal
use Rattle.tg_equations.proofs.matching.equation_places.Goals.{in-Some+in_ok-note-in-Some, in-None}

pub loop-at-preserved : goal.loop-at-preserved
loop-at-preserved c =
    let e : slice_get c.args.es.now c.loop-at.at ≡ Some c.index-es-at.result = slice_get_read c.args.es.now _ _ c.index-es-at.result refl c.loop-at-test.true c.index-es-at.is in
    let at : slice_get (equations c.args.es.now) c.loop-at.at ≡ Some (equation c.index-es-at.result) = slice_get-map equation c.args.es.now c.loop-at.at ∙ ap (option_map equation) e in
    let es = equations c.args.es.now in
    let x = equation c.index-es-at.result in
    let is = λ (h : Head) (e : Equation). is_for h e.patterns in
    let read = ap (λ ps. first_head (patterns ps)) c.as_slice.ensures in
    elim c.match-first_head.branch [
      | in-Some+in_ok-note-in-Some w ↦ placed_next is es c.loop-at.at x at c.loop-at.places c.match-first_head.places (head w.in-Some.h)
          (λ h. for_first h x.patterns ∙ ap (λ o. option_map_or (λ k. same_head k h) o false) (sym (w.in-Some.ensures ∙ read))) c.loop-at.invariant
          (λ h. ap (λ p. held p h) w.places-is ∙ w.in_ok-note-in-Some.ensures.noted h)
      | in-None w ↦ (λ h.
          ap (λ p. held p h) w.places-is
          ∙ placed_skip is es c.loop-at.at x at c.loop-at.places
          (λ h. for_first h x.patterns ∙ ap (λ o. option_map_or (λ k. same_head k h) o false) (sym (w.in-None.ensures ∙ read))) c.loop-at.invariant h)
    ]
