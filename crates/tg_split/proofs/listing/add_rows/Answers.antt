use Rattle.std.proofs.Common.{◌++◌, ◌∷◌, [], map, refl, sym, ◌∙◌, ap}
use Rattle.std.proofs.lemmas.List.{map-append}
use Rattle.std.proofs.lemmas.Option.{slice_get_read}
use Rattle.tg_split.specs.declared.numbering.Part.{Part}
use Rattle.tg_split.specs.Listing.{pattern}
use Rattle.tg_split.proofs.ListLaws.{one_more_row}
use Rattle.tg_split.proofs.listing.add_rows.Goals as goal

pub loop-place-preserved : goal.loop-place-preserved
loop-place-preserved c = λ shapes same terms.
    let this : Part = c.index-parts-place.result in
    let read = slice_get_read c.args.parts.now _ _ this refl c.loop-place-test.true c.index-parts-place.is in
    ap (map pattern) c.in_ok-push.ensures.items ∙ map-append pattern c.loop-place.out.items (c.in_ok-with_part.field-0 ∷ [])
    ∙ one_more_row c.args.row.now c.args.parts.now c.args.terms.now shapes c.loop-place.place this c.in-Some.term.now c.in_ok-with_part.field-0
    (map pattern c.loop-place.out.items) (map pattern c.args.out.now.items) c.loop-place-test.true same terms read (sym c.in-Some.ensures)
    c.in_ok-with_part.ensures.terms (c.in_ok-with_part.ensures.vars ∙ ap (λ l. c.args.row.now.vars ++ l) c.as_slice.ensures) (c.loop-place.invariant shapes same terms)
