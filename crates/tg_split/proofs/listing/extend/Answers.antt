use Rattle.std.proofs.Common.{◌≡◌, ◌+◌, ◌++◌, map, length, ltb-true, refl, sym, ◌∙◌, ap, arith}
use Rattle.std.specs.Prelude.{slice_get, Some}
use Rattle.std.proofs.lemmas.Option.{slice_get_read}
use Rattle.std.proofs.lemmas.Grind.{common_steps}
use Rattle.tg_split.specs.declared.numbering.Behind.{Behind}
use Rattle.tg_split.specs.Patterns.{term_from}
use Rattle.tg_split.specs.Listing.{pattern, added, IsBehind}
use Rattle.tg_split.proofs.ListLaws.{all_there, rows_added}
use Rattle.tg_split.proofs.listing.extend.Goals as goal

pub loop-row-preserved : goal.loop-row-preserved
loop-row-preserved c =
    let right = c.in_ok-place.ensures.right in
    let b : Behind = c.in-Some-get.behind.now in
    let there : slice_get c.place_behind.new.made.items c.in_ok-place.place ≡ Some b =
    ap (λ l. slice_get l c.in_ok-place.place) (sym c.deref.ensures.value)
    ∙ slice_get_read c.deref.result.now _ _ b refl (ltb-true c.in_ok-place.place (length c.deref.result.now) (sym c.in-Some-get.ensures.lookup.0)) c.in-Some-get.ensures.lookup.1 in
    let is = all_there (IsBehind c.args.parts.now) c.place_behind.new.made.items c.in_ok-place.place b right there in
    let vars = c.in_ok-place.ensures.found b there ∙ c.len.ensures in (
      λ shapes same.
          c.in_ok-add_rows.ensures shapes same (c.as_slice.ensures.value ∙ is shapes same ∙ ap (λ n. map (term_from (1 + n)) shapes) vars)
          ∙ ap (λ l. l ++ map (added (pattern c.in-Some.row)) shapes) (c.loop-row.invariant.0 shapes same)
          ∙ sym (rows_added c.loop-row.yielded c.in-Some.row shapes),
      grind (arith, common_steps),
      right,
    )
