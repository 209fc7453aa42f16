use Rattle.std.proofs.Common.{suc, ◌≡◌, ◌+◌, List, ◌∷◌, [], ◌++◌, map, take, length, refl, sym, ◌∙◌, ap, arith}
use Rattle.std.specs.Prelude.{slice_get}
use Rattle.std.proofs.lemmas.Option.{slice_get_read}
use Rattle.std.proofs.lemmas.List.{map-append}
use Rattle.tg_model.specs.Types as model
use Rattle.tg_model.specs.Theory.{instance, Constructor}
use Rattle.tg_types.specs.declared.types.Ty as declared
use Rattle.tg_types.specs.Types.{ty}
use Rattle.tg_declarations.specs.declared.definitions.ConDef.{ConDef}
use Rattle.tg_declarations.specs.declared.definitions.DataDef.{DataDef}
use Rattle.tg_term.proofs.PartLaws.{take_at}
use Rattle.tg_split.specs.Scopes.{arguments, within}
use Rattle.tg_split.specs.Shapes.{of_type, products}
use Rattle.tg_split.specs.Patterns.{Pattern, pattern_of}
use Rattle.tg_split.specs.Listing.{pattern, part, part_of, extended}
use Rattle.tg_split.proofs.ListLaws.{rows_after, number_there, shapes_in_scope, constructor_there}
use Rattle.tg_split.proofs.listing.+shapes.Goals as goal

pub rows_of-loop-t-preserved : goal.rows_of-loop-t-preserved
rows_of-loop-t-preserved _ c =
    let f = of_type c.args.declared.now.datatypes c.args.depth in
    let at : declared.Ty → model.Ty = λ t. instance (arguments c.args.scope.now) (ty t) in
    let us = arguments c.args.scope.now in
    let ts = c.args.ts.now in
    let t : declared.Ty = c.t-item.result in
    let read = slice_get_read ts _ _ t refl c.loop-t-test.true c.t-item.is in
    let so_far = take c.loop-t.t-index ts in
    let step : so_far ++ t ∷ [] ≡ take (c.loop-t.t-index + 1) ts =
    sym (take_at ts c.loop-t.t-index t read) ∙ ap (λ m. take m ts) (let e : suc c.loop-t.t-index ≡ c.loop-t.t-index + 1 = omega arith in e) in
    let behind : map (instance us) (map ty so_far) ++ at t ∷ [] ≡ map (instance us) (map ty (so_far ++ t ∷ [])) =
    sym (map-append (instance us) (map ty so_far) (ty t ∷ [])) ∙ ap (map (instance us)) (sym (map-append ty so_far (t ∷ []))) in
    let shapes = ap (map part) c.as_slice.ensures.value ∙ c.in_ok-shapes.ensures.shapes in (
      c.in_ok-rows.ensures (f (at t)) shapes
          ∙ ap (λ (ps : List Pattern). extended ps (f (at t))) c.loop-t.invariant.0
          ∙ sym (rows_after f (map (instance us) (map ty so_far)) (at t))
          ∙ ap (λ l. map pattern_of (products f l)) (behind ∙ ap (λ l. map (instance us) (map ty l)) step),
      c.in_ok-shapes.ensures.right,
    )

pub shapes_of_constructors-loop-place-preserved : goal.shapes_of_constructors-loop-place-preserved
shapes_of_constructors-loop-place-preserved _ c = (
  λ n numbers.
      let f = of_type c.args.declared.now.datatypes c.args.depth in
      let us = arguments c.args.scope.now in
      let cons = c.args.cons.now in
      let con_def : ConDef = c.index-cons-place.result in
      let at : Constructor → List model.Ty = λ x. map (instance us) x.arguments in
      let read = slice_get_read cons _ _ con_def refl c.loop-place-test.true c.index-cons-place.is in
      let so_far = take c.loop-place.place cons in
      let step : so_far ++ con_def ∷ [] ≡ take (c.loop-place.place + 1) cons =
      sym (take_at cons c.loop-place.place con_def read) ∙ ap (λ m. take m cons) (let e : suc c.loop-place.place ≡ c.loop-place.place + 1 = omega arith in e) in
      let number : c.in-Some.number.now ≡ n + c.loop-place.place =
      number_there n (length cons) c.loop-place.place c.in-Some.number.now (sym (c.in-Some.ensures ∙ ap (λ l. slice_get l c.loop-place.place) numbers)) in
      let rows = c.in_ok-rows.ensures.rows ∙ ap (λ l. map pattern_of (products f (map (instance us) (map ty l)))) c.as_slice.ensures in
      c.in_ok-add_shapes.ensures
      ∙ constructor_there f us n cons c.loop-place.place con_def c.in-Some.number.now (map part c.loop-place.shapes.items) (map pattern c.in_ok-rows.rows.items)
      (omega (arith, c.loop-place-test.true)) step number rows (c.loop-place.invariant.0 n numbers),
  c.in_ok-rows.ensures.right,
)

pub shapes_of_data-returns-clause-shapes : goal.shapes_of_data-returns-clause-shapes
shapes_of_data-returns-clause-shapes _ c =
    let ds = c.args.declared.now.datatypes in
    let def : DataDef = c.in-Some-data_def.def.now in
    let depth : c.args.depth ≡ suc c.in-Some.below = omega (arith, c.in-Some.ensures) in
    shapes_in_scope ds c.in-Some.below c.args.d c.args.ts c.args.outer def c.as_slice.result.now c.constructors-numbers.result.now (map part c.in_ok-shapes.shapes.items)
    (sym c.in-Some-data_def.ensures) c.as_slice.ensures c.constructors-numbers.ensures c.in_ok-shapes.ensures.shapes
    ∙ ap (λ k. map part_of (of_type ds k (model.applied c.args.d (model.tys (within c.args.ts.now c.args.outer.now))))) (sym depth)
