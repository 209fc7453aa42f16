use Rattle.std.proofs.Common.{ℕ, suc, ◌<◌, ◌≡◌, ◌+◌, ◌-◌, List, ◌∷◌, [], ◌++◌, map, drop, take, length, refl, sym, ◌∙◌, ap, subst, arith}
use Rattle.std.proofs.lemmas.List.{map-append}
use Rattle.tg_model.specs.Theory.{instance, Constructor}
use Rattle.tg_model.specs.Types as model
use Rattle.tg_types.specs.declared.types.Ty as declared
use Rattle.tg_declarations.specs.declared.definitions.ConDef.{ConDef}
use Rattle.tg_declarations.specs.declared.definitions.DataDef.{DataDef}
use Rattle.std.proofs.lemmas.Option.{slice_get_read, same_Some}
use Rattle.tg_types.specs.Types.{ty}
use Rattle.tg_declarations.specs.View.{constructor}
use Rattle.tg_term.proofs.PartLaws.{drop_at, take_at}
use Rattle.tg_split.specs.Scopes.{arguments, within}
use Rattle.tg_split.specs.Shapes.{of_type, products}
use Rattle.tg_split.specs.Known.{AreRight}
use Rattle.tg_split.specs.Sizes.{size_of, size_of_lists, either, under, AreMade}
use Rattle.tg_split.proofs.CountLaws.{one_more_argument, one_more_made, size_in_scope}
use Rattle.tg_split.proofs.Growth.{passes}
use Rattle.std.proofs.lemmas.List.{drop_all}
use Rattle.std.specs.Prelude.{slice_get, Some}
use Rattle.tg_model.proofs.Places.{get_within}
use Rattle.tg_split.proofs.CountLaws.{past_end}
use Rattle.tg_split.proofs.counting.+size.Goals as goal
use Rattle.tg_split.proofs.counting.+size.Goals.{size_of_arguments-then-left-ts, size_of_arguments-else-left-ts+else-not-same_type}

pub size_of_constructors-loop-con-preserved : goal.size_of_constructors-loop-con-preserved
size_of_constructors-loop-con-preserved _ c =
    let ds = c.args.declared.now.datatypes in
    let us = arguments c.args.scope.now in
    let con : ConDef = c.con-item.result in
    let cons = c.args.cons.now in
    let read = slice_get_read cons _ _ con refl c.loop-con-test.true c.con-item.is in
    let so_far : List Constructor = map constructor (take c.loop-con.con-index cons) in
    let step = take_at cons c.loop-con.con-index con read in
    let all : so_far ++ constructor con ∷ [] ≡ map constructor (take (suc c.loop-con.con-index) cons) =
    sym (map-append constructor (take c.loop-con.con-index cons) (con ∷ [])) ∙ ap (map constructor) (sym step) in
    let size = c.size_of_arguments-size.ensures.size ∙ ap (λ l. size_of_lists (products (of_type ds c.args.depth) (map (instance us) (map ty l)))) c.as_slice.ensures in
    let next : suc c.loop-con.con-index ≡ c.loop-con.con-index + 1 = omega arith in (
      (λ n. c.either-total.ensures ∙ ap (either c.loop-con.total) c.under.ensures
          ∙ subst (λ (l : List Constructor). AreMade ds c.args.depth us l (either c.loop-con.total (under c.size_of_arguments-size.result)))
          (all ∙ ap (λ m. map constructor (take m cons)) next)
          (one_more_made ds c.args.depth us so_far (constructor con) c.loop-con.total c.size_of_arguments-size.result c.loop-con.invariant.0 size) n),
      c.size_of_arguments-size.ensures.right,
    )

pub counted_data-returns-clause-size : goal.counted_data-returns-clause-size
counted_data-returns-clause-size _ c =
    let ds = c.args.declared.now.datatypes in
    let us = within c.args.ts.now c.args.outer.now in
    let def : DataDef = c.in-Some-data_def.def.now in
    let depth : c.args.depth ≡ suc c.in-Some.below = omega (arith, c.in-Some.ensures) in
    size_in_scope ds c.in-Some.below c.args.d c.args.ts c.args.outer def c.as_slice-2.result.now c.size_of_constructors.result (sym c.in-Some-data_def.ensures)
    c.as_slice-2.ensures c.size_of_constructors.ensures.size
    ∙ ap (λ k. size_of (of_type ds k (model.applied c.args.d (model.tys us)))) (sym depth)

pub counted_data-returns-then-is_passed-clause-size : goal.counted_data-returns-then-is_passed-clause-size
counted_data-returns-then-is_passed-clause-size _ c =
    let ds = c.args.declared.now.datatypes in
    let t : model.Ty = model.applied c.args.d (model.tys (within c.args.ts.now c.args.outer.now)) in
    let depth : c.args.depth ≡ suc c.in-Some.below = omega (arith, c.in-Some.ensures) in
    passes ds c.in-Some.below t c.size_of_data-own.result (sym c.if-is_passed.ensures) c.size_of_data-own.ensures.size
    ∙ ap (λ k. size_of (of_type ds k t)) (sym depth)

pub size_of_arguments-loop-left-init : goal.size_of_arguments-loop-left-init
size_of_arguments-loop-left-init _ c =
    let f = of_type c.args.declared.now.datatypes c.args.depth in
    let us = arguments c.args.scope.now in
    let ts = c.args.ts.now in
    (omega arith, ap (λ l. size_of_lists (products f (map (instance us) (map ty l)))) (sym (drop_all (length ts) ts (omega arith))), (λ t e. absurd (past_end ts t e)), c.requires.right)

pub size_of_arguments-loop-left-preserved : goal.size_of_arguments-loop-left-preserved
size_of_arguments-loop-left-preserved _ c =
    let f = of_type c.args.declared.now.datatypes c.args.depth in
    let us = arguments c.args.scope.now in
    let at : declared.Ty → model.Ty = λ t. instance us (ty t) in
    let ts = c.args.ts.now in
    let k : ℕ = c.loop-left.left - 1 in
    let inside : k < length ts = omega (arith, c.loop-left-test.true, c.loop-left.invariant.0) in
    let next : suc k ≡ c.loop-left.left = omega (arith, c.loop-left-test.true) in
    let part : (t : declared.Ty) → slice_get ts k ≡ Some t → c.if-left-ts.part ≡ size_of (f (at t)) = λ t e. elim c.if-left-ts.branch [
      | size_of_arguments-then-left-ts w ↦ w.part-is ∙ w.size_of_argument-part.ensures.size
          ∙ ap (λ u. size_of (f (at u))) (same_Some _ _ (sym (slice_get_read ts _ _ w.index-ts-left-then-left-ts.result refl inside w.index-ts-left-then-left-ts.is) ∙ e))
      | size_of_arguments-else-left-ts+else-not-same_type w ↦
          let there : c.loop-left.left < length ts = omega (arith, next, inside, c.loop-left.invariant.0, w.if-left-ts.false) in
          let here = slice_get_read ts _ _ w.index-ts-left.result refl inside w.index-ts-left.is in
          let behind = slice_get_read ts _ _ w.index-ts-left-else-left-ts.result refl (let b : k + 1 < length ts = omega (arith, next, there) in b) w.index-ts-left-else-left-ts.is in
          let same : ty w.index-ts-left.result ≡ ty w.index-ts-left-else-left-ts.result = w.if-not-same_type.ensures refl in
          w.part-is ∙ c.loop-left.invariant.2 w.index-ts-left-else-left-ts.result (ap (slice_get ts) (let b : c.loop-left.left ≡ k + 1 = omega (arith, next) in b) ∙ behind)
          ∙ ap (λ u. size_of (f (instance us u))) (sym same) ∙ ap (λ u. size_of (f (at u))) (same_Some _ _ (sym here ∙ e))
    ] in
    let ds = c.args.declared.now.datatypes in
    let right : AreRight ds c.if-left-ts.known = elim c.if-left-ts.branch [
      | size_of_arguments-then-left-ts w ↦ subst (AreRight ds) (sym w.known-is) w.size_of_argument-part.ensures.right
      | size_of_arguments-else-left-ts+else-not-same_type w ↦ subst (AreRight ds) (sym w.known-is) c.loop-left.invariant.3
    ] in
    let found = get_within ts k inside in
    let t : declared.Ty = found.0 in
    let rest = drop_at ts k t found.1 ∙ ap (λ n. t ∷ drop n ts) next in (
      omega (arith, inside),
      c.both-size.ensures ∙ one_more_argument f (at t) (map (instance us) (map ty (drop c.loop-left.left ts))) c.if-left-ts.part c.loop-left.size (part t found.1) c.loop-left.invariant.1
          ∙ ap (λ l. size_of_lists (products f (map (instance us) (map ty l)))) (sym rest),
      part,
      right,
    )
