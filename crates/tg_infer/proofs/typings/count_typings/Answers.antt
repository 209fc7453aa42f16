use Rattle.std.proofs.Common.{◌≡◌, ◌+◌, [], ◌∷◌, drop, true, Some, refl, sym, subst, rules}
use Rattle.std.specs.Prelude.{slice_get}
use Rattle.std.proofs.lemmas.Option.{slice_get_read}
use Rattle.tg_accept.specs.Declared.{theory}
use Rattle.tg_accept.specs.Equations.{IsEquationTyping}
use Rattle.tg_accept.specs.Functions.{self_of}
use Rattle.tg_accept.specs.Typings.{HasOneTyping, HasTwoTypings}
use Rattle.tg_declarations.specs.View.{function}
use Rattle.tg_equations.specs.View.{equation, equations}
use Rattle.tg_infer.proofs.TypingLaws.{AreCounted, one_more, two_more, rest_at}
use Rattle.tg_infer.proofs.typings.count_typings.Goals as goal
use Rattle.tg_infer.proofs.typings.count_typings.Goals.{in-One, in-Several}

pub loop-e-preserved : goal.loop-e-preserved
loop-e-preserved c =
    let f = function c.args.signature.now in
    let Is = IsEquationTyping (theory [] c.args.declared.now) (self_of c.args.is_recursive f) f in
    let es = equations c.args.es.now in
    let at : slice_get c.args.es.now c.loop-e.e-index ≡ Some c.e-item.result = slice_get_read c.args.es.now _ _ c.e-item.result refl c.loop-e-test.true c.e-item.is in
    let e = equation c.e-item.result in
    let rest = equations (drop (c.loop-e.e-index + 1) c.args.es.now) in
    let here : AreCounted Is es (e ∷ rest) c.loop-e.several = subst (λ l. AreCounted Is es l c.loop-e.several) (rest_at equation c.args.es.now c.loop-e.e-index c.e-item.result at) c.loop-e.invariant in
    elim c.match-branch-2.branch [
      | in-One w ↦
          let one : HasOneTyping (Is e) = search rules in
          let same : c.match-branch-2.several ≡ c.loop-e.several = search rules in
          subst (AreCounted Is es rest) (sym same) (one_more Is es rest e c.loop-e.several here one)
      | in-Several w ↦
          let two : HasTwoTypings (Is e) = search rules in
          let same : c.match-branch-2.several ≡ true = search rules in
          subst (AreCounted Is es rest) (sym same) (two_more Is es rest e c.loop-e.several here two)
    ]
