use Rattle.std.proofs.Common.{◌≡◌, ◌+◌, ◌∷◌, ◌++◌, drop, length, reverse, Some, refl, sym, ◌∙◌, subst, rules}
use Rattle.std.specs.Prelude.{slice_get}
use Rattle.std.proofs.lemmas.Option.{slice_get_read}
use Rattle.tg_equations.specs.declared.equations.Pattern.TheVariants.{Variable, Matched}
use Rattle.tg_accept.specs.Equations.{numbered_from}
use Rattle.tg_infer.specs.Scopes.{AreSameVariables}
use Rattle.tg_infer.proofs.LeftLaws.{IsLeft, left_variable, left_matched}
use Rattle.tg_infer.proofs.lefts.left_variables.Goals as goal
use Rattle.tg_infer.proofs.lefts.left_variables.Goals.{in-Variable+in_ok-add-in-Variable+in_ok-next-in-Variable, in-Matched+in_ok-inner-in-Matched}

pub loop-p-preserved : goal.loop-p-preserved
loop-p-preserved c =
    let at : slice_get c.args.ps.now c.loop-p.p-index ≡ Some c.p-item.result = slice_get_read c.args.ps.now _ _ c.p-item.result refl c.loop-p-test.true c.p-item.is in
    elim c.match-p.branch [
      | in-Variable+in_ok-add-in-Variable+in_ok-next-in-Variable w ↦
          let here : slice_get c.args.ps.now c.loop-p.p-index ≡ Some (Variable w.in-Variable.x) = search rules in
          let next : c.match-p.next ≡ c.loop-p.next + 1 = search rules in
          let inner : c.match-p.inner ≡ c.loop-p.inner = search rules in
          let now : AreSameVariables c.match-p.variables ((w.in-Variable.x, c.loop-p.next) ∷ c.loop-p.variables) = search rules in
          let h = left_variable c.args.ps.now c.loop-p.variables c.match-p.variables c.loop-p.next c.loop-p.inner c.loop-p.p-index w.in-Variable.x here
          c.loop-p.invariant now in
          subst (λ n. IsLeft c.args.ps.now c.match-p.variables (drop (c.loop-p.p-index + 1) c.args.ps.now) n c.match-p.inner) (sym next)
          (subst (λ n. IsLeft c.args.ps.now c.match-p.variables (drop (c.loop-p.p-index + 1) c.args.ps.now) (c.loop-p.next + 1) n) (sym inner) h)
      | in-Matched+in_ok-inner-in-Matched w ↦
          let here : slice_get c.args.ps.now c.loop-p.p-index ≡ Some (Matched w.in-Matched.field-0 w.in-Matched.xs) = search rules in
          let inner : c.match-p.inner ≡ c.loop-p.inner + length w.in-Matched.xs = search rules in
          let now : AreSameVariables c.match-p.variables (reverse (numbered_from c.loop-p.inner w.in-Matched.xs) ++ c.loop-p.variables) = search rules in
          let next : c.match-p.next ≡ c.loop-p.next = search rules in
          subst (λ n. IsLeft c.args.ps.now c.match-p.variables (drop (c.loop-p.p-index + 1) c.args.ps.now) n c.match-p.inner) (sym next)
          (left_matched c.args.ps.now c.loop-p.variables c.match-p.variables c.loop-p.next c.loop-p.inner c.match-p.inner c.loop-p.p-index w.in-Matched.field-0
          w.in-Matched.xs here c.loop-p.invariant now inner)
    ]
