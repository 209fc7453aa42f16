-- The shape of an equation, part by part.
use Rattle.std.proofs.Common.{◌≡◌, ◌↔◌, Bool, true, false, not, [], refl, sym, ◌∙◌}
use Rattle.std.specs.Str.{bytes_eq}
use Rattle.std.proofs.lemmas.Slice.Eq.{bytes_eq-Decides}
use Rattle.tg_model.specs.Theory.{Function}
use Rattle.tg_accept.specs.Cases.{AreCasesShaped}
use Rattle.tg_accept.specs.Declared.{Declared, theory}
use Rattle.tg_accept.specs.Equations.{Equation, left_names}
use Rattle.tg_accept.specs.Functions.{IsEquationShaped}
use Rattle.tg_equations.specs.Checked.{are_different}
use Rattle.tg_equations.proofs.DifferentLaws.{names_decided, distinct_from, different_from}

was_true : (b : Bool) → false ≡ not b → b ≡ true
was_true true e = refl
was_true false e = cc e

module _ (D : Declared) (x : Function) (e : Equation) (d : Bool) (is : d ≡ are_different bytes_eq (left_names e.patterns)) where
  pub equation_repeats : d ≡ false → (false ≡ true) ↔ IsEquationShaped D x e
  equation_repeats f = (
    (λ p. cc p),
    (λ h. let q : true ≡ false = sym (is ∙ different_from bytes_eq names_decided (left_names e.patterns) h.distinct) ∙ f in cc q),
  )

  pub equation_told : false ≡ not (bytes_eq e.head x.name) → d ≡ true → (b : Bool) → (b ≡ true) ↔ AreCasesShaped (theory [] D) e.body
      → (b ≡ true) ↔ IsEquationShaped D x e
  equation_told ne f b cases = (
    (λ p. record {
      begins = (bytes_eq-Decides e.head x.name).0 (was_true (bytes_eq e.head x.name) ne);
      distinct = distinct_from bytes_eq names_decided (left_names e.patterns) (sym is ∙ f);
      cases = cases.0 p;
    }),
    (λ h. cases.1 h.cases),
  )
