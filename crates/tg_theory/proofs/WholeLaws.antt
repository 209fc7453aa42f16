-- A whole theory is accepted.
use Rattle.std.proofs.Common.{ℕ, ◌≡◌, true, List, ◌∷◌, [], ◌++◌, map, Option, Some, None, refl, sym, ◌∙◌, ap, subst}
use Rattle.std.specs.Prelude.{IsSome, unwrap_or}
use Rattle.tg_model.specs.Theory.{Function, Program}
use Rattle.tg_model.specs.Tree.{truth}
use Rattle.tg_model.specs.Accepted.{IsAccepted, constructor_names, value_names}
use Rattle.tg_accept.specs.Declared.{Declared, theory, no_program}
use Rattle.tg_accept.specs.Kept.{IsKept, names_of_values, name_of_program}
use Rattle.tg_accept.specs.Standing.{declared_in}
use Rattle.tg_accept.proofs.KeptTheories.{whole_is_accepted}
use Rattle.tg_theory.specs.Names.{AreNames}
use Rattle.tg_theory.specs.Wholes.{IsWhole, IsWritten}

there : {A : Type 0} (o : Option A) → IsSome o → (x : A) × (o ≡ Some x)
there None h = cc h
there (Some x) h = (x, refl)

pub whole_accepted : (name : List ℕ) (D : Declared) → IsWhole name D → IsAccepted (theory name D)
whole_accepted name D w =
    let p = there D.program w.program in
    let t = there D.specification w.specification in
    whole_is_accepted name D p.0 t.0 w.right.kept p.1 t.1

pub whole_written : (name : List ℕ) (D : Declared) → IsWhole name D → IsWritten (theory name D)
whole_written name D w =
    let p = there D.program w.program in
    record {
      name = w.named;
      types = w.right.type_names;
      values = subst AreNames (same p.0 p.1) w.right.value_names;
    }
  where
    same : (p : Program) → D.program ≡ Some p → names_of_values D ≡ value_names (theory name D)
    same p e =
        let before = λ (l : List (List ℕ)). constructor_names D.datatypes ++ (map (λ (x : Function). x.name) D.functions ++ l) in
        ap (λ o. before (name_of_program o)) e ∙ ap (λ o. before (name_in o ∷ [])) (sym e)
      where
        name_in : Option Program → List ℕ
        name_in o = (unwrap_or o no_program).name

-- nothing is missing, so all that is declared is what the theory declares
pub whole_declared : (name : List ℕ) (D : Declared) → IsWhole name D → D ≡ declared_in (theory name D)
whole_declared name D w =
    let p = there D.program w.program in
    let t = there D.specification w.specification in
    (λ i. record { datatypes = D.datatypes; functions = D.functions; program = same no_program p.0 D.program p.1 i; specification = same (truth true) t.0 D.specification t.1 i })
  where
    same : {A : Type 0} (other x : A) (o : Option A) → o ≡ Some x → o ≡ Some (unwrap_or o other)
    same other x o e = e ∙ ap (λ p. Some (unwrap_or p other)) (sym e)

pub whole_kept : (name : List ℕ) (D : Declared) → IsWhole name D → IsKept D
whole_kept name D w = w.right.kept

pub ruleset wholes = (whole_accepted, whole_written, whole_declared, whole_kept)
