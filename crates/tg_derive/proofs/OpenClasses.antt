-- From the open classes of a pattern the specification follows at all values of its variables.
use Rattle.std.proofs.Common.{ℕ, zero, suc, ◌≡◌, ◌+◌, ◌<◌, ◌||◌, Bool, true, false, List, [], ◌∷◌, ◌++◌, map, length, Some, refl, sym, ◌∙◌, ap, subst, arith, append_assoc}
use Rattle.std.specs.Prelude.{slice_get}
use Rattle.std.specs.Option.{option_map_or}
use Rattle.std.specs.List.{flat_map}
use Rattle.std.proofs.lemmas.Option.{slice_get_within}
use Rattle.tg_model.specs.Tree.{free, truth}
use Rattle.tg_model.specs.Types.{Ty}
use Rattle.tg_model.specs.Formula.{Formula, atom, implies, tested}
use Rattle.tg_model.specs.Theory.{Theory}
use Rattle.tg_model.specs.TermTyping.{leaf, AreListTyped, IsWellFormed}
use Rattle.tg_model.specs.Uses.{uses_in_formula}
use Rattle.tg_model.specs.Walk.{as_free, as_bound, given, lifted, substituted_formula}
use Rattle.tg_model.specs.Closing.{universal_closure}
use Rattle.tg_model.specs.Accepted.{IsAccepted, variables_from}
use Rattle.tg_model.proofs.Contexts.{used_in_formulas_have_types}
use Rattle.tg_model.proofs.Unmoved.{formula_unmoved}
use Rattle.tg_accept.specs.Checks.{Each}
use Rattle.tg_clause.specs.Clauses.{Clause, clauses_of}
use Rattle.tg_clause.specs.Minimal.{minimised}
use Rattle.tg_split.specs.Patterns.{Pattern}
use Rattle.tg_split.specs.Laws.{IsPatternOf}
use Rattle.tg_hyps.specs.Hypotheses.{Class, open_class_of}
use Rattle.tg_derive.specs.Goals.{start}
use Rattle.tg_derive.specs.Classes.{class_of}
use Rattle.tg_derive.specs.Trees.{AreClassesAt}
use Rattle.tg_derive.specs.Derivability.{class_formula, ClosedPatternsAreDerivable}
use Rattle.tg_derive.proofs.EachLaws.{each_mapped, each_given}
use Rattle.tg_derive.proofs.WalkLaws.{formula_agreeing}
use Rattle.tg_derive.proofs.Quantifiers.{closed_line}
use Rattle.tg_derive.proofs.Instances.{IsStill, at_terms, item_there, count_more}
use Rattle.tg_derive.proofs.PatternLines.{pattern_line, formulas_are}
use Rattle.tg_calculus.specs.Sequent as sequent
use Rattle.tg_calculus.specs.Sequent.{Context, Hypotheses, next, uses_from, uses_new, some_use_new}
use Rattle.tg_calculus.specs.Step.{IsContext, IsFormula}
use Rattle.tg_calculus.specs.Theorem.{Follows, IsTheorem}
use Rattle.tg_calculus.proofs.Computed.{no_place}
use Rattle.tg_calculus.proofs.DerivedRules.{widened, conditional, detached, grown, theorem_of, following_is_theorem}

-- no formula without a context has a variable
unused_in : (th : Theory) (F : Formula) → IsFormula th [] F → (n : ℕ) → uses_in_formula n F ≡ false
unused_in th F wf n = by (uses_in_formula n F) refl
  where
    by : (b : Bool) → uses_in_formula n F ≡ b → uses_in_formula n F ≡ false
    by true e = let p = used_in_formulas_have_types th [] [] F wf n e in absurd (no_place p.0 n p.1)
    by false e = e

unused_from : (th : Theory) (F : Formula) → IsFormula th [] F → (Ts : List Ty) (n : ℕ) → uses_from n Ts F ≡ false
unused_from th F wf [] n = refl
unused_from th F wf (T ∷ Ts) n = λ i. unused_in th F wf n i || unused_from th F wf Ts (suc n) i

pub none_used : (th : Theory) (H : Hypotheses) → sequent.Each (IsFormula th []) H → (K Ts : List Ty) → some_use_new K Ts H ≡ false
none_used th [] wf K Ts = refl
none_used th (F ∷ H) wf K Ts = λ i. unused_from th F wf.0 Ts (next K) i || none_used th H wf.1 K Ts i

-- hypotheses that follow themselves
pub cut_all : (th : Theory) (G : Context) (H L : Hypotheses) (F : Formula) → sequent.Each (IsFormula th G) L → sequent.Each (λ Q. Follows th G H Q) L
    → Follows th G L F → Follows th G H F
cut_all th G H [] F wf h p = widened th G {H = []} {K = H} tt p
cut_all th G H (Q ∷ L) F wf h p = detached th G (cut_all th G H L (implies Q F) wf.1 h.1 (conditional th G wf.0 p)) h.0

-- the variables of a context as terms
variable_at : (s n k : ℕ) → k < n → slice_get (variables_from s n) k ≡ Some (free (s + k))
variable_at s zero k h = absurd (omega (arith, h))
variable_at s (suc n) zero h = ap (λ m. Some (free m)) (let q : s ≡ s + 0 = omega arith in q)
variable_at s (suc n) (suc k) h =
    variable_at (suc s) n k (omega (arith, h)) ∙ ap (λ m. Some (free m)) (let q : suc s + k ≡ s + suc k = omega arith in q)

all_still : (s n : ℕ) → Each IsStill (variables_from s n)
all_still s zero = tt
all_still s (suc n) = ((λ b d. refl), all_still (suc s) n)

variables_typed : (th : Theory) (pre post : List Ty) → AreListTyped th (pre ++ post) [] (variables_from (suc (length pre)) (length post)) post
variables_typed th pre [] = tt
variables_typed th pre (T ∷ post) = (
  (leaf T, item_there pre T post, refl),
  subst (λ (K : List Ty). AreListTyped th K [] (variables_from (suc (suc (length pre))) (length post)) post) (append_assoc pre (T ∷ []) post)
      (subst (λ n. AreListTyped th ((pre ++ T ∷ []) ++ post) [] (variables_from (suc n) (length post)) post) (count_more pre T)
      (variables_typed th (pre ++ T ∷ []) post)),
)

pub own_substituted : (th : Theory) (G : Context) (F : Formula) → IsWellFormed th G [] F → substituted_formula (variables_from 1 (length G)) F ≡ F
own_substituted th G F wf =
    formula_agreeing as_bound (given (variables_from 1 (length G))) as_free F 0 (λ d n u. at d n u)
    ∙ formula_unmoved as_bound as_free (λ d k. refl) (λ d n. refl) F 0
  where
    at : (d n : ℕ) → uses_in_formula n F ≡ true → given (variables_from 1 (length G)) d n ≡ free n
    at d zero u = let p = used_in_formulas_have_types th G [] F wf 0 u in absurd (cc p.1)
    at d (suc k) u =
        let p = used_in_formulas_have_types th G [] F wf (suc k) u in
        ap (λ o. option_map_or (lifted d) o (truth false)) (variable_at 1 (length G) k (slice_get_within G k p.0 p.1))
        ∙ ap free (let q : 1 + k ≡ suc k = omega arith in q)

-- a closed formula at its own variables
pub opened_line : (th : Theory) (G : Context) (closed : IsContext th G) (H : Hypotheses) (F : Formula) → IsWellFormed th G [] F
    → Follows th [] H (universal_closure G F) → Follows th G H F
opened_line th G closed H F wf p =
    let us = variables_from 1 (length G) in
    subst (λ (Q : Formula). Follows th G H Q) (own_substituted th G F wf)
    (at_terms us (all_still 1 (length G)) th G F wf G H (variables_typed th [] G) (grown th [] G closed p))

module _ (th : Theory) (accepted : IsAccepted th) (p : Pattern) (is : IsPatternOf th th.program.inputs p) (cs : List Class) (a : AreClassesAt th p cs)
    (H : Hypotheses) (wf : sequent.Each (IsFormula th []) H) where
  abbrev G : Context
  G = p.variables

  opened_all : (ds : List Clause) → sequent.Each (IsFormula th G) (map class_formula (map (class_of p) ds))
      → Each (λ d. Follows th [] H (open_class_of (class_of p d))) ds
      → sequent.Each (λ F. Follows th G H F) (map class_formula (map (class_of p) ds))
  opened_all [] w h = tt
  opened_all (d ∷ ds) w h = (opened_line th G is.closed H (class_formula (class_of p d)) w.0 h.0, opened_all ds w.1 h.1)

  pub closed_pattern_line : Each (λ c. Follows th [] H (open_class_of c)) cs
      → Follows th [] H (universal_closure p.variables (implies (tested p.terms) (atom (start th p).term)))
  closed_pattern_line h =
      let ds = minimised (flat_map clauses_of a.leaves) in
      let forms = formulas_are th accepted p is cs a in
      let opened = opened_all ds (subst (λ l. sequent.Each (IsFormula th G) (map class_formula l)) a.classes forms)
      (each_mapped (λ c. Follows th [] H (open_class_of c)) (class_of p) ds (subst (λ l. Each (λ c. Follows th [] H (open_class_of c)) l) a.classes h)) in
      let all = subst (λ l. sequent.Each (λ F. Follows th G H F) (map class_formula l)) (sym a.classes) opened in
      closed_line th H (implies (tested p.terms) (atom (start th p).term)) G (none_used th H wf)
      (cut_all th G H (map class_formula cs) (implies (tested p.terms) (atom (start th p).term)) forms all (pattern_line th accepted p is cs a))

pub closed_patterns_are_derivable : ClosedPatternsAreDerivable
closed_patterns_are_derivable th p cs H accepted is a wf h =
    theorem_of th [] wf
    (closed_pattern_line th accepted p is cs a H wf
    (each_given (λ c. IsTheorem th [] H (open_class_of c)) (λ c. Follows th [] H (open_class_of c)) cs
    (λ c t. ((following_is_theorem th [] H (open_class_of c)).0 t).1) h))
