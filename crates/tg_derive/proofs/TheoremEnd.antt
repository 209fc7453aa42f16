-- The theorem: the inputs are covered by the patterns and by deeper terms, and at these the regularity gives the specification.
use Rattle.std.proofs.Common.{ℕ, zero, suc, ◌≡◌, ◌||◌, Bool, true, false, List, [], ◌∷◌, ◌++◌, length, Some, None, refl, sym, ◌∙◌, ap, subst, inl, inr, arith, append_assoc, if◌then◌else◌}
use Rattle.std.specs.Option.{option_map_or}
use Rattle.std.proofs.lemmas.List.{map-append}
use Rattle.tg_model.specs.Tree as tree
use Rattle.tg_model.specs.Tree.{Tree, Trees, bound, free, literal, truth, con, call, put, choice, case, bind, op, trees, elements}
use Rattle.tg_model.specs.Types.{Ty, nat, bool, parameter, meta, applied}
use Rattle.tg_model.specs.Formula.{Formula, atom, implies, thyp, tested, deep}
use Rattle.tg_model.specs.Theory.{Theory}
use Rattle.tg_model.specs.TermTyping.{AllTyped}
use Rattle.tg_model.specs.Walk.{walk_all, as_bound, raised, given, lifted, substituted}
use Rattle.tg_model.specs.Closing.{universal_closure}
use Rattle.tg_model.specs.Made.{AreMade}
use Rattle.tg_model.specs.Accepted.{IsAccepted, IsAmong, variables_from}
use Rattle.tg_model.proofs.MadeTerms.{made_terms_stay}
use Rattle.tg_accept.specs.Checks as checks
use Rattle.tg_rows.proofs.TypedLists.{listed_typed}
use Rattle.tg_split.specs.Shapes.{Shapes, product, products, of_type}
use Rattle.tg_split.specs.Patterns.{Pattern, patterns, pattern_of, of_input, to_depth}
use Rattle.tg_split.specs.Laws.{AllOf, IsPatternOf}
use Rattle.tg_split.proofs.TypedPatterns.{patterns_are_typed}
use Rattle.tg_hyps.specs.Written as written
use Rattle.tg_hyps.specs.Hypotheses.{Class, some_data, regularity_of, conclusion_of, inputs_as_variables}
use Rattle.tg_hyps.specs.Hypotheses as hyps
use Rattle.tg_derive.specs.Theorem.{Hypothesis, of_classes, of_regularity, hypotheses_of, formulas}
use Rattle.tg_derive.specs.Derivability.{TheoremIsDerivable}
use Rattle.tg_derive.proofs.ClassTypes.{classes_typed}
use Rattle.tg_derive.proofs.Quantifiers.{closed_line}
use Rattle.tg_derive.proofs.OpenClasses.{own_substituted, none_used}
use Rattle.tg_derive.proofs.TheoremLines.{all_forms, themselves, each_pattern_is_derivable}
use Rattle.tg_derive.specs.Covering.{HaveShapes}
use Rattle.tg_derive.proofs.TruthLines.{within_more}
use Rattle.tg_derive.proofs.ClauseLines.{in_map}
use Rattle.tg_derive.proofs.Instances.{IsStill, at_terms, item_there, count_more}
use Rattle.tg_derive.proofs.CoverLines.{CoversAll, cover_list, cover_type, new_row, row_of, row_typed}
use Rattle.tg_derive.proofs.PatternInstances.{all_at_holes, all_holes_typed, all_holes_still, pattern_filled, twice}
use Rattle.tg_derive.proofs.InputHoles.{specified, specified_formed, specified_holes, own_inputs}
use Rattle.tg_calculus.specs.Sequent.{Context, Hypotheses, Each}
use Rattle.tg_calculus.specs.Chains.{has_chain, some_has_chain}
use Rattle.tg_calculus.specs.Step.{IsFormula}
use Rattle.tg_calculus.specs.Theorem.{Follows, IsTheorem}
use Rattle.tg_calculus.proofs.Hypotheses.{last_each}
use Rattle.tg_calculus.proofs.DerivedRules.{assumed, widened, conditional, detached, grown, unmarked, is_deep, theorem_of, following_is_theorem}

all_among : {A : Type 0} (P : A → Type 0) (xs : List A) (x : A) → AllOf P xs → IsAmong x xs → P x
all_among P [] x h i = absurd i
all_among P (y ∷ xs) x h (inl e) = subst P (sym e) h.0
all_among P (y ∷ xs) x h (inr i) = all_among P xs x h.1 i

same_products : (th : Theory) (k : ℕ) (Ts : List Ty) → products (of_type th.datatypes k) Ts ≡ products (of_input th) (to_depth k Ts)
same_products th k [] = refl
same_products th k (T ∷ Ts) = ap (product (of_type th.datatypes k T)) (same_products th k Ts)

-- without a datatype's type there is no chain
no_chain : (th : Theory) (t : Tree) (k : ℕ) (T : Ty) → hyps.is_data T ≡ false → has_chain th t k T ≡ false
no_chain th t zero nat e = refl
no_chain th t zero bool e = refl
no_chain th t zero (parameter n) e = refl
no_chain th t zero (meta n) e = refl
no_chain th t k (applied d Ts) e = cc e
no_chain th (con c tree.none) (suc k) T e = refl
no_chain th (con c (tree.more x xs)) (suc k) nat e = refl
no_chain th (con c (tree.more x xs)) (suc k) bool e = refl
no_chain th (con c (tree.more x xs)) (suc k) (parameter n) e = refl
no_chain th (con c (tree.more x xs)) (suc k) (meta n) e = refl
no_chain th t (suc k) T e = refl

either_false : (a b : Bool) → (a || b) ≡ false → (a ≡ false) × (b ≡ false)
either_false true b e = absurd (cc e)
either_false false b e = (refl, e)

no_chains : (th : Theory) (ts : Trees) (k : ℕ) (Ts : List Ty) → some_data Ts ≡ false → some_has_chain th ts k Ts ≡ false
no_chains th tree.none k Ts e = refl
no_chains th (tree.more t ts) k [] e = refl
no_chains th (tree.more t ts) k (T ∷ Ts) e =
    let p = either_false (hyps.is_data T) (some_data Ts) e in λ i. no_chain th t k T p.0 i || no_chains th ts k Ts p.1 i

still_made : (ts : Trees) → AreMade ts → checks.Each IsStill (elements ts)
still_made tree.none h = tt
still_made (tree.more t ts) h = ((λ b d. (made_terms_stay t h.0).walked b d), still_made ts h.1)

elements_trees : (ts : List Tree) → elements (trees ts) ≡ ts
elements_trees [] = refl
elements_trees (t ∷ ts) = ap (λ l. t ∷ l) (elements_trees ts)

inputs_typed : (th : Theory) → AllTyped th th.program.inputs [] (inputs_as_variables th) th.program.inputs
inputs_typed th =
    subst (λ xs. AllTyped th th.program.inputs [] xs th.program.inputs) (own_inputs 1 th.program.inputs)
    (row_typed th th.program.inputs 1 th.program.inputs (new_row [] th.program.inputs))

-- the inputs with terms put in are the terms
own_in : (th : Theory) (K : Context) (pre : List Tree) (ts : Trees) (Ts : List Ty) → AllTyped th K [] ts Ts → AreMade ts
    → walk_all as_bound (given (pre ++ elements ts)) 0 (written.variables_from (suc (length pre)) Ts) ≡ ts
own_in th K pre tree.none [] h m = refl
own_in th K pre tree.none (T ∷ Ts) h m = absurd h
own_in th K pre (tree.more t ts) [] h m = absurd h
own_in th K pre (tree.more t ts) (T ∷ Ts) h m =
    let head = ap (λ o. option_map_or (lifted 0) o (truth false)) (item_there pre t (elements ts)) ∙ (made_terms_stay t m.0).walked (raised 0) 0 in
    let tail = (λ i. walk_all as_bound (given (sym (append_assoc pre (t ∷ []) (elements ts)) i)) 0 (written.variables_from (suc (sym (count_more pre t) i)) Ts))
    ∙ own_in th K (pre ++ t ∷ []) ts Ts h.1 m.1 in
    λ i. tree.more (head i) (tail i)

module _ (th : Theory) (accepted : IsAccepted th) (j : ℕ) (H : Hypotheses) (wf : Each (IsFormula th []) H)
    (lines : AllOf (λ p. Follows th [] H (universal_closure p.variables (specified th p.terms))) (patterns th (suc j)))
    (regular : Each (λ F. Follows th [] H F) (formulas (of_regularity (regularity_of th (suc j))))) where
  abbrev I : List Ty
  I = th.program.inputs

  pattern_case : (K : Context) (ts : Trees) → CoversAll th H accepted wf (suc j) I I K ts → (ss : Shapes) → IsAmong ss (products (of_type th.datatypes (suc j)) I)
      → HaveShapes K ss ts → Follows th K H (specified th ts)
  pattern_case K ts v ss i h =
      let p = pattern_of ss in
      let among = in_map pattern_of ss (products (of_input th) (to_depth (suc j) I)) (subst (λ l. IsAmong ss l) (same_products th (suc j) I) i) in
      let line = all_among (λ p. Follows th [] H (universal_closure p.variables (specified th p.terms))) (patterns th (suc j)) p lines among in
      let is = all_among (IsPatternOf th I) (patterns th (suc j)) p (patterns_are_typed th (suc j) accepted) among in
      let us = all_at_holes ss ts in
      let there = at_terms us (all_holes_still th K ss ts h) th p.variables (specified th p.terms) (specified_formed th accepted p.variables p.terms is.typed) K H
      (all_holes_typed th K ss ts h) (grown th [] K v.closed line) in
      subst (λ (F : Formula). Follows th K H F)
      (λ x. implies (tested (pattern_filled th K us 0 ss ts h refl x))
      (atom (twice us p.terms ts is.made v.made (λ d. pattern_filled th K us d ss ts h refl) th.specification x))) there

  deep_case : (K : Context) (ts : Trees) → CoversAll th H accepted wf (suc j) I I K ts → some_has_chain th ts (suc j) I ≡ true → Follows th K H (specified th ts)
  deep_case K ts v e = by (some_data I) refl regular
    where
      by : (b : Bool) → some_data th.program.inputs ≡ b
          → Each (λ F. Follows th [] H F) (formulas (of_regularity (if b then Some (thyp (universal_closure th.program.inputs (implies (tested (inputs_as_variables th)) (implies (deep (suc j) (inputs_as_variables th)) (atom th.specification))))) else None)))
          → Follows th K H (specified th ts)
      by false q h = let z : true ≡ false = sym e ∙ no_chains th ts (suc j) th.program.inputs q in absurd (cc z)
      by true q h =
          let xs = inputs_as_variables th in
          let own : AllTyped th th.program.inputs [] xs th.program.inputs = inputs_typed th in
          let F = implies (tested xs) (implies (deep (suc j) xs) (atom th.specification)) in
          let same = own_in th K [] ts th.program.inputs v.typed v.made in
          let there = at_terms (elements ts) (still_made ts v.made) th th.program.inputs F (own, (own, accepted.well_typed.specification)) K H
          (listed_typed th K [] ts th.program.inputs v.typed) (grown th [] K v.closed (unmarked th [] h.0)) in
          let at = subst (λ (Q : Formula). Follows th K H Q)
          (λ x. implies (tested (same x)) (implies (deep (suc j) (same x)) (atom (substituted (elements ts) th.specification)))) there in
          let T = tested ts in
          conditional th K v.typed (detached th K (detached th K (widened th K (within_more T H) at) (assumed th K v.closed v.typed (inl refl))) (is_deep th K j ts v.closed v.typed e))

  specification_line : Follows th I H (specified th (row_of 1 I))
  specification_line =
      cover_list th H accepted wf (suc j) (cover_type th H accepted wf (suc j)) I I 1 (specified th) accepted.well_typed.inputs accepted.well_typed.inputs (new_row [] I)
      (specified_holes th H accepted wf I) (λ K ts v. elim v.covered [ inl a ↦ pattern_case K ts v a.0 a.1 a.2 | inr e ↦ deep_case K ts v e ])

  pub conclusion_line : Follows th [] H (conclusion_of th)
  conclusion_line =
      let vars = variables_from 1 (length I) in
      let same = ap (λ l. atom (substituted l th.specification)) (elements_trees vars) ∙ own_substituted th I (atom th.specification) accepted.well_typed.specification in
      closed_line th H (implies (tested (inputs_as_variables th)) (atom th.specification)) I (none_used th H wf)
      (subst (λ (F : Formula). Follows th I H F) (λ i. implies (tested (own_inputs 1 I i)) (same i)) specification_line)

all_known : (th : Theory) (H : Hypotheses) (G : Pattern → Formula) (ps : List Pattern) → AllOf (λ p. IsTheorem th [] H (G p)) ps
    → AllOf (λ p. Follows th [] H (G p)) ps
all_known th H G [] h = tt
all_known th H G (p ∷ ps) h = (((following_is_theorem th [] H (G p)).0 h.0).1, all_known th H G ps h.1)

pub theorem_is_derivable : TheoremIsDerivable
theorem_is_derivable th zero cs xs accepted low are e = absurd (omega (arith, low))
theorem_is_derivable th (suc j) cs xs accepted low are e =
    let H = formulas (hypotheses_of th (suc j) cs xs) in
    let wf = all_forms th accepted (suc j) cs xs (classes_typed th (suc j) cs accepted are) e in
    let hs = of_classes 1 cs xs in
    let rs = of_regularity (regularity_of th (suc j)) in
    let all = subst (λ l. Each (λ F. Follows th [] H F) l) (map-append (λ (h : Hypothesis). h.formula) hs rs) (themselves th accepted H wf H (λ F i. i)) in
    let regular = last_each (λ F. Follows th [] H F) (formulas hs) (formulas rs) all in
    let lines = all_known th H (λ p. universal_closure p.variables (specified th p.terms)) (patterns th (suc j))
    (each_pattern_is_derivable th (suc j) cs xs accepted are e) in
    theorem_of th [] wf (conclusion_line th accepted j H wf lines regular)
