-- The calculus: what an instance of each of the 26 rules is. `Step th r ps s` says that the premises `ps`, in order, give the
-- sequent `s` by the rule `r`. Where a rule has premises of one context, the conclusion has it too. Hypotheses are kept in the order
-- of the premises, without repeats. (Natural deduction as in HOL Light, with rewriting by schemas, and computing.)
use Rattle.std.specs.Prelude.{ℕ, suc, true, false, ◌≡◌, List, [], ◌∷◌, ◌++◌, Some}
use Rattle.tg_model.specs.Tree as tree
use Rattle.tg_model.specs.Tree.{Tree, Trees, free}
use Rattle.tg_model.specs.Types.{Ty, bool, applied, tys, elements, Tys}
use Rattle.tg_model.specs.Formula as formula
use Rattle.tg_model.specs.Formula.{Formula, Sequent, atom, both, implies, all, some, thyp}
use Rattle.tg_model.specs.Theory.{Theory, AreClosed, numbered, first_constructor}
use Rattle.tg_model.specs.TermTyping.{IsTyped, IsWellFormed, constructor_arguments}
use Rattle.tg_model.specs.Walk.{abstracted_formula, instantiated_formula}
use Rattle.tg_model.specs.Calls.{has_call}
use Rattle.tg_rows.specs.Rows.{row}
use Rattle.tg_calculus.specs.Sequent.{Context, Hypotheses, ◌│◌⊢◌, equation, denied, added, ◌∪◌, ◌∖◌, next, uses_new, some_use_new}
use Rattle.tg_calculus.specs.Replacement.{FormulaReplaced}
use Rattle.tg_calculus.specs.Cases.{AreCases, collected}
use Rattle.tg_calculus.specs.Chains.{some_has_chain}
use Rattle.tg_calculus.specs.Computing.{computes}
use Rattle.tg_calculus.specs.Rule as rule
use Rattle.tg_calculus.specs.Rule.{Rule}

module _ (th : Theory) where
  -- its types are closed
  abbrev pub IsContext : Context → Type 0
  IsContext G = AreClosed th (tys G)

  -- each term has a type in the context, and no bound variable is loose
  abbrev pub IsFormula : Context → Formula → Type 0
  IsFormula G F = IsWellFormed th G [] F

  abbrev pub IsTerm : Context → Tree → Ty → Type 0
  IsTerm G t T = IsTyped th G [] t T

  pub data Step : Rule → List Sequent → Sequent → Type 0 where
    -- 1. A formula proves itself.
    hyp : {G : Context} {F : Formula} → IsContext G → IsFormula G F →
        Step (rule.hyp G F) [] (G │ F ∷ [] ⊢ F)
    -- 2. A further hypothesis does no harm.
    weak : {G : Context} {H : Hypotheses} {F Q : Formula} → IsFormula G F →
        Step (rule.weak F) ((G │ H ⊢ Q) ∷ []) (G │ added H F ⊢ Q)
    -- 3. What is proved needn't be assumed.
    cut : {G : Context} {H K : Hypotheses} {F Q : Formula} →
        Step rule.cut ((G │ H ⊢ F) ∷ (G │ K ⊢ Q) ∷ []) (G │ H ∪ K ∖ F ⊢ Q)
    -- 4. A context may have more variables.
    grow : {G : Context} {H : Hypotheses} {Q : Formula} {Ts : List Ty} → IsContext Ts →
        Step (rule.grow Ts) ((G │ H ⊢ Q) ∷ []) (G ++ Ts │ H ⊢ Q)
    -- 5. Two goals give their conjunction.
    and_i : {G : Context} {H K : Hypotheses} {F Q : Formula} →
        Step rule.and_i ((G │ H ⊢ F) ∷ (G │ K ⊢ Q) ∷ []) (G │ H ∪ K ⊢ both F Q)
    -- 6. A conjunction gives its left side.
    and_l : {G : Context} {H : Hypotheses} {F Q : Formula} →
        Step rule.and_l ((G │ H ⊢ both F Q) ∷ []) (G │ H ⊢ F)
    -- 7. A conjunction gives its right side.
    and_r : {G : Context} {H : Hypotheses} {F Q : Formula} →
        Step rule.and_r ((G │ H ⊢ both F Q) ∷ []) (G │ H ⊢ Q)
    -- 8. What follows from a formula makes an implication; the formula needn't be a hypothesis.
    imp_i : {G : Context} {H : Hypotheses} {F Q : Formula} → IsFormula G F →
        Step (rule.imp_i F) ((G │ H ⊢ Q) ∷ []) (G │ H ∖ F ⊢ implies F Q)
    -- 9. An implication and its left side give its right side.
    mp : {G : Context} {H K : Hypotheses} {F Q : Formula} →
        Step rule.mp ((G │ H ⊢ implies F Q) ∷ (G │ K ⊢ F) ∷ []) (G │ H ∪ K ⊢ Q)
    -- 10. What holds of the last variable, of which nothing is assumed, holds of all.
    all_i : {G : Context} {H : Hypotheses} {T : Ty} {F : Formula} → some_use_new G (T ∷ []) H ≡ false →
        Step rule.all_i ((G ++ T ∷ [] │ H ⊢ F) ∷ []) (G │ H ⊢ all T (abstracted_formula (next G) F))
    -- 11. What holds of all holds of a term.
    all_e : {G : Context} {H : Hypotheses} {T : Ty} {F : Formula} {t : Tree} → IsTerm G t T →
        Step (rule.all_e t) ((G │ H ⊢ all T F) ∷ []) (G │ H ⊢ instantiated_formula (t ∷ []) F)
    -- 12. What holds of a term holds of something.
    ex_i : {G : Context} {H : Hypotheses} {T : Ty} {F F' : Formula} {t : Tree} → IsFormula G (some T F) → IsTerm G t T →
        F' ≡ instantiated_formula (t ∷ []) F →
        Step (rule.ex_i (some T F) t) ((G │ H ⊢ F') ∷ []) (G │ H ⊢ some T F)
    -- 13. Where something is, a new variable may name it; `F'` is `F` at that variable.
    ex_e : {G : Context} {H K : Hypotheses} {T : Ty} {F F' Q : Formula} → F' ≡ instantiated_formula (free (next G) ∷ []) F →
        uses_new G (T ∷ []) Q ≡ false → some_use_new G (T ∷ []) (K ∖ F') ≡ false →
        Step rule.ex_e ((G │ H ⊢ some T F) ∷ (G ++ T ∷ [] │ K ⊢ Q) ∷ []) (G │ H ∪ K ∖ F' ⊢ Q)
    -- 14. A goal may be marked.
    thyp_i : {G : Context} {H : Hypotheses} {F : Formula} →
        Step rule.thyp_i ((G │ H ⊢ F) ∷ []) (G │ H ⊢ thyp F)
    -- 15. A mark may go.
    thyp_e : {G : Context} {H : Hypotheses} {F : Formula} →
        Step rule.thyp_e ((G │ H ⊢ thyp F) ∷ []) (G │ H ⊢ F)
    -- 16. True is true.
    truth : {G : Context} → IsContext G →
        Step (rule.truth G) [] (G │ [] ⊢ atom (tree.truth true))
    -- 17. False gives anything.
    falsity : {G : Context} {H : Hypotheses} {F : Formula} → IsFormula G F →
        Step (rule.falsity F) ((G │ H ⊢ atom (tree.truth false)) ∷ []) (G │ H ⊢ F)
    -- 18. What follows from a term and from its negation holds.
    split : {G : Context} {H K : Hypotheses} {Q : Formula} {t : Tree} → IsTerm G t bool →
        Step (rule.split t) ((G │ H ⊢ Q) ∷ (G │ K ⊢ Q) ∷ []) (G │ H ∖ atom t ∪ K ∖ denied t ⊢ Q)
    -- 19. A term equals itself.
    reflexive : {G : Context} {t : Tree} → IsContext G → IsFormula G (equation t t) →
        Step (rule.reflexive G t) [] (G │ [] ⊢ equation t t)
    -- 20. The sides of an equation may change.
    symmetric : {G : Context} {H : Hypotheses} {s t : Tree} →
        Step rule.symmetric ((G │ H ⊢ equation s t) ∷ []) (G │ H ⊢ equation t s)
    -- 21. Equations make chains; of polymorphic terms the outer two may have no type in common.
    transitive : {G : Context} {H K : Hypotheses} {s t u : Tree} → IsFormula G (equation s u) →
        Step rule.transitive ((G │ H ⊢ equation s t) ∷ (G │ K ⊢ equation t u) ∷ []) (G │ H ∪ K ⊢ equation s u)
    -- 22. Equals may stand for equals, at some places, none or all, under binders too.
    replace : {G : Context} {H K : Hypotheses} {s t : Tree} {Q F : Formula} → FormulaReplaced s t Q F → IsFormula G F →
        Step (rule.replace F) ((G │ H ⊢ equation s t) ∷ (G │ K ⊢ Q) ∷ []) (G │ H ∪ K ⊢ F)
    -- 23. A term equals what the row makes of it.
    schema : {G : Context} {k : ℕ} {t u : Tree} → IsContext G → row th k t ≡ Some u → IsFormula G (equation t u) →
        Step (rule.schema G k t) [] (G │ [] ⊢ equation t u)
    -- 24. What follows however a variable of a datatype is made holds; a premise for each constructor.
    exhaust : (G : Context) {Q : Formula} {n : ℕ} (d : ℕ) (Ts : Tys) {p : Sequent} {ps : List Sequent} → numbered G n ≡ Some (applied d Ts) →
        AreCases G n Q (first_constructor th.datatypes d) (constructor_arguments th d (elements Ts)) (p ∷ ps) →
        Step (rule.exhaust n) (p ∷ ps)
        (G │ collected [] G n (first_constructor th.datatypes d) (constructor_arguments th d (elements Ts)) (p ∷ ps) ⊢ Q)
    -- 25. Under so many constructors stands a term of a datatype: so the inputs are deeper.
    deep : {G : Context} {k : ℕ} {ts : Trees} → IsContext G → IsFormula G (formula.deep (suc k) ts) →
        some_has_chain th ts (suc k) th.program.inputs ≡ true →
        Step (rule.deep G (suc k) ts) [] (G │ [] ⊢ formula.deep (suc k) ts)
    -- 26. A term that computes to True is true; as a formula of the empty context it has no variable, and it calls no program.
    compute : {G : Context} {t : Tree} → IsContext G → IsFormula [] (atom t) → has_call t ≡ false → computes th t ≡ true →
        Step (rule.compute G t) [] (G │ [] ⊢ atom t)
