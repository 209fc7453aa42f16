-- A draft whose needs are met is an instance of its rule.
use Rattle.std.proofs.Common.{ℕ, zero, suc, ◌≡◌, ◌≤◌, nat_le, Bool, true, false, not, ◌&&◌, List, [], ◌∷◌, ◌++◌, length, Option, Some, None, refl, sym, ◌∙◌, ap, subst, arith}
use Rattle.std.proofs.lemmas.Bool.{leb-true}
use Rattle.tg_model.specs.Tree as tree
use Rattle.tg_model.specs.Tree.{Tree, Trees, Operator, free, op, one, two, equality, bound, literal, truth, con, call, put, choice, case, bind}
use Rattle.tg_model.specs.Types.{Ty, applied, Tys, elements}
use Rattle.tg_model.specs.Equality.{same_tree, same_type, same_formula}
use Rattle.tg_model.specs.Formula.{Formula, Sequent, atom, both, implies, all, some, thyp}
use Rattle.tg_model.specs.Theory.{Theory, numbered, first_constructor}
use Rattle.tg_model.specs.TermTyping.{constructor_arguments}
use Rattle.tg_model.specs.Walk.{instantiated_formula, abstracted_formula}
use Rattle.tg_model.specs.Calls.{has_call}
use Rattle.tg_model.proofs.Booleans.{and_left, and_right}
use Rattle.tg_model.proofs.Equalities.{decides_trees, decides_types, decides_formulas}
use Rattle.tg_model.proofs.Places.{get_left}
use Rattle.tg_rows.specs.Parts.{only_if, and_then, binary, same_operator}
use Rattle.tg_rows.specs.Rows.{row}
use Rattle.tg_calculus.specs.Sequent.{Context, ◌│◌⊢◌, equation, next, uses_new, some_use_new, ◌∖◌}
use Rattle.tg_calculus.specs.Cases.{IsCase, AreCases, own_equation}
use Rattle.tg_calculus.specs.Chains.{some_has_chain}
use Rattle.tg_calculus.specs.Computing.{computes}
use Rattle.tg_calculus.specs.Replacing.{replaces}
use Rattle.tg_calculus.specs.Draft.{Need, Draft, AreMet, draft, always, same_context, without_last, with_first, fits, all_fit, before_first, exhausts, as_both, as_implies, as_all, as_some, as_thyp, as_equation, as_data}
use Rattle.tg_calculus.specs.Rule as rule
use Rattle.tg_calculus.specs.Rule.{Rule}
use Rattle.tg_calculus.specs.Step as step
use Rattle.tg_calculus.specs.Step.{Step}
use Rattle.tg_calculus.specs.Laws.{StepIsDraft, HasOneConclusion}
use Rattle.tg_calculus.proofs.ReplacingTests.{decides_replacement, one_operator}
use Rattle.tg_calculus.proofs.Drafted.{step_drafted}

-- what a form that is found says of the formula
both_is : (F : Formula) (p : Formula × Formula) → as_both F ≡ Some p → F ≡ both p.0 p.1
both_is (both F Q) p e = let q : (F, Q) ≡ p = cc e in ap (λ (x : Formula × Formula). both x.0 x.1) q
both_is F p e = cc e

implies_is : (F : Formula) (p : Formula × Formula) → as_implies F ≡ Some p → F ≡ implies p.0 p.1
implies_is (implies F Q) p e = let q : (F, Q) ≡ p = cc e in ap (λ (x : Formula × Formula). implies x.0 x.1) q
implies_is F p e = cc e

all_is : (F : Formula) (p : Ty × Formula) → as_all F ≡ Some p → F ≡ all p.0 p.1
all_is (all T F) p e = let q : (T, F) ≡ p = cc e in ap (λ (x : Ty × Formula). all x.0 x.1) q
all_is F p e = cc e

some_is : (F : Formula) (p : Ty × Formula) → as_some F ≡ Some p → F ≡ some p.0 p.1
some_is (some T F) p e = let q : (T, F) ≡ p = cc e in ap (λ (x : Ty × Formula). some x.0 x.1) q
some_is F p e = cc e

thyp_is : (F Q : Formula) → as_thyp F ≡ Some Q → F ≡ thyp Q
thyp_is (thyp F) Q e = let q : F ≡ Q = cc e in ap thyp q
thyp_is F Q e = cc e

data_is : (T : Ty) (p : ℕ × Tys) → as_data T ≡ Some p → T ≡ applied p.0 p.1
data_is (applied d Ts) p e = let q : (d, Ts) ≡ p = cc e in ap (λ (x : ℕ × Tys). applied x.0 x.1) q
data_is T p e = cc e

pub only_some : {A : Type 0} (b : Bool) (x y : A) → only_if b x ≡ Some y → (b ≡ true) × (x ≡ y)
only_some true x y e = (refl, cc e)
only_some false x y e = cc e

operation_is : (o : Operator) (t : Tree) (p : Tree × Tree) → binary o t ≡ Some p → t ≡ op o (two p.0 p.1)
operation_is o (op o' (tree.more s (tree.more t tree.none))) p e =
    let x : Tree × Tree = (s, t) in
    let q = only_some (same_operator o o') x p e in
    (λ i. op (sym (one_operator o o' q.0) i) (two s t)) ∙ ap (λ (y : Tree × Tree). op o (two y.0 y.1)) q.1
operation_is o t p e = cc e

equation_is : (F : Formula) (p : Tree × Tree) → as_equation F ≡ Some p → F ≡ equation p.0 p.1
equation_is (atom t) p e = ap atom (operation_is equality t p e)
equation_is F p e = cc e

contexts : (G K : Context) → same_context G K ≡ true → G ≡ K
contexts [] [] e = refl
contexts (T ∷ G) (U ∷ K) e =
    let t = (decides_types T U).0 (and_left (same_type T U) (same_context G K) e) in
    let k = contexts G K (and_right (same_type T U) (same_context G K) e) in
    λ i. t i ∷ k i
contexts [] (U ∷ K) e = cc e
contexts (T ∷ G) [] e = cc e

last_is : (K : Context) (p : Context × Ty) → without_last K ≡ Some p → K ≡ p.0 ++ p.1 ∷ []
last_is [] p e = cc e
last_is (T ∷ []) p e = let x : Context × Ty = ([], T) in let q : x ≡ p = cc e in ap (λ (y : Context × Ty). y.0 ++ y.1 ∷ []) q
last_is (T ∷ U ∷ G) p e = at (without_last (U ∷ G)) (λ q d. last_is (U ∷ G) q d) e
  where
    at : (o : Option (Context × Ty)) → ((q : Context × Ty) → o ≡ Some q → U ∷ G ≡ q.0 ++ q.1 ∷ []) → with_first T o ≡ Some p → T ∷ U ∷ G ≡ p.0 ++ p.1 ∷ []
    at None h e = cc e
    at (Some q) h e =
        let x : Context × Ty = (T ∷ q.0, q.1) in
        let k : x ≡ p = cc e in
        ap (λ l. T ∷ l) (h q refl) ∙ ap (λ (y : Context × Ty). y.0 ++ y.1 ∷ []) k

is_false : (b : Bool) → not b ≡ true → b ≡ false
is_false false e = refl
is_false true e = cc e

pub then_found : {A B P : Type 0} (o : Option A) (f : A → Option B) (y : B) → and_then o f ≡ Some y → ((x : A) → o ≡ Some x → f x ≡ Some y → P) → P
then_found None f y e k = cc e
then_found (Some x) f y e k = k x refl e

case_of : (G : Context) (n : ℕ) (Q : Formula) (c : ℕ) (Ts : List Ty) (p : Sequent) → fits G n Q c Ts p ≡ true → IsCase G n Q c Ts p
case_of G n Q c Ts p e =
    let a = and_right (same_context p.vars (G ++ Ts)) _ e in
    let b = and_right (same_formula p.goal Q) _ a in
    record {
      context = contexts p.vars (G ++ Ts) (and_left (same_context p.vars (G ++ Ts)) _ e);
      goal = (decides_formulas p.goal Q).0 (and_left (same_formula p.goal Q) _ a);
      goal_without = is_false (uses_new G Ts Q) (and_left (not (uses_new G Ts Q)) _ b);
      others_without = is_false (some_use_new G Ts (p.hypotheses ∖ own_equation G n c Ts)) (and_right (not (uses_new G Ts Q)) _ b);
    }

cases_of : (G : Context) (n : ℕ) (Q : Formula) (c : ℕ) (args : List (List Ty)) (ps : List Sequent) → all_fit G n Q c args ps ≡ true → AreCases G n Q c args ps
cases_of G n Q c [] [] e = tt
cases_of G n Q c [] (p ∷ ps) e = cc e
cases_of G n Q c (Ts ∷ rest) [] e = cc e
cases_of G n Q c (Ts ∷ rest) (p ∷ ps) e =
    (case_of G n Q c Ts p (and_left (fits G n Q c Ts p) _ e), cases_of G n Q (suc c) rest ps (and_right (fits G n Q c Ts p) _ e))

-- a place of the shorter list
numbered_before : {A : Type 0} (xs ys : List A) (n : ℕ) → n ≤ length xs → numbered (xs ++ ys) n ≡ numbered xs n
numbered_before xs ys zero l = refl
numbered_before xs ys (suc k) l = get_left xs ys k (omega (arith, l))

first_context : (G : Context) (n : ℕ) (Q : Formula) (c : ℕ) (args : List (List Ty)) (p : Sequent) (ps : List Sequent) → AreCases G n Q c args (p ∷ ps)
    → (Ts : List Ty) × (p.vars ≡ G ++ Ts)
first_context G n Q c [] p ps is = absurd is
first_context G n Q c (Ts ∷ rest) p ps is = (Ts, is.0.context)

module _ (th : Theory) where
  -- from the draft that is found to the one that it is
  same_draft : (r : Rule) (ps : List Sequent) (x y : Draft) → x ≡ y → AreMet th y.needs → (AreMet th x.needs → Step th r ps x.conclusion)
      → Step th r ps y.conclusion
  same_draft r ps x y e m k = subst (λ (d : Draft). Step th r ps d.conclusion) e (k (subst (λ (d : Draft). AreMet th d.needs) (sym e) m))

  taken : (r : Rule) (ps : List Sequent) (x y : Draft) → Some x ≡ Some y → AreMet th y.needs → (AreMet th x.needs → Step th r ps x.conclusion)
      → Step th r ps y.conclusion
  taken r ps x y e m k = same_draft r ps x y (cc e) m k

  tested : (r : Rule) (ps : List Sequent) (b : Bool) (x y : Draft) → only_if b x ≡ Some y → AreMet th y.needs
      → (b ≡ true → AreMet th x.needs → Step th r ps x.conclusion) → Step th r ps y.conclusion
  tested r ps b x y e m k = let q = only_some b x y e in same_draft r ps x y q.1 m (k q.0)

  same_first : (r : Rule) (p : Sequent) (ps : List Sequent) (s : Sequent) (F : Formula) → p.goal ≡ F → Step th r ((p.vars │ p.hypotheses ⊢ F) ∷ ps) s
      → Step th r (p ∷ ps) s
  same_first r p ps s F e x = subst (λ (Q : Formula). Step th r ((p.vars │ p.hypotheses ⊢ Q) ∷ ps) s) (sym e) x

  same_second : (r : Rule) (p q : Sequent) (s : Sequent) (F : Formula) → q.goal ≡ F → Step th r (p ∷ (q.vars │ q.hypotheses ⊢ F) ∷ []) s
      → Step th r (p ∷ q ∷ []) s
  same_second r p q s F e x = subst (λ (Q : Formula). Step th r (p ∷ (q.vars │ q.hypotheses ⊢ Q) ∷ []) s) (sym e) x

  one_context : (r : Rule) (p q : Sequent) (s : Sequent) (G : Context) → same_context q.vars G ≡ true → Step th r (p ∷ (G │ q.hypotheses ⊢ q.goal) ∷ []) s
      → Step th r (p ∷ q ∷ []) s
  one_context r p q s G e x = subst (λ (K : Context). Step th r (p ∷ (K │ q.hypotheses ⊢ q.goal) ∷ []) s) (sym (contexts q.vars G e)) x

  exhaust_taken : (n d : ℕ) (Ts : Tys) (p : Sequent) (ps : List Sequent) (G : Context) (y : Draft) → numbered p.vars n ≡ Some (applied d Ts)
      → exhausts n (first_constructor th.datatypes d) (constructor_arguments th d (elements Ts)) G p.goal (p ∷ ps) ≡ Some y → AreMet th y.needs
      → Step th (rule.exhaust n) (p ∷ ps) y.conclusion
  exhaust_taken n d Ts p ps G y e f m =
      let c = first_constructor th.datatypes d in
      let args = constructor_arguments th d (elements Ts) in
      tested (rule.exhaust n) (p ∷ ps) (nat_le n (length G) && all_fit G n p.goal c args (p ∷ ps)) _ y f m
      (λ b met.
      let is = cases_of G n p.goal c args (p ∷ ps) (and_right (nat_le n (length G)) _ b) in
      let k = first_context G n p.goal c args p ps is in
      let place = leb-true n (length G) (and_left (nat_le n (length G)) _ b) in
      let here : numbered G n ≡ Some (applied d Ts) = sym (numbered_before G k.0 n place) ∙ (ap (λ (K : Context). numbered K n) (sym k.1) ∙ e) in
      step.exhaust G d Ts here is)

  pub draft_step : (r : Rule) (ps : List Sequent) (y : Draft) → draft th r ps ≡ Some y → AreMet th y.needs → Step th r ps y.conclusion
  draft_step (rule.hyp G F) [] y d m = taken (rule.hyp G F) [] _ y d m (λ n. step.hyp n.0 n.1.0)
  draft_step (rule.weak F) (p ∷ []) y d m = taken (rule.weak F) (p ∷ []) _ y d m (λ n. step.weak n.0)
  draft_step rule.cut (p ∷ q ∷ []) y d m =
      tested rule.cut (p ∷ q ∷ []) (same_context q.vars p.vars) _ y d m (λ b n. one_context rule.cut p q _ p.vars b step.cut)
  draft_step (rule.grow Ts) (p ∷ []) y d m = taken (rule.grow Ts) (p ∷ []) _ y d m (λ n. step.grow n.0)
  draft_step rule.and_i (p ∷ q ∷ []) y d m =
      tested rule.and_i (p ∷ q ∷ []) (same_context q.vars p.vars) _ y d m (λ b n. one_context rule.and_i p q _ p.vars b step.and_i)
  draft_step rule.and_l (p ∷ []) y d m =
      then_found (as_both p.goal) _ y d (λ f e d'. taken rule.and_l (p ∷ []) _ y d' m
      (λ n. same_first rule.and_l p [] _ (both f.0 f.1) (both_is p.goal f e) step.and_l))
  draft_step rule.and_r (p ∷ []) y d m =
      then_found (as_both p.goal) _ y d (λ f e d'. taken rule.and_r (p ∷ []) _ y d' m
      (λ n. same_first rule.and_r p [] _ (both f.0 f.1) (both_is p.goal f e) step.and_r))
  draft_step (rule.imp_i F) (p ∷ []) y d m = taken (rule.imp_i F) (p ∷ []) _ y d m (λ n. step.imp_i n.0)
  draft_step rule.mp (p ∷ q ∷ []) y d m =
      then_found (as_implies p.goal) _ y d (λ f e d'. tested rule.mp (p ∷ q ∷ []) (same_context q.vars p.vars && same_formula q.goal f.0) _ y d' m
      (λ b n. same_first rule.mp p (q ∷ []) _ (implies f.0 f.1) (implies_is p.goal f e)
      (one_context rule.mp (p.vars │ p.hypotheses ⊢ implies f.0 f.1) q _ p.vars (and_left (same_context q.vars p.vars) _ b)
      (same_second rule.mp (p.vars │ p.hypotheses ⊢ implies f.0 f.1) (p.vars │ q.hypotheses ⊢ q.goal) _ f.0
      ((decides_formulas q.goal f.0).0 (and_right (same_context q.vars p.vars) _ b)) step.mp))))
  draft_step rule.all_i (p ∷ []) y d m =
      then_found (without_last p.vars) _ y d (λ k e d'. tested rule.all_i (p ∷ []) (not (some_use_new k.0 (k.1 ∷ []) p.hypotheses)) _ y d' m
      (λ b n. subst (λ (K : Context). Step th rule.all_i ((K │ p.hypotheses ⊢ p.goal) ∷ [])
      (k.0 │ p.hypotheses ⊢ all k.1 (abstracted_formula (next k.0) p.goal)))
      (sym (last_is p.vars k e)) (step.all_i (is_false _ b))))
  draft_step (rule.all_e t) (p ∷ []) y d m =
      then_found (as_all p.goal) _ y d (λ f e d'. taken (rule.all_e t) (p ∷ []) _ y d' m
      (λ n. same_first (rule.all_e t) p [] _ (all f.0 f.1) (all_is p.goal f e) (step.all_e n.0)))
  draft_step (rule.ex_i F t) (p ∷ []) y d m =
      then_found (as_some F) _ y d (λ f e d'. tested (rule.ex_i F t) (p ∷ []) (same_formula p.goal (instantiated_formula (t ∷ []) f.1)) _ y d' m
      (λ b n. subst (λ (x : Formula). Step th (rule.ex_i x t) (p ∷ []) (p.vars │ p.hypotheses ⊢ x)) (sym (some_is F f e))
      (step.ex_i (subst (λ (x : Formula). step.IsFormula th p.vars x) (some_is F f e) n.0) n.1.0
      ((decides_formulas p.goal (instantiated_formula (t ∷ []) f.1)).0 b))))
  draft_step rule.ex_e (p ∷ q ∷ []) y d m =
      then_found (as_some p.goal) _ y d (λ f e d'.
      let B = instantiated_formula (free (next p.vars) ∷ []) f.1 in
      let K = p.vars ++ f.0 ∷ [] in
      let P = p.vars │ p.hypotheses ⊢ some f.0 f.1 in
      let b0 = same_context q.vars K in
      let b1 = uses_new p.vars (f.0 ∷ []) q.goal in
      let b2 = some_use_new p.vars (f.0 ∷ []) (q.hypotheses ∖ B) in
      tested rule.ex_e (p ∷ q ∷ []) (b0 && (not b1 && not b2)) _ y d' m
      (λ b n. same_first rule.ex_e p (q ∷ []) _ (some f.0 f.1) (some_is p.goal f e)
      (one_context rule.ex_e P q _ K (and_left b0 _ b)
      (step.ex_e {F' = B} refl (is_false b1 (and_left (not b1) _ (and_right b0 _ b))) (is_false b2 (and_right (not b1) _ (and_right b0 _ b)))))))
  draft_step rule.thyp_i (p ∷ []) y d m = taken rule.thyp_i (p ∷ []) _ y d m (λ n. step.thyp_i)
  draft_step rule.thyp_e (p ∷ []) y d m =
      then_found (as_thyp p.goal) _ y d (λ F e d'. taken rule.thyp_e (p ∷ []) _ y d' m
      (λ n. same_first rule.thyp_e p [] _ (thyp F) (thyp_is p.goal F e) step.thyp_e))
  draft_step (rule.truth G) [] y d m = taken (rule.truth G) [] _ y d m (λ n. step.truth n.0)
  draft_step (rule.falsity F) (p ∷ []) y d m =
      tested (rule.falsity F) (p ∷ []) (same_formula p.goal (atom (truth false))) _ y d m
      (λ b n. same_first (rule.falsity F) p [] _ (atom (truth false)) ((decides_formulas p.goal (atom (truth false))).0 b) (step.falsity n.0))
  draft_step (rule.split t) (p ∷ q ∷ []) y d m =
      tested (rule.split t) (p ∷ q ∷ []) (same_context q.vars p.vars && same_formula q.goal p.goal) _ y d m
      (λ b n. one_context (rule.split t) p q _ p.vars (and_left (same_context q.vars p.vars) _ b)
      (same_second (rule.split t) p (p.vars │ q.hypotheses ⊢ q.goal) _ p.goal
      ((decides_formulas q.goal p.goal).0 (and_right (same_context q.vars p.vars) _ b)) (step.split n.0)))
  draft_step (rule.reflexive G t) [] y d m = taken (rule.reflexive G t) [] _ y d m (λ n. step.reflexive n.0 n.1.0)
  draft_step rule.symmetric (p ∷ []) y d m =
      then_found (as_equation p.goal) _ y d (λ f e d'. taken rule.symmetric (p ∷ []) _ y d' m
      (λ n. same_first rule.symmetric p [] _ (equation f.0 f.1) (equation_is p.goal f e) step.symmetric))
  draft_step rule.transitive (p ∷ q ∷ []) y d m =
      then_found (as_equation p.goal) _ y d (λ e a d'. then_found (as_equation q.goal) _ y d' (λ f c d''.
      let P = p.vars │ p.hypotheses ⊢ equation e.0 e.1 in
      tested rule.transitive (p ∷ q ∷ []) (same_context q.vars p.vars && same_tree f.0 e.1) _ y d'' m
      (λ b n. same_first rule.transitive p (q ∷ []) _ (equation e.0 e.1) (equation_is p.goal e a)
      (one_context rule.transitive P q _ p.vars (and_left (same_context q.vars p.vars) _ b)
      (same_second rule.transitive P (p.vars │ q.hypotheses ⊢ q.goal) _ (equation e.1 f.1)
      (equation_is q.goal f c ∙ ap (λ x. equation x f.1) ((decides_trees f.0 e.1).0 (and_right (same_context q.vars p.vars) _ b))) (step.transitive n.0))))))
  draft_step (rule.replace F) (p ∷ q ∷ []) y d m =
      then_found (as_equation p.goal) _ y d (λ e a d'.
      let P = p.vars │ p.hypotheses ⊢ equation e.0 e.1 in
      tested (rule.replace F) (p ∷ q ∷ []) (same_context q.vars p.vars && replaces e.0 e.1 q.goal F) _ y d' m
      (λ b n. same_first (rule.replace F) p (q ∷ []) _ (equation e.0 e.1) (equation_is p.goal e a)
      (one_context (rule.replace F) P q _ p.vars (and_left (same_context q.vars p.vars) _ b)
      (step.replace ((decides_replacement e.0 e.1 q.goal F).0 (and_right (same_context q.vars p.vars) _ b)) n.0))))
  draft_step (rule.schema G k t) [] y d m =
      then_found (row th k t) _ y d (λ u e d'. taken (rule.schema G k t) [] _ y d' m (λ n. step.schema n.0 e n.1.0))
  draft_step (rule.exhaust n) (p ∷ ps) y d m =
      then_found (numbered p.vars n) _ y d (λ T e d'. then_found (as_data T) _ y d' (λ x f d''.
      exhaust_taken n x.0 x.1 p ps (before_first p.vars (constructor_arguments th x.0 (elements x.1))) y (e ∙ ap Some (data_is T x f)) d'' m))
  draft_step (rule.deep G (suc k) ts) [] y d m =
      tested (rule.deep G (suc k) ts) [] (some_has_chain th ts (suc k) th.program.inputs) _ y d m (λ b n. step.deep n.0 n.1.0 b)
  draft_step (rule.compute G t) [] y d m =
      tested (rule.compute G t) [] (not (has_call t) && computes th t) _ y d m
      (λ b n. step.compute n.0 n.1.0 (is_false (has_call t) (and_left (not (has_call t)) _ b)) (and_right (not (has_call t)) _ b))
  draft_step r ps y d m = cc d

pub step_is_draft : StepIsDraft
step_is_draft th r ps s = (λ x. step_drafted th x, λ d. let y : Draft = record { needs = d.0; conclusion = s } in draft_step th r ps y d.1 d.2)

pub has_one_conclusion : HasOneConclusion
has_one_conclusion th r ps s s' x x' =
    let a = step_drafted th x in
    let b = step_drafted th x' in
    concluded a.0 b.0 (sym a.1 ∙ b.1)
  where
    concluded : (ns ns' : List Need) → always ns s ≡ always ns' s' → s ≡ s'
    concluded ns ns' e =
        let x : Draft = record { needs = ns; conclusion = s } in
        let y : Draft = record { needs = ns'; conclusion = s' } in
        let q : x ≡ y = cc e in
        ap (λ (d : Draft). d.conclusion) q
