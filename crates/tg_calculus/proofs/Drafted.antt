-- Each instance of a rule is a draft whose needs are met.
use Rattle.std.proofs.Common.{ℕ, zero, suc, ◌≡◌, ◌+◌, ◌-◌, ◌≤◌, nat_le, Bool, true, false, not, ◌&&◌, List, [], ◌∷◌, ◌++◌, length, take, Option, Some, refl, sym, ◌∙◌, ap, subst, arith}
use Rattle.std.proofs.lemmas.Bool.{le-leb}
use Rattle.std.proofs.lemmas.Option.{slice_get_within}
use Rattle.tg_model.specs.Tree.{free}
use Rattle.tg_model.specs.Types.{Ty, applied, Tys, elements}
use Rattle.tg_model.specs.Equality.{same_tree, same_type, same_formula}
use Rattle.tg_model.specs.Formula.{Formula, Sequent}
use Rattle.tg_model.specs.Theory.{Theory, numbered, first_constructor}
use Rattle.tg_model.specs.TermTyping.{constructor_arguments}
use Rattle.tg_model.specs.Walk.{instantiated_formula}
use Rattle.tg_model.specs.Calls.{has_call}
use Rattle.tg_model.proofs.Booleans.{and_both}
use Rattle.tg_model.proofs.Equalities.{decides_trees, decides_types, decides_formulas}
use Rattle.tg_model.proofs.Places.{get_left}
use Rattle.tg_rows.specs.Parts.{only_if, and_then}
use Rattle.tg_rows.specs.Rows.{row}
use Rattle.tg_calculus.specs.Sequent.{Context, ◌│◌⊢◌, next, uses_new, some_use_new, ◌∪◌, ◌∖◌}
use Rattle.tg_calculus.specs.Cases.{IsCase, AreCases, collected}
use Rattle.tg_calculus.specs.Chains.{some_has_chain}
use Rattle.tg_calculus.specs.Computing.{computes}
use Rattle.tg_calculus.specs.Replacing.{replaces}
use Rattle.tg_calculus.specs.Draft.{Draft, draft, always, same_context, without_last, with_first, fits, all_fit, before_first, exhausts}
use Rattle.tg_calculus.specs.Rule as rule
use Rattle.tg_calculus.specs.Rule.{Rule}
use Rattle.tg_calculus.specs.Step as step
use Rattle.tg_calculus.specs.Step.{Step}
use Rattle.tg_calculus.specs.Laws.{IsDrafted}
use Rattle.tg_calculus.proofs.ReplacingTests.{decides_replacement}

pub same_formula_itself : (F : Formula) → same_formula F F ≡ true
same_formula_itself F = (decides_formulas F F).1 refl

pub same_context_itself : (G : Context) → same_context G G ≡ true
same_context_itself [] = refl
same_context_itself (T ∷ G) = and_both (same_type T T) (same_context G G) ((decides_types T T).1 refl) (same_context_itself G)

not_true : (b : Bool) → b ≡ false → not b ≡ true
not_true b e = ap not e

last_taken : (G : Context) (T : Ty) → without_last (G ++ T ∷ []) ≡ Some (G, T)
last_taken [] T = refl
last_taken (U ∷ []) T = refl
last_taken (U ∷ V ∷ G) T = ap (with_first U) (last_taken (V ∷ G) T)

length_sum : {A : Type 0} (xs ys : List A) → length (xs ++ ys) ≡ length xs + length ys
length_sum [] ys = omega arith
length_sum (x ∷ xs) ys = let s = length_sum xs ys in omega (arith, s)

first_taken : {A : Type 0} (xs ys : List A) → take (length xs) (xs ++ ys) ≡ xs
first_taken [] [] = refl
first_taken [] (y ∷ ys) = refl
first_taken (x ∷ xs) ys = ap (λ l. x ∷ l) (first_taken xs ys)

before_taken : {A : Type 0} (xs ys : List A) → take (length (xs ++ ys) - length ys) (xs ++ ys) ≡ xs
before_taken xs ys =
    let s = length_sum xs ys in
    let n : length (xs ++ ys) - length ys ≡ length xs = omega (arith, s) in
    ap (λ k. take k (xs ++ ys)) n ∙ first_taken xs ys

pub if_given : (b : Bool) (d : Draft) → b ≡ true → only_if b d ≡ Some d
if_given b d e = ap (λ c. only_if c d) e

pub then_is : {A B : Type 0} (o : Option A) (x : A) (f : A → Option B) (d : Option B) → o ≡ Some x → f x ≡ d → and_then o f ≡ d
then_is o x f d e q = ap (λ p. and_then p f) e ∙ q

pub numbered_more : {A : Type 0} (xs ys : List A) (n : ℕ) (x : A) → numbered xs n ≡ Some x → numbered (xs ++ ys) n ≡ Some x
numbered_more xs ys zero x e = cc e
numbered_more xs ys (suc k) x e = get_left xs ys k (slice_get_within xs k x e) ∙ e

place_within : {A : Type 0} (xs : List A) (n : ℕ) (x : A) → numbered xs n ≡ Some x → n ≤ length xs
place_within xs zero x e = omega arith
place_within xs (suc k) x e = let l = slice_get_within xs k x e in omega (arith, l)

case_fits : (G : Context) (n : ℕ) (Q : Formula) (c : ℕ) (Ts : List Ty) (p : Sequent) → IsCase G n Q c Ts p → fits G n Q c Ts p ≡ true
case_fits G n Q c Ts p is =
    and_both (same_context p.vars (G ++ Ts)) _ (ap (λ K. same_context K (G ++ Ts)) is.context ∙ same_context_itself (G ++ Ts))
    (and_both (same_formula p.goal Q) _ ((decides_formulas p.goal Q).1 is.goal)
    (and_both (not (uses_new G Ts Q)) _ (not_true _ is.goal_without) (not_true _ is.others_without)))

all_cases_fit : (G : Context) (n : ℕ) (Q : Formula) (c : ℕ) (args : List (List Ty)) (ps : List Sequent) → AreCases G n Q c args ps
    → all_fit G n Q c args ps ≡ true
all_cases_fit G n Q c [] [] is = refl
all_cases_fit G n Q c [] (p ∷ ps) is = absurd is
all_cases_fit G n Q c (Ts ∷ rest) [] is = absurd is
all_cases_fit G n Q c (Ts ∷ rest) (p ∷ ps) is =
    and_both (fits G n Q c Ts p) _ (case_fits G n Q c Ts p is.0) (all_cases_fit G n Q (suc c) rest ps is.1)

-- the context and the goal of the first premise
record Firsts (G : Context) (Q : Formula) (args : List (List Ty)) (p : Sequent) : Type 0 where
  Ts : List Ty
  vars : p.vars ≡ G ++ Ts
  before : before_first p.vars args ≡ G
  goal : p.goal ≡ Q

firsts : (G : Context) (n : ℕ) (Q : Formula) (c : ℕ) (args : List (List Ty)) (p : Sequent) (ps : List Sequent) → AreCases G n Q c args (p ∷ ps)
    → Firsts G Q args p
firsts G n Q c [] p ps is = absurd is
firsts G n Q c (Us ∷ rest) p ps is = record {
  Ts = Us;
  vars = is.0.context;
  before = ap (λ (K : Context). take (length K - length Us) K) is.0.context ∙ before_taken G Us;
  goal = is.0.goal;
}

module _ (th : Theory) where
  exhaust_drafted : (G : Context) (Q : Formula) (n d : ℕ) (Ts : Tys) (p : Sequent) (ps : List Sequent) → numbered G n ≡ Some (applied d Ts)
      → AreCases G n Q (first_constructor th.datatypes d) (constructor_arguments th d (elements Ts)) (p ∷ ps)
      → draft th (rule.exhaust n) (p ∷ ps)
      ≡ always [] (G │ collected [] G n (first_constructor th.datatypes d) (constructor_arguments th d (elements Ts)) (p ∷ ps) ⊢ Q)
  exhaust_drafted G Q n d Ts p ps e is =
      let c = first_constructor th.datatypes d in
      let args = constructor_arguments th d (elements Ts) in
      let f = firsts G n Q c args p ps is in
      let place : numbered p.vars n ≡ Some (applied d Ts) = ap (λ (K : Context). numbered K n) f.vars ∙ numbered_more G f.Ts n (applied d Ts) e in
      let same : exhausts n c args (before_first p.vars args) p.goal (p ∷ ps) ≡ exhausts n c args G Q (p ∷ ps) =
      λ i. exhausts n c args (f.before i) (f.goal i) (p ∷ ps) in
      let fit : (nat_le n (length G) && all_fit G n Q c args (p ∷ ps)) ≡ true =
      and_both (nat_le n (length G)) _ (le-leb n (length G) (place_within G n (applied d Ts) e)) (all_cases_fit G n Q c args (p ∷ ps) is) in
      then_is (numbered p.vars n) (applied d Ts) _ _ place (same ∙ if_given _ _ fit)

  pub step_drafted : {r : Rule} {ps : List Sequent} {s : Sequent} → Step th r ps s → IsDrafted th r ps s
  step_drafted (step.hyp closed wf) = (_, refl, (closed, (wf, tt)))
  step_drafted (step.weak wf) = (_, refl, (wf, tt))
  step_drafted (step.cut {G}) = ([], if_given (same_context G G) _ (same_context_itself G), tt)
  step_drafted (step.grow closed) = (_, refl, (closed, tt))
  step_drafted (step.and_i {G}) = ([], if_given (same_context G G) _ (same_context_itself G), tt)
  step_drafted (step.and_l) = ([], refl, tt)
  step_drafted (step.and_r) = ([], refl, tt)
  step_drafted (step.imp_i wf) = (_, refl, (wf, tt))
  step_drafted (step.mp {G} {H} {K} {F} {Q}) = (
    [],
    if_given (same_context G G && same_formula F F) _ (and_both (same_context G G) (same_formula F F) (same_context_itself G)
        (same_formula_itself F)),
    tt,
  )
  step_drafted (step.all_i {G} {H} {T} {F} unused) =
      ([], then_is (without_last (G ++ T ∷ [])) (G, T) _ _ (last_taken G T) (if_given _ _ (not_true (some_use_new G (T ∷ []) H) unused)), tt)
  step_drafted (step.all_e typed) = (_, refl, (typed, tt))
  step_drafted (step.ex_i {G} {H} {T} {F} {F'} {t} wf typed e) =
      (_, if_given (same_formula F' (instantiated_formula (t ∷ []) F)) _ ((decides_formulas F' (instantiated_formula (t ∷ []) F)).1 e), (wf, (typed, tt)))
  step_drafted (step.ex_e {G} {H} {K} {T} {F} {F'} {Q} e free_goal free_rest) =
      let B = instantiated_formula (free (next G) ∷ []) F in
      let b = same_context (G ++ T ∷ []) (G ++ T ∷ []) && (not (uses_new G (T ∷ []) Q) && not (some_use_new G (T ∷ []) (K ∖ B))) in
      let holds : b ≡ true =
      and_both (same_context (G ++ T ∷ []) (G ++ T ∷ [])) _ (same_context_itself (G ++ T ∷ []))
      (and_both (not (uses_new G (T ∷ []) Q)) _ (not_true _ free_goal)
      (not_true _ (subst (λ (x : Formula). some_use_new G (T ∷ []) (K ∖ x) ≡ false) e free_rest))) in
      ([], if_given b _ holds ∙ (λ i. always [] (G │ H ∪ K ∖ sym e i ⊢ Q)), tt)
  step_drafted (step.thyp_i) = ([], refl, tt)
  step_drafted (step.thyp_e) = ([], refl, tt)
  step_drafted (step.truth closed) = (_, refl, (closed, tt))
  step_drafted (step.falsity wf) = (_, refl, (wf, tt))
  step_drafted (step.split {G} {H} {K} {Q} {t} typed) = (
    _,
    if_given (same_context G G && same_formula Q Q) _ (and_both (same_context G G) (same_formula Q Q) (same_context_itself G)
        (same_formula_itself Q)),
    (typed, tt),
  )
  step_drafted (step.reflexive closed wf) = (_, refl, (closed, (wf, tt)))
  step_drafted (step.symmetric) = ([], refl, tt)
  step_drafted (step.transitive {G} {H} {K} {s} {t} {u} wf) = (
    _,
    if_given (same_context G G && same_tree t t) _ (and_both (same_context G G) (same_tree t t) (same_context_itself G) ((decides_trees t t).1 refl)),
    (wf, tt),
  )
  step_drafted (step.replace {G} {H} {K} {s} {t} {Q} {F} r wf) = (
    _,
    if_given (same_context G G && replaces s t Q F) _ (and_both (same_context G G) (replaces s t Q F) (same_context_itself G)
        ((decides_replacement s t Q F).1 r)),
    (wf, tt),
  )
  step_drafted (step.schema {G} {k} {t} {u} closed e wf) = (_, then_is (row th k t) u _ _ e refl, (closed, (wf, tt)))
  step_drafted (step.exhaust G {Q} {n} d Ts {p} {ps} e is) = ([], exhaust_drafted G Q n d Ts p ps e is, tt)
  step_drafted (step.deep {G} {k} {ts} closed wf chain) = (_, if_given (some_has_chain th ts (suc k) th.program.inputs) _ chain, (closed, (wf, tt)))
  step_drafted (step.compute {G} {t} closed wf no_call c) =
      (_, if_given (not (has_call t) && computes th t) _ (and_both (not (has_call t)) (computes th t) (not_true _ no_call) c), (closed, (wf, tt)))
