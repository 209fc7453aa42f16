-- What is derivable is well formed, rule by rule.
use Rattle.std.proofs.Common.{ℕ, suc, ◌≡◌, List, [], ◌∷◌, ◌++◌, refl, ap, subst}
use Rattle.tg_model.specs.Tree as tree
use Rattle.tg_model.specs.Tree.{Tree, op, one, two, truth, equality, free}
use Rattle.tg_model.specs.Types.{Ty, bool}
use Rattle.tg_model.specs.Formula.{Formula, Sequent, atom}
use Rattle.tg_model.specs.Theory.{Theory}
use Rattle.tg_model.specs.TermTyping.{Typing, leaf, compound, none, more, type_of, IsOperation, IsTyping, IsWellFormed}
use Rattle.tg_model.proofs.Keeping.{instantiation_keeps_form, abstraction_keeps_form}
use Rattle.tg_model.proofs.Contexts.{contexts_grow_form}
use Rattle.tg_calculus.specs.Sequent.{Context, Hypotheses, Each, equation, denied, ◌∪◌, ◌∖◌, next}
use Rattle.tg_calculus.specs.Cases.{IsCase, AreCases, collected, own_equation}
use Rattle.tg_calculus.specs.Rule.{Rule}
use Rattle.tg_calculus.specs.Step as step
use Rattle.tg_calculus.specs.Step.{Step, IsContext, IsFormula}
use Rattle.tg_calculus.specs.Derivation as derivation
use Rattle.tg_calculus.specs.Derivation.{Derives, AllDerived, by_rule}
use Rattle.tg_calculus.specs.Laws.{IsFormed, StepsKeepForm, DerivableIsFormed}
use Rattle.tg_calculus.proofs.Hypotheses.{each_added, each_joined, each_left}
use Rattle.tg_calculus.proofs.NewVariables.{closed_both, closed_first, closed_last, at_end, elsewhere, strengthened, all_strengthened, weakened, all_weakened}

-- the operands of a typed operation
pub record Operands (th : Theory) (vars : List Ty) (o : tree.Operator) (a b : Tree) (t : Ty) : Type 0 where
  pub left : Typing
  pub right : Typing
  pub is : IsOperation o (type_of left ∷ type_of right ∷ []) t
  pub left_is : IsTyping th vars [] a left
  pub right_is : IsTyping th vars [] b right

pub operands : (th : Theory) (vars : List Ty) (o : tree.Operator) (a b : Tree) (d : Typing) → IsTyping th vars [] (op o (two a b)) d
    → Operands th vars o a b (type_of d)
operands th vars o a b (compound t (more d (more e none))) h = record { left = d; right = e; is = h.0; left_is = h.1.0; right_is = h.1.1.0 }
operands th vars o a b (compound t none) h = absurd h.1
operands th vars o a b (compound t (more d none)) h = absurd h.1.1
operands th vars o a b (compound t (more d (more e (more f ds)))) h = absurd h.1.1.1
operands th vars o a b d h = absurd h

swapped : (th : Theory) (vars : List Ty) (s t : Tree) → IsWellFormed th vars [] (equation s t) → IsWellFormed th vars [] (equation t s)
swapped th vars s t (d, h, e) =
    let p = operands th vars equality s t d h in
    let u = p.is.0.0 in
    let left : type_of p.left ≡ u = ap first_of p.is.0.1 in
    let right : type_of p.right ≡ u = ap second_of p.is.0.1 in
    (compound bool (more p.right (more p.left none)), (((u, λ i. right i ∷ left i ∷ []), refl), (p.right_is, (p.left_is, tt))), refl)
  where
    first_of : List Ty → Ty
    first_of [] = bool
    first_of (x ∷ xs) = x

    second_of : List Ty → Ty
    second_of [] = bool
    second_of (x ∷ []) = bool
    second_of (x ∷ y ∷ ys) = y

module _ (th : Theory) where
  -- the premises of a case distinction
  pub case_formed : (G : Context) (n : ℕ) (Q : Formula) (c : ℕ) (Ts : List Ty) (p : Sequent) → IsCase G n Q c Ts p → IsFormed th p
      → IsContext th G × Each (IsFormula th G) (p.hypotheses ∖ own_equation G n c Ts) × IsFormula th G Q
  case_formed G n Q c Ts p is f = (
    closed_first th G Ts (subst (λ (xs : List Ty). IsContext th xs) is.context f.context),
    all_strengthened th G Ts (p.hypotheses ∖ own_equation G n c Ts) is.others_without
        (each_left (IsFormula th (G ++ Ts)) p.hypotheses (own_equation G n c Ts)
        (subst (λ (xs : List Ty). Each (IsFormula th xs) p.hypotheses) is.context f.each)),
    strengthened th G Ts Q is.goal_without (subst (λ (F : Formula). IsFormula th (G ++ Ts) F) is.goal
        (subst (λ (xs : List Ty). IsFormula th xs p.goal) is.context f.goal)),
  )

  cases_formed : (G : Context) (n : ℕ) (Q : Formula) (c : ℕ) (args : List (List Ty)) (ps : List Sequent) (H : Hypotheses) → AreCases G n Q c args ps
      → Each (IsFormed th) ps → Each (IsFormula th G) H → Each (IsFormula th G) (collected H G n c args ps)
  cases_formed G n Q c [] [] H is f h = h
  cases_formed G n Q c [] (p ∷ ps) H is f h = absurd is
  cases_formed G n Q c (Ts ∷ rest) [] H is f h = absurd is
  cases_formed G n Q c (Ts ∷ rest) (p ∷ ps) H is f h =
      cases_formed G n Q (suc c) rest ps (H ∪ p.hypotheses ∖ own_equation G n c Ts) is.1 f.1
      (each_joined (IsFormula th G) H (p.hypotheses ∖ own_equation G n c Ts) h (case_formed G n Q c Ts p is.0 f.0).1)

  pub first_case : (G : Context) (n : ℕ) (Q : Formula) (c : ℕ) (args : List (List Ty)) (p : Sequent) (ps : List Sequent) → AreCases G n Q c args (p ∷ ps)
      → IsFormed th p → IsContext th G × IsFormula th G Q
  first_case G n Q c [] p ps is f = absurd is
  first_case G n Q c (Ts ∷ rest) p ps is f = let q = case_formed G n Q c Ts p is.0 f in (q.0, q.2)

  pub step_formed : {r : Rule} {ps : List Sequent} {s : Sequent} → Step th r ps s → Each (IsFormed th) ps → IsFormed th s
  step_formed (step.hyp {G} {F} closed wf) f = record { context = closed; each = (wf, tt); goal = wf }
  step_formed (step.weak {G} {H} {F} {Q} wf) (p, f) = record { context = p.context; each = each_added (IsFormula th G) H F p.each wf; goal = p.goal }
  step_formed (step.cut {G} {H} {K} {F} {Q}) (p, (q, f)) = record {
    context = p.context;
    each = each_joined (IsFormula th G) H (K ∖ F) p.each (each_left (IsFormula th G) K F q.each);
    goal = q.goal;
  }
  step_formed (step.grow {G} {H} {Q} {Ts} closed) (p, f) = record {
    context = closed_both th G Ts p.context closed;
    each = all_weakened th G Ts H p.each;
    goal = weakened th G Ts Q p.goal;
  }
  step_formed (step.and_i {G} {H} {K}) (p, (q, f)) = record {
    context = p.context;
    each = each_joined (IsFormula th G) H K p.each q.each;
    goal = (p.goal, q.goal);
  }
  step_formed (step.and_l) (p, f) = record { context = p.context; each = p.each; goal = p.goal.0 }
  step_formed (step.and_r) (p, f) = record { context = p.context; each = p.each; goal = p.goal.1 }
  step_formed (step.imp_i {G} {H} {F} wf) (p, f) = record { context = p.context; each = each_left (IsFormula th G) H F p.each; goal = (wf, p.goal) }
  step_formed (step.mp {G} {H} {K}) (p, (q, f)) = record {
    context = p.context;
    each = each_joined (IsFormula th G) H K p.each q.each;
    goal = p.goal.1;
  }
  step_formed (step.all_i {G} {H} {T} {F} unused) (p, f) = record {
    context = closed_first th G (T ∷ []) p.context;
    each = all_strengthened th G (T ∷ []) H unused p.each;
    goal = (
      (closed_last th G (T ∷ []) p.context).0,
      abstraction_keeps_form th (G ++ T ∷ []) G [] (next G) T F (at_end G T) (λ m h. elsewhere G T m h) p.goal,
    );
  }
  step_formed (step.all_e {G} {H} {T} {F} {t} typed) (p, f) = record {
    context = p.context;
    each = p.each;
    goal = instantiation_keeps_form th G [] (T ∷ []) (t ∷ []) F (typed, tt) p.goal.1;
  }
  step_formed (step.ex_i wf typed e) (p, f) = record { context = p.context; each = p.each; goal = wf }
  step_formed (step.ex_e {G} {H} {K} {T} {F} {F'} {Q} e free_goal free_rest) (p, (q, f)) = record {
    context = p.context;
    each = each_joined (IsFormula th G) H (K ∖ F') p.each
        (all_strengthened th G (T ∷ []) (K ∖ F') free_rest (each_left (IsFormula th (G ++ T ∷ [])) K F' q.each));
    goal = strengthened th G (T ∷ []) Q free_goal q.goal;
  }
  step_formed (step.thyp_i) (p, f) = record { context = p.context; each = p.each; goal = p.goal }
  step_formed (step.thyp_e) (p, f) = record { context = p.context; each = p.each; goal = p.goal }
  step_formed (step.truth closed) f = record { context = closed; each = tt; goal = (leaf bool, refl, refl) }
  step_formed (step.falsity wf) (p, f) = record { context = p.context; each = p.each; goal = wf }
  step_formed (step.split {G} {H} {K} {Q} {t} typed) (p, (q, f)) = record {
    context = p.context;
    each = each_joined (IsFormula th G) (H ∖ atom t) (K ∖ denied t) (each_left (IsFormula th G) H (atom t) p.each)
        (each_left (IsFormula th G) K (denied t) q.each);
    goal = p.goal;
  }
  step_formed (step.reflexive closed wf) f = record { context = closed; each = tt; goal = wf }
  step_formed (step.symmetric {G} {H} {s} {t}) (p, f) = record { context = p.context; each = p.each; goal = swapped th G s t p.goal }
  step_formed (step.transitive {G} {H} {K} wf) (p, (q, f)) = record { context = p.context; each = each_joined (IsFormula th G) H K p.each q.each; goal = wf }
  step_formed (step.replace {G} {H} {K} r wf) (p, (q, f)) = record { context = p.context; each = each_joined (IsFormula th G) H K p.each q.each; goal = wf }
  step_formed (step.schema closed e wf) f = record { context = closed; each = tt; goal = wf }
  step_formed (step.exhaust G {Q} {n} d Ts {p} {ps} e is) (f, fs) = record {
    context = (first_case G n Q _ _ p ps is f).0;
    each = cases_formed G n Q _ _ (p ∷ ps) [] is (f, fs) tt;
    goal = (first_case G n Q _ _ p ps is f).1;
  }
  step_formed (step.deep closed wf h) f = record { context = closed; each = tt; goal = wf }
  step_formed (step.compute {G} {t} closed wf no_call c) f = record { context = closed; each = tt; goal = contexts_grow_form th [] G [] [] (atom t) wf }

  mutual
    pub formed : {s : Sequent} → Derives th s → IsFormed th s
    formed (by_rule r ds x) = step_formed x (all_formed ds)

    pub all_formed : {ps : List Sequent} → AllDerived th ps → Each (IsFormed th) ps
    all_formed derivation.none = tt
    all_formed (derivation.more d ds) = (formed d, all_formed ds)

pub steps_keep_form : StepsKeepForm
steps_keep_form th r ps s x f = step_formed th x f

pub derivable_is_formed : DerivableIsFormed
derivable_is_formed th s d = formed th d
