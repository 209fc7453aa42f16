-- What is derivable is true on every table, rule by rule.
use Rattle.std.proofs.Common.{ℕ, zero, suc, ◌≡◌, Bool, true, false, not, List, [], ◌∷◌, ◌++◌, length, Some, refl, sym, ◌∙◌, ap, subst, unwrap_or}
use Rattle.tg_model.specs.Tree as tree
use Rattle.tg_model.specs.Tree.{Tree, Trees, bound, free, op, one, truth, equality, negation}
use Rattle.tg_model.specs.Types.{Ty, bool, tys, applied}
use Rattle.tg_model.specs.Value.{Value, boolean, same_value, values, wrong}
use Rattle.tg_model.specs.Formula.{Formula, Sequent, atom, all}
use Rattle.tg_model.specs.Theory.{Theory, numbered, AreClosed}
use Rattle.tg_model.specs.Typing.{HasType, HaveTypes, AreTyped}
use Rattle.tg_model.specs.Table.{Table, IsTable}
use Rattle.tg_model.specs.Denotation.{den, world, values_in, on_truth}
use Rattle.tg_model.specs.Truth.{Holds, AllHold, IsTrueOn}
use Rattle.tg_model.specs.TermTyping.{leaf, type_of, IsTyped, IsWellFormed, AllTyped}
use Rattle.tg_model.specs.Accepted.{IsAccepted}
use Rattle.tg_model.proofs.SameValue.{decides_equality}
use Rattle.tg_model.proofs.ValueTyping.{typed_append, typed_length, is_boolean}
use Rattle.tg_model.proofs.CallSoundness.{soundness}
use Rattle.tg_model.proofs.Keeping.{instantiation_keeps_truth, abstraction_keeps_truth, truth_depends_on_used}
use Rattle.tg_model.proofs.Contexts.{used_in_formula}
use Rattle.tg_model.proofs.ClosedValues.{closed_value}
use Rattle.tg_rows.specs.Rows.{row}
use Rattle.tg_rows.specs.Laws.{Setting}
use Rattle.tg_rows.proofs.AllRows.{rows_keep}
use Rattle.tg_calculus.specs.Sequent.{Context, Hypotheses, ◌│◌⊢◌, Each, denied, ◌∖◌, next}
use Rattle.tg_calculus.specs.Rule.{Rule}
use Rattle.tg_calculus.specs.Step as step
use Rattle.tg_calculus.specs.Step.{Step, IsContext, IsFormula}
use Rattle.tg_calculus.specs.Derivation as derivation
use Rattle.tg_calculus.specs.Derivation.{Derives, AllDerived, by_rule}
use Rattle.tg_calculus.specs.Laws.{IsFormed, StepsKeepTruth, DerivableIsTrue, FalseIsUnderivable, VariableIsKept}
use Rattle.tg_calculus.proofs.Hypotheses.{of_added, of_joined, of_left, each_left}
use Rattle.tg_calculus.proofs.NewVariables.{at_end, elsewhere, strengthened, all_strengthened}
use Rattle.tg_calculus.proofs.Formed.{operands, all_formed, first_case}
use Rattle.tg_calculus.proofs.Replacing.{replaced_truth}
use Rattle.tg_calculus.proofs.Deeper.{some_chain_deep, deep_not_shallow}
use Rattle.tg_calculus.proofs.Computed.{computed}
use Rattle.tg_calculus.proofs.Exhausting.{meant, Meant, grown_truth, all_grown, all_shrunk, values_equal, exhausted, typed_place_of}

-- a context's values that are those of a shorter context, and more
first_values : (th : Theory) (env : List Value) (ts us : List Ty) → AreTyped th env (ts ++ us)
    → (e : List Value) × ((k : List Value) × (env ≡ e ++ k) × AreTyped th e ts)
first_values th env [] us h = ([], (env, refl, tt))
first_values th [] (t ∷ ts) us h = absurd h
first_values th (v ∷ env) (t ∷ ts) us h =
    let p = first_values th env ts us h.1 in (v ∷ p.0, (p.1.0, ap (λ rest. v ∷ rest) p.1.1, (h.0, p.1.2)))

boolean_one : (a b : Bool) → boolean a ≡ boolean b → a ≡ b
boolean_one a b e = cc e

equal_values : (v w : Value) → boolean (same_value v w) ≡ boolean true → v ≡ w
equal_values v w e = (decides_equality v w).0 (boolean_one (same_value v w) true e)

negated : (v : Value) → v ≡ boolean false → on_truth not (v ∷ []) ≡ boolean true
negated v e = subst (λ (x : Value). on_truth not (x ∷ []) ≡ boolean true) (sym e) refl

by_truth : (P : Type 0) (b : Bool) → (b ≡ true → P) → (b ≡ false → P) → P
by_truth P true h g = h refl
by_truth P false h g = g refl

module _ (th : Theory) (accepted : IsAccepted th) (tb : Table) (table : IsTable th tb) where
  abbrev Value_of : List Value → Tree → Value
  Value_of env t = den th tb env [] t

  typed_value : (G : Context) (env : List Value) (t : Tree) (T : Ty) → IsContext th G → AreTyped th env G → AreClosed th (tys (T ∷ [])) → IsTyped th G [] t T
      → HasType th (Value_of env t) T
  typed_value G env t T context typed closed h = soundness th tb accepted.well_typed table G [] env [] t T context tt closed.0 typed tt h

  -- a term that is typed as a truth value has one
  truth_of : (G : Context) (env : List Value) (t : Tree) → IsContext th G → AreTyped th env G → IsTyped th G [] t bool
      → (b : Bool) × (Value_of env t ≡ boolean b)
  truth_of G env t context typed h = is_boolean th (Value_of env t) (typed_value G env t bool context typed (tt, tt) h)

  -- each schema keeps the value
  row_value : (G : Context) (env : List Value) (k : ℕ) (s t : Tree) (u : Ty) → IsContext th G → AreTyped th env G → row th k s ≡ Some t
      → IsTyped th G [] s u → Value_of env s ≡ Value_of env t
  row_value G env k s t u context typed applies h =
      let setting : Setting th = record {
        table = tb;
        is_table = table;
        vars = G;
        locs = [];
        env = env;
        loc = [];
        closed_vars = context;
        closed_locs = tt;
        typed_env = typed;
        typed_loc = tt;
      } in
      (rows_keep th accepted.well_typed setting k s t u applies h).0

  -- the variable past a context, and the values before it
  last_value : (G : Context) (env : List Value) (v : Value) → AreTyped th env G → numbered (env ++ v ∷ []) (next G) ≡ Some v
  last_value G env v typed = ap (λ k. numbered (env ++ v ∷ []) (suc k)) (sym (typed_length th env G typed)) ∙ at_end env v

  place_type : (G : Context) (env : List Value) (n : ℕ) (T : Ty) → AreTyped th env G → numbered G n ≡ Some T → AreClosed th (tys G)
      → AreClosed th (tys (T ∷ [])) × HasType th (Value_of env (free n)) T
  place_type G env n T typed e context =
      let closed = place_closed G n T e context in (closed, typed_value G env (free n) T context typed closed (leaf T, e, refl))
    where
      place_closed : (G : Context) (n : ℕ) (T : Ty) → numbered G n ≡ Some T → AreClosed th (tys G) → AreClosed th (tys (T ∷ []))
      place_closed G zero T e h = cc e
      place_closed [] (suc n) T e h = cc e
      place_closed (U ∷ G) (suc zero) T e h = let q : U ≡ T = cc e in subst (λ (x : Ty). AreClosed th (tys (x ∷ []))) q (h.0, tt)
      place_closed (U ∷ G) (suc (suc n)) T e h = place_closed G (suc n) T e h.1

  -- truth under a binder, in a longer context
  grown_truth_at : (G : Context) (env : List Value) (v : Value) (T : Ty) (F : Formula) → AreTyped th env G → IsWellFormed th G (T ∷ []) F
      → Holds th tb env (v ∷ []) F → Holds th tb (env ++ v ∷ []) (v ∷ []) F
  grown_truth_at G env v T F typed wf h =
      (truth_depends_on_used th tb env (env ++ v ∷ []) (v ∷ []) F
      (λ m u. let p = used_in_formula th G m F (T ∷ []) u wf in typed_place_of env G m p.0 (v ∷ []) (typed_length th env G typed) p.1)).0 h

  inputs_typed : (G : Context) (env : List Value) (ts : Trees) (Ts : List Ty) → IsContext th G → AreTyped th env G → AreClosed th (tys Ts)
      → AllTyped th G [] ts Ts → HaveTypes th (values (values_in (world th tb) env [] ts)) Ts
  inputs_typed G env tree.none [] context typed closed h = tt
  inputs_typed G env tree.none (T ∷ Ts) context typed closed h = absurd h
  inputs_typed G env (tree.more t ts) [] context typed closed h = absurd h
  inputs_typed G env (tree.more t ts) (T ∷ Ts) context typed closed h =
      (typed_value G env t T context typed (closed.0, tt) h.0, inputs_typed G env ts Ts context typed closed.1 h.1)

  pub step_meant : {r : Rule} {ps : List Sequent} {s : Sequent} → Step th r ps s → Each (IsFormed th) ps → Each (Meant th tb) ps → Meant th tb s
  step_meant (step.hyp closed wf) f m env typed given = given.0
  step_meant (step.weak {G} {H} {F} {Q} wf) (p, f) (m, ms) env typed given = m env typed (of_added (meant th tb env) H F given).0
  step_meant (step.cut {G} {H} {K} {F} {Q}) (p, (q, f)) (m, (n, ms)) env typed given =
      let h = of_joined (meant th tb env) H (K ∖ F) given in n env typed (of_left (meant th tb env) K F (m env typed h.0) h.1)
  step_meant (step.grow {G} {H} {Q} {Ts} closed) (p, f) (m, ms) env typed given =
      let q = first_values th env G Ts typed in
      let here : meant th tb q.0 Q = m q.0 q.1.2 (all_shrunk th tb G q.0 q.1.0 H q.1.2 p.each
      (subst (λ (x : List Value). Each (meant th tb x) H) q.1.1 given)) in
      subst (λ (x : List Value). meant th tb x Q) (sym q.1.1) ((grown_truth th tb G q.0 q.1.0 Q q.1.2 p.goal).0 here)
  step_meant (step.and_i {G} {H} {K}) (p, (q, f)) (m, (n, ms)) env typed given =
      let h = of_joined (meant th tb env) H K given in (m env typed h.0, n env typed h.1)
  step_meant (step.and_l) (p, f) (m, ms) env typed given = (m env typed given).0
  step_meant (step.and_r) (p, f) (m, ms) env typed given = (m env typed given).1
  step_meant (step.imp_i {G} {H} {F} wf) (p, f) (m, ms) env typed given = λ here. m env typed (of_left (meant th tb env) H F here given)
  step_meant (step.mp {G} {H} {K}) (p, (q, f)) (m, (n, ms)) env typed given =
      let h = of_joined (meant th tb env) H K given in m env typed h.0 (n env typed h.1)
  step_meant (step.all_i {G} {H} {T} {F} unused) (p, f) (m, ms) env typed given =
      λ v v_typed.
      let more_typed = typed_append th env (v ∷ []) G (T ∷ []) typed (v_typed, tt) in
      let body = m (env ++ v ∷ []) more_typed (all_grown th tb G env (v ∷ []) H typed (all_strengthened th G (T ∷ []) H unused p.each) given) in
      let n : next G ≡ suc (length env) = ap suc (sym (typed_length th env G typed)) in
      let law = abstraction_keeps_truth th tb (env ++ v ∷ []) env [] (next G) v F (last_value G env v typed)
      (λ k h. elsewhere env v k (λ q. h (q ∙ sym n))) in
      law.1 body
  step_meant (step.all_e {G} {H} {T} {F} {t} t_typed) (p, f) (m, ms) env typed given =
      let v_typed = typed_value G env t T p.context typed (p.goal.0, tt) t_typed in
      (instantiation_keeps_truth th tb env [] (t ∷ []) F).1 (m env typed given (Value_of env t) v_typed)
  step_meant (step.ex_i {G} {H} {T} {F} {F'} {t} wf t_typed e) (p, f) (m, ms) env typed given =
      let v_typed = typed_value G env t T p.context typed (wf.0, tt) t_typed in
      (Value_of env t, v_typed, (instantiation_keeps_truth th tb env [] (t ∷ []) F).0 (subst (λ (x : Formula). meant th tb env x) e (m env typed given)))
  step_meant (step.ex_e {G} {H} {K} {T} {F} {F'} {Q} e free_goal free_rest) (p, (q, f)) (m, (n, ms)) env typed given =
      let h = of_joined (meant th tb env) H (K ∖ F') given in
      let some_v = m env typed h.0 in
      let v = some_v.0 in
      let env' = env ++ v ∷ [] in
      let more_typed = typed_append th env (v ∷ []) G (T ∷ []) typed (some_v.1, tt) in
      let last : Value_of env' (free (next G)) ≡ v = ap (λ o. unwrap_or o wrong) (last_value G env v typed) in
      let at_v : Holds th tb env' (v ∷ []) F = grown_truth_at G env v T F typed p.goal.1 some_v.2 in
      let named : meant th tb env' F' = subst (λ (x : Formula). meant th tb env' x) (sym e)
      ((instantiation_keeps_truth th tb env' [] (free (next G) ∷ []) F).1 (subst (λ (x : Value). Holds th tb env' (x ∷ []) F) (sym last) at_v)) in
      let rest_formed = all_strengthened th G (T ∷ []) (K ∖ F') free_rest (each_left (IsFormula th (G ++ T ∷ [])) K F' q.each) in
      let goal = n env' more_typed (of_left (meant th tb env') K F' named (all_grown th tb G env (v ∷ []) (K ∖ F') typed rest_formed h.1)) in
      (grown_truth th tb G env (v ∷ []) Q typed (strengthened th G (T ∷ []) Q free_goal q.goal)).1 goal
  step_meant (step.thyp_i) (p, f) (m, ms) env typed given = m env typed given
  step_meant (step.thyp_e) (p, f) (m, ms) env typed given = m env typed given
  step_meant (step.truth closed) f m env typed given = refl
  step_meant (step.falsity wf) (p, f) (m, ms) env typed given = let e : boolean false ≡ boolean true = m env typed given in cc
  step_meant (step.split {G} {H} {K} {Q} {t} t_typed) (p, (q, f)) (m, (n, ms)) env typed given =
      let h = of_joined (meant th tb env) (H ∖ atom t) (K ∖ denied t) given in
      let b = truth_of G env t p.context typed t_typed in
      by_truth (meant th tb env Q) b.0
      (λ x. m env typed (of_left (meant th tb env) H (atom t) (b.1 ∙ ap boolean x) h.0))
      (λ x. n env typed (of_left (meant th tb env) K (denied t) (negated _ (b.1 ∙ ap boolean x)) h.1))
  step_meant (step.reflexive {G} {t} closed wf) f m env typed given = values_equal (Value_of env t) (Value_of env t) refl
  step_meant (step.symmetric {G} {H} {s} {t}) (p, f) (m, ms) env typed given =
      values_equal (Value_of env t) (Value_of env s) (sym (equal_values (Value_of env s) (Value_of env t) (m env typed given)))
  step_meant (step.transitive {G} {H} {K} {s} {t} {u} wf) (p, (q, f)) (m, (n, ms)) env typed given =
      let h = of_joined (meant th tb env) H K given in
      values_equal (Value_of env s) (Value_of env u)
      (equal_values (Value_of env s) (Value_of env t) (m env typed h.0) ∙ equal_values (Value_of env t) (Value_of env u) (n env typed h.1))
  step_meant (step.replace {G} {H} {K} {s} {t} {Q} {F} r wf) (p, (q, f)) (m, (n, ms)) env typed given =
      let h = of_joined (meant th tb env) H K given in
      let o = operands th G equality s t p.goal.0 p.goal.1 in
      let w = world th tb in
      let here = equal_values (Value_of env s) (Value_of env t) (m env typed h.0) in
      let equal = λ (loc : List Value). closed_value th G w env loc s o.left o.left_is ∙ (here ∙ sym (closed_value th G w env loc t o.right o.right_is)) in
      subst (λ (X : Type 0). X) (replaced_truth th tb env s t equal r []) (n env typed h.1)
  step_meant (step.schema {G} {k} {t} {u} closed applies wf) f m env typed given =
      let o = operands th G equality t u wf.0 wf.1 in
      values_equal (Value_of env t) (Value_of env u) (row_value G env k t u (type_of o.left) closed typed applies (o.left, o.left_is, refl))
  step_meant (step.exhaust G {Q} {n} d Ts {p} {ps} e is) f m env typed given =
      let context = (first_case th G n Q _ _ p ps is f.0).0 in
      let v = place_type G env n (applied d Ts) typed e context in
      exhausted th tb G n d Ts Q (p ∷ ps) e v.0.0 is f m env typed v.1 given
  step_meant (step.deep {G} {k} {ts} closed wf chain) f m env typed given =
      deep_not_shallow (suc k) _ (some_chain_deep th (world th tb) env [] ts (suc k) th.program.inputs chain
      (inputs_typed G env ts th.program.inputs closed typed accepted.well_typed.inputs wf))
  step_meant (step.compute {G} {t} closed wf no_call c) f m env typed given = computed th tb accepted table env t wf no_call c

  mutual
    pub derived_meant : {s : Sequent} → Derives th s → Meant th tb s
    derived_meant (by_rule r ds x) = step_meant x (all_formed th ds) (all_meant ds)

    all_meant : {ps : List Sequent} → AllDerived th ps → Each (Meant th tb) ps
    all_meant derivation.none = tt
    all_meant (derivation.more d ds) = (derived_meant d, all_meant ds)

module _ (th : Theory) (tb : Table) where
  to_each : (env : List Value) (H : Hypotheses) → AllHold th tb env H → Each (meant th tb env) H
  to_each env [] h = tt
  to_each env (F ∷ H) h = (h.0, to_each env H h.1)

  from_each : (env : List Value) (H : Hypotheses) → Each (meant th tb env) H → AllHold th tb env H
  from_each env [] h = tt
  from_each env (F ∷ H) h = (h.0, from_each env H h.1)

  all_true_meant : (ps : List Sequent) → Each (IsTrueOn th tb) ps → Each (Meant th tb) ps
  all_true_meant [] h = tt
  all_true_meant (p ∷ ps) h = (λ env typed given. h.0 env typed (from_each env p.hypotheses given), all_true_meant ps h.1)

pub steps_keep_truth : StepsKeepTruth
steps_keep_truth th accepted tb table r ps s x f m env typed given =
    step_meant th accepted tb table x f (all_true_meant th tb ps m) env typed (to_each th tb env s.hypotheses given)

pub derivable_is_true : DerivableIsTrue
derivable_is_true th accepted s d tb table env typed given = derived_meant th accepted tb table d env typed (to_each th tb env s.hypotheses given)

pub false_is_underivable : FalseIsUnderivable
false_is_underivable th accepted d =
    let e : boolean false ≡ boolean true = derivable_is_true th accepted ([] │ [] ⊢ atom (truth false)) d [] tt [] tt tt in cc

pub variable_is_kept : VariableIsKept
variable_is_kept th accepted d =
    let holds : Holds th [] (boolean true ∷ []) [] (all bool (atom (bound 0))) =
    derivable_is_true th accepted (bool ∷ [] │ atom (free 1) ∷ [] ⊢ all bool (atom (bound 0))) d [] tt (boolean true ∷ []) (refl, tt) (refl, tt) in
    let e : boolean false ≡ boolean true = holds (boolean false) refl in cc
