-- A case distinction is true on every table: the value of the variable is made by one of the constructors, and the premise of that
-- constructor is true where the new variables have its arguments.
use Rattle.std.proofs.Common.{ℕ, zero, suc, ◌≡◌, ◌+◌, ◌-◌, ◌<◌, nat_le, Bool, true, false, List, [], ◌∷◌, ◌++◌, length, Some, None, refl, sym, ◌∙◌, ap, subst, arith, ◌↔◌, unwrap_or, if◌then◌else◌}
use Rattle.std.specs.Prelude.{slice_get}
use Rattle.std.specs.Option.{option_map_or}
use Rattle.std.proofs.lemmas.Bool.{leb-true}
use Rattle.std.proofs.lemmas.Option.{slice_get_within}
use Rattle.tg_model.specs.Tree.{free, con, trees}
use Rattle.tg_model.specs.Types as types
use Rattle.tg_model.specs.Types.{Ty, applied, Tys, tys, elements}
use Rattle.tg_model.specs.Value as value
use Rattle.tg_model.specs.Value.{Value, Values, number, boolean, made, values, same_value, wrong}
use Rattle.tg_model.specs.Formula.{Formula, Sequent}
use Rattle.tg_model.specs.Theory.{Theory, numbered, first_constructor, IsClosed}
use Rattle.tg_model.specs.Typing.{HasType, AreTyped}
use Rattle.tg_model.specs.Table.{Table}
use Rattle.tg_model.specs.Denotation.{World, den, world, values_in, opened}
use Rattle.tg_model.specs.TermTyping.{IsWellFormed, constructor_arguments}
use Rattle.tg_model.specs.Truth.{Holds}
use Rattle.tg_model.specs.Accepted.{variables_from}
use Rattle.tg_model.proofs.Places.{get_left, get_right}
use Rattle.tg_model.proofs.SameValue.{decides_equality}
use Rattle.tg_model.proofs.ValueTyping.{values-elements, typed_append, typed_length, opens}
use Rattle.tg_model.proofs.Keeping.{truth_depends_on_used}
use Rattle.tg_model.proofs.Contexts.{used_in_formula}
use Rattle.tg_calculus.specs.Sequent.{Context, Hypotheses, Each, ◌∪◌, ◌∖◌, next}
use Rattle.tg_calculus.specs.Cases.{IsCase, AreCases, collected, own_equation}
use Rattle.tg_calculus.specs.Laws.{IsFormed}
use Rattle.tg_calculus.proofs.Hypotheses.{of_joined, of_left}
use Rattle.tg_calculus.proofs.Formed.{case_formed}

tys-elements : (Ts : Tys) → tys (elements Ts) ≡ Ts
tys-elements types.none = refl
tys-elements (types.more T Ts) = ap (types.more T) (tys-elements Ts)

pub typed_place_of : (env : List Value) (ts : List Ty) (m : ℕ) (u : Ty) (k : List Value) → length env ≡ length ts → numbered ts m ≡ Some u
    → numbered env m ≡ numbered (env ++ k) m
typed_place_of env ts zero u k n e = cc
typed_place_of env ts (suc i) u k n e = sym (get_left env k i (omega (arith, slice_get_within ts i u e, n)))

pub values_equal : (v w : Value) → v ≡ w → boolean (same_value v w) ≡ boolean true
values_equal v w e = ap boolean ((decides_equality v w).1 e)

-- a value that opens so is made so
opened_made : (d first : ℕ) (v : Value) (k : ℕ) (vs : List Value) → opened (suc d) first v ≡ Some (k, vs) → v ≡ made (first + k) (values vs)
opened_made d first (number n) k vs e = cc e
opened_made d first (boolean b) k vs e = cc e
opened_made d first (made c ws) k vs e = at (nat_le first c) refl e
  where
    at : (b : Bool) → nat_le first c ≡ b → (let p : ℕ × List Value = (c - first, value.elements ws) in if b then Some p else None) ≡ Some (k, vs)
        → made c ws ≡ made (first + k) (values vs)
    at true l q =
        let place : c - first ≡ k = ap (λ o. option_map_or (λ (p : ℕ × List Value). p.0) o 0) q in
        let parts : value.elements ws ≡ vs = ap (λ o. option_map_or (λ (p : ℕ × List Value). p.1) o []) q in
        let below = leb-true first c l in
        let number_is : c ≡ first + k = omega (arith, place, below) in
        (λ i. made (number_is i) ws) ∙ ap (made (first + k)) (sym (values-elements ws) ∙ ap values parts)
    at false l q = cc q

-- the values of the new variables are the new values
past_values : (w : World) (env vs : List Value) (n : ℕ) → ((k : ℕ) → k < length vs → numbered env (n + k) ≡ slice_get vs k)
    → values_in w env [] (trees (variables_from n (length vs))) ≡ vs
past_values w env [] n places = refl
past_values w env (v ∷ vs) n places =
    let here : n ≡ n + zero = omega arith in
    let first : numbered env n ≡ Some v = ap (numbered env) here ∙ places zero (omega arith) in
    (λ i. unwrap_or (first i) wrong ∷ past_values w env vs (suc n) rest i)
  where
    rest : (k : ℕ) → k < length vs → numbered env (suc n + k) ≡ slice_get vs k
    rest k l = let m : suc n + k ≡ n + suc k = omega arith in ap (numbered env) m ∙ places (suc k) (omega (arith, l))

new_places : (env vs : List Value) (n : ℕ) → n ≡ suc (length env) → (k : ℕ) → k < length vs → numbered (env ++ vs) (n + k) ≡ slice_get vs k
new_places env vs n e k l =
    let m : n + k ≡ suc (k + length env) = omega (arith, e) in ap (numbered (env ++ vs)) m ∙ get_right env vs k

module _ (th : Theory) (tb : Table) where
  abbrev pub meant : List Value → Formula → Type 0
  meant env F = Holds th tb env [] F

  -- at all values of its variables the goal is true if each hypothesis is
  abbrev pub Meant : Sequent → Type 0
  Meant s = (env : List Value) → AreTyped th env s.vars → Each (meant env) s.hypotheses → meant env s.goal

  -- truth in a longer context, of a formula of the shorter one
  pub grown_truth : (G : Context) (env k : List Value) (F : Formula) → AreTyped th env G → IsWellFormed th G [] F → meant env F ↔ meant (env ++ k) F
  grown_truth G env k F typed wf =
      truth_depends_on_used th tb env (env ++ k) [] F
      (λ m u. let p = used_in_formula th G m F [] u wf in typed_place_of env G m p.0 k (typed_length th env G typed) p.1)

  pub all_grown : (G : Context) (env k : List Value) (H : Hypotheses) → AreTyped th env G → Each (IsWellFormed th G []) H → Each (meant env) H
      → Each (meant (env ++ k)) H
  all_grown G env k [] typed wf h = tt
  all_grown G env k (F ∷ H) typed wf h = ((grown_truth G env k F typed wf.0).0 h.0, all_grown G env k H typed wf.1 h.1)

  pub all_shrunk : (G : Context) (env k : List Value) (H : Hypotheses) → AreTyped th env G → Each (IsWellFormed th G []) H → Each (meant (env ++ k)) H
      → Each (meant env) H
  all_shrunk G env k [] typed wf h = tt
  all_shrunk G env k (F ∷ H) typed wf h = ((grown_truth G env k F typed wf.0).1 h.0, all_shrunk G env k H typed wf.1 h.1)

  module _ (G : Context) (n : ℕ) (Q : Formula) (env : List Value) (typed : AreTyped th env G) (T : Ty) (placed : numbered G n ≡ Some T) where
    own_meant : (c : ℕ) (Ts : List Ty) (vs : List Value) → length vs ≡ length Ts → den th tb env [] (free n) ≡ made c (values vs)
        → meant (env ++ vs) (own_equation G n c Ts)
    own_meant c Ts vs same is =
        let w = world th tb in
        let left : den th tb (env ++ vs) [] (free n) ≡ made c (values vs) =
        ap (λ o. unwrap_or o wrong) (sym (typed_place_of env G n T vs (typed_length th env G typed) placed)) ∙ is in
        let count : length env ≡ length G = typed_length th env G typed in
        let start : next G ≡ suc (length env) = ap suc (sym count) in
        let news = past_values w (env ++ vs) vs (next G) (new_places env vs (next G) start) in
        let right : den th tb (env ++ vs) [] (con c (trees (variables_from (next G) (length Ts)))) ≡ made c (values vs) =
        ap (λ l. made c (values (values_in w (env ++ vs) [] (trees (variables_from (next G) l))))) (sym same) ∙ ap (λ l. made c (values l)) news in
        values_equal _ _ (left ∙ sym right)

    one_case : (c : ℕ) (Ts : List Ty) (p : Sequent) (vs : List Value) → IsCase G n Q c Ts p → IsFormed th p → Meant p → AreTyped th vs Ts
        → den th tb env [] (free n) ≡ made c (values vs) → Each (meant env) (p.hypotheses ∖ own_equation G n c Ts) → meant env Q
    one_case c Ts p vs is formed true_p vs_typed here given =
        let f = case_formed th G n Q c Ts p is formed in
        let own = own_meant c Ts vs (typed_length th vs Ts vs_typed) here in
        let all_typed = subst (λ (xs : List Ty). AreTyped th (env ++ vs) xs) (sym is.context) (typed_append th env vs G Ts typed vs_typed) in
        let others = all_grown G env vs (p.hypotheses ∖ own_equation G n c Ts) typed f.1 given in
        let goal = true_p (env ++ vs) all_typed (of_left (meant (env ++ vs)) p.hypotheses (own_equation G n c Ts) own others) in
        (grown_truth G env vs Q typed f.2).1 (subst (λ (F : Formula). meant (env ++ vs) F) is.goal goal)

    kept : (P : Formula → Type 0) (c : ℕ) (args : List (List Ty)) (ps : List Sequent) (H : Hypotheses) → Each P (collected H G n c args ps) → Each P H
    kept P c [] [] H h = h
    kept P c [] (p ∷ ps) H h = h
    kept P c (Ts ∷ rest) [] H h = h
    kept P c (Ts ∷ rest) (p ∷ ps) H h =
        (of_joined P H (p.hypotheses ∖ own_equation G n c Ts) (kept P (suc c) rest ps (H ∪ p.hypotheses ∖ own_equation G n c Ts) h)).0

    some_case : (c : ℕ) (args : List (List Ty)) (ps : List Sequent) (H : Hypotheses) → AreCases G n Q c args ps → Each (IsFormed th) ps → Each Meant ps
        → Each (meant env) (collected H G n c args ps) → (k : ℕ) (Ts : List Ty) (vs : List Value) → slice_get args k ≡ Some Ts → AreTyped th vs Ts
        → den th tb env [] (free n) ≡ made (c + k) (values vs) → meant env Q
    some_case c [] ps H is formed true_ps given k Ts vs e vs_typed here = cc e
    some_case c (Us ∷ rest) [] H is formed true_ps given k Ts vs e vs_typed here = absurd is
    some_case c (Us ∷ rest) (p ∷ ps) H is formed true_ps given zero Ts vs e vs_typed here =
        let same : Us ≡ Ts = cc e in
        let sum : c + zero ≡ c = omega arith in
        let mine = (of_joined (meant env) H (p.hypotheses ∖ own_equation G n c Us)
        (kept (meant env) (suc c) rest ps (H ∪ p.hypotheses ∖ own_equation G n c Us) given)).1 in
        one_case c Us p vs is.0 formed.0 true_ps.0 (subst (λ (xs : List Ty). AreTyped th vs xs) (sym same) vs_typed)
        (here ∙ ap (λ m. made m (values vs)) sum) mine
    some_case c (Us ∷ rest) (p ∷ ps) H is formed true_ps given (suc k) Ts vs e vs_typed here =
        let sum : c + suc k ≡ suc c + k = omega arith in
        some_case (suc c) rest ps (H ∪ p.hypotheses ∖ own_equation G n c Us) is.1 formed.1 true_ps.1 given k Ts vs e vs_typed
        (here ∙ ap (λ m. made m (values vs)) sum)

  pub exhausted : (G : Context) (n d : ℕ) (Ts : Tys) (Q : Formula) (ps : List Sequent) → numbered G n ≡ Some (applied d Ts) → IsClosed th (applied d Ts)
      → AreCases G n Q (first_constructor th.datatypes d) (constructor_arguments th d (elements Ts)) ps → Each (IsFormed th) ps → Each Meant ps
      → (env : List Value) → AreTyped th env G → HasType th (den th tb env [] (free n)) (applied d Ts)
      → Each (meant env) (collected [] G n (first_constructor th.datatypes d) (constructor_arguments th d (elements Ts)) ps) → meant env Q
  exhausted G n zero Ts Q ps placed closed is formed true_ps env typed v_typed given = let e : None ≡ Some closed.0.0 = closed.0.1 in cc
  exhausted G n (suc d) Ts Q ps placed closed is formed true_ps env typed v_typed given =
      let us = elements Ts in
      let v = den th tb env [] (free n) in
      let o = opens th (suc d) us v closed.0 (subst (λ (xs : Tys). HasType th v (applied (suc d) xs)) (sym (tys-elements Ts)) v_typed) in
      let first = first_constructor th.datatypes (suc d) in
      some_case G n Q env typed (applied (suc d) Ts) placed first (constructor_arguments th
      (suc d) us) ps [] is formed true_ps given o.place o.arguments o.parts
      o.found o.typed (opened_made d first v o.place o.parts o.is)
