-- What the constraints and the checks of a clause's class say.
use Rattle.std.proofs.Common.{◌≡◌, Bool, true, false, not, ◌||◌, List, [], ◌∷◌, map, refl, ap, sym, ◌∙◌, inl, inr}
use Rattle.std.specs.Prelude.{◌⊎◌, cond, if◌then◌else◌}
use Rattle.std.specs.List.{filter}
use Rattle.tg_model.specs.Tree.{Tree, Trees, op, one, negation}
use Rattle.tg_model.specs.Types.{Ty, bool}
use Rattle.tg_model.specs.Value.{Value, number, boolean, made, same_truth, same_value}
use Rattle.tg_model.specs.Theory.{Theory}
use Rattle.tg_model.specs.Denotation.{World, value_in, world, operated}
use Rattle.tg_model.specs.TermTyping.{compound, none, more, IsTyped}
use Rattle.tg_model.specs.Calls.{has_call, EachPut}
use Rattle.tg_model.proofs.Booleans.{or_left, or_right, or_cases, or_left_false, or_right_false}
use Rattle.tg_accept.specs.Checks.{Each, Any}
use Rattle.tg_rows.proofs.Settings.{boolean_value}
use Rattle.tg_clause.specs.declared.literals.Literal.{Literal}
use Rattle.tg_clause.specs.Clauses.{Clause, opposite}
use Rattle.tg_clause.specs.Classes.{term_of, constraints_of, checks_of}
use Rattle.tg_clause.specs.Truth.{truth_at, holds, clause_holds}
use Rattle.tg_clause.specs.Laws.{AtomsOf, ClassesSayClauses, ClassesAreTyped, ConstraintsHaveNoCall}
use Rattle.tg_clause.proofs.EachLaws.{each_on, each_map, each_unmap, each_filter, each_kept}

-- a term, or its negation
abbrev pub signed : Bool → Tree → Tree
signed b t = if b then t else op negation (one t)

signed_typed : (th : Theory) (vars locs : List Ty) (b : Bool) (t : Tree) → IsTyped th vars locs t bool → IsTyped th vars locs (signed b t) bool
signed_typed th vars locs true t h = h
signed_typed th vars locs false t (d, h, e) = (compound bool (more d none), (((λ i. e i ∷ []), refl), (h, tt)), refl)

signed_calls : (b : Bool) (t : Tree) → has_call t ≡ false → has_call (signed b t) ≡ false
signed_calls true t h = h
signed_calls false t h = ap (λ c. c || false) h

pub signed_puts : (P : Trees → Type 0) (b : Bool) (t : Tree) → EachPut P t → EachPut P (signed b t)
signed_puts P true t h = h
signed_puts P false t h = (h, tt)

not_false : (a : Bool) → not a ≡ true → a ≡ false
not_false true e = cc e
not_false false e = refl

pub classes_are_typed : ClassesAreTyped
classes_are_typed th vars locs c h = (
  each_map (λ t. IsTyped th vars locs t bool) (λ (l : Literal). term_of (opposite l)) (filter (λ (l : Literal). not (has_call l.atom)) c)
      (each_filter (λ (l : Literal). IsTyped th vars locs (term_of (opposite l)) bool) (λ (l : Literal). not (has_call l.atom)) c
      (each_on (λ (l : Literal). IsTyped th vars locs l.atom bool)
      (λ (l : Literal). not (has_call l.atom) ≡ true → IsTyped th vars locs (term_of (opposite l)) bool)
      (λ l k e. signed_typed th vars locs (not l.positive) l.atom k) c h)),
  each_map (λ t. IsTyped th vars locs t bool) term_of (filter (λ (l : Literal). has_call l.atom) c)
      (each_filter (λ (l : Literal). IsTyped th vars locs (term_of l) bool) (λ (l : Literal). has_call l.atom) c
      (each_on (λ (l : Literal). IsTyped th vars locs l.atom bool) (λ (l : Literal). has_call l.atom ≡ true → IsTyped th vars locs (term_of l) bool)
      (λ l k e. signed_typed th vars locs l.positive l.atom k) c h)),
)

pub constraints_have_no_call : ConstraintsHaveNoCall
constraints_have_no_call c =
    each_map (λ t. has_call t ≡ false) (λ (l : Literal). term_of (opposite l)) (filter (λ (l : Literal). not (has_call l.atom)) c)
    (each_filter (λ (l : Literal). has_call (term_of (opposite l)) ≡ false) (λ (l : Literal). not (has_call l.atom)) c (each c))
  where
    each : (c : Clause) → Each (λ (l : Literal). not (has_call l.atom) ≡ true → has_call (term_of (opposite l)) ≡ false) c
    each [] = tt
    each (l ∷ c) = ((λ e. signed_calls (not l.positive) l.atom (not_false (has_call l.atom) e)), each c)

-- truth of a literal and of the term that it says
pub value_true : (v : Value) → same_value (boolean true) v ≡ true → v ≡ boolean true
value_true (number n) e = cc e
value_true (boolean b) e = ap boolean e
value_true (made c vs) e = cc e

denied_true : (v : Value) → operated negation (v ∷ []) ≡ boolean true → not (same_value (boolean true) v) ≡ true
denied_true (number n) e = refl
denied_true (boolean b) e = ap (same_value (boolean true)) e
denied_true (made c vs) e = refl

opposite_truth : (a b : Bool) → same_truth (not a) b ≡ not (same_truth a b)
opposite_truth true b = refl
opposite_truth false true = refl
opposite_truth false false = refl

module _ (w : World) (env loc : List Value) where
  abbrev IsTrueTerm : Tree → Type 0
  IsTrueTerm t = value_in w env loc t ≡ boolean true

  abbrev IsTruthValue : Tree → Type 0
  IsTruthValue t = (b : Bool) × (value_in w env loc t ≡ boolean b)

  sign_holds : (b : Bool) (t : Tree) → IsTrueTerm (signed b t) → same_truth b (truth_at w env loc t) ≡ true
  sign_holds true t h = ap (same_value (boolean true)) h
  sign_holds false t h = denied_true (value_in w env loc t) h

  holds_sign : (b : Bool) (t : Tree) → IsTruthValue t → same_truth b (truth_at w env loc t) ≡ true → IsTrueTerm (signed b t)
  holds_sign true t v h = value_true (value_in w env loc t) h
  holds_sign false t v h =
      ap (λ (x : Value). operated negation (x ∷ [])) v.1 ∙ ap boolean (sym (ap (λ (x : Value). not (same_value (boolean true) x)) v.1) ∙ h)

  -- where the constraints are True the literals without a program call are false
  pub free_false : (c : Clause) → Each (λ t. value_in w env loc t ≡ boolean true) (constraints_of c)
      → Each (λ (l : Literal). has_call l.atom ≡ false → holds w env loc l ≡ false) c
  free_false c h =
      each_on (λ (l : Literal). not (has_call l.atom) ≡ true → IsTrueTerm (term_of (opposite l)))
      (λ (l : Literal). has_call l.atom ≡ false → holds w env loc l ≡ false)
      (λ l k e. not_false (holds w env loc l)
      (sym (opposite_truth l.positive (truth_at w env loc l.atom)) ∙ sign_holds (not l.positive) l.atom (k (ap not e)))) c
      (each_kept (λ (l : Literal). IsTrueTerm (term_of (opposite l))) (λ (l : Literal). not (has_call l.atom)) c
      (each_unmap IsTrueTerm (λ (l : Literal). term_of (opposite l)) (filter (λ (l : Literal). not (has_call l.atom)) c) h))

  -- of a true clause without a true literal that calls no program, a check is True
  some_check : (c : Clause) → Each (λ (l : Literal). has_call l.atom ≡ false → holds w env loc l ≡ false) c → AtomsOf IsTruthValue c
      → clause_holds w env loc c ≡ true → Any IsTrueTerm (checks_of c)
  some_check [] f v h = absurd (cc h)
  some_check (l ∷ c) f v h =
      by (λ k. some_check c f.1 v.1 k) (has_call l.atom) refl (or_cases (holds w env loc l) (clause_holds w env loc c) h)
    where
      by : (clause_holds w env loc c ≡ true → Any IsTrueTerm (checks_of c)) → (b : Bool) → has_call l.atom ≡ b
          → (holds w env loc l ≡ true) ⊎ (clause_holds w env loc c ≡ true)
          → Any IsTrueTerm (map term_of (cond b (l ∷ filter (λ (m : Literal). has_call m.atom) c) (filter (λ (m : Literal). has_call m.atom) c)))
      by rest true e (inl k) = inl (holds_sign l.positive l.atom v.0 k)
      by rest true e (inr k) = inr (rest k)
      by rest false e (inl k) = let z : true ≡ false = sym k ∙ f.0 e in absurd (cc z)
      by rest false e (inr k) = rest k

  -- where a clause is false its constraints are True
  false_constraints : (c : Clause) → AtomsOf IsTruthValue c → clause_holds w env loc c ≡ false → Each IsTrueTerm (constraints_of c)
  false_constraints [] v h = tt
  false_constraints (l ∷ c) v h =
      by (false_constraints c v.1 (or_right_false (holds w env loc l) (clause_holds w env loc c) h)) (has_call l.atom)
    where
      by : Each IsTrueTerm (constraints_of c) → (b : Bool) → Each IsTrueTerm (map (λ (m : Literal). term_of (opposite m))
          (cond (not b) (l ∷ filter (λ (m : Literal). not (has_call m.atom)) c) (filter (λ (m : Literal). not (has_call m.atom)) c)))
      by rest true = rest
      by rest false = (
        holds_sign (not l.positive) l.atom v.0
            (opposite_truth l.positive (truth_at w env loc l.atom) ∙ ap not (or_left_false (holds w env loc l) (clause_holds w env loc c) h)),
        rest,
      )

  -- and where a check is True the clause is
  check_holds : (c : Clause) → Any IsTrueTerm (checks_of c) → clause_holds w env loc c ≡ true
  check_holds [] h = absurd h
  check_holds (l ∷ c) h = by (λ k. check_holds c k) (has_call l.atom) h
    where
      by : (Any IsTrueTerm (checks_of c) → clause_holds w env loc c ≡ true) → (b : Bool)
          → Any IsTrueTerm (map term_of (cond b (l ∷ filter (λ (m : Literal). has_call m.atom) c) (filter (λ (m : Literal). has_call m.atom) c)))
          → clause_holds w env loc (l ∷ c) ≡ true
      by rest true (inl k) = or_left (holds w env loc l) (clause_holds w env loc c) (sign_holds l.positive l.atom k)
      by rest true (inr k) = or_right (holds w env loc l) (clause_holds w env loc c) (rest k)
      by rest false k = or_right (holds w env loc l) (clause_holds w env loc c) (rest k)

  class_says : (c : Clause) → AtomsOf IsTruthValue c → (Each IsTrueTerm (constraints_of c) → Any IsTrueTerm (checks_of c)) → clause_holds w env loc c ≡ true
  class_says c v f = by (clause_holds w env loc c) refl
    where
      by : (b : Bool) → clause_holds w env loc c ≡ b → b ≡ true
      by true e = refl
      by false e = sym e ∙ check_holds c (f (false_constraints c v e))

pub classes_say_clauses : ClassesSayClauses
classes_say_clauses th wt n c h =
    let w : World = world th n.table in
    let v : AtomsOf (IsTruthValue w n.env n.loc) c =
    each_on (λ (l : Literal). IsTyped th n.vars n.locs l.atom bool) (λ (l : Literal). IsTruthValue w n.env n.loc l.atom)
    (λ l k. boolean_value th wt n l.atom k) c h in (
      λ e f. some_check w n.env n.loc c (free_false w n.env n.loc c f) v e,
      λ f. class_says w n.env n.loc c v f,
    )
