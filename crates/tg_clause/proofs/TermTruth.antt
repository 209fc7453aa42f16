-- A term of type bool is True exactly where its clauses hold.
use Rattle.std.proofs.Common.{◌≡◌, Bool, true, false, not, ◌&&◌, ◌||◌, List, [], ◌∷◌, refl, ap, sym, ◌∙◌, inl, inr}
use Rattle.std.specs.Prelude.{cond}
use Rattle.std.specs.List.{list_any, filter}
use Rattle.tg_model.specs.Tree.{Tree, negation, conjunction, disjunction, implication, equality}
use Rattle.tg_model.specs.Types.{bool}
use Rattle.tg_model.specs.Value.{Value, boolean, same_truth, same_value}
use Rattle.tg_model.specs.Theory.{Theory}
use Rattle.tg_model.specs.Denotation.{World, world, operated}
use Rattle.tg_model.specs.TermTyping.{IsTyped}
use Rattle.tg_model.specs.WellTyped.{IsWellTyped}
use Rattle.tg_model.proofs.Booleans.{or_cases, or_left_false, or_right_false}
use Rattle.tg_rows.specs.Laws.{Setting}
use Rattle.tg_rows.proofs.Settings.{boolean_value}
use Rattle.tg_clause.specs.declared.literals.Literal.{Literal}
use Rattle.tg_clause.specs.Clauses.{Clause, Sides, sides, opposite, has, is_tautology}
use Rattle.tg_clause.specs.Truth.{truth_at, holds, clause_holds, all_hold}
use Rattle.tg_clause.specs.Laws.{ClausesAreTrue}
use Rattle.tg_clause.proofs.OperandTypes.{operand, operands, sides_of_equation, conjunction_takes, disjunction_takes, implication_takes}
use Rattle.tg_clause.proofs.SideFold.{Fold, sides_by}
use Rattle.tg_clause.proofs.TruthLaws.{has_holds, Mean, mean_as, mean_atom, mean_truth, mean_turned, mean_conjunction, mean_disjunction, mean_implication, mean_equality}

-- a value that is True
abbrev is_true : Value → Bool
is_true v = same_value (boolean true) v

-- operators on truth values
not_value : (v : Value) (a : Bool) → v ≡ boolean a → not (is_true v) ≡ is_true (operated negation (v ∷ []))
not_value v a e = ap (λ x. not (is_true x)) e ∙ sym (ap (λ x. is_true (operated negation (x ∷ []))) e)

and_value : (v w : Value) (a b : Bool) → v ≡ boolean a → w ≡ boolean b → (is_true v && is_true w) ≡ is_true (operated conjunction (v ∷ w ∷ []))
and_value v w a b e f = (λ i. is_true (e i) && is_true (f i)) ∙ sym (λ i. is_true (operated conjunction (e i ∷ f i ∷ [])))

or_value : (v w : Value) (a b : Bool) → v ≡ boolean a → w ≡ boolean b → (is_true v || is_true w) ≡ is_true (operated disjunction (v ∷ w ∷ []))
or_value v w a b e f = (λ i. is_true (e i) || is_true (f i)) ∙ sym (λ i. is_true (operated disjunction (e i ∷ f i ∷ [])))

implied_value : (v w : Value) (a b : Bool) → v ≡ boolean a → w ≡ boolean b → (not (is_true v) || is_true w) ≡ is_true (operated implication (v ∷ w ∷ []))
implied_value v w a b e f = (λ i. not (is_true (e i)) || is_true (f i)) ∙ sym (λ i. is_true (operated implication (e i ∷ f i ∷ [])))

equal_value : (v w : Value) (a b : Bool) → v ≡ boolean a → w ≡ boolean b → same_truth (is_true v) (is_true w) ≡ is_true (operated equality (v ∷ w ∷ []))
equal_value v w a b e f = (λ i. same_truth (is_true (e i)) (is_true (f i))) ∙ sym (λ i. is_true (operated equality (e i ∷ f i ∷ [])))

module _ (th : Theory) (wt : IsWellTyped th) (n : Setting th) where
  abbrev w : World
  w = world th n.table

  abbrev true_ : Tree → Bool
  true_ = truth_at w n.env n.loc

  abbrev IsTruth : Tree → Type 0
  IsTruth t = IsTyped th n.vars n.locs t bool

  abbrev Means : Tree → Sides → Type 0
  Means t s = Mean w n.env n.loc s (true_ t)

  truth_fold : Fold IsTruth Means
  truth_fold = record {
    atoms = λ t q. mean_atom w n.env n.loc t;
    truths = λ b. mean_truth w n.env n.loc b;
    negations = λ a q.
        let k = operand th n.vars n.locs a q in
        let v = boolean_value th wt n a k in
        (k, λ x h. mean_as w n.env n.loc _ (not (true_ a)) _ (not_value _ v.0 v.1) (mean_turned w n.env n.loc x (true_ a) h));
    conjunctions = λ a b q.
        let k = operands th n.vars n.locs conjunction a b (conjunction_takes th n.vars n.locs) q in
        let v = boolean_value th wt n a k.0 in let u = boolean_value th wt n b k.1 in (
          k.0,
          k.1,
          λ x y h j. mean_as w n.env n.loc _ (true_ a && true_ b) _ (and_value _ _ v.0 u.0 v.1 u.1)
              (mean_conjunction w n.env n.loc x y (true_ a) (true_ b) h j),
        );
    disjunctions = λ a b q.
        let k = operands th n.vars n.locs disjunction a b (disjunction_takes th n.vars n.locs) q in
        let v = boolean_value th wt n a k.0 in let u = boolean_value th wt n b k.1 in (
          k.0,
          k.1,
          λ x y h j. mean_as w n.env n.loc _ (true_ a || true_ b) _ (or_value _ _ v.0 u.0 v.1 u.1)
              (mean_disjunction w n.env n.loc x y (true_ a) (true_ b) h j),
        );
    implications = λ a b q.
        let k = operands th n.vars n.locs implication a b (implication_takes th n.vars n.locs) q in
        let v = boolean_value th wt n a k.0 in let u = boolean_value th wt n b k.1 in (
          k.0,
          k.1,
          λ x y h j. mean_as w n.env n.loc _ (not (true_ a) || true_ b) _ (implied_value _ _ v.0 u.0 v.1 u.1)
              (mean_implication w n.env n.loc x y (true_ a) (true_ b) h j),
        );
    equations = λ a b e q.
        let k = sides_of_equation th n.vars n.locs a b e q in
        let v = boolean_value th wt n a k.0 in let u = boolean_value th wt n b k.1 in (
          k.0,
          k.1,
          λ x y h j. mean_as w n.env n.loc _ (same_truth (true_ a) (true_ b)) _ (equal_value _ _ v.0 u.0 v.1 u.1)
              (mean_equality w n.env n.loc x y (true_ a) (true_ b) h j),
        );
  }

  pub term_means : (t : Tree) → IsTyped th n.vars n.locs t bool → Mean (world th n.table) n.env n.loc (sides t) (truth_at (world th n.table) n.env n.loc t)
  term_means t h = sides_by IsTruth Means truth_fold t h

-- a tautology holds
module _ (w : World) (env loc : List Value) where
  one_of_both : (l : Literal) → holds w env loc l ≡ false → holds w env loc (opposite l) ≡ true
  one_of_both l e = by l.positive (truth_at w env loc l.atom) e
    where
      by : (a b : Bool) → same_truth a b ≡ false → same_truth (not a) b ≡ true
      by true b e = ap not e
      by false true e = refl
      by false false e = absurd (cc e)

  -- of literals that stand in `c`
  opposite_holds : (c d : Clause) → list_any (λ l. has c (opposite l)) d ≡ true → clause_holds w env loc d ≡ false → clause_holds w env loc c ≡ true
  opposite_holds c [] e f = absurd (cc e)
  opposite_holds c (l ∷ d) e f = elim (or_cases (has c (opposite l)) (list_any (λ m. has c (opposite m)) d) e) [
    | inl g ↦ has_holds w env loc c (opposite l) g (one_of_both l (or_left_false (holds w env loc l) (clause_holds w env loc d) f))
    | inr g ↦ opposite_holds c d g (or_right_false (holds w env loc l) (clause_holds w env loc d) f)
  ]

  tautology_holds : (c : Clause) → is_tautology c ≡ true → clause_holds w env loc c ≡ true
  tautology_holds c e = by (clause_holds w env loc c) refl
    where
      by : (b : Bool) → clause_holds w env loc c ≡ b → b ≡ true
      by true f = refl
      by false f = sym f ∙ opposite_holds c c e f

  -- so without tautologies a list says the same
  pub informative_hold : (cs : List Clause) → all_hold w env loc (filter (λ c. not (is_tautology c)) cs) ≡ all_hold w env loc cs
  informative_hold [] = refl
  informative_hold (c ∷ cs) = by (informative_hold cs) (is_tautology c) refl
    where
      by : all_hold w env loc (filter (λ c. not (is_tautology c)) cs) ≡ all_hold w env loc cs → (b : Bool) → is_tautology c ≡ b
          → all_hold w env loc (cond (not b) (c ∷ filter (λ c. not (is_tautology c)) cs) (filter (λ c. not (is_tautology c)) cs))
          ≡ (clause_holds w env loc c && all_hold w env loc cs)
      by rest true e = rest ∙ ap (λ b. b && all_hold w env loc cs) (sym (tautology_holds c e))
      by rest false e = ap (λ b. clause_holds w env loc c && b) rest

pub clauses_are_true : ClausesAreTrue
clauses_are_true th wt n t h = informative_hold (world th n.table) n.env n.loc (sides t).positive.list ∙ (term_means th wt n t h).met
