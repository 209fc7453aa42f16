-- Terms that are known to be true or false: equations with truth values, and connectives by their tables.
use Rattle.std.proofs.Common.{◌≡◌, Bool, true, false, not, ◌||◌, [], ◌∷◌, refl, inl, inr}
use Rattle.tg_model.specs.Tree.{Tree, op, one, two, truth, Operator, negation, conjunction, disjunction, implication, equality}
use Rattle.tg_model.specs.Types.{bool}
use Rattle.tg_model.specs.Formula.{Formula, atom}
use Rattle.tg_model.specs.Theory.{Theory}
use Rattle.tg_model.specs.TermTyping.{leaf, compound, none, more}
use Rattle.tg_model.specs.Accepted.{IsAmong}
use Rattle.tg_model.specs.Calls.{has_call}
use Rattle.tg_eval.specs.Limited.{limited}
use Rattle.tg_calculus.specs.Sequent.{Context, Hypotheses, equation, denied}
use Rattle.tg_calculus.specs.Replacement as by
use Rattle.tg_calculus.specs.Replacement.{Replaced, FormulaReplaced}
use Rattle.tg_calculus.specs.Computing.{computes}
use Rattle.tg_calculus.specs.Step.{IsContext, IsFormula, IsTerm}
use Rattle.tg_calculus.specs.Theorem.{AreWithin, Follows}
use Rattle.tg_calculus.proofs.SetLaws.{among_each, each_among}
use Rattle.tg_calculus.proofs.DerivedRules.{assumed, replacing, turned, by_row, by_computing, by_cases}
use Rattle.tg_derive.proofs.Equations.{equated}

-- bounds on hypotheses
pub within_self : (H : Hypotheses) → AreWithin H H
within_self H = each_among (λ Q. IsAmong Q H) H (λ Q i. i)

pub within_more : (F : Formula) (H : Hypotheses) → AreWithin H (F ∷ H)
within_more F H = each_among (λ Q. IsAmong Q (F ∷ H)) H (λ Q i. inr i)

pub within_then : (H K L : Hypotheses) → AreWithin H K → AreWithin K L → AreWithin H L
within_then H K L w v =
    each_among (λ Q. IsAmong Q L) H (λ Q i. among_each (λ R. IsAmong R L) K Q v (among_each (λ R. IsAmong R K) H Q w i))

-- the term is true, or it is false
abbrev pub signed : Bool → Tree → Formula
signed true t = atom t
signed false t = denied t

-- the connectives of two sides
abbrev pub table : Operator → Bool → Bool → Bool
table conjunction true b = b
table conjunction false b = false
table disjunction true b = true
table disjunction false b = b
table implication true b = b
table implication false b = true
table equality true b = b
table equality false b = not b
table o a b = false

abbrev pub IsTable2 : Operator → Type 0
IsTable2 conjunction = Unit {0}
IsTable2 disjunction = Unit {0}
IsTable2 implication = Unit {0}
IsTable2 equality = Unit {0}
IsTable2 o = ⊥

module _ (th : Theory) (G : Context) where
  pub truth_typed : (b : Bool) → IsTerm th G (truth b) bool
  truth_typed b = (leaf bool, refl, refl)

  pub denied_typed : (t : Tree) → IsTerm th G t bool → IsTerm th G (op negation (one t)) bool
  denied_typed t (d, h, e) = (compound bool (more d none), (((λ i. e i ∷ []), refl), (h, tt)), refl)

  pub operated_typed : (o : Operator) → IsTable2 o → (a b : Tree) → IsTerm th G a bool → IsTerm th G b bool → IsTerm th G (op o (two a b)) bool
  operated_typed conjunction i a b (d, h, e) (d', h', e') = (compound bool (more d (more d' none)), (((λ i. e i ∷ e' i ∷ []), refl), (h, (h', tt))), refl)
  operated_typed disjunction i a b (d, h, e) (d', h', e') = (compound bool (more d (more d' none)), (((λ i. e i ∷ e' i ∷ []), refl), (h, (h', tt))), refl)
  operated_typed implication i a b (d, h, e) (d', h', e') = (compound bool (more d (more d' none)), (((λ i. e i ∷ e' i ∷ []), refl), (h, (h', tt))), refl)
  operated_typed equality i a b (d, h, e) (d', h', e') = (compound bool (more d (more d' none)), (((bool, λ i. e i ∷ e' i ∷ []), refl), (h, (h', tt))), refl)
  operated_typed o i a b p q = absurd i

  pub signed_form : (s : Bool) (t : Tree) → IsTerm th G t bool → IsFormula th G (signed s t)
  signed_form true t h = h
  signed_form false t h = denied_typed t h

  pub signed_replaced : {s r u v : Tree} (z : Bool) → Replaced s r u v → FormulaReplaced s r (signed z u) (signed z v)
  signed_replaced true p = by.atom p
  signed_replaced false p = by.atom (by.in_op negation (by.more p by.none))

-- the tables compute
module _ (th : Theory) where
  not_false_computes : computes th (op negation (one (truth false))) ≡ true
  unfolding limited
  not_false_computes = refl

  true_computes : computes th (truth true) ≡ true
  unfolding limited
  true_computes = refl

  abbrev Computes : Formula → Type 0
  Computes (atom t) = computes th t ≡ true
  Computes F = ⊥

  negation_computes : (x : Bool) → Computes (signed (not x) (op negation (one (truth x))))
  unfolding limited
  negation_computes true = refl
  negation_computes false = refl

  table_computes : (o : Operator) (i : IsTable2 o) (x y : Bool) → Computes (signed (table o x y) (op o (two (truth x) (truth y))))
  unfolding limited
  table_computes conjunction i true true = refl
  table_computes conjunction i true false = refl
  table_computes conjunction i false true = refl
  table_computes conjunction i false false = refl
  table_computes disjunction i true true = refl
  table_computes disjunction i true false = refl
  table_computes disjunction i false true = refl
  table_computes disjunction i false false = refl
  table_computes implication i true true = refl
  table_computes implication i true false = refl
  table_computes implication i false true = refl
  table_computes implication i false false = refl
  table_computes equality i true true = refl
  table_computes equality i true false = refl
  table_computes equality i false true = refl
  table_computes equality i false false = refl
  table_computes o i x y = absurd i

module _ (th : Theory) (G : Context) (closed : IsContext th G) where
  -- False follows
  abbrev pub Absurd : Hypotheses → Type 0
  Absurd H = Follows th G H (atom (truth false))

  pub computed : {H : Hypotheses} (z : Bool) (t : Tree) → IsTerm th [] t bool → has_call t ≡ false → Computes th (signed z t) → Follows th G H (signed z t)
  computed true t typed n c = by_computing th G t closed typed n c
  computed false t typed n c = by_computing th G (op negation (one t)) closed (denied_typed th [] t typed) (λ i. n i || false) c

  -- a term that is known has that value
  pub value : {H : Hypotheses} (b : Bool) (t : Tree) → IsTerm th G t bool → Follows th G H (signed b t) → Follows th G H (equation t (truth b))
  value true t typed p =
      let e = equated th G t (truth true) bool typed (truth_typed th G true) in
      let row = by_row th G 37 (op equality (two t (truth true))) t closed refl
      (equated th G (op equality (two t (truth true))) t bool e typed) in
      replacing th G (by.atom by.here) e (turned th G row) p
  value false t typed p =
      let e = equated th G t (truth false) bool typed (truth_typed th G false) in
      let d = denied_typed th G t typed in
      let row = by_row th G 38 (op equality (two t (truth false))) (op negation (one t)) closed refl
      (equated th G (op equality (two t (truth false))) (op negation (one t)) bool e d) in
      replacing th G (by.atom by.here) e (turned th G row) p

  pub clash : {H : Hypotheses} (s : Bool) (t : Tree) → IsTerm th G t bool → Follows th G H (signed s t) → Follows th G H (signed (not s) t) → Absurd H
  clash true t typed p q = replacing th G (by.atom by.here) (truth_typed th G false) (value false t typed q) p
  clash false t typed p q = replacing th G (by.atom by.here) (truth_typed th G false) (value false t typed p) q

  pub by_negation : {H : Hypotheses} (x : Bool) (a : Tree) → IsTerm th G a bool → Follows th G H (signed x a)
      → Follows th G H (signed (not x) (op negation (one a)))
  by_negation x a typed p =
      replacing th G (signed_replaced th G (not x) (by.in_op negation (by.more by.here by.none)))
      (signed_form th G (not x) (op negation (one a)) (denied_typed th G a typed)) (turned th G (value x a typed p))
      (computed (not x) (op negation (one (truth x))) (denied_typed th [] (truth x) (truth_typed th [] x)) refl (negation_computes th x))

  pub by_table : {H : Hypotheses} (o : Operator) (i : IsTable2 o) (x y : Bool) (a b : Tree) → IsTerm th G a bool → IsTerm th G b bool
      → Follows th G H (signed x a) → Follows th G H (signed y b) → Follows th G H (signed (table o x y) (op o (two a b)))
  by_table o i x y a b ta tb p q =
      let z = table o x y in
      let start = computed z (op o (two (truth x) (truth y))) (operated_typed th [] o i (truth x) (truth y) (truth_typed th [] x) (truth_typed th [] y)) refl
      (table_computes th o i x y) in
      let next = replacing th G (signed_replaced th G {s = truth x} {r = a} z (by.in_op o (by.more by.here (by.more (by.kept (truth y)) by.none))))
      (signed_form th G z (op o (two a (truth y))) (operated_typed th G o i a (truth y) ta (truth_typed th G y))) (turned th G (value x a ta p)) start in
      replacing th G (signed_replaced th G {s = truth y} {r = b} z (by.in_op o (by.more (by.kept a) (by.more by.here by.none))))
      (signed_form th G z (op o (two a b)) (operated_typed th G o i a b ta tb)) (turned th G (value y b tb q)) next

  pub shown_true : {H : Hypotheses} → Follows th G H (atom (truth true))
  shown_true = by_computing th G (truth true) closed (truth_typed th [] true) refl (true_computes th)

  pub shown_not_false : {H : Hypotheses} → Follows th G H (denied (truth false))
  shown_not_false =
      by_computing th G (op negation (one (truth false))) closed (denied_typed th [] (truth false) (truth_typed th [] false)) refl (not_false_computes th)

  -- a case distinction by signs
  pub either_way : {H : Hypotheses} {F : Formula} (s : Bool) (t : Tree) → IsTerm th G t bool → Follows th G (signed s t ∷ H) F
      → Follows th G (signed (not s) t ∷ H) F → Follows th G H F
  either_way true t typed p q = by_cases th G t typed p q
  either_way false t typed p q = by_cases th G t typed q p

  pub first_known : (s : Bool) (t : Tree) (H : Hypotheses) → IsTerm th G t bool → Follows th G (signed s t ∷ H) (signed s t)
  first_known s t H typed = assumed th G closed (signed_form th G s t typed) (inl refl)
