-- The rows of numbers and of equality.
use Rattle.std.proofs.Common.{ℕ, ◌≡◌, ◌<◌, ◌+◌, ◌-◌, ◌*◌, Bool, true, false, not, [], ◌∷◌, Option, Some, refl, sym, ◌∙◌, ap, subst, nat_eq, nat_lt, nat_le, arith}
use Rattle.std.proofs.lemmas.Bool.{eqb-true, eq-eqb, ltb-true, le-leb}
use Rattle.tg_model.specs.Tree.{Tree, literal, truth, op, one, two, Operator, successor, equality, less, less_equal, plus, minus, times, divide, modulo}
use Rattle.tg_model.specs.Types.{Ty, nat, bool}
use Rattle.tg_model.specs.Value.{Value, number, boolean}
use Rattle.tg_model.specs.Theory.{Theory}
use Rattle.tg_model.specs.Denotation.{operated, quotient, remainder}
use Rattle.tg_model.specs.TermTyping.{IsOperation}
use Rattle.tg_model.specs.WellTyped.{IsWellTyped}
use Rattle.tg_model.specs.Equality.{same_tree}
use Rattle.tg_model.proofs.SameValue.{same_itself}
use Rattle.tg_rows.specs.Laws.{Setting}
use Rattle.tg_rows.specs.Parts.{only_if, and_then, unary, binary, number_of}
use Rattle.tg_rows.specs.Rows.{alike, literals, always, small, equation, eq_suc, suc_lit}
use Rattle.tg_rows.proofs.PartForms.{some_same, some_if, then_some, trees_same, unary_is, binary_is, number_is}
use Rattle.tg_rows.proofs.Settings.{value, Typed, number_value, one_typed, two_typed, truth_typed, literal_typed, op_two, Keeps, through}
use Rattle.tg_rows.proofs.TruthRows.{two_types, equal_types, one_type}

module _ (th : Theory) (wt : IsWellTyped th) (n : Setting th) where
  abbrev v : Tree → Value
  v = value th wt n

  abbrev At : Tree → Ty → Type 0
  At = Typed th wt n

  -- an operator at two literals: what is made has the value and the operator's type
  literals_keep : (o : Operator) (f : ℕ → ℕ → Option Tree) (b : Ty) → ((s r a : Ty) → IsOperation o (s ∷ r ∷ []) a → a ≡ b)
      → ((i j : ℕ) (u : Tree) → f i j ≡ Some u → (operated o (number i ∷ number j ∷ []) ≡ v u) × At u b) → Keeps th wt n (literals o f)
  literals_keep o f b answer means t u a e h =
      let p = then_some (binary o t) (λ p. and_then (number_of p.0) (λ i. and_then (number_of p.1) (λ j. f i j))) u e in
      let q = then_some (number_of p.0.0) (λ i. and_then (number_of p.0.1) (λ j. f i j)) u p.2 in
      let r = then_some (number_of p.0.1) (λ j. f q.0 j) u q.2 in
      let form : t ≡ op o (two (literal q.0) (literal r.0)) =
      binary_is o t p.0 p.1 ∙ (λ i. op o (two (number_is p.0.0 q.0 q.1 i) (number_is p.0.1 r.0 r.1 i))) in
      through th wt n t (op o (two (literal q.0) (literal r.0))) u u a form refl
      (λ k. let s = two_typed th wt n o (literal q.0) (literal r.0) a k in
      let m = means q.0 r.0 u r.2 in (m.0, subst (λ y. At u y) (sym (answer s.0 s.1 a s.4)) m.1)) h

  small_is : (i : ℕ) (u : Tree) → small i ≡ Some u → (number i ≡ v u) × At u nat
  small_is i u e =
      let r = some_if (nat_lt i 18446744073709551616) (literal i) u e in (ap v r.1, subst (λ x. At x nat) r.1 (literal_typed th wt n i))

  stated : (b : Bool) (u : Tree) → Some (truth b) ≡ Some u → (boolean b ≡ v u) × At u bool
  stated b u e = let r : truth b ≡ u = some_same e in (ap v r, subst (λ x. At x bool) r (truth_typed th wt n b))

  pub add_lit : Keeps th wt n (literals plus (λ i j. small (i + j)))
  add_lit = literals_keep plus _ nat (λ s r a h. h.1) (λ i j u e. small_is (i + j) u e)

  pub sub_lit : Keeps th wt n (literals minus (λ i j. small (i - j)))
  sub_lit = literals_keep minus _ nat (λ s r a h. h.1) (λ i j u e. small_is (i - j) u e)

  pub mul_lit : Keeps th wt n (literals times (λ i j. small (i * j)))
  mul_lit = literals_keep times _ nat (λ s r a h. h.1) (λ i j u e. small_is (i * j) u e)

  pub div_lit : Keeps th wt n (literals divide (λ i j. small (quotient i j)))
  div_lit = literals_keep divide _ nat (λ s r a h. h.1) (λ i j u e. small_is (quotient i j) u e)

  pub mod_lit : Keeps th wt n (literals modulo (λ i j. small (remainder i j)))
  mod_lit = literals_keep modulo _ nat (λ s r a h. h.1) (λ i j u e. small_is (remainder i j) u e)

  pub less_lit : Keeps th wt n (literals less (λ i j. Some (truth (nat_lt i j))))
  less_lit = literals_keep less _ bool (λ s r a h. h.1) (λ i j u e. stated (nat_lt i j) u e)

  pub le_lit : Keeps th wt n (literals less_equal (λ i j. Some (truth (nat_le i j))))
  le_lit = literals_keep less_equal _ bool (λ s r a h. h.1) (λ i j u e. stated (nat_le i j) u e)

  pub not_true : (b : Bool) → not b ≡ true → b ≡ false
  not_true true e = cc e
  not_true false e = refl

  pub eq_lit : Keeps th wt n (literals equality (λ i j. only_if (not (nat_eq i j)) (truth false)))
  eq_lit = literals_keep equality _ bool (λ s r a h. h.1)
      (λ i j u e. let r = some_if (not (nat_eq i j)) (truth false) u e in
      (ap boolean (not_true (nat_eq i j) r.0) ∙ ap v r.1, subst (λ x. At x bool) r.1 (truth_typed th wt n false)))

  -- both sides equal
  same_sides : (o : Operator) (b : Bool) → ((s r a : Ty) → IsOperation o (s ∷ r ∷ []) a → a ≡ bool)
      → ((x : Tree) (s r a : Ty) → At x s → IsOperation o (s ∷ r ∷ []) a → operated o (v x ∷ v x ∷ []) ≡ boolean b) → Keeps th wt n (alike o (always b))
  same_sides o b answer means t u a e h =
      let p = then_some (binary o t) (λ p. only_if (same_tree p.0 p.1) (always b p.0)) u e in
      let r = some_if (same_tree p.0.0 p.0.1) (always b p.0.0) u p.2 in
      let same : p.0.1 ≡ p.0.0 = sym (trees_same p.0.0 p.0.1 r.0) in
      through th wt n t (op o (two p.0.0 p.0.0)) u (truth b) a (binary_is o t p.0 p.1 ∙ ap (λ x. op o (two p.0.0 x)) same) r.1
      (λ k. let s = two_typed th wt n o p.0.0 p.0.0 a k in
      (means p.0.0 s.0 s.1 a s.2 s.4, subst (λ y. At (truth b) y) (sym (answer s.0 s.1 a s.4)) (truth_typed th wt n b))) h

  pub eq_same : Keeps th wt n (alike equality (always true))
  eq_same = same_sides equality true (λ s r a h. h.1) (λ x s r a k h. ap boolean (same_itself (v x)))

  of_numbers : (s r a : Ty) (x : Tree) → (s ∷ r ∷ [] ≡ nat ∷ nat ∷ []) × (a ≡ bool) → At x s → (i : ℕ) × (v x ≡ number i)
  of_numbers s r a x h k = number_value th wt n x (subst (λ y. At x y) (two_types s r nat nat h.0).0 k)

  not_less : (i : ℕ) → nat_lt i i ≡ false
  not_less i = by (nat_lt i i) refl
    where
      by : (b : Bool) → nat_lt i i ≡ b → b ≡ false
      by true e = let k : i < i = ltb-true i i e in absurd (omega (arith, k))
      by false e = refl

  pub less_same : Keeps th wt n (alike less (always false))
  less_same = same_sides less false (λ s r a h. h.1)
      (λ x s r a k h. let w = of_numbers s r a x h k in ap (λ y. operated less (y ∷ y ∷ [])) w.1 ∙ ap boolean (not_less w.0))

  pub le_same : Keeps th wt n (alike less_equal (always true))
  le_same = same_sides less_equal true (λ s r a h. h.1)
      (λ x s r a k h. let w = of_numbers s r a x h k in ap (λ y. operated less_equal (y ∷ y ∷ [])) w.1 ∙ ap boolean (le-leb w.0 w.0 (omega arith)))

  pub suc_lit_keeps : Keeps th wt n suc_lit
  suc_lit_keeps t u a e h =
      let p = then_some (unary successor t) (λ x. and_then (number_of x) (λ i. small (i + 1))) u e in
      let q = then_some (number_of p.0) (λ i. small (i + 1)) u p.2 in
      let m = small_is (q.0 + 1) u q.2 in
      through th wt n t (op successor (one (literal q.0))) u u a (unary_is successor t p.0 p.1 ∙ ap (λ x. op successor (one x)) (number_is p.0 q.0 q.1)) refl
      (λ k. let s = one_typed th wt n successor (literal q.0) a k in (m.0, subst (λ y. At u y) (sym (one_type th wt n s.0 nat a nat s.2).1) m.1)) h

  -- a successor is a number
  pub successor_value : (x : Tree) (s : Ty) → At (op successor (one x)) s → (s ≡ nat) × At x nat × ((i : ℕ) × (v x ≡ number i))
  successor_value x s k =
      let r = one_typed th wt n successor x s k in
      let o = one_type th wt n r.0 nat s nat r.2 in
      let y : At x nat = subst (λ z. At x z) o.0 r.1 in (o.1, y, number_value th wt n x y)

  pub successors_equal : (i j : ℕ) → nat_eq (i + 1) (j + 1) ≡ nat_eq i j
  successors_equal i j = by (nat_eq i j) refl
    where
      by : (b : Bool) → nat_eq i j ≡ b → nat_eq (i + 1) (j + 1) ≡ b
      by true e = eq-eqb (i + 1) (j + 1) (let k : i ≡ j = eqb-true i j e in omega (arith, k))
      by false e = other (nat_eq (i + 1) (j + 1)) refl
        where
          other : (b : Bool) → nat_eq (i + 1) (j + 1) ≡ b → b ≡ false
          other true f = let k : i ≡ j = (let g = eqb-true (i + 1) (j + 1) f in omega (arith, g)) in let l : nat_eq i j ≡ true = eq-eqb i j k in sym l ∙ e
          other false f = refl

  pub eq_suc_keeps : Keeps th wt n eq_suc
  eq_suc_keeps t u a e h =
      let p = then_some (binary equality t) (λ p. and_then (unary successor p.0) (λ x. and_then (unary successor p.1) (λ y. Some (equation x y)))) u e in
      let q = then_some (unary successor p.0.0) (λ x. and_then (unary successor p.0.1) (λ y. Some (equation x y))) u p.2 in
      let r = then_some (unary successor p.0.1) (λ y. Some (equation q.0 y)) u q.2 in
      let form : t ≡ equation (op successor (one q.0)) (op successor (one r.0)) =
      binary_is equality t p.0 p.1 ∙ (λ i. equation (unary_is successor p.0.0 q.0 q.1 i) (unary_is successor p.0.1 r.0 r.1 i)) in
      through th wt n t (equation (op successor (one q.0)) (op successor (one r.0))) u (equation q.0 r.0) a form (some_same r.2)
      (λ k. let s = two_typed th wt n equality (op successor (one q.0)) (op successor (one r.0)) a k in
      let c = equal_types th wt n s.0 s.1 a s.4 in
      let x = successor_value q.0 s.0 s.2 in
      let y = successor_value r.0 s.1 s.3 in (
        ap (λ z. operated equality (operated successor (z ∷ []) ∷ operated successor (v r.0 ∷ []) ∷ [])) x.2.1
            ∙ (ap (λ z. operated equality (number (x.2.0 + 1) ∷ operated successor (z ∷ []) ∷ [])) y.2.1
            ∙ (ap boolean (successors_equal x.2.0 y.2.0)
            ∙ (ap (λ z. operated equality (z ∷ number y.2.0 ∷ [])) (sym x.2.1) ∙ ap (λ z. operated equality (v q.0 ∷ z ∷ [])) (sym y.2.1)))),
        subst (λ z. At (equation q.0 r.0) z) (sym c.1) (op_two th wt n equality q.0 r.0 nat nat bool x.1 y.1 ((nat, refl), refl)),
      )) h
