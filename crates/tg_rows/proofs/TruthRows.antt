-- The rows of truth functions, of `if`, and of equality with a truth value.
use Rattle.std.proofs.Common.{◌≡◌, Bool, true, false, not, [], ◌∷◌, Option, Some, None, refl, sym, ◌∙◌, ap, subst, if◌then◌else◌}
use Rattle.tg_model.specs.Tree as tree
use Rattle.tg_model.specs.Tree.{Tree, truth, choice, op, one, two, Operator, negation, conjunction, disjunction, implication, equality}
use Rattle.tg_model.specs.Types.{Ty, bool}
use Rattle.tg_model.specs.Value.{Value, boolean, same_truth}
use Rattle.tg_model.specs.Theory.{Theory}
use Rattle.tg_model.specs.Denotation.{operated, chosen}
use Rattle.tg_model.specs.TermTyping.{IsOperation}
use Rattle.tg_model.specs.WellTyped.{IsWellTyped}
use Rattle.tg_model.specs.Equality.{same_tree}
use Rattle.tg_model.proofs.Inversions.{truth_type as known}
use Rattle.tg_model.proofs.SameValue.{truths}
use Rattle.tg_rows.specs.Laws.{Setting}
use Rattle.tg_rows.specs.Parts.{only_if, and_then, or_else, unary, binary, truth_of, choice_of}
use Rattle.tg_rows.specs.Rows.{left_truth, right_truth, alike, itself, always, denied, not_truth, not_not, side, if_truth, if_same, eq_truth}
use Rattle.tg_rows.proofs.PartForms.{some_if, then_some, trees_same, unary_is, binary_is, truth_is, choice_is}
use Rattle.tg_rows.proofs.Settings.{value, Typed, boolean_value, one_typed, two_typed, if_typed, truth_typed, op_one, Kept, Keeps, through}

-- the connectives take and give truth values
abbrev IsConnective : Operator → Type 0
IsConnective o = (s r a : Ty) → IsOperation o (s ∷ r ∷ []) a → (s ≡ bool) × (r ≡ bool) × (a ≡ bool)

pub two_types : (a b c d : Ty) → a ∷ b ∷ [] ≡ c ∷ d ∷ [] → (a ≡ c) × (b ≡ d)
two_types a b c d e = (cc e, cc e)

conjunction_is : IsConnective conjunction
conjunction_is s r a h = let p = two_types s r bool bool h.0 in (p.0, p.1, h.1)

disjunction_is : IsConnective disjunction
disjunction_is s r a h = let p = two_types s r bool bool h.0 in (p.0, p.1, h.1)

implication_is : IsConnective implication
implication_is s r a h = let p = two_types s r bool bool h.0 in (p.0, p.1, h.1)

module _ (th : Theory) (wt : IsWellTyped th) (n : Setting th) where
  abbrev v : Tree → Value
  v = value th wt n

  abbrev At : Tree → Ty → Type 0
  At = Typed th wt n

  -- what `f` makes of a truth value `x`, beside the truth value `b` on the left, or on the right
  abbrev MeansLeft : Operator → Bool → (Tree → Tree) → Type 0
  MeansLeft o b f = (x : Tree) (c : Bool) → v x ≡ boolean c → operated o (boolean b ∷ boolean c ∷ []) ≡ v (f x)

  abbrev MeansRight : Operator → Bool → (Tree → Tree) → Type 0
  MeansRight o b f = (x : Tree) (c : Bool) → v x ≡ boolean c → operated o (boolean c ∷ boolean b ∷ []) ≡ v (f x)

  abbrev MeansAlike : Operator → (Tree → Tree) → Type 0
  MeansAlike o f = (x : Tree) (c : Bool) → v x ≡ boolean c → operated o (boolean c ∷ boolean c ∷ []) ≡ v (f x)

  -- a truth value stays one
  abbrev IsTruth : (Tree → Tree) → Type 0
  IsTruth f = (x : Tree) → At x bool → At (f x) bool

  left_keeps : (o : Operator) (b : Bool) (f : Tree → Tree) → IsConnective o → MeansLeft o b f → IsTruth f → Keeps th wt n (left_truth o b f)
  left_keeps o b f connective means is_truth t u a e h =
      let p = then_some (binary o t) (λ p. and_then (truth_of p.0) (λ c. only_if (same_truth c b) (f p.1))) u e in
      let q = then_some (truth_of p.0.0) (λ c. only_if (same_truth c b) (f p.0.1)) u p.2 in
      let r = some_if (same_truth q.0 b) (f p.0.1) u q.2 in
      let left : p.0.0 ≡ truth b = truth_is p.0.0 q.0 q.1 ∙ ap truth (truths q.0 b r.0) in
      through th wt n t (op o (two (truth b) p.0.1)) u (f p.0.1) a (binary_is o t p.0 p.1 ∙ ap (λ x. op o (two x p.0.1)) left) r.1
      (λ k. let s = two_typed th wt n o (truth b) p.0.1 a k in
      let c = connective s.0 s.1 a s.4 in
      let x : At p.0.1 bool = subst (λ y. At p.0.1 y) c.1 s.3 in
      let w = boolean_value th wt n p.0.1 x in
      (ap (λ y. operated o (boolean b ∷ y ∷ [])) w.1 ∙ means p.0.1 w.0 w.1, subst (λ y. At (f p.0.1) y) (sym c.2) (is_truth p.0.1 x))) h

  right_keeps : (o : Operator) (b : Bool) (f : Tree → Tree) → IsConnective o → MeansRight o b f → IsTruth f → Keeps th wt n (right_truth o b f)
  right_keeps o b f connective means is_truth t u a e h =
      let p = then_some (binary o t) (λ p. and_then (truth_of p.1) (λ c. only_if (same_truth c b) (f p.0))) u e in
      let q = then_some (truth_of p.0.1) (λ c. only_if (same_truth c b) (f p.0.0)) u p.2 in
      let r = some_if (same_truth q.0 b) (f p.0.0) u q.2 in
      let right : p.0.1 ≡ truth b = truth_is p.0.1 q.0 q.1 ∙ ap truth (truths q.0 b r.0) in
      through th wt n t (op o (two p.0.0 (truth b))) u (f p.0.0) a (binary_is o t p.0 p.1 ∙ ap (λ x. op o (two p.0.0 x)) right) r.1
      (λ k. let s = two_typed th wt n o p.0.0 (truth b) a k in
      let c = connective s.0 s.1 a s.4 in
      let x : At p.0.0 bool = subst (λ y. At p.0.0 y) c.0 s.2 in
      let w = boolean_value th wt n p.0.0 x in
      (ap (λ y. operated o (y ∷ boolean b ∷ [])) w.1 ∙ means p.0.0 w.0 w.1, subst (λ y. At (f p.0.0) y) (sym c.2) (is_truth p.0.0 x))) h

  alike_keeps : (o : Operator) (f : Tree → Tree) → IsConnective o → MeansAlike o f → IsTruth f → Keeps th wt n (alike o f)
  alike_keeps o f connective means is_truth t u a e h =
      let p = then_some (binary o t) (λ p. only_if (same_tree p.0 p.1) (f p.0)) u e in
      let r = some_if (same_tree p.0.0 p.0.1) (f p.0.0) u p.2 in
      let same : p.0.1 ≡ p.0.0 = sym (trees_same p.0.0 p.0.1 r.0) in
      through th wt n t (op o (two p.0.0 p.0.0)) u (f p.0.0) a (binary_is o t p.0 p.1 ∙ ap (λ x. op o (two p.0.0 x)) same) r.1
      (λ k. let s = two_typed th wt n o p.0.0 p.0.0 a k in
      let c = connective s.0 s.1 a s.4 in
      let x : At p.0.0 bool = subst (λ y. At p.0.0 y) c.0 s.2 in
      let w = boolean_value th wt n p.0.0 x in
      (ap (λ y. operated o (y ∷ y ∷ [])) w.1 ∙ means p.0.0 w.0 w.1, subst (λ y. At (f p.0.0) y) (sym c.2) (is_truth p.0.0 x))) h

  itself_truth : IsTruth itself
  itself_truth x h = h

  always_truth : (b : Bool) → IsTruth (always b)
  always_truth b x h = truth_typed th wt n b

  denied_truth : IsTruth denied
  denied_truth x h = op_one th wt n negation x bool bool h (refl, refl)

  denied_value : (x : Tree) (c : Bool) → v x ≡ boolean c → boolean (not c) ≡ v (denied x)
  denied_value x c e = ap (λ y. operated negation (y ∷ [])) (sym e)

  -- the value of a truth function whose one side is known
  pub and_true_l : Keeps th wt n (left_truth conjunction true itself)
  and_true_l = left_keeps conjunction true itself conjunction_is (λ x c e. sym e) itself_truth

  pub and_false_l : Keeps th wt n (left_truth conjunction false (always false))
  and_false_l = left_keeps conjunction false (always false) conjunction_is (λ x c e. refl) (always_truth false)

  pub and_true_r : Keeps th wt n (right_truth conjunction true itself)
  and_true_r = right_keeps conjunction true itself conjunction_is (λ x c e. by c ∙ sym e) itself_truth
    where
      by : (c : Bool) → operated conjunction (boolean c ∷ boolean true ∷ []) ≡ boolean c
      by true = refl
      by false = refl

  pub and_false_r : Keeps th wt n (right_truth conjunction false (always false))
  and_false_r = right_keeps conjunction false (always false) conjunction_is (λ x c e. by c) (always_truth false)
    where
      by : (c : Bool) → operated conjunction (boolean c ∷ boolean false ∷ []) ≡ boolean false
      by true = refl
      by false = refl

  pub and_same : Keeps th wt n (alike conjunction itself)
  and_same = alike_keeps conjunction itself conjunction_is (λ x c e. by c ∙ sym e) itself_truth
    where
      by : (c : Bool) → operated conjunction (boolean c ∷ boolean c ∷ []) ≡ boolean c
      by true = refl
      by false = refl

  pub or_true_l : Keeps th wt n (left_truth disjunction true (always true))
  or_true_l = left_keeps disjunction true (always true) disjunction_is (λ x c e. refl) (always_truth true)

  pub or_false_l : Keeps th wt n (left_truth disjunction false itself)
  or_false_l = left_keeps disjunction false itself disjunction_is (λ x c e. sym e) itself_truth

  pub or_true_r : Keeps th wt n (right_truth disjunction true (always true))
  or_true_r = right_keeps disjunction true (always true) disjunction_is (λ x c e. by c) (always_truth true)
    where
      by : (c : Bool) → operated disjunction (boolean c ∷ boolean true ∷ []) ≡ boolean true
      by true = refl
      by false = refl

  pub or_false_r : Keeps th wt n (right_truth disjunction false itself)
  or_false_r = right_keeps disjunction false itself disjunction_is (λ x c e. by c ∙ sym e) itself_truth
    where
      by : (c : Bool) → operated disjunction (boolean c ∷ boolean false ∷ []) ≡ boolean c
      by true = refl
      by false = refl

  pub or_same : Keeps th wt n (alike disjunction itself)
  or_same = alike_keeps disjunction itself disjunction_is (λ x c e. by c ∙ sym e) itself_truth
    where
      by : (c : Bool) → operated disjunction (boolean c ∷ boolean c ∷ []) ≡ boolean c
      by true = refl
      by false = refl

  pub imp_true_l : Keeps th wt n (left_truth implication true itself)
  imp_true_l = left_keeps implication true itself implication_is (λ x c e. sym e) itself_truth

  pub imp_false_l : Keeps th wt n (left_truth implication false (always true))
  imp_false_l = left_keeps implication false (always true) implication_is (λ x c e. refl) (always_truth true)

  pub imp_true_r : Keeps th wt n (right_truth implication true (always true))
  imp_true_r = right_keeps implication true (always true) implication_is (λ x c e. by c) (always_truth true)
    where
      by : (c : Bool) → operated implication (boolean c ∷ boolean true ∷ []) ≡ boolean true
      by true = refl
      by false = refl

  pub imp_false_r : Keeps th wt n (right_truth implication false denied)
  imp_false_r = right_keeps implication false denied implication_is (λ x c e. by c ∙ denied_value x c e) denied_truth
    where
      by : (c : Bool) → operated implication (boolean c ∷ boolean false ∷ []) ≡ boolean (not c)
      by true = refl
      by false = refl

  pub imp_same : Keeps th wt n (alike implication (always true))
  imp_same = alike_keeps implication (always true) implication_is (λ x c e. by c) (always_truth true)
    where
      by : (c : Bool) → operated implication (boolean c ∷ boolean c ∷ []) ≡ boolean true
      by true = refl
      by false = refl

  pub one_type : (s t a b : Ty) → (s ∷ [] ≡ t ∷ []) × (a ≡ b) → (s ≡ t) × (a ≡ b)
  one_type s t a b h = (cc h.0, h.1)

  pub not_truth_keeps : (b : Bool) → Keeps th wt n (not_truth b)
  not_truth_keeps b t u a e h =
      let p = then_some (unary negation t) (λ x. and_then (truth_of x) (λ c. only_if (same_truth c b) (truth (not b)))) u e in
      let q = then_some (truth_of p.0) (λ c. only_if (same_truth c b) (truth (not b))) u p.2 in
      let r = some_if (same_truth q.0 b) (truth (not b)) u q.2 in
      let inner : p.0 ≡ truth b = truth_is p.0 q.0 q.1 ∙ ap truth (truths q.0 b r.0) in
      through th wt n t (op negation (one (truth b))) u (truth (not b)) a (unary_is negation t p.0 p.1 ∙ ap (λ x. op negation (one x)) inner) r.1
      (λ k. let s = one_typed th wt n negation (truth b) a k in
      (refl, subst (λ y. At (truth (not b)) y) (sym (one_type s.0 bool a bool s.2).1) (truth_typed th wt n (not b)))) h

  twice : (c : Bool) → boolean (not (not c)) ≡ boolean c
  twice true = refl
  twice false = refl

  pub not_not_keeps : Keeps th wt n not_not
  not_not_keeps t u a e h =
      let p = then_some (unary negation t) (λ x. unary negation x) u e in
      through th wt n t (op negation (one (op negation (one u)))) u u a (unary_is negation t p.0 p.1 ∙ ap (λ x. op negation (one x)) (unary_is negation p.0 u p.2)) refl
      (λ k. let s = one_typed th wt n negation (op negation (one u)) a k in
      let o = one_type s.0 bool a bool s.2 in
      let r = one_typed th wt n negation u s.0 s.1 in
      let i = one_type r.0 bool s.0 bool r.2 in
      let x : At u bool = subst (λ y. At u y) i.0 r.1 in
      let w = boolean_value th wt n u x in
      (ap (λ y. operated negation (operated negation (y ∷ []) ∷ [])) w.1 ∙ (twice w.0 ∙ sym w.1), subst (λ y. At u y) (sym o.1) x)) h

  pub if_truth_keeps : (b : Bool) → Keeps th wt n (if_truth b)
  if_truth_keeps b t u a e h =
      let p = then_some (choice_of t) (λ p. and_then (truth_of p.0) (λ c. only_if (same_truth c b) (side b p.1 p.2))) u e in
      let q = then_some (truth_of p.0.0) (λ c. only_if (same_truth c b) (side b p.0.1 p.0.2)) u p.2 in
      let r = some_if (same_truth q.0 b) (side b p.0.1 p.0.2) u q.2 in
      let inner : p.0.0 ≡ truth b = truth_is p.0.0 q.0 q.1 ∙ ap truth (truths q.0 b r.0) in
      through th wt n t (choice (tree.more (truth b) (two p.0.1 p.0.2))) u (side b p.0.1 p.0.2) a
      (choice_is t p.0 p.1 ∙ ap (λ x. choice (tree.more x (two p.0.1 p.0.2))) inner) r.1
      (λ k. let s = if_typed th wt n (truth b) p.0.1 p.0.2 a k in by b p.0.1 p.0.2 s.1 s.2) h
    where
      by : (c : Bool) (x y : Tree) → At x a → At y a → Kept th wt n (choice (tree.more (truth c) (two x y))) (side c x y) a
      by true x y k l = (refl, k)
      by false x y k l = (refl, l)

  pub if_same_keeps : Keeps th wt n if_same
  if_same_keeps t u a e h =
      let p = then_some (choice_of t) (λ p. only_if (same_tree p.1 p.2) p.1) u e in
      let r = some_if (same_tree p.0.1 p.0.2) p.0.1 u p.2 in
      through th wt n t (choice (tree.more p.0.0 (two p.0.1 p.0.1))) u p.0.1 a
      (choice_is t p.0 p.1 ∙ ap (λ x. choice (tree.more p.0.0 (two p.0.1 x))) (sym (trees_same p.0.1 p.0.2 r.0))) r.1
      (λ k. let s = if_typed th wt n p.0.0 p.0.1 p.0.1 a k in
      let w = boolean_value th wt n p.0.0 s.0 in
      (ap (λ y. chosen (y ∷ v p.0.1 ∷ v p.0.1 ∷ [])) w.1 ∙ by w.0 (v p.0.1), s.1)) h
    where
      by : (c : Bool) (x : Value) → (if c then x else x) ≡ x
      by true x = refl
      by false x = refl

  -- equality with a truth value: both sides are truth values
  pub equal_types : (s r a : Ty) → IsOperation equality (s ∷ r ∷ []) a → (s ≡ r) × (a ≡ bool)
  equal_types s r a h = let p = two_types s r h.0.0 h.0.0 h.0.1 in (p.0 ∙ sym p.1, h.1)

  truth_type : (b : Bool) (s : Ty) → At (truth b) s → bool ≡ s
  truth_type b s (d, h, e) = sym (known th n.vars n.locs b d h) ∙ e

  pub eq_left : (b : Bool) (f : Tree → Tree) → MeansLeft equality b f → IsTruth f → Keeps th wt n (left_truth equality b f)
  eq_left b f means is_truth t u a e h =
      let p = then_some (binary equality t) (λ p. and_then (truth_of p.0) (λ c. only_if (same_truth c b) (f p.1))) u e in
      let q = then_some (truth_of p.0.0) (λ c. only_if (same_truth c b) (f p.0.1)) u p.2 in
      let r = some_if (same_truth q.0 b) (f p.0.1) u q.2 in
      let left : p.0.0 ≡ truth b = truth_is p.0.0 q.0 q.1 ∙ ap truth (truths q.0 b r.0) in
      through th wt n t (op equality (two (truth b) p.0.1)) u (f p.0.1) a (binary_is equality t p.0 p.1 ∙ ap (λ x. op equality (two x p.0.1)) left) r.1
      (λ k. let s = two_typed th wt n equality (truth b) p.0.1 a k in
      let c = equal_types s.0 s.1 a s.4 in
      let x : At p.0.1 bool = subst (λ y. At p.0.1 y) (sym (truth_type b s.0 s.2 ∙ c.0)) s.3 in
      let w = boolean_value th wt n p.0.1 x in
      (ap (λ y. operated equality (boolean b ∷ y ∷ [])) w.1 ∙ means p.0.1 w.0 w.1, subst (λ y. At (f p.0.1) y) (sym c.1) (is_truth p.0.1 x))) h

  pub eq_right : (b : Bool) (f : Tree → Tree) → MeansRight equality b f → IsTruth f → Keeps th wt n (right_truth equality b f)
  eq_right b f means is_truth t u a e h =
      let p = then_some (binary equality t) (λ p. and_then (truth_of p.1) (λ c. only_if (same_truth c b) (f p.0))) u e in
      let q = then_some (truth_of p.0.1) (λ c. only_if (same_truth c b) (f p.0.0)) u p.2 in
      let r = some_if (same_truth q.0 b) (f p.0.0) u q.2 in
      let right : p.0.1 ≡ truth b = truth_is p.0.1 q.0 q.1 ∙ ap truth (truths q.0 b r.0) in
      through th wt n t (op equality (two p.0.0 (truth b))) u (f p.0.0) a (binary_is equality t p.0 p.1 ∙ ap (λ x. op equality (two p.0.0 x)) right) r.1
      (λ k. let s = two_typed th wt n equality p.0.0 (truth b) a k in
      let c = equal_types s.0 s.1 a s.4 in
      let x : At p.0.0 bool = subst (λ y. At p.0.0 y) (c.0 ∙ sym (truth_type b s.1 s.3)) s.2 in
      let w = boolean_value th wt n p.0.0 x in
      (ap (λ y. operated equality (y ∷ boolean b ∷ [])) w.1 ∙ means p.0.0 w.0 w.1, subst (λ y. At (f p.0.0) y) (sym c.1) (is_truth p.0.0 x))) h

  pub either : (f g : Tree → Option Tree) → Keeps th wt n f → Keeps th wt n g → Keeps th wt n (λ t. or_else (f t) (g t))
  either f g k l t u a e h = by (f t) refl e
    where
      by : (o : Option Tree) → f t ≡ o → or_else o (g t) ≡ Some u → Kept th wt n t u a
      by None p q = l t u a q h
      by (Some x) p q = k t u a (p ∙ q) h

  pub eq_true : Keeps th wt n (eq_truth true itself)
  eq_true = either (right_truth equality true itself) (left_truth equality true itself)
      (eq_right true itself (λ x c e. by c ∙ sym e) itself_truth) (eq_left true itself (λ x c e. sym e) itself_truth)
    where
      by : (c : Bool) → operated equality (boolean c ∷ boolean true ∷ []) ≡ boolean c
      by true = refl
      by false = refl

  pub eq_false : Keeps th wt n (eq_truth false denied)
  eq_false = either (right_truth equality false denied) (left_truth equality false denied)
      (eq_right false denied (λ x c e. by c ∙ denied_value x c e) denied_truth) (eq_left false denied (λ x c e. denied_value x c e) denied_truth)
    where
      by : (c : Bool) → operated equality (boolean c ∷ boolean false ∷ []) ≡ boolean (not c)
      by true = refl
      by false = refl
