-- The rows of equality between numbers and between constructors.
use Rattle.std.proofs.Common.{ℕ, zero, suc, ◌≡◌, ◌+◌, Bool, true, false, not, ◌&&◌, List, [], ◌∷◌, map, Option, Some, None, refl, sym, ◌∙◌, ap, subst, nat_eq, arith}
use Rattle.std.proofs.lemmas.Bool.{eqb-true, eq-eqb, ne_eqb}
use Rattle.tg_model.specs.Tree as tree
use Rattle.tg_model.specs.Tree.{Tree, Trees, literal, truth, con, op, one, two, elements, successor, equality, conjunction}
use Rattle.tg_model.specs.Types.{Ty, nat, bool, applied, tys}
use Rattle.tg_model.specs.Value.{Value, number, boolean, values, same_value, same_values}
use Rattle.tg_model.specs.Theory.{Theory, Owned, constructor_at, instance}
use Rattle.tg_model.specs.Denotation.{operated, values_in, world}
use Rattle.tg_model.specs.TermTyping.{Typings, leaf, instanced, compound, branching, binding, none, more, types_of, AreTypings, AllTyped}
use Rattle.tg_model.specs.WellTyped.{IsWellTyped}
use Rattle.tg_model.proofs.ValueTyping.{same_arguments}
use Rattle.tg_rows.specs.Laws.{Setting}
use Rattle.tg_rows.specs.Parts.{only_if, and_then, or_else, unary, binary, number_of, made_of}
use Rattle.tg_rows.specs.Rows.{equation, equal_parts, eq_con, eq_con_diff, zero_successor, eq_zero_suc, before, eq_suc_lit}
use Rattle.tg_rows.proofs.PartForms.{some_same, some_if, then_some, unary_is, binary_is, number_is, made_is}
use Rattle.tg_rows.proofs.Settings.{value, Typed, two_typed, truth_typed, literal_typed, op_two, Kept, Keeps, through}
use Rattle.tg_rows.proofs.TruthRows.{equal_types}
use Rattle.tg_rows.proofs.NumberRows.{not_true, successor_value, successors_equal}

before_is : (i m : ℕ) → before i ≡ Some m → i ≡ m + 1
before_is zero m e = cc e
before_is (suc j) m e = let r : j ≡ m = some_same e in omega (arith, r)

and_true : (b : Bool) → (b && true) ≡ b
and_true true = refl
and_true false = refl

module _ (th : Theory) (wt : IsWellTyped th) (n : Setting th) where
  abbrev v : Tree → Value
  v = value th wt n

  abbrev At : Tree → Ty → Type 0
  At = Typed th wt n

  abbrev vs : Trees → List Value
  vs ts = values_in (world th n.table) n.env n.loc ts

  -- an equation with the value False
  refuted : (x y : Tree) (a : Ty) → operated equality (v x ∷ v y ∷ []) ≡ boolean false → At (equation x y) a → Kept th wt n (equation x y) (truth false) a
  refuted x y a e k =
      let s = two_typed th wt n equality x y a k in
      (e, subst (λ z. At (truth false) z) (sym (equal_types th wt n s.0 s.1 a s.4).1) (truth_typed th wt n false))

  never_zero : (i : ℕ) → (nat_eq 0 (i + 1) ≡ false) × (nat_eq (i + 1) 0 ≡ false)
  never_zero i = (ne_eqb 0 (i + 1) (λ e. omega arith), ne_eqb (i + 1) 0 (λ e. omega arith))

  record ZeroSuccessor (t u : Tree) : Type 0 where
    operand : Tree
    zeroth : t ≡ literal 0
    next : u ≡ op successor (one operand)

  zero_successor_is : (t u w : Tree) → zero_successor t u ≡ Some w → ZeroSuccessor t u × (truth false ≡ w)
  zero_successor_is t u w e =
      let p = then_some (number_of t) (λ i. and_then (unary successor u) (λ x. only_if (nat_eq i 0) (truth false))) w e in
      let q = then_some (unary successor u) (λ x. only_if (nat_eq p.0 0) (truth false)) w p.2 in
      let r = some_if (nat_eq p.0 0) (truth false) w q.2 in (
        record {
          operand = q.0;
          zeroth = number_is t p.0 p.1 ∙ ap literal (eqb-true p.0 0 r.0);
          next = unary_is successor u q.0 q.1;
        },
        r.1,
      )

  pub eq_zero_suc_keeps : Keeps th wt n eq_zero_suc
  eq_zero_suc_keeps t u a e h =
      let p = then_some (binary equality t) (λ p. or_else (zero_successor p.0 p.1) (zero_successor p.1 p.0)) u e in
      through th wt n t (equation p.0.0 p.0.1) u u a (binary_is equality t p.0 p.1) refl
      (λ k. by p.0.0 p.0.1 (zero_successor p.0.0 p.0.1) refl p.2 k) h
    where
      left : (x y : Tree) → ZeroSuccessor x y → truth false ≡ u → At (equation x y) a → Kept th wt n (equation x y) u a
      left x y z f k =
          through th wt n (equation x y) (equation (literal 0) (op successor (one z.operand))) u (truth false) a (λ i. equation (z.zeroth i) (z.next i)) f
          (λ l. let s = two_typed th wt n equality (literal 0) (op successor (one z.operand)) a l in
          let w = successor_value th wt n z.operand s.1 s.3 in
          refuted (literal 0) (op successor (one z.operand)) a
          (ap (λ q. operated equality (number 0 ∷ operated successor (q ∷ []) ∷ [])) w.2.1 ∙ ap boolean (never_zero w.2.0).0) l) k

      right : (x y : Tree) → ZeroSuccessor y x → truth false ≡ u → At (equation x y) a → Kept th wt n (equation x y) u a
      right x y z f k =
          through th wt n (equation x y) (equation (op successor (one z.operand)) (literal 0)) u (truth false) a (λ i. equation (z.next i) (z.zeroth i)) f
          (λ l. let s = two_typed th wt n equality (op successor (one z.operand)) (literal 0) a l in
          let w = successor_value th wt n z.operand s.0 s.2 in
          refuted (op successor (one z.operand)) (literal 0) a
          (ap (λ q. operated equality (operated successor (q ∷ []) ∷ number 0 ∷ [])) w.2.1 ∙ ap boolean (never_zero w.2.0).1) l) k

      by : (x y : Tree) (o : Option Tree) → zero_successor x y ≡ o → or_else o (zero_successor y x) ≡ Some u → At (equation x y) a → Kept th wt n (equation x y) u a
      by x y None f g k = let z = zero_successor_is y x u g in right x y z.0 z.1 k
      by x y (Some w) f g k = let z = zero_successor_is x y w f in left x y z.0 (z.1 ∙ some_same g) k

  -- `Suc x = n` and `n = Suc x` are `x = n - 1` and `n - 1 = x`
  left_step : (x : Tree) (m : ℕ) (a : Ty) → At (equation (op successor (one x)) (literal (m + 1))) a
      → Kept th wt n (equation (op successor (one x)) (literal (m + 1))) (equation x (literal m)) a
  left_step x m a k =
      let s = two_typed th wt n equality (op successor (one x)) (literal (m + 1)) a k in
      let w = successor_value th wt n x s.0 s.2 in
      let c = equal_types th wt n s.0 s.1 a s.4 in (
        ap (λ q. operated equality (operated successor (q ∷ []) ∷ number (m + 1) ∷ [])) w.2.1
            ∙ (ap boolean (successors_equal th wt n w.2.0 m) ∙ ap (λ q. operated equality (q ∷ number m ∷ [])) (sym w.2.1)),
        subst (λ z. At (equation x (literal m)) z) (sym c.1) (op_two th wt n equality x (literal m) nat nat bool w.1 (literal_typed th wt n m) ((nat, refl), refl)),
      )

  right_step : (x : Tree) (m : ℕ) (a : Ty) → At (equation (literal (m + 1)) (op successor (one x))) a
      → Kept th wt n (equation (literal (m + 1)) (op successor (one x))) (equation (literal m) x) a
  right_step x m a k =
      let s = two_typed th wt n equality (literal (m + 1)) (op successor (one x)) a k in
      let w = successor_value th wt n x s.1 s.3 in
      let c = equal_types th wt n s.0 s.1 a s.4 in (
        ap (λ q. operated equality (number (m + 1) ∷ operated successor (q ∷ []) ∷ [])) w.2.1
            ∙ (ap boolean (successors_equal th wt n m w.2.0) ∙ ap (λ q. operated equality (number m ∷ q ∷ [])) (sym w.2.1)),
        subst (λ z. At (equation (literal m) x) z) (sym c.1) (op_two th wt n equality (literal m) x nat nat bool (literal_typed th wt n m) w.1 ((nat, refl), refl)),
      )

  abbrev first_way : Tree → Tree → Option Tree
  first_way x y = and_then (unary successor x) (λ z. and_then (number_of y) (λ i. and_then (before i) (λ m. Some (equation z (literal m)))))

  abbrev second_way : Tree → Tree → Option Tree
  second_way x y = and_then (unary successor y) (λ z. and_then (number_of x) (λ i. and_then (before i) (λ m. Some (equation (literal m) z))))

  by_first : (x y u : Tree) (a : Ty) → first_way x y ≡ Some u → At (equation x y) a → Kept th wt n (equation x y) u a
  by_first x y u a e k =
      let p = then_some (unary successor x) (λ z. and_then (number_of y) (λ i. and_then (before i) (λ m. Some (equation z (literal m))))) u e in
      let q = then_some (number_of y) (λ i. and_then (before i) (λ m. Some (equation p.0 (literal m)))) u p.2 in
      let r = then_some (before q.0) (λ m. Some (equation p.0 (literal m))) u q.2 in
      let right : y ≡ literal (r.0 + 1) = number_is y q.0 q.1 ∙ ap literal (before_is q.0 r.0 r.1) in
      through th wt n (equation x y) (equation (op successor (one p.0)) (literal (r.0 + 1))) u (equation p.0 (literal r.0)) a
      (λ i. equation (unary_is successor x p.0 p.1 i) (right i)) (some_same r.2) (left_step p.0 r.0 a) k

  by_second : (x y u : Tree) (a : Ty) → second_way x y ≡ Some u → At (equation x y) a → Kept th wt n (equation x y) u a
  by_second x y u a e k =
      let p = then_some (unary successor y) (λ z. and_then (number_of x) (λ i. and_then (before i) (λ m. Some (equation (literal m) z)))) u e in
      let q = then_some (number_of x) (λ i. and_then (before i) (λ m. Some (equation (literal m) p.0))) u p.2 in
      let r = then_some (before q.0) (λ m. Some (equation (literal m) p.0)) u q.2 in
      let left : x ≡ literal (r.0 + 1) = number_is x q.0 q.1 ∙ ap literal (before_is q.0 r.0 r.1) in
      through th wt n (equation x y) (equation (literal (r.0 + 1)) (op successor (one p.0))) u (equation (literal r.0) p.0) a
      (λ i. equation (left i) (unary_is successor y p.0 p.1 i)) (some_same r.2) (right_step p.0 r.0 a) k

  pub eq_suc_lit_keeps : Keeps th wt n eq_suc_lit
  eq_suc_lit_keeps t u a e h =
      let p = then_some (binary equality t) (λ p. or_else (first_way p.0 p.1) (second_way p.0 p.1)) u e in
      through th wt n t (equation p.0.0 p.0.1) u u a (binary_is equality t p.0 p.1) refl
      (λ k. by p.0.0 p.0.1 (first_way p.0.0 p.0.1) refl p.2 k) h
    where
      by : (x y : Tree) (o : Option Tree) → first_way x y ≡ o → or_else o (second_way x y) ≡ Some u → At (equation x y) a → Kept th wt n (equation x y) u a
      by x y None f g k = by_second x y u a g k
      by x y (Some w) f g k = by_first x y u a (f ∙ g) k

  -- a constructor at an argument list
  pub record Made (c : ℕ) (ts : Trees) (a : Ty) : Type 0 where
    pub owned : Owned
    pub instanced_at : List Ty
    pub is : constructor_at th c ≡ Some owned
    pub type : a ≡ applied owned.datatype (tys instanced_at)
    pub arguments : AllTyped th n.vars n.locs ts (map (instance instanced_at) owned.constructor.arguments)

  pub all_typed : (ts : Trees) (ds : Typings) → AreTypings th n.vars n.locs ts ds → AllTyped th n.vars n.locs ts (types_of ds)
  all_typed tree.none none h = tt
  all_typed tree.none (more d ds) h = absurd h
  all_typed (tree.more t ts) none h = absurd h
  all_typed (tree.more t ts) (more d ds) h = ((d, h.0, refl), all_typed ts ds h.1)

  pub made_typed : (c : ℕ) (ts : Trees) (a : Ty) → At (con c ts) a → Made c ts a
  made_typed c ts a (instanced us t ds, (o, is, k, q, args, each), e) = record {
    owned = o;
    instanced_at = us;
    is = is;
    type = sym e ∙ q;
    arguments = subst (λ l. AllTyped th n.vars n.locs ts l) args (all_typed ts ds each);
  }
  made_typed c ts a (leaf t, h, e) = absurd h
  made_typed c ts a (compound t ds, h, e) = absurd h
  made_typed c ts a (branching us t d arms, h, e) = absurd h
  made_typed c ts a (binding x t d g, h, e) = absurd h

  -- arguments of the same types
  parts_keep : (ts us : Trees) (as' : List Ty) (w : Tree) → AllTyped th n.vars n.locs ts as' → AllTyped th n.vars n.locs us as'
      → equal_parts (elements ts) (elements us) ≡ Some w → (boolean (same_values (values (vs ts)) (values (vs us))) ≡ v w) × At w bool
  parts_keep tree.none us as' w h k e = cc e
  parts_keep (tree.more t tree.none) tree.none as' w h k e = cc e
  parts_keep (tree.more t (tree.more t' ts)) tree.none as' w h k e = cc e
  parts_keep (tree.more t ts) us [] w h k e = absurd h
  parts_keep (tree.more t tree.none) (tree.more u tree.none) (a ∷ as') w h k e =
      let r : equation t u ≡ w = some_same e in
      (ap boolean (and_true (same_value (v t) (v u))) ∙ ap v r, subst (λ z. At z bool) r (op_two th wt n equality t u a a bool h.0 k.0 ((a, refl), refl)))
  parts_keep (tree.more t tree.none) (tree.more u (tree.more u' us)) (a ∷ as') w h k e =
      let p = then_some (equal_parts [] (u' ∷ elements us)) (λ z. Some (op conjunction (two (equation t u) z))) w e in let f : None ≡ Some p.0 = p.1 in cc
  parts_keep (tree.more t (tree.more t' ts)) (tree.more u tree.none) (a ∷ as') w h k e =
      let p = then_some (equal_parts (t' ∷ elements ts) []) (λ z. Some (op conjunction (two (equation t u) z))) w e in
      let q = parts_keep (tree.more t' ts) tree.none as' p.0 h.1 k.1 p.1 in absurd (none_left t' (elements ts) p.0 p.1)
    where
      none_left : (x : Tree) (xs : List Tree) (y : Tree) → equal_parts (x ∷ xs) [] ≡ Some y → ⊥
      none_left x [] y f = cc f
      none_left x (z ∷ xs) y f = cc f
  parts_keep (tree.more t (tree.more t' ts)) (tree.more u (tree.more u' us)) (a ∷ as') w h k e =
      let p = then_some (equal_parts (t' ∷ elements ts) (u' ∷ elements us)) (λ z. Some (op conjunction (two (equation t u) z))) w e in
      let q = parts_keep (tree.more t' ts) (tree.more u' us) as' p.0 h.1 k.1 p.1 in
      let r : op conjunction (two (equation t u) p.0) ≡ w = some_same p.2 in
      let left : At (equation t u) bool = op_two th wt n equality t u a a bool h.0 k.0 ((a, refl), refl) in (
        ap (λ z. operated conjunction (boolean (same_value (v t) (v u)) ∷ z ∷ [])) q.0 ∙ ap v r,
        subst (λ z. At z bool) r (op_two th wt n conjunction (equation t u) p.0 bool bool bool left q.1 (refl, refl)),
      )

  same_owner : (c : ℕ) (o o' : Owned) → constructor_at th c ≡ Some o → constructor_at th c ≡ Some o' → o ≡ o'
  same_owner c o o' p q = some_same (sym p ∙ q)

  pub eq_con_keeps : Keeps th wt n eq_con
  eq_con_keeps t u a e h =
      let p = then_some (binary equality t) (λ p. and_then (made_of p.0) (λ q. and_then (made_of p.1) (λ r.
      and_then (only_if (nat_eq q.0 r.0) q.0) (λ c. equal_parts (elements q.1) (elements r.1))))) u e in
      let q = then_some (made_of p.0.0) (λ q. and_then (made_of p.0.1) (λ r. and_then (only_if (nat_eq q.0 r.0) q.0) (λ c. equal_parts (elements q.1) (elements r.1)))) u p.2 in
      let r = then_some (made_of p.0.1) (λ r. and_then (only_if (nat_eq q.0.0 r.0) q.0.0) (λ c. equal_parts (elements q.0.1) (elements r.1))) u q.2 in
      let s = then_some (only_if (nat_eq q.0.0 r.0.0) q.0.0) (λ c. equal_parts (elements q.0.1) (elements r.0.1)) u r.2 in
      let same : r.0.0 ≡ q.0.0 = sym (eqb-true q.0.0 r.0.0 (some_if (nat_eq q.0.0 r.0.0) q.0.0 s.0 s.1).0) in
      let form : t ≡ equation (con q.0.0 q.0.1) (con q.0.0 r.0.1) =
      binary_is equality t p.0 p.1 ∙ (λ i. equation (made_is p.0.0 q.0 q.1 i) (made_is p.0.1 r.0 r.1 i)) ∙ ap (λ c. equation (con q.0.0 q.0.1) (con c r.0.1)) same in
      through th wt n t (equation (con q.0.0 q.0.1) (con q.0.0 r.0.1)) u u a form refl
      (λ k. let w = two_typed th wt n equality (con q.0.0 q.0.1) (con q.0.0 r.0.1) a k in
      let c = equal_types th wt n w.0 w.1 a w.4 in
      let x = made_typed q.0.0 q.0.1 w.0 w.2 in
      let y = made_typed q.0.0 r.0.1 w.1 w.3 in
      let owner : y.owned ≡ x.owned = same_owner q.0.0 y.owned x.owned y.is x.is in
      let arguments : y.instanced_at ≡ x.instanced_at =
      same_arguments y.owned.datatype x.owned.datatype y.instanced_at x.instanced_at (sym y.type ∙ (sym c.0 ∙ x.type)) in
      let typed = subst (λ (l : List Ty). AllTyped th n.vars n.locs r.0.1 l)
      ((λ i. map (instance (arguments i)) (owner i).constructor.arguments)) y.arguments in
      let m = parts_keep q.0.1 r.0.1 (map (instance x.instanced_at) x.owned.constructor.arguments) u x.arguments typed s.2 in
      (ap (λ b. boolean (b && same_values (values (vs q.0.1)) (values (vs r.0.1)))) (eq-eqb q.0.0 q.0.0 refl) ∙ m.0, subst (λ z. At u z) (sym c.1) m.1)) h

  pub eq_con_diff_keeps : Keeps th wt n eq_con_diff
  eq_con_diff_keeps t u a e h =
      let p = then_some (binary equality t) (λ p. and_then (made_of p.0) (λ q. and_then (made_of p.1) (λ r. only_if (not (nat_eq q.0 r.0)) (truth false)))) u e in
      let q = then_some (made_of p.0.0) (λ q. and_then (made_of p.0.1) (λ r. only_if (not (nat_eq q.0 r.0)) (truth false))) u p.2 in
      let r = then_some (made_of p.0.1) (λ r. only_if (not (nat_eq q.0.0 r.0)) (truth false)) u q.2 in
      let s = some_if (not (nat_eq q.0.0 r.0.0)) (truth false) u r.2 in
      let form : t ≡ equation (con q.0.0 q.0.1) (con r.0.0 r.0.1) =
      binary_is equality t p.0 p.1 ∙ (λ i. equation (made_is p.0.0 q.0 q.1 i) (made_is p.0.1 r.0 r.1 i)) in
      through th wt n t (equation (con q.0.0 q.0.1) (con r.0.0 r.0.1)) u (truth false) a form s.1
      (λ k. refuted (con q.0.0 q.0.1) (con r.0.0 r.0.1) a
      (ap (λ b. boolean (b && same_values (values (vs q.0.1)) (values (vs r.0.1)))) (not_true th wt n (nat_eq q.0.0 r.0.0) s.0)) k) h
