-- The test of replacement decides it.
use Rattle.std.proofs.Common.{ℕ, ◌≡◌, ◌↔◌, true, ◌&&◌, ◌||◌, nat_eq, refl, sym, subst, inl, inr}
use Rattle.std.proofs.lemmas.Bool.{eq-eqb, eqb-true}
use Rattle.tg_model.specs.Tree as tree
use Rattle.tg_model.specs.Tree.{Tree, Trees, Arms, Operator, con, call, put, choice, case, bind, op, operator_discrete}
use Rattle.tg_model.specs.Types.{Ty}
use Rattle.tg_model.specs.Equality.{same_tree, same_type, number_decided}
use Rattle.tg_model.specs.Formula as formula
use Rattle.tg_model.specs.Formula.{Formula}
use Rattle.tg_model.proofs.Booleans.{or_left, or_right, or_cases, and_left, and_right, and_both}
use Rattle.tg_model.proofs.Equalities.{told, decides_trees, decides_types}
use Rattle.tg_rows.specs.Parts.{same_operator}
use Rattle.tg_calculus.specs.Replacement as by
use Rattle.tg_calculus.specs.Replacement.{Replaced, AllReplaced, ArmsReplaced, FormulaReplaced}
use Rattle.tg_calculus.specs.Replacing.{at_root, below, all_replace, arms_replace, replaces}

pub one_operator : (o p : Operator) → same_operator o p ≡ true → o ≡ p
one_operator o p e = (told (operator_discrete number_decided o p)).0 e

module _ (s t : Tree) where
  from_root : (u v : Tree) → at_root s t u v ≡ true → Replaced s t u v
  from_root u v e =
      elim (or_cases (same_tree u s && same_tree v t) (same_tree u v) e) [
        | inl p ↦ subst (λ (x : Tree). Replaced s t x v) (sym ((decides_trees u s).0 (and_left (same_tree u s) (same_tree v t) p)))
            (subst (λ (x : Tree). Replaced s t s x) (sym ((decides_trees v t).0 (and_right (same_tree u s) (same_tree v t) p))) by.here)
        | inr p ↦ subst (λ (x : Tree). Replaced s t u x) ((decides_trees u v).0 p) (by.kept u)
      ]

  from_test : (u v : Tree) → (below s t u v ≡ true → Replaced s t u v) → (at_root s t u v || below s t u v) ≡ true → Replaced s t u v
  from_test u v rest e = elim (or_cases (at_root s t u v) (below s t u v) e) [ inl p ↦ from_root u v p | inr p ↦ rest p ]

  mutual
    from_below : (u v : Tree) → below s t u v ≡ true → Replaced s t u v
    from_below (con c us) (con d vs) e =
        subst (λ n. Replaced s t (con c us) (con n vs)) (eqb-true c d (and_left (nat_eq c d) _ e)) (by.in_con c (from_all us vs (and_right (nat_eq c d) _ e)))
    from_below (call f us) (call g vs) e =
        subst (λ n. Replaced s t (call f us) (call n vs)) (eqb-true f g (and_left (nat_eq f g) _ e))
        (by.in_call f (from_all us vs (and_right (nat_eq f g) _ e)))
    from_below (put us) (put vs) e = by.in_put (from_all us vs e)
    from_below (choice us) (choice vs) e = by.in_choice (from_all us vs e)
    from_below (case d u bs) (case d' v cs) e =
        let p = and_right (nat_eq d d') _ e in
        subst (λ n. Replaced s t (case d u bs) (case n v cs)) (eqb-true d d' (and_left (nat_eq d d') _ e))
        (by.in_case d (from_test u v (λ q. from_below u v q) (and_left (at_root s t u v || below s t u v) _ p))
        (from_arms bs cs (and_right (at_root s t u v || below s t u v) _ p)))
    from_below (bind u a) (bind v b) e =
        by.in_bind (from_test u v (λ q. from_below u v q) (and_left (at_root s t u v || below s t u v) _ e))
        (from_test a b (λ q. from_below a b q) (and_right (at_root s t u v || below s t u v) _ e))
    from_below (op o us) (op p vs) e =
        subst (λ (n : Operator). Replaced s t (op o us) (op n vs)) (one_operator o p (and_left (same_operator o p) _ e))
        (by.in_op o (from_all us vs (and_right (same_operator o p) _ e)))
    from_below u v e = cc e

    from_all : (us vs : Trees) → all_replace s t us vs ≡ true → AllReplaced s t us vs
    from_all tree.none tree.none e = by.none
    from_all (tree.more u us) (tree.more v vs) e =
        by.more (from_test u v (λ q. from_below u v q) (and_left (at_root s t u v || below s t u v) _ e))
        (from_all us vs (and_right (at_root s t u v || below s t u v) _ e))
    from_all us vs e = cc e

    from_arms : (bs cs : Arms) → arms_replace s t bs cs ≡ true → ArmsReplaced s t bs cs
    from_arms tree.end tree.end e = by.end
    from_arms (tree.arm m u bs) (tree.arm n v cs) e =
        let p = and_right (nat_eq m n) _ e in
        subst (λ k. ArmsReplaced s t (tree.arm m u bs) (tree.arm k v cs)) (eqb-true m n (and_left (nat_eq m n) _ e))
        (by.arm m (from_test u v (λ q. from_below u v q) (and_left (at_root s t u v || below s t u v) _ p))
        (from_arms bs cs (and_right (at_root s t u v || below s t u v) _ p)))
    from_arms bs cs e = cc e

  from_replaces : (F Q : Formula) → replaces s t F Q ≡ true → FormulaReplaced s t F Q
  from_replaces (formula.atom u) (formula.atom v) e = by.atom (from_test u v (λ q. from_below u v q) e)
  from_replaces (formula.both F Q) (formula.both F' Q') e =
      by.both (from_replaces F F' (and_left (replaces s t F F') _ e)) (from_replaces Q Q' (and_right (replaces s t F F') _ e))
  from_replaces (formula.implies F Q) (formula.implies F' Q') e =
      by.implies (from_replaces F F' (and_left (replaces s t F F') _ e)) (from_replaces Q Q' (and_right (replaces s t F F') _ e))
  from_replaces (formula.all T F) (formula.all U Q) e =
      subst (λ (x : Ty). FormulaReplaced s t (formula.all T F) (formula.all x Q)) ((decides_types T U).0 (and_left (same_type T U) _ e))
      (by.all T (from_replaces F Q (and_right (same_type T U) _ e)))
  from_replaces (formula.some T F) (formula.some U Q) e =
      subst (λ (x : Ty). FormulaReplaced s t (formula.some T F) (formula.some x Q)) ((decides_types T U).0 (and_left (same_type T U) _ e))
      (by.some T (from_replaces F Q (and_right (same_type T U) _ e)))
  from_replaces (formula.thyp F) (formula.thyp Q) e = by.thyp (from_replaces F Q e)
  from_replaces (formula.tested us) (formula.tested vs) e = by.tested (from_all us vs e)
  from_replaces (formula.deep j us) (formula.deep k vs) e =
      subst (λ n. FormulaReplaced s t (formula.deep j us) (formula.deep n vs)) (eqb-true j k (and_left (nat_eq j k) _ e))
      (by.deep j (from_all us vs (and_right (nat_eq j k) _ e)))
  from_replaces F Q e = cc e

  itself : (u : Tree) → same_tree u u ≡ true
  itself u = (decides_trees u u).1 refl

  at_root_itself : (u : Tree) → at_root s t u u ≡ true
  at_root_itself u = or_right (same_tree u s && same_tree u t) (same_tree u u) (itself u)

  same_number : (n : ℕ) → nat_eq n n ≡ true
  same_number n = eq-eqb n n refl

  mutual
    to_test : {u v : Tree} → Replaced s t u v → (at_root s t u v || below s t u v) ≡ true
    to_test by.here = or_left (at_root s t s t) (below s t s t)
        (or_left (same_tree s s && same_tree t t) (same_tree s t) (and_both (same_tree s s) (same_tree t t) (itself s) (itself t)))
    to_test (by.kept u) = or_left (at_root s t u u) (below s t u u) (at_root_itself u)
    to_test (by.in_con c {us} {vs} r) = or_right (at_root s t (con c us) (con c vs)) _ (and_both (nat_eq c c) _ (same_number c) (to_all r))
    to_test (by.in_call f {us} {vs} r) = or_right (at_root s t (call f us) (call f vs)) _ (and_both (nat_eq f f) _ (same_number f) (to_all r))
    to_test (by.in_put {us} {vs} r) = or_right (at_root s t (put us) (put vs)) _ (to_all r)
    to_test (by.in_choice {us} {vs} r) = or_right (at_root s t (choice us) (choice vs)) _ (to_all r)
    to_test (by.in_case d {u} {v} {bs} {cs} r a) =
        or_right (at_root s t (case d u bs) (case d v cs)) _ (and_both (nat_eq d d) _ (same_number d) (and_both _ _ (to_test r) (to_arms a)))
    to_test (by.in_bind {u} {v} {a} {b} r q) = or_right (at_root s t (bind u a) (bind v b)) _ (and_both _ _ (to_test r) (to_test q))
    to_test (by.in_op o {us} {vs} r) =
        or_right (at_root s t (op o us) (op o vs)) _ (and_both (same_operator o o) _ ((told (operator_discrete number_decided o o)).1 refl) (to_all r))

    to_all : {us vs : Trees} → AllReplaced s t us vs → all_replace s t us vs ≡ true
    to_all by.none = refl
    to_all (by.more r rs) = and_both _ _ (to_test r) (to_all rs)

    to_arms : {bs cs : Arms} → ArmsReplaced s t bs cs → arms_replace s t bs cs ≡ true
    to_arms by.end = refl
    to_arms (by.arm n r rs) = and_both (nat_eq n n) _ (same_number n) (and_both _ _ (to_test r) (to_arms rs))

  to_replaces : {F Q : Formula} → FormulaReplaced s t F Q → replaces s t F Q ≡ true
  to_replaces (by.atom r) = to_test r
  to_replaces (by.both p q) = and_both _ _ (to_replaces p) (to_replaces q)
  to_replaces (by.implies p q) = and_both _ _ (to_replaces p) (to_replaces q)
  to_replaces (by.all T p) = and_both (same_type T T) _ ((decides_types T T).1 refl) (to_replaces p)
  to_replaces (by.some T p) = and_both (same_type T T) _ ((decides_types T T).1 refl) (to_replaces p)
  to_replaces (by.thyp p) = to_replaces p
  to_replaces (by.tested r) = to_all r
  to_replaces (by.deep k r) = and_both (nat_eq k k) _ (same_number k) (to_all r)

  pub decides_replacement : (F Q : Formula) → (replaces s t F Q ≡ true) ↔ FormulaReplaced s t F Q
  decides_replacement F Q = (λ e. from_replaces F Q e, λ r. to_replaces r)
