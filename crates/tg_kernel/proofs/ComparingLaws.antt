-- Comparing root by root decides equality.
use Rattle.std.proofs.Common.{ℕ, zero, suc, ◌≡◌, ◌↔◌, Bool, true, false, ◌&&◌, nat_eq, List, [], ◌∷◌, map, length, refl, sym, ◌∙◌, ap, subst, IsTrue}
use Rattle.std.proofs.lemmas.Bool.{eqb-true, eq-eqb}
use Rattle.tg_model.specs.Tree as tree
use Rattle.tg_model.specs.Tree.{Tree, Trees, trees}
use Rattle.tg_model.specs.Types as types
use Rattle.tg_model.specs.Types.{Ty, Tys, nat, bool, parameter, meta, applied}
use Rattle.tg_model.specs.Formula.{Formula, atom, both, implies, all, some, thyp, tested, deep}
use Rattle.tg_model.specs.Equality.{same_tree, same_type, same_formula}
use Rattle.tg_model.proofs.Booleans.{and_left, and_right, and_both}
use Rattle.tg_model.proofs.Equalities.{decides_trees, decides_types, decides_formulas}
use Rattle.tg_types.specs.declared.types.Ty as declared
use Rattle.tg_types.specs.Types.{ty, types as types_of}
use Rattle.tg_term.specs.Measures.{counted}
use Rattle.tg_term.specs.FormulaMeasures.{formula_nodes}
use Rattle.tg_calculus.specs.Draft.{same_context}
use Rattle.tg_kernel.specs.Comparing.{alike, all_alike, type_alike, all_types_alike}

mutual
  type_if : (t u : Ty) → type_alike t u ≡ true → t ≡ u
  type_if nat nat e = refl
  type_if bool bool e = refl
  type_if (parameter m) (parameter n) e = ap parameter (eqb-true m n e)
  type_if (meta m) (meta n) e = ap meta (eqb-true m n e)
  type_if (applied d ts) (applied e us) h =
      let p : d ≡ e = eqb-true d e (and_left (nat_eq d e) (all_types_alike ts us) h) in
      let q : ts ≡ us = types_if ts us (and_right (nat_eq d e) (all_types_alike ts us) h) in λ i. applied (p i) (q i)
  type_if t u e = cc e

  types_if : (ts us : Tys) → all_types_alike ts us ≡ true → ts ≡ us
  types_if types.none types.none e = refl
  types_if (types.more t ts) (types.more u us) h =
      let p : t ≡ u = type_if t u (and_left (type_alike t u) (all_types_alike ts us) h) in
      let q : ts ≡ us = types_if ts us (and_right (type_alike t u) (all_types_alike ts us) h) in λ i. types.more (p i) (q i)
  types_if ts us e = cc e

number_self : (n : ℕ) → nat_eq n n ≡ true
number_self n = eq-eqb n n refl

mutual
  type_self : (t : Ty) → type_alike t t ≡ true
  type_self nat = refl
  type_self bool = refl
  type_self (parameter n) = number_self n
  type_self (meta n) = number_self n
  type_self (applied d ts) = and_both (nat_eq d d) (all_types_alike ts ts) (number_self d) (types_self ts)

  types_self : (ts : Tys) → all_types_alike ts ts ≡ true
  types_self types.none = refl
  types_self (types.more t ts) = and_both (type_alike t t) (all_types_alike ts ts) (type_self t) (types_self ts)

trees_if : (ts us : Trees) → all_alike ts us ≡ true → ts ≡ us
trees_if tree.none tree.none e = refl
trees_if (tree.more t ts) (tree.more u us) h =
    let p : t ≡ u = (decides_trees t u).0 (and_left (same_tree t u) (all_alike ts us) h) in
    let q : ts ≡ us = trees_if ts us (and_right (same_tree t u) (all_alike ts us) h) in λ i. tree.more (p i) (q i)
trees_if ts us e = cc e

trees_self : (ts : Trees) → all_alike ts ts ≡ true
trees_self tree.none = refl
trees_self (tree.more t ts) = and_both (same_tree t t) (all_alike ts ts) ((decides_trees t t).1 refl) (trees_self ts)

formula_if : (f g : Formula) → alike f g ≡ true → f ≡ g
formula_if (atom t) (atom u) e = ap atom ((decides_trees t u).0 e)
formula_if (both f g) (both f' g') e =
    let p : f ≡ f' = formula_if f f' (and_left (alike f f') (alike g g') e) in
    let q : g ≡ g' = formula_if g g' (and_right (alike f f') (alike g g') e) in λ i. both (p i) (q i)
formula_if (implies f g) (implies f' g') e =
    let p : f ≡ f' = formula_if f f' (and_left (alike f f') (alike g g') e) in
    let q : g ≡ g' = formula_if g g' (and_right (alike f f') (alike g g') e) in λ i. implies (p i) (q i)
formula_if (all t f) (all u g) e =
    let p : t ≡ u = (decides_types t u).0 (and_left (same_type t u) (alike f g) e) in
    let q : f ≡ g = formula_if f g (and_right (same_type t u) (alike f g) e) in λ i. all (p i) (q i)
formula_if (some t f) (some u g) e =
    let p : t ≡ u = (decides_types t u).0 (and_left (same_type t u) (alike f g) e) in
    let q : f ≡ g = formula_if f g (and_right (same_type t u) (alike f g) e) in λ i. some (p i) (q i)
formula_if (thyp f) (thyp g) e = ap thyp (formula_if f g e)
formula_if (tested ts) (tested us) e = ap tested (trees_if ts us e)
formula_if (deep j ts) (deep k us) e =
    let p : j ≡ k = eqb-true j k (and_left (nat_eq j k) (all_alike ts us) e) in
    let q : ts ≡ us = trees_if ts us (and_right (nat_eq j k) (all_alike ts us) e) in λ i. deep (p i) (q i)
formula_if f g e = cc e

formula_self : (f : Formula) → alike f f ≡ true
formula_self (atom t) = (decides_trees t t).1 refl
formula_self (both f g) = and_both (alike f f) (alike g g) (formula_self f) (formula_self g)
formula_self (implies f g) = and_both (alike f f) (alike g g) (formula_self f) (formula_self g)
formula_self (all t f) = and_both (same_type t t) (alike f f) ((decides_types t t).1 refl) (formula_self f)
formula_self (some t f) = and_both (same_type t t) (alike f f) ((decides_types t t).1 refl) (formula_self f)
formula_self (thyp f) = formula_self f
formula_self (tested ts) = trees_self ts
formula_self (deep k ts) = and_both (nat_eq k k) (all_alike ts ts) (number_self k) (trees_self ts)

-- two tests of one fact
same_tests : (b c : Bool) → (b ≡ true → c ≡ true) → (c ≡ true → b ≡ true) → b ≡ c
same_tests true c h k = sym (h refl)
same_tests false true h k = k refl
same_tests false false h k = refl

pub type_test : (t u : Ty) → type_alike t u ≡ same_type t u
type_test t u =
    same_tests (type_alike t u) (same_type t u) (λ e. (decides_types t u).1 (type_if t u e))
    (λ e. subst (λ (x : Ty). type_alike t x ≡ true) ((decides_types t u).0 e) (type_self t))

pub formula_test : (f g : Formula) → alike f g ≡ same_formula f g
formula_test f g =
    same_tests (alike f g) (same_formula f g) (λ e. (decides_formulas f g).1 (formula_if f g e))
    (λ e. subst (λ (x : Formula). alike f x ≡ true) ((decides_formulas f g).0 e) (formula_self f))

pub other_count : (f g : Formula) → ¬ (counted (formula_nodes f) ≡ counted (formula_nodes g)) → false ≡ same_formula f g
other_count f g n =
    same_tests false (same_formula f g) (λ e. cc e) (λ e. absurd (n (ap (λ (x : Formula). counted (formula_nodes x)) ((decides_formulas f g).0 e))))

pub tree_test : (b : Bool) (t u : Tree) → (IsTrue b ↔ (t ≡ u)) → b ≡ same_tree t u
tree_test b t u h = same_tests b (same_tree t u) (λ e. (decides_trees t u).1 (h.0 e)) (λ e. h.1 ((decides_trees t u).0 e))

pub ruleset comparing = (type_test, formula_test, other_count, tree_test)

-- lists of two lengths
pub uneven_trees : (ts us : List Tree) → ¬ (length ts ≡ length us) → false ≡ all_alike (trees ts) (trees us)
uneven_trees [] [] n = absurd (n refl)
uneven_trees [] (u ∷ us) n = refl
uneven_trees (t ∷ ts) [] n = refl
uneven_trees (t ∷ ts) (u ∷ us) n = and_false (same_tree t u) (all_alike (trees ts) (trees us)) (uneven_trees ts us (λ e. n (ap suc e)))
  where
    and_false : (b c : Bool) → false ≡ c → false ≡ b && c
    and_false true c e = e
    and_false false c e = refl

pub uneven_types : (ts us : List declared.Ty) → ¬ (length ts ≡ length us) → false ≡ all_types_alike (types_of ts) (types_of us)
uneven_types [] [] n = absurd (n refl)
uneven_types [] (u ∷ us) n = refl
uneven_types (t ∷ ts) [] n = refl
uneven_types (t ∷ ts) (u ∷ us) n = and_false (type_alike (ty t) (ty u)) (all_types_alike (types_of ts) (types_of us)) (uneven_types ts us (λ e. n (ap suc e)))
  where
    and_false : (b c : Bool) → false ≡ c → false ≡ b && c
    and_false true c e = e
    and_false false c e = refl

pub uneven_contexts : (ts us : List declared.Ty) → ¬ (length ts ≡ length us) → false ≡ same_context (map ty ts) (map ty us)
uneven_contexts [] [] n = absurd (n refl)
uneven_contexts [] (u ∷ us) n = refl
uneven_contexts (t ∷ ts) [] n = refl
uneven_contexts (t ∷ ts) (u ∷ us) n = and_false (same_type (ty t) (ty u)) (same_context (map ty ts) (map ty us)) (uneven_contexts ts us (λ e. n (ap suc e)))
  where
    and_false : (b c : Bool) → false ≡ c → false ≡ b && c
    and_false true c e = e
    and_false false c e = refl

pub ruleset lists = (uneven_trees, uneven_types, uneven_contexts)
