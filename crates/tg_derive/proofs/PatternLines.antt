-- At a pattern, the specification follows from the formulas of the pattern's classes: leaf by leaf, and back along the split tree.
use Rattle.std.proofs.Common.{◌≡◌, Bool, true, false, List, [], ◌∷◌, map, refl, sym, ◌∙◌, ap, subst, inl, inr, if◌then◌else◌}
use Rattle.std.specs.List.{filter, flat_map}
use Rattle.tg_model.specs.Tree as tree
use Rattle.tg_model.specs.Tree.{Tree, Trees, Arms, bound, free, literal, truth, con, call, put, choice, case, bind, op, one, two, negation, implication, elements}
use Rattle.tg_model.specs.Types.{bool}
use Rattle.tg_model.specs.Formula.{Formula, atom, implies, tested}
use Rattle.tg_model.specs.Theory.{Theory}
use Rattle.tg_model.specs.Typing.{least}
use Rattle.tg_model.specs.Equality.{same_tree}
use Rattle.tg_model.specs.Calls.{has_call}
use Rattle.tg_model.specs.Accepted.{IsAccepted, IsAmong}
use Rattle.tg_model.proofs.Equalities.{decides_trees}
use Rattle.tg_model.proofs.Keeping.{substitution_keeps_types}
use Rattle.tg_model.proofs.Narrowing.{truth_has_one_type}
use Rattle.tg_accept.specs.Checks.{Each}
use Rattle.tg_rows.specs.Rows.{denied}
use Rattle.tg_rows.proofs.TypedLists.{listed_typed}
use Rattle.tg_norm.specs.Halves.{replaced, all_replaced, unless_same}
use Rattle.tg_norm.specs.Splits.{Splits, leaf, inner, implied, IsForm}
use Rattle.tg_norm.specs.Laws.{has_let}
use Rattle.tg_norm.proofs.MadeForms.{form_has_none}
use Rattle.tg_norm.proofs.ConditionTypes.{condition_typed}
use Rattle.tg_norm.proofs.ReplacedTerms.{replaced_typed}
use Rattle.tg_norm.proofs.SplitLaws.{splits_keep}
use Rattle.tg_clause.specs.declared.literals.Literal.{Literal}
use Rattle.tg_clause.specs.Clauses.{Clause, clauses_of}
use Rattle.tg_clause.specs.Minimal.{minimised}
use Rattle.tg_clause.specs.Classes.{constraints_of}
use Rattle.tg_clause.specs.Laws.{AtomsOf}
use Rattle.tg_clause.proofs.AtomLaws.{sides_atoms, typed_parts}
use Rattle.tg_clause.proofs.ClassTruth.{classes_are_typed}
use Rattle.tg_clause.proofs.EachLaws as each
use Rattle.tg_clause.proofs.OperandTypes.{operands, implication_takes}
use Rattle.tg_split.specs.Patterns.{Pattern}
use Rattle.tg_split.specs.Laws.{IsPatternOf}
use Rattle.tg_hyps.specs.Hypotheses.{Class, if_all, checked}
use Rattle.tg_derive.specs.Goals.{start}
use Rattle.tg_derive.specs.Classes.{class_of}
use Rattle.tg_derive.specs.Trees.{AreClassesAt}
use Rattle.tg_derive.proofs.EachLaws.{each_left, each_right, each_given, each_among, among_itself}
use Rattle.tg_derive.proofs.BothWays.{atoms_typed}
use Rattle.tg_calculus.specs.Sequent.{Context, Hypotheses, equation}
use Rattle.tg_calculus.specs.Sequent as sequent
use Rattle.tg_calculus.specs.Replacement as by
use Rattle.tg_calculus.specs.Replacement.{Replaced, AllReplaced, ArmsReplaced}
use Rattle.tg_calculus.specs.Step.{IsContext, IsFormula, IsTerm}
use Rattle.tg_calculus.specs.Theorem.{Follows}
use Rattle.tg_calculus.proofs.DerivedRules.{assumed, widened, conditional, detached, replacing, turned, anything, theorem_of}
use Rattle.tg_derive.specs.Derivability.{class_formula, PatternsAreDerivable}
use Rattle.tg_derive.proofs.Equations.{some_setting, least_values}
use Rattle.tg_derive.proofs.NormalLines.{form_line}
use Rattle.tg_derive.proofs.TruthLines.{denied_typed, operated_typed, signed, value, clash, by_table, either_way, first_known, within_more}
use Rattle.tg_derive.proofs.ClauseLines.{Closes, in_map, each_filtered}
use Rattle.tg_derive.proofs.ClassLines.{minimal_close, by_clauses, class_closes, some_typed}

-- a half of a term becomes the term where the condition stands for its truth value again
module _ (q : Tree) (b : Bool) where
  arms_kept : (bs : Arms) → ArmsReplaced (truth b) q bs bs
  arms_kept tree.end = by.end
  arms_kept (tree.arm n body bs) = by.arm n (by.kept body) (arms_kept bs)

  unless_back : (t u : Tree) → Replaced (truth b) q u t → Replaced (truth b) q (unless_same q b t u) t
  unless_back t u r = at (same_tree t q) refl
    where
      at : (c : Bool) → same_tree t q ≡ c → Replaced (truth b) q (if c then truth b else u) t
      at true e = subst (λ x. Replaced (truth b) q (truth b) x) (sym ((decides_trees t q).0 e)) by.here
      at false e = r

  mutual
    put_back : (t : Tree) → Replaced (truth b) q (replaced q b t) t
    put_back (bound k) = unless_back (bound k) (bound k) (by.kept (bound k))
    put_back (free n) = unless_back (free n) (free n) (by.kept (free n))
    put_back (literal n) = unless_back (literal n) (literal n) (by.kept (literal n))
    put_back (truth c) = unless_back (truth c) (truth c) (by.kept (truth c))
    put_back (con c ts) = unless_back (con c ts) (con c (all_replaced q b ts)) (by.in_con c (all_put_back ts))
    put_back (call f ts) = unless_back (call f ts) (call f (all_replaced q b ts)) (by.in_call f (all_put_back ts))
    put_back (put ts) = unless_back (put ts) (put (all_replaced q b ts)) (by.in_put (all_put_back ts))
    put_back (choice ts) = unless_back (choice ts) (choice (all_replaced q b ts)) (by.in_choice (all_put_back ts))
    put_back (case d t arms) = unless_back (case d t arms) (case d (replaced q b t) arms) (by.in_case d (put_back t) (arms_kept arms))
    put_back (bind t body) = unless_back (bind t body) (bind (replaced q b t) (replaced q b body)) (by.in_bind (put_back t) (put_back body))
    put_back (op o ts) = unless_back (op o ts) (op o (all_replaced q b ts)) (by.in_op o (all_put_back ts))

    all_put_back : (ts : Trees) → AllReplaced (truth b) q (all_replaced q b ts) ts
    all_put_back tree.none = by.none
    all_put_back (tree.more t ts) = by.more (put_back t) (all_put_back ts)

module _ (th : Theory) (accepted : IsAccepted th) (G : Context) (closed : IsContext th G) where
  abbrev Truth : Tree → Type 0
  Truth t = IsTerm th G t bool

  -- a term whose normal form follows
  back : (H : Hypotheses) (t u : Tree) → IsForm th t u → Truth t → Follows th G H (atom u) → Follows th G H (atom t)
  back H t u f typed p = replacing th G (by.atom by.here) typed (turned th G (form_line th accepted G closed H t u f bool typed).1) p

  modus : (K : Hypotheses) (a m : Tree) → Truth a → Truth m → Follows th G K (atom a) → Follows th G K (atom (implied a m)) → Follows th G K (atom m)
  modus K a m ta tm p q =
      let N = signed false m ∷ K in
      let w = within_more (signed false m) K in
      either_way th G closed true m tm (first_known th G closed true m K tm)
      (anything th G tm
      (clash th G closed true (implied a m) (operated_typed th G implication tt a m ta tm) (widened th G w q)
      (by_table th G closed implication tt true false a m ta tm (widened th G w p) (first_known th G closed false m K tm))))

  abbrev Leaf : Hypotheses → Tree → Type 0
  Leaf K l = IsTerm th G l bool × Follows th G K (atom l)

  under_condition : (K : Hypotheses) (a : Tree) (ms : List Tree) → Truth a → Follows th G K (atom a) → Each (Leaf K) (map (implied a) ms) → Each (Leaf K) ms
  under_condition K a [] ta p h = tt
  under_condition K a (m ∷ ms) ta p h =
      let k = operands th G [] implication a m (implication_takes th G []) h.0.0 in
      ((k.1, modus K a m ta k.1 p h.0.1), under_condition K a ms ta p h.1)

  wider : (H : Hypotheses) (F : Formula) (ls : List Tree) → Each (Leaf H) ls → Each (Leaf (F ∷ H)) ls
  wider H F ls h = each_given (Leaf H) (Leaf (F ∷ H)) ls (λ l k. (k.0, widened th G (within_more F H) k.1)) h

  half_typed : (t q : Tree) (b : Bool) → Truth q → Truth t → Truth (replaced q b t)
  half_typed t q b k h = replaced_typed th G q b (λ l s j. truth_has_one_type th accepted.well_typed G l q s closed k j) t [] bool h

  -- where the condition has a truth value, the term follows from its half
  half : (H : Hypotheses) (t q u : Tree) (b : Bool) → Truth q → Truth t → IsForm th (replaced q b t) u → Follows th G (signed b q ∷ H) (atom u)
      → Follows th G (signed b q ∷ H) (atom t)
  half H t q u b tq typed f p =
      let K = signed b q ∷ H in
      let is = value th G closed b q tq (first_known th G closed b q H tq) in
      replacing th G (by.atom (put_back q b t)) typed (turned th G is) (back K (replaced q b t) u f (half_typed t q b tq typed) p)

  pub tree_line : (H : Hypotheses) (s t : Tree) (ls : List Tree) → IsForm th s t → Splits (IsForm th) t ls → IsTerm th G t bool
      → Each (λ l. IsTerm th G l bool × Follows th G H (atom l)) ls → Follows th G H (atom t)
  tree_line H s t ls is (leaf c e) typed h = (subst (Each (Leaf H)) e h).0.1
  tree_line H s t ls (w, is, i) (inner q u v ms ns c f g x y e) typed h =
      let tq = condition_typed th G [] t bool q (ap has_let (sym i) ∙ form_has_none th s w is) c typed in
      let all = subst (Each (Leaf H)) e h in
      let yes_ = each_left (Leaf H) (map (implied q) ms) (map (implied (denied q)) ns) all in
      let no_ = each_right (Leaf H) (map (implied q) ms) (map (implied (denied q)) ns) all in
      let Y = signed true q ∷ H in
      let N = signed false q ∷ H in
      let tu = (form_line th accepted G closed H (replaced q true t) u f bool (half_typed t q true tq typed)).0 in
      let tv = (form_line th accepted G closed H (replaced q false t) v g bool (half_typed t q false tq typed)).0 in
      either_way th G closed true q tq
      (half H t q u true tq typed f (tree_line Y (replaced q true t) u ms f x tu
      (under_condition Y q ms tq (first_known th G closed true q H tq) (wider H (signed true q) (map (implied q) ms) yes_))))
      (half H t q v false tq typed g (tree_line N (replaced q false t) v ns g y tv
      (under_condition N (denied q) ns (denied_typed th G q tq) (first_known th G closed false q H tq)
      (wider H (signed false q) (map (implied (denied q)) ns) no_))))

  pub if_form : (cs : List Tree) (F : Formula) → Each (λ t. IsTerm th G t bool) cs → IsFormula th G F → IsFormula th G (if_all cs F)
  if_form [] F h w = w
  if_form (c ∷ cs) F h w = (h.0, if_form cs F h.1 w)

each_unflat : {A B : Type 0} (P : B → Type 0) (f : A → List B) (xs : List A) → Each P (flat_map f xs) → Each (λ x. Each P (f x)) xs
each_unflat P f [] h = tt
each_unflat P f (x ∷ xs) h = (each_left P (f x) (flat_map f xs) h, each_unflat P f xs (each_right P (f x) (flat_map f xs) h))

module _ (th : Theory) (accepted : IsAccepted th) (p : Pattern) (is : IsPatternOf th th.program.inputs p) (cs : List Class) (a : AreClassesAt th p cs) where
  abbrev G : Context
  G = p.variables

  abbrev found : List Clause
  found = flat_map clauses_of a.leaves

  abbrev H : Hypotheses
  H = tested p.terms ∷ map class_formula cs

  start_typed : IsTerm th G (start th p).term bool
  start_typed = substitution_keeps_types th G [] th.program.inputs (elements p.terms) th.specification bool
      (listed_typed th G [] p.terms th.program.inputs is.typed) accepted.well_typed.specification

  form_typed : IsTerm th G a.form bool
  form_typed = (form_line th accepted G is.closed H (start th p).term a.form a.is_form bool start_typed).0

  leaves_typed : Each (λ l. IsTerm th G l bool) a.leaves
  leaves_typed = (splits_keep th accepted.well_typed (some_setting th accepted G is.closed) (start th p).term a.form a.leaves a.is_form a.are_leaves form_typed).0

  clause_typed : Each (AtomsOf (λ t. IsTerm th G t bool)) (minimised found)
  clause_typed = atoms_typed th accepted p is [] tt (map (least th) G) (least_values th accepted G is.closed) cs a

  formula_typed : (c : Clause) → AtomsOf (λ t. IsTerm th G t bool) c → IsFormula th G (class_formula (class_of p c))
  formula_typed c t = (
    is.typed,
    if_form th accepted G is.closed (constraints_of c) (checked (class_of p c)) (classes_are_typed th G [] c t).0
        (some_typed th G is.closed (filter (λ (l : Literal). has_call l.atom) c)
        (each_filtered (λ (l : Literal). IsTerm th G l.atom bool) (λ (l : Literal). has_call l.atom) c t)),
  )

  one_closes : (c : Clause) → IsAmong c (minimised found) → Closes th G is.closed H c
  one_closes c i =
      let t = each_among (AtomsOf (λ u. IsTerm th G u bool)) (minimised found) c clause_typed i in
      let there : IsAmong (class_formula (class_of p c)) (map class_formula cs) =
      subst (λ l. IsAmong (class_formula (class_of p c)) (map class_formula l)) (sym a.classes)
      (in_map class_formula (class_of p c) (map (class_of p) (minimised found)) (in_map (class_of p) c (minimised found) i)) in
      class_closes th G is.closed H c t
      (detached th G (assumed th G is.closed (formula_typed c t) (inr there)) (assumed th G is.closed is.typed (inl refl)))

  leaves_follow : Each (λ l. IsTerm th G l bool × Follows th G H (atom l)) a.leaves
  leaves_follow =
      each.each_both (λ l. IsTerm th G l bool) (λ l. Each (Closes th G is.closed H) (clauses_of l)) (λ l. IsTerm th G l bool × Follows th G H (atom l))
      (λ l t k. (t, by_clauses th G is.closed H l t (sides_atoms (λ u. IsTerm th G u bool) (typed_parts th G []) l t).positive k)) a.leaves leaves_typed
      (each_unflat (Closes th G is.closed H) clauses_of a.leaves
      (minimal_close th G is.closed H found (among_itself (Closes th G is.closed H) (minimised found) one_closes)))

  pub pattern_line : Follows th G (map class_formula cs) (implies (tested p.terms) (atom (start th p).term))
  pattern_line =
      conditional th G is.typed
      (back th accepted G is.closed H (start th p).term a.form a.is_form start_typed
      (tree_line th accepted G is.closed H (start th p).term a.form a.leaves a.is_form a.are_leaves form_typed leaves_follow))

  formulas_typed : (ds : List Clause) → Each (AtomsOf (λ t. IsTerm th G t bool)) ds → sequent.Each (IsFormula th G) (map class_formula (map (class_of p) ds))
  formulas_typed [] h = tt
  formulas_typed (c ∷ ds) h = (formula_typed c h.0, formulas_typed ds h.1)

  pub formulas_are : sequent.Each (IsFormula th G) (map class_formula cs)
  formulas_are = subst (λ l. sequent.Each (IsFormula th G) (map class_formula l)) (sym a.classes) (formulas_typed (minimised found) clause_typed)

pub patterns_are_derivable : PatternsAreDerivable
patterns_are_derivable th p cs accepted is a = theorem_of th p.variables (formulas_are th accepted p is cs a) (pattern_line th accepted p is cs a)
