-- Classes of patterns are classes of the theory, and their constraints have no program call.
use Rattle.std.proofs.Common.{false, ◌≡◌, List, [], ◌∷◌, map, sym, subst}
use Rattle.std.specs.List.{flat_map}
use Rattle.tg_model.specs.Tree.{Tree}
use Rattle.tg_model.specs.Types.{Ty, bool, tys}
use Rattle.tg_model.specs.Theory.{Theory, AreClosed}
use Rattle.tg_model.specs.Typing.{AreTyped, least}
use Rattle.tg_model.specs.TermTyping.{IsTyped}
use Rattle.tg_model.specs.Calls.{has_call}
use Rattle.tg_model.specs.Accepted.{IsAccepted}
use Rattle.tg_model.specs.WellTyped.{IsWellTyped}
use Rattle.tg_model.proofs.Inhabited.{least_has_type}
use Rattle.tg_accept.specs.Checks.{Each}
use Rattle.tg_clause.specs.Clauses.{Clause, clauses_of}
use Rattle.tg_clause.specs.Minimal.{minimised}
use Rattle.tg_clause.specs.Classes.{constraints_of, checks_of}
use Rattle.tg_clause.specs.Laws.{AtomsOf}
use Rattle.tg_clause.proofs.ClassTruth.{classes_are_typed, constraints_have_no_call}
use Rattle.tg_split.specs.Patterns.{Pattern, patterns}
use Rattle.tg_split.specs.Laws.{AllOf, IsPatternOf}
use Rattle.tg_split.proofs.TypedPatterns.{patterns_are_typed}
use Rattle.tg_hyps.specs.Hypotheses.{Class}
use Rattle.tg_hyps.specs.Meaning.{AreTruths, IsClassOf}
use Rattle.tg_derive.specs.Classes.{class_of}
use Rattle.tg_derive.specs.Trees.{AreClassesOf}
use Rattle.tg_derive.specs.Laws as laws
use Rattle.tg_derive.proofs.EachLaws.{each_both, each_map, each_given}
use Rattle.tg_derive.proofs.BothWays.{atoms_typed}
use Rattle.tg_derive.proofs.TreeLaws.{classes_are_of_trees}

-- some values of closed types
inhabited : (th : Theory) → IsWellTyped th → (ts : List Ty) → AreClosed th (tys ts) → AreTyped th (map (least th) ts) ts
inhabited th wt [] h = tt
inhabited th wt (t ∷ ts) h = (least_has_type th wt t h.0, inhabited th wt ts h.1)

module _ (th : Theory) (accepted : IsAccepted th) where
  to_truths : (vars : List Ty) (ts : List Tree) → Each (λ t. IsTyped th vars [] t bool) ts → AreTruths th vars ts
  to_truths vars [] h = tt
  to_truths vars (t ∷ ts) h = (h.0, to_truths vars ts h.1)

  class_typed : (p : Pattern) → IsPatternOf th th.program.inputs p → (c : Clause) → AtomsOf (λ t. IsTyped th p.variables [] t bool) c
      → IsClassOf th (class_of p c)
  class_typed p is c h = record {
    closed = is.closed;
    inputs = is.typed;
    constraints = to_truths p.variables (constraints_of c) (classes_are_typed th p.variables [] c h).0;
    checks = to_truths p.variables (checks_of c) (classes_are_typed th p.variables [] c h).1;
  }

  all_typed : (ps : List Pattern) → AllOf (IsPatternOf th th.program.inputs) ps → (cs : List Class) → AreClassesOf th ps cs → Each (IsClassOf th) cs
  all_typed [] is cs e = subst (λ l. Each (IsClassOf th) l) (sym e) tt
  all_typed (p ∷ ps) is cs a =
      subst (λ l. Each (IsClassOf th) l) (sym a.4)
      (each_both (IsClassOf th) a.0 a.1
      (subst (λ l. Each (IsClassOf th) l) (sym a.2.classes)
      (each_map (IsClassOf th) (class_of p) (minimised (flat_map clauses_of a.2.leaves))
      (each_given (AtomsOf (λ t. IsTyped th p.variables [] t bool)) (λ c. IsClassOf th (class_of p c)) (minimised (flat_map clauses_of a.2.leaves))
      (class_typed p is.0)
      (atoms_typed th accepted p is.0 [] tt (map (least th) p.variables) (inhabited th accepted.well_typed p.variables is.0.closed) a.0 a.2))))
      (all_typed ps is.1 a.1 a.3))

pub classes_typed : laws.ClassesAreTyped
classes_typed th k cs accepted are = all_typed th accepted (patterns th k) (patterns_are_typed th k accepted) cs (classes_are_of_trees th k cs are)

module _ (th : Theory) where
  abbrev NoCall : Class → Type 0
  NoCall c = Each (λ t. has_call t ≡ false) c.constraints

  none_call : (cs : List Clause) (p : Pattern) → Each NoCall (map (class_of p) cs)
  none_call [] p = tt
  none_call (c ∷ cs) p = (constraints_have_no_call c, none_call cs p)

  no_calls : (ps : List Pattern) (cs : List Class) → AreClassesOf th ps cs → Each NoCall cs
  no_calls [] cs e = subst (λ l. Each NoCall l) (sym e) tt
  no_calls (p ∷ ps) cs a =
      subst (λ l. Each NoCall l) (sym a.4)
      (each_both NoCall a.0 a.1 (subst (λ l. Each NoCall l) (sym a.2.classes) (none_call (minimised (flat_map clauses_of a.2.leaves)) p)) (no_calls ps a.1 a.3))

pub no_call_in_constraints : laws.ConstraintsHaveNoCall
no_call_in_constraints th k cs are = no_calls th (patterns th k) cs (classes_are_of_trees th k cs are)
