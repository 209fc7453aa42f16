-- The classes of patterns, one after the other.
use Rattle.std.proofs.Common.{ℕ, zero, suc, ◌≡◌, ◌≤◌, ◌+◌, List, [], ◌∷◌, ◌++◌, map, take, drop, length, Some, refl, ap, sym, ◌∙◌, subst, arith, append_assoc, add-one}
use Rattle.std.specs.Prelude.{slice_get}
use Rattle.std.proofs.lemmas.List.{append-nil, map-append}
use Rattle.tg_model.specs.Tree.{Tree}
use Rattle.tg_model.specs.Theory.{Theory}
use Rattle.tg_model.specs.Walk.{substituted}
use Rattle.tg_term.specs.Substituting.{IsSubstituted}
use Rattle.tg_term.specs.View.{elements-trees}
use Rattle.tg_term.specs.declared.classes.Class as declared
use Rattle.tg_term.specs.declared.classes.Pattern as code
use Rattle.tg_clause.specs.declared.literals.Clause as code_clause
use Rattle.tg_clause.specs.Answers.{literals}
use Rattle.tg_clause.specs.Minimal.{minimised}
use Rattle.tg_hyps.specs.Hypotheses.{Class, seen}
use Rattle.tg_split.specs.Patterns.{Pattern, patterns}
use Rattle.tg_split.specs.Sizes.{counted}
use Rattle.tg_split.specs.Listing.{pattern}
use Rattle.tg_derive.specs.declared.budgets.Left.{Left}
use Rattle.tg_derive.specs.declared.errors.LimitErr.{LimitErr}
use Rattle.tg_derive.specs.declared.errors.LimitErr.TheVariants.{Patterns, Splits, Steps, Clauses, Memory}
use Rattle.tg_derive.specs.Goals.{Goal, start}
use Rattle.tg_derive.specs.Answers.{Stops}
use Rattle.tg_derive.specs.Work as work
use Rattle.tg_derive.specs.Work.{Worked, done, passed, before, Work}
use Rattle.tg_derive.specs.Classes.{WorkAt, at_end, passed_first, after_first, class_of, classes_of, whole, most_patterns, Derived, worked}
use Rattle.tg_derive.specs.Working.{first_goal, AreReached, AreAdded}
use Rattle.tg_derive.proofs.GoalLaws.{take_next}
use Rattle.tg_derive.proofs.WorkLaws.{before_none, before_both}

pub class_next : (p : Pattern) (ls : List code_clause.Clause) (i : ℕ) (c : code_clause.Clause) (us : List Class) (vs ws : List declared.Class) (x : declared.Class)
    → slice_get ls i ≡ Some c → map seen vs ≡ us ++ map (class_of p) (map literals (take i ls)) → seen x ≡ class_of p (literals c) → ws ≡ vs ++ x ∷ []
    → map seen ws ≡ us ++ map (class_of p) (map literals (take (i + 1) ls))
class_next p ls i c us vs ws x e v h w =
    ap (map seen) w ∙ map-append seen vs (x ∷ []) ∙ (λ j. v j ++ h j ∷ [])
    ∙ append_assoc us (map (class_of p) (map literals (take i ls))) (class_of p (literals c) ∷ [])
    ∙ ap (λ l. us ++ l)
    (sym (ap (λ l. map (class_of p) (map literals l)) (take_next ls i c e) ∙ ap (map (class_of p)) (map-append literals (take i ls) (c ∷ []))
    ∙ map-append (class_of p) (map literals (take i ls)) (literals c ∷ [])))

pub ruleset adding = (class_next)

drop_suc : (ps : List code.Pattern) (k : ℕ) (p : code.Pattern) → slice_get ps k ≡ Some p → drop k (map pattern ps) ≡ pattern p ∷ drop (suc k) (map pattern ps)
drop_suc [] k p e = cc e
drop_suc (q ∷ ps) zero p e = let h : q ≡ p = cc e in ap (λ x. pattern x ∷ map pattern ps) h
drop_suc (q ∷ ps) (suc k) p e = drop_suc ps k p e

drop_at : (ps : List code.Pattern) (k : ℕ) (p : code.Pattern) → slice_get ps k ≡ Some p → drop k (map pattern ps) ≡ pattern p ∷ drop (k + 1) (map pattern ps)
drop_at ps k p e = drop_suc ps k p e ∙ ap (λ n. pattern p ∷ drop n (map pattern ps)) (sym (add-one k))

none_left : (ps : List code.Pattern) (k : ℕ) → length ps ≤ k → drop k (map pattern ps) ≡ []
none_left [] zero h = refl
none_left [] (suc k) h = refl
none_left (p ∷ ps) zero h = absurd (omega (arith, h))
none_left (p ∷ ps) (suc k) h = none_left ps k (omega (arith, h))

-- the specification at a pattern is the first goal of its tree
at_start : (th : Theory) (p : code.Pattern) (s u : Tree) → s ≡ th.specification → IsSubstituted p.terms s u → first_goal u ≡ start th (pattern p)
at_start th p s u e h = ap first_goal (h.is ∙ (λ i. substituted (sym (elements-trees p.terms) i) (e i)))

pub stopped_at : (th : Theory) (p : code.Pattern) (s u : Tree) (b : Left) (e : LimitErr) → s ≡ th.specification → IsSubstituted p.terms s u
    → Stops (Work th b (first_goal u ∷ [])) e → Stops (Work th b (start th (pattern p) ∷ [])) e
stopped_at th p s u b e i h k = subst (λ (g : Goal). Stops (Work th b (g ∷ [])) e) (at_start th p s u i h) k

pub added_at : (th : Theory) (p : code.Pattern) (s u : Tree) (b e : Left) (found kept : List code_clause.Clause) (cs ds : List declared.Class)
    → s ≡ th.specification → IsSubstituted p.terms s u → Work th b (first_goal u ∷ []) (done (map literals found) e)
    → map literals kept ≡ minimised (map literals found) → map seen ds ≡ map seen cs ++ map (class_of (pattern p)) (map literals kept)
    → AreAdded th b e (pattern p) (map seen cs) (map seen ds)
added_at th p s u b e found kept cs ds i h w m k = record {
  clauses = map literals found;
  work = subst (λ (g : Goal). Work th b (g ∷ []) (done (map literals found) e)) (at_start th p s u i h) w;
  found = k ∙ ap (λ l. map seen cs ++ map (class_of (pattern p)) l) m;
}

pub ruleset starting = (stopped_at, added_at)

module _ (th : Theory) where
  pub reached_start : (b : Left) (ps : List Pattern) → AreReached th b ps [] b (drop 0 ps)
  reached_start b ps = record { on = λ o h. subst (λ (x : Worked Class). WorkAt th b ps x) (sym (before_none o)) h }

  pub reached_next : (b m e : Left) (all : List Pattern) (ps : List code.Pattern) (k : ℕ) (p : code.Pattern) (cs ds : List Class) → slice_get ps k ≡ Some p
      → AreReached th b all cs m (drop k (map pattern ps)) → AreAdded th m e (pattern p) cs ds → AreReached th b all ds e (drop (k + 1) (map pattern ps))
  reached_next b m e all ps k p cs ds at r a = record {
    on = λ o h. subst (λ (x : Worked Class). WorkAt th b all x) (before_both cs (classes_of (pattern p) a.clauses) o ∙ ap (λ l. before l o) (sym a.found))
        (r.on (before (classes_of (pattern p) a.clauses) o)
        (subst (λ (l : List Pattern). WorkAt th m l (before (classes_of (pattern p) a.clauses) o)) (sym (drop_at ps k p at))
        (after_first a.clauses e o a.work h refl)));
  }

  pub reached_end : (b e : Left) (all : List Pattern) (ps : List code.Pattern) (k : ℕ) (cs : List Class) → length ps ≤ k
      → AreReached th b all cs e (drop k (map pattern ps)) → WorkAt th b all (done cs e)
  reached_end b e all ps k cs l r =
      subst (λ x. WorkAt th b all (done x e)) (append-nil cs)
      (r.on (done [] e) (subst (λ (x : List Pattern). WorkAt th e x (done [] e)) (sym (none_left ps k l)) (at_end refl)))

  pub reached_stop : (b m : Left) (all : List Pattern) (ps : List code.Pattern) (k : ℕ) (p : code.Pattern) (cs : List Class) (e : LimitErr)
      → slice_get ps k ≡ Some p → AreReached th b all cs m (drop k (map pattern ps)) → Stops (Work th m (start th (pattern p) ∷ [])) e
      → Stops (WorkAt th b all) e
  reached_stop b m all ps k p cs e at r = by e
    where
      stop : (l : work.Limit) → Work th m (start th (pattern p) ∷ []) (passed l) → WorkAt th b all (passed l)
      stop l h = r.on (passed l) (subst (λ (x : List Pattern). WorkAt th m x (passed l)) (sym (drop_at ps k p at)) (passed_first l h refl))

      by : (e : LimitErr) → Stops (Work th m (start th (pattern p) ∷ [])) e → Stops (WorkAt th b all) e
      by Patterns h = stop work.patterns h
      by Splits h = stop work.splits h
      by Steps h = stop work.steps h
      by Clauses h = stop work.clauses h
      by Memory h = h

  pub ended_classes : (b e : Left) (k : ℕ) (cs : List Class) → counted (patterns th k) ≤ most_patterns → WorkAt th whole (patterns th k) (done cs e)
      → Derived th k (done cs e)
  ended_classes b e k cs l h = worked l h

  pub stopped_classes : (k : ℕ) (e : LimitErr) → counted (patterns th k) ≤ most_patterns → Stops (WorkAt th whole (patterns th k)) e → Stops (Derived th k) e
  stopped_classes k Patterns l h = worked l h
  stopped_classes k Splits l h = worked l h
  stopped_classes k Steps l h = worked l h
  stopped_classes k Clauses l h = worked l h
  stopped_classes k Memory l h = h

pub ruleset listing = (reached_start, reached_next, reached_end, reached_stop)

pub ruleset counting = (ended_classes, stopped_classes)
