-- A theory has at most 4,096 classes, since the clauses are counted that they are made of.
use Rattle.std.proofs.Common.{ℕ, ◌≡◌, ◌+◌, ◌-◌, ◌≤◌, Bool, true, false, List, [], ◌∷◌, ◌++◌, length, ap, arith, length-append}
use Rattle.std.specs.Prelude.{nat_le, if◌then◌else◌}
use Rattle.std.proofs.lemmas.Bool.{leb-true}
use Rattle.std.proofs.lemmas.List.{length-map}
use Rattle.tg_model.proofs.Booleans.{and_right}
use Rattle.tg_model.specs.Theory.{Theory}
use Rattle.tg_clause.specs.Clauses.{Clause, clauses_of, fits}
use Rattle.tg_clause.specs.Minimal.{is_superfluous, minimal_from, minimised}
use Rattle.tg_hyps.specs.Hypotheses.{Class}
use Rattle.tg_split.specs.Patterns.{Pattern}
use Rattle.tg_derive.specs.declared.budgets.Left.{Left}
use Rattle.tg_derive.specs.Goals.{Goal}
use Rattle.tg_derive.specs.Work as work
use Rattle.tg_derive.specs.Work.{Worked, done, passed, before, leaf, Work}
use Rattle.tg_derive.specs.Classes as classes
use Rattle.tg_derive.specs.Classes.{class_of, classes_of, WorkAt, too_many, worked}
use Rattle.tg_derive.specs.Laws.{ClassesAreFew}

minimal_count : (all earlier cs : List Clause) → length (minimal_from all earlier cs) ≤ length cs
minimal_count all earlier [] = omega arith
minimal_count all earlier (c ∷ cs) = by (is_superfluous all earlier c) (minimal_count all (earlier ++ c ∷ []) cs)
  where
    by : (b : Bool) → length (minimal_from all (earlier ++ c ∷ []) cs) ≤ length cs
        → length ((if b then [] else c ∷ []) ++ minimal_from all (earlier ++ c ∷ []) cs) ≤ length (c ∷ cs)
    by true h = omega (arith, h)
    by false h = omega (arith, h)

-- ---- the work

abbrev found_in : {A : Type 0} → Worked A → List A
found_in (done found left) = found
found_in (passed limit) = []

-- how many clauses are left, and none where a limit is passed
abbrev still : {A : Type 0} → Worked A → ℕ
still (done found left) = left.clauses
still (passed limit) = 0

-- what is found, and the clauses that are left
abbrev spent : {A : Type 0} → Worked A → ℕ
spent o = length (found_in o) + still o

spent_before : {A : Type 0} (found : List A) (o : Worked A) (n m : ℕ) → length found ≤ n → n ≤ m → spent o ≤ m - n
    → spent (before found o) ≤ m
spent_before found (done more left) n m few fits h = omega (arith, few, fits, h, length-append found more)
spent_before found (passed limit) n m few fits h = omega arith

module _ (th : Theory) where
  -- what is found takes its number of clauses off
  work_spends : {left : Left} {gs : List Goal} {o : Worked Clause} → Work th left gs o → spent o ≤ left.clauses
  work_spends {left} (work.at_end e) = let same = ap spent e in omega (arith, same)
  work_spends {left} (work.without_form p e) = let same = ap spent e in omega (arith, same)
  work_spends {left} (work.without_split w q f c z e) = let same = ap spent e in omega (arith, same)
  work_spends {left} (work.at_split w q f c some rest) = work_spends rest
  work_spends {left} (work.without_clauses w f c room e) = let same = ap spent e in omega (arith, same)
  work_spends {left} (work.at_leaf {g = g} w o f c room rest e) =
      let t = leaf g w in
      let n = length (clauses_of t) in
      let fits_in : n ≤ left.clauses = leb-true n left.clauses (and_right (fits t) (nat_le n left.clauses) room) in
      let own : n ≤ n = omega arith in
      let more = spent_before (clauses_of t) o n left.clauses own fits_in (work_spends rest) in
      let same = ap spent e in
      omega (arith, same, more)

  patterns_spend : {left : Left} {ps : List Pattern} {o : Worked Class} → WorkAt th left ps o → spent o ≤ left.clauses
  patterns_spend {left} (classes.at_end e) = let same = ap spent e in omega (arith, same)
  patterns_spend {left} (classes.passed_first limit first e) = let same = ap spent e in omega (arith, same)
  patterns_spend {left} (classes.after_first {p = p} cs on o first rest e) =
      let spends = work_spends first in
      let further = patterns_spend rest in
      let few : length (classes_of p cs) ≤ length cs = omega (arith, length-map (minimised cs) (class_of p), minimal_count cs [] cs) in
      let fits_in : length cs ≤ left.clauses = omega (arith, spends) in
      let enough : spent o ≤ left.clauses - length cs = omega (arith, spends, further) in
      let more = spent_before (classes_of p cs) o (length cs) left.clauses few fits_in enough in
      let same = ap spent e in
      omega (arith, same, more)

pub few_classes : ClassesAreFew
few_classes th k cs (left, too_many h e) = let wrong : done cs left ≡ passed work.patterns = e in absurd cc
few_classes th k cs (left, worked h w) = let spends = patterns_spend th w in omega (arith, spends)
