-- The classes of a theory's inputs to a depth: pattern by pattern those of its minimal clauses, or the first limit that is passed in the
-- order of work.
use Rattle.std.specs.Prelude.{ℕ, ◌≡◌, ◌<◌, ◌≤◌, List, [], ◌∷◌, map}
use Rattle.tg_model.specs.Theory.{Theory}
use Rattle.tg_split.specs.Patterns.{Pattern, patterns}
use Rattle.tg_split.specs.Sizes.{counted}
use Rattle.tg_clause.specs.Clauses.{Clause}
use Rattle.tg_clause.specs.Minimal.{minimised}
use Rattle.tg_clause.specs.Classes.{constraints_of, checks_of}
use Rattle.tg_hyps.specs.Hypotheses.{Class}
use Rattle.tg_derive.specs.declared.budgets.Left.{Left}
use Rattle.tg_derive.specs.Goals.{start}
use Rattle.tg_derive.specs.Work.{Limit, Worked, done, passed, before, Work}
use Rattle.tg_derive.specs.Work as work

-- the class of a clause of the pattern
abbrev pub class_of : Pattern → Clause → Class
class_of p c = record { inputs = p.terms; variables = p.variables; constraints = constraints_of c; checks = checks_of c }

abbrev pub classes_of : Pattern → List Clause → List Class
classes_of p cs = map (class_of p) (minimised cs)

-- the work on the patterns from the first, each from its specification
pub data WorkAt (th : Theory) : Left → List Pattern → Worked Class → Type 0 where
  at_end : {left : Left} {o : Worked Class} → o ≡ done [] left → WorkAt th left [] o
  passed_first : {left : Left} {p : Pattern} {ps : List Pattern} {o : Worked Class} (limit : Limit) → Work th left (start th p ∷ []) (passed limit)
      → o ≡ passed limit → WorkAt th left (p ∷ ps) o
  after_first : {left : Left} {p : Pattern} {ps : List Pattern} {o : Worked Class} (cs : List Clause) (on : Left) (rest : Worked Class)
      → Work th left (start th p ∷ []) (done cs on) → WorkAt th on ps rest → o ≡ before (classes_of p cs) rest → WorkAt th left (p ∷ ps) o

-- 2,000,000 calls that normalise, 4,096 inner nodes, and 4,096 clauses, over all patterns together
abbrev pub whole : Left
whole = record { steps = 2000000; splits = 4096; clauses = 4096 }

abbrev pub most_patterns : ℕ
most_patterns = 4096

-- Before it the patterns are counted, where those with large terms count as too many.
pub data Derived (th : Theory) (k : ℕ) (o : Worked Class) : Type 0 where
  too_many : most_patterns < counted (patterns th k) → o ≡ passed work.patterns → Derived th k o
  worked : counted (patterns th k) ≤ most_patterns → WorkAt th whole (patterns th k) o → Derived th k o

-- these are the classes, and no limit is passed
abbrev pub AreClasses : Theory → ℕ → List Class → Type 0
AreClasses th k cs = (left : Left) × Derived th k (done cs left)
