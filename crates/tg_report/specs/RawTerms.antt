-- What the grammar reads in the text of a term, and what is asked of the term.
use Rattle.std.specs.Prelude.{ℕ, zero, suc, ◌+◌, ◌-◌, ◌≡◌, ◌<◌, ◌^◌, IsSome, List, [], ◌∷◌, length, slice_get}
use Rattle.tg_model.specs.Theory.{Theory, constructor_at, numbered}
use Rattle.tg_model.specs.Tree.{Tree, Trees, Arms, Operator, bound, free, literal, truth, con, call, put, choice, case, bind, op, none}
use Rattle.tg_model.specs.Tree.{more, end, arm, elements}
use Rattle.tg_model.specs.Tree.{successor, negation, unnamed}
use Rattle.tg_term.specs.Operators.{operator_number}
use Rattle.tg_grammar.specs.declared.terms.RawTerm.{RawTerm}
use Rattle.tg_grammar.specs.declared.terms.RawTerm.TheVariants as terms
use Rattle.tg_grammar.specs.declared.terms.RawBranch.{RawBranch}
use Rattle.tg_grammar.specs.declared.terms.RawCon.{RawCon}
use Rattle.tg_grammar.specs.declared.terms.RawCon.TheVariants as constructors
use Rattle.tg_grammar.specs.declared.terms.Binder.{Binder}
use Rattle.tg_grammar.specs.declared.terms.Binder.TheVariants as binders
use Rattle.tg_report.specs.Names.{constructor_name, function_name, constructors_of, name_at}

-- the constructor of a branch
abbrev pub raw_head : Theory → ℕ → ℕ → RawCon
raw_head th zero zero = constructors.Zero
raw_head th zero (suc j) = constructors.Suc
raw_head th (suc d) j = constructors.Named (name_at (constructors_of th (suc d)) j)

-- the variables that a branch within `level` binders binds
abbrev pub raw_binders : ℕ → ℕ → List Binder
raw_binders level zero = []
raw_binders level (suc count) = binders.Level (level + 1) ∷ raw_binders (level + 1) count

abbrev pub raw_branch : RawCon → List Binder → RawTerm → RawBranch
raw_branch head vars body = record { con = head; vars = vars; body = body }

-- a term within `level` binders, with the names of what it uses; variables have their numbers
abbrev mutual
  pub raw_term : Theory → ℕ → Tree → RawTerm
  raw_term th level (bound k) = terms.Bound (level - k)
  raw_term th level (free n) = terms.Free n
  raw_term th level (literal n) = terms.Num n
  raw_term th level (truth b) = terms.Truth b
  raw_term th level (con c ts) = terms.Use (constructor_name th c) (raw_terms th level ts)
  raw_term th level (call f ts) = terms.Use (function_name th f) (raw_terms th level ts)
  raw_term th level (put ts) = terms.Use th.program.name (raw_terms th level ts)
  raw_term th level (choice ts) = terms.If (raw_terms th level ts)
  raw_term th level (case d t arms) = terms.Case (raw_term th level t ∷ []) (raw_branches th level d 0 arms)
  raw_term th level (bind t body) = terms.Let (binders.Level (level + 1)) (raw_term th level t ∷ raw_term th (level + 1) body ∷ [])
  raw_term th level (op o ts) = terms.Op (operator_number o) (raw_terms th level ts)

  pub raw_terms : Theory → ℕ → Trees → List RawTerm
  raw_terms th level none = []
  raw_terms th level (more t ts) = raw_term th level t ∷ raw_terms th level ts

  -- the branches of a `case` on datatype `d`, the first of which stands at place `at`
  pub raw_branches : Theory → ℕ → ℕ → ℕ → Arms → List RawBranch
  raw_branches th level d at end = []
  raw_branches th level d at (arm count body arms) =
      raw_branch (raw_head th d at) (raw_binders level count) (raw_term th (level + count) body) ∷ raw_branches th level d (at + 1) arms

-- an operator at this number of operands
abbrev pub HasOperands : Operator → ℕ → Type 0
HasOperands successor n = n ≡ 1
HasOperands negation n = n ≡ 1
HasOperands (unnamed k) n = ⊥
HasOperands _ n = n ≡ 2

-- a branch at place `at` of a `case` on datatype `d` may have this number of variables
abbrev pub IsBranch : Theory → ℕ → ℕ → ℕ → Type 0
IsBranch th zero zero count = count ≡ 0
IsBranch th zero (suc j) count = count ≡ 1
IsBranch th (suc d) j count = IsSome (slice_get (constructors_of th (suc d)) j)

abbrev pub HasArm : Arms → Type 0
HasArm end = ⊥
HasArm (arm count body arms) = Unit {0}

-- A term within `level` binders whose numbers, and those of its variables, are below 2^64, that uses what is declared, and whose forms
-- have as many terms as they take. Every typed term is so, up to its numbers.
abbrev mutual
  pub HasText : Theory → ℕ → Tree → Type 0
  HasText th level (bound k) = (k < level) × (level - k < 2 ^ 64)
  HasText th level (free n) = n < 2 ^ 64
  HasText th level (literal n) = n < 2 ^ 64
  HasText th level (truth b) = Unit {0}
  HasText th level (con c ts) = IsSome (constructor_at th c) × HaveText th level ts
  HasText th level (call f ts) = IsSome (numbered th.functions f) × HaveText th level ts
  HasText th level (put ts) = HaveText th level ts
  HasText th level (choice ts) = (length (elements ts) ≡ 3) × HaveText th level ts
  HasText th level (case d t arms) = HasText th level t × HasArm arms × ArmsHaveText th level d 0 arms
  HasText th level (bind t body) = (level + 1 < 2 ^ 64) × HasText th level t × HasText th (level + 1) body
  HasText th level (op o ts) = HasOperands o (length (elements ts)) × HaveText th level ts

  pub HaveText : Theory → ℕ → Trees → Type 0
  HaveText th level none = Unit {0}
  HaveText th level (more t ts) = HasText th level t × HaveText th level ts

  pub ArmsHaveText : Theory → ℕ → ℕ → ℕ → Arms → Type 0
  ArmsHaveText th level d at end = Unit {0}
  ArmsHaveText th level d at (arm count body arms) =
      IsBranch th d at count × (level + count < 2 ^ 64) × HasText th (level + count) body × ArmsHaveText th level d (at + 1) arms
