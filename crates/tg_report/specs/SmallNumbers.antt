-- The numbers in a term or formula within `level` binders, those of its variables among them, are below 2^64.
use Rattle.std.specs.Prelude.{ℕ, ◌+◌, ◌-◌, ◌<◌, ◌^◌}
use Rattle.tg_model.specs.Tree.{Tree, Trees, Arms, bound, free, literal, truth, con, call, put, choice, case, bind, op, none, more, end, arm}
use Rattle.tg_model.specs.Formula.{Formula, atom, both, implies, all, some, thyp, tested, deep}

abbrev mutual
  pub HasSmallNumbers : ℕ → Tree → Type 0
  HasSmallNumbers level (bound k) = level - k < 2 ^ 64
  HasSmallNumbers level (free n) = n < 2 ^ 64
  HasSmallNumbers level (literal n) = n < 2 ^ 64
  HasSmallNumbers level (truth b) = Unit {0}
  HasSmallNumbers level (con c ts) = HaveSmallNumbers level ts
  HasSmallNumbers level (call f ts) = HaveSmallNumbers level ts
  HasSmallNumbers level (put ts) = HaveSmallNumbers level ts
  HasSmallNumbers level (choice ts) = HaveSmallNumbers level ts
  HasSmallNumbers level (case d t arms) = HasSmallNumbers level t × ArmsHaveSmallNumbers level arms
  HasSmallNumbers level (bind t body) = (level + 1 < 2 ^ 64) × HasSmallNumbers level t × HasSmallNumbers (level + 1) body
  HasSmallNumbers level (op o ts) = HaveSmallNumbers level ts

  pub HaveSmallNumbers : ℕ → Trees → Type 0
  HaveSmallNumbers level none = Unit {0}
  HaveSmallNumbers level (more t ts) = HasSmallNumbers level t × HaveSmallNumbers level ts

  pub ArmsHaveSmallNumbers : ℕ → Arms → Type 0
  ArmsHaveSmallNumbers level end = Unit {0}
  ArmsHaveSmallNumbers level (arm count body arms) =
      (level + count < 2 ^ 64) × HasSmallNumbers (level + count) body × ArmsHaveSmallNumbers level arms

abbrev pub FormulaHasSmallNumbers : ℕ → Formula → Type 0
FormulaHasSmallNumbers level (atom t) = HasSmallNumbers level t
FormulaHasSmallNumbers level (both f g) = FormulaHasSmallNumbers level f × FormulaHasSmallNumbers level g
FormulaHasSmallNumbers level (implies f g) = FormulaHasSmallNumbers level f × FormulaHasSmallNumbers level g
FormulaHasSmallNumbers level (all t f) = FormulaHasSmallNumbers (level + 1) f
FormulaHasSmallNumbers level (some t f) = FormulaHasSmallNumbers (level + 1) f
FormulaHasSmallNumbers level (thyp f) = FormulaHasSmallNumbers level f
FormulaHasSmallNumbers level (tested ts) = HaveSmallNumbers level ts
FormulaHasSmallNumbers level (deep k ts) = (k < 2 ^ 64) × HaveSmallNumbers level ts
