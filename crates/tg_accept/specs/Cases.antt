-- The branches of a `case`: one for each constructor of its datatype, with different variables.
use Rattle.std.specs.Prelude.{List, [], ◌∷◌}
use Rattle.tg_model.specs.Theory.{Theory}
use Rattle.tg_model.specs.Accepted.{AreDistinct}
use Rattle.tg_accept.specs.Resolved as resolved
use Rattle.tg_accept.specs.Resolved.{Head, Resolved, Resolveds, Branches, con, call, own, misused, put, choice, case, bind, op, branch}
use Rattle.tg_accept.specs.Core.{EachCaseWhole}

abbrev pub heads_in : Branches → List Head
heads_in resolved.end = []
heads_in (branch head xs body bs) = head ∷ heads_in bs

-- each `case` in the term passes a test of its branches
module _ (Passes : Branches → Type 0) where
  abbrev mutual
    pub EachCaseIn : Resolved → Type 0
    EachCaseIn (con c ts) = EachCasesIn ts
    EachCaseIn (call f ts) = EachCasesIn ts
    EachCaseIn (own ts) = EachCasesIn ts
    EachCaseIn (misused ts) = EachCasesIn ts
    EachCaseIn (put ts) = EachCasesIn ts
    EachCaseIn (choice ts) = EachCasesIn ts
    EachCaseIn (op o ts) = EachCasesIn ts
    EachCaseIn (case n t bs) = Passes bs × EachCaseIn t × EachBranchIn bs
    EachCaseIn (bind t body) = EachCaseIn t × EachCaseIn body
    EachCaseIn t = Unit {0}

    pub EachCasesIn : Resolveds → Type 0
    EachCasesIn resolved.none = Unit {0}
    EachCasesIn (resolved.more t ts) = EachCaseIn t × EachCasesIn ts

    pub EachBranchIn : Branches → Type 0
    EachBranchIn resolved.end = Unit {0}
    EachBranchIn (branch head xs body bs) = EachCaseIn body × EachBranchIn bs

abbrev pub AreOnce : Branches → Type 0
AreOnce bs = AreDistinct (heads_in bs)

abbrev pub HaveDistinctVariables : Branches → Type 0
HaveDistinctVariables resolved.end = Unit {0}
HaveDistinctVariables (branch head xs body bs) = AreDistinct xs × HaveDistinctVariables bs

pub record AreCasesShaped (th : Theory) (t : Resolved) : Type 0 where
  -- no `case` lacks a constructor
  pub whole : EachCaseWhole th t
  -- none has one twice
  pub once : EachCaseIn AreOnce t
  -- no branch repeats a variable
  pub distinct : EachCaseIn HaveDistinctVariables t
