-- Uses of the function that is being declared, and calls of the program.
use Rattle.std.specs.Prelude.{ℕ, zero, suc, List, [], ◌∷◌}
use Rattle.tg_accept.specs.Resolved as resolved
use Rattle.tg_accept.specs.Resolved.{Resolved, Resolveds, Branches, free, con, call, own, misused, put, choice, case, bind, op, branch}

-- each use that the term makes of the function itself passes a test of its arguments
module _ (Passes : Resolveds → Type 0) where
  abbrev mutual
    pub EachOwnUse : Resolved → Type 0
    EachOwnUse (own ts) = Passes ts × EachOwnUses ts
    EachOwnUse (con c ts) = EachOwnUses ts
    EachOwnUse (call f ts) = EachOwnUses ts
    EachOwnUse (misused ts) = EachOwnUses ts
    EachOwnUse (put ts) = EachOwnUses ts
    EachOwnUse (choice ts) = EachOwnUses ts
    EachOwnUse (op o ts) = EachOwnUses ts
    EachOwnUse (case n t bs) = EachOwnUse t × EachOwnUseIn bs
    EachOwnUse (bind t body) = EachOwnUse t × EachOwnUse body
    EachOwnUse t = Unit {0}

    pub EachOwnUses : Resolveds → Type 0
    EachOwnUses resolved.none = Unit {0}
    EachOwnUses (resolved.more t ts) = EachOwnUse t × EachOwnUses ts

    pub EachOwnUseIn : Branches → Type 0
    EachOwnUseIn resolved.end = Unit {0}
    EachOwnUseIn (branch head xs body bs) = EachOwnUse body × EachOwnUseIn bs

-- each program call in the term passes a test of its arguments
module _ (Passes : Resolveds → Type 0) where
  abbrev mutual
    pub EachProgramCall : Resolved → Type 0
    EachProgramCall (put ts) = Passes ts
    EachProgramCall (own ts) = EachProgramCalls ts
    EachProgramCall (con c ts) = EachProgramCalls ts
    EachProgramCall (call f ts) = EachProgramCalls ts
    EachProgramCall (misused ts) = EachProgramCalls ts
    EachProgramCall (choice ts) = EachProgramCalls ts
    EachProgramCall (op o ts) = EachProgramCalls ts
    EachProgramCall (case n t bs) = EachProgramCall t × EachProgramCallIn bs
    EachProgramCall (bind t body) = EachProgramCall t × EachProgramCall body
    EachProgramCall t = Unit {0}

    pub EachProgramCalls : Resolveds → Type 0
    EachProgramCalls resolved.none = Unit {0}
    EachProgramCalls (resolved.more t ts) = EachProgramCall t × EachProgramCalls ts

    pub EachProgramCallIn : Branches → Type 0
    EachProgramCallIn resolved.end = Unit {0}
    EachProgramCallIn (branch head xs body bs) = EachProgramCall body × EachProgramCallIn bs

-- the free variables from `n` on, in order, `count` of them
abbrev pub variables_on : ℕ → ℕ → Resolveds
variables_on n zero = resolved.none
variables_on n (suc count) = resolved.more (free n) (variables_on (suc n) count)

abbrev pub terms_in : Resolveds → List Resolved
terms_in resolved.none = []
terms_in (resolved.more t ts) = t ∷ terms_in ts
