-- Terms as they are written, each word looked up and nothing else asked: whether they can be typed, and whether a `case` has the
-- branches that its datatype asks for, is for later.
use Rattle.std.specs.Prelude.{ℕ, Bool, true, false, ◌||◌, List}
use Rattle.tg_model.specs.Tree.{Operator}

-- what a branch is for: 0, `Suc`, or the constructor of a number
pub data Head : Type 0 where
  zero_head : Head
  successor_head : Head
  of : (c : ℕ) → Head

mutual
  pub data Resolved : Type 0 where
    bound : (k : ℕ) → Resolved
    free : (n : ℕ) → Resolved
    literal : (n : ℕ) → Resolved
    truth : (b : Bool) → Resolved
    con : (c : ℕ) (ts : Resolveds) → Resolved
    call : (f : ℕ) (ts : Resolveds) → Resolved
    -- a call of the function that is being declared
    own : (ts : Resolveds) → Resolved
    -- a variable with arguments, which has no typing
    misused : (ts : Resolveds) → Resolved
    put : (ts : Resolveds) → Resolved
    choice : (ts : Resolveds) → Resolved
    -- `n` is the datatype of the first branch's constructor, 0 for nat
    case : (n : ℕ) (t : Resolved) (bs : Branches) → Resolved
    bind : (t : Resolved) (body : Resolved) → Resolved
    op : (o : Operator) (ts : Resolveds) → Resolved

  pub data Resolveds : Type 0 where
    none : Resolveds
    more : (t : Resolved) (ts : Resolveds) → Resolveds

  -- branches in the order in which they are written, with the names of their variables
  pub data Branches : Type 0 where
    end : Branches
    branch : (head : Head) (names : List (List ℕ)) (body : Resolved) (bs : Branches) → Branches

-- the program is called somewhere in the term
abbrev mutual
  pub calls_program : Resolved → Bool
  calls_program (con c ts) = call_program ts
  calls_program (call f ts) = call_program ts
  calls_program (own ts) = call_program ts
  calls_program (misused ts) = call_program ts
  calls_program (put ts) = true
  calls_program (choice ts) = call_program ts
  calls_program (op o ts) = call_program ts
  calls_program (case n t bs) = calls_program t || branches_call_program bs
  calls_program (bind t body) = calls_program t || calls_program body
  calls_program t = false

  pub call_program : Resolveds → Bool
  call_program none = false
  call_program (more t ts) = calls_program t || call_program ts

  pub branches_call_program : Branches → Bool
  branches_call_program end = false
  branches_call_program (branch head names body bs) = calls_program body || branches_call_program bs
