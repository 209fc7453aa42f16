-- Counts of faults, and what a call may answer as its count moves.
use Rattle.std.specs.Prelude.{◌≡◌, ℕ, ◌+◌, ◌-◌, ◌^◌, ◌<◌, ◌≤◌, ◌⊎◌, min, List, length, Contains, Result, OnOk, OnErr, IfOk}

-- a count after one more, which stops at a `u64`'s last value
abbrev pub one_more : ℕ → ℕ
one_more count = min (count + 1) (2 ^ 64 - 1)

-- a count rose in a call: it is greater than at the call's start, or stands at its last value
abbrev pub Rose : ℕ → ℕ → Type 0
Rose before after = (before < after) ⊎ (after ≡ 2 ^ 64 - 1)

-- a failure has a cause: the count rose in the call. Else the count stays, and it never falls
pub record HasCause {T E : Type 0} (before after : ℕ) (r : Result T E) : Type 0 where
  pub later : before ≤ after
  pub failed : OnErr r (Rose before after)
  pub kept : OnOk r (after ≡ before)

-- on `Ok(n)`, n is from 1 to the length of the piece
abbrev pub TakesSome : {E : Type 0} → Result ℕ E → List ℕ → Type 0
TakesSome r piece = IfOk r (λ n. (1 ≤ n) × (n ≤ length piece))

-- the next call's number, one more than the calls so far, stands in `failing`, whose numbers are
-- those of a `u64`: a later call's number, to which the count does not go, stands nowhere
abbrev pub IsDue : List ℕ → ℕ → Type 0
IsDue failing calls = (calls + 1 < 2 ^ 64) × Contains failing (calls + 1)
