-- Calls of a source or sink one after another.
use Rattle.std.specs.Prelude.{◌≡◌, ℕ, ◌+◌, ◌<◌, ◌≤◌, List, length, drop, Result, Ok}
use Rattle.tg_io.specs.declared.outside.Failed.{Failed}

-- what a call does, by the state before it, its piece or buffer, its answer and the state after it
abbrev pub Step : Type 0 → Type 1
Step S = S → List ℕ → Result ℕ Failed → S → Type 0

-- some calls came from `start` to a state, each moved at least one byte, and all moved n.
-- `given n piece` says that a call after n bytes is given this piece or buffer
pub data Turns {S : Type 0} (step : Step S) (given : ℕ → List ℕ → Type 0) (start : S) : ℕ → S → Type 0 where
  none : Turns step given start 0 start
  more : {n k : ℕ} {s t : S} {piece : List ℕ} → Turns step given start n s → given n piece
      → step s piece (Ok k) t → 1 ≤ k → Turns step given start (n + k) t

-- such calls moved n bytes, and one more call moved none, with an answer of this kind
pub record EndsBy {S : Type 0} (kind : Result ℕ Failed → Type 0) (step : Step S) (given : ℕ → List ℕ → Type 0)
    (start : S) (n : ℕ) (end : S) : Type 0 where
  pub before : S
  pub piece : List ℕ
  pub answer : Result ℕ Failed
  pub turns : Turns step given start n before
  pub is_given : given n piece
  pub last : step before piece answer end
  pub is_kind : kind answer

-- a call of a sink is given all the bytes that are left
abbrev pub IsRest : List ℕ → ℕ → List ℕ → Type 0
IsRest bytes n piece = piece ≡ drop n bytes

-- a call of a source is given a buffer that is not empty, and not long enough for more than `most`
-- bytes in all
abbrev pub IsBuffer : ℕ → ℕ → List ℕ → Type 0
IsBuffer most n buf = (0 < length buf) × (n + length buf ≤ most)
