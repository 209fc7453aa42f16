-- A sink in memory, as its callers see it, and what a call does to it.
use Rattle.std.specs.Prelude.{◌≡◌, ℕ, ◌+◌, ◌↔◌, ◌⊎◌, List, [], length, min, Result, IsErr, OnErr, IfOk}
use Rattle.tg_io.specs.Faults.{one_more, IsDue}

pub record Store : Type 0 where
  -- the bytes taken so far
  pub taken : List ℕ
  -- how many more bytes there is room for
  pub room : ℕ
  -- the most bytes that a call takes
  pub piece : ℕ
  -- the numbers of the calls that fail
  pub failing : List ℕ
  -- the calls so far, from which the next call has its number
  pub calls : ℕ
  -- the failures so far
  pub faults : ℕ

-- a sink that was not called yet
abbrev pub new_store : ℕ → ℕ → List ℕ → Store
new_store room piece failing = record { taken = []; room = room; piece = piece; failing = failing; calls = 0; faults = 0 }

-- the next call fails: its number stands in `failing`, or no room is left
abbrev pub IsRefusing : Store → Type 0
IsRefusing s = IsDue s.failing s.calls ⊎ (s.room ≡ 0)

-- how many bytes a call that does not fail takes of a piece of this length
abbrev pub taken_count : Store → ℕ → ℕ
taken_count s len = min s.piece (min len s.room)

-- what a call of `write` does, beside the bytes: it fails exactly where its number stands in
-- `failing` or no room is left, it takes as many bytes as it can, it is counted, and so are its
-- failure and the room that it took. What was asked of the sink at first stays
pub record IsWrite {E : Type 0} (old : Store) (given : List ℕ) (r : Result ℕ E) (new : Store) : Type 0 where
  pub fails : IsErr r ↔ IsRefusing old
  pub count : IfOk r (λ n. n ≡ taken_count old (length given))
  pub called : new.calls ≡ one_more old.calls
  pub failed : OnErr r ((new.faults ≡ one_more old.faults) × (new.room ≡ old.room))
  pub filled : IfOk r (λ n. new.room + n ≡ old.room)
  pub piece : new.piece ≡ old.piece
  pub failing : new.failing ≡ old.failing
