-- A source in memory, as its callers see it, and what a call does to it.
use Rattle.std.specs.Prelude.{◌≡◌, ℕ, ◌↔◌, List, length, min, Result, IsErr, IfOk, OnErr}
use Rattle.tg_io.specs.Faults.{one_more, IsDue}

pub record Supply : Type 0 where
  -- the bytes not yet given
  pub rest : List ℕ
  -- the most bytes that a call gives
  pub piece : ℕ
  -- the numbers of the calls that fail
  pub failing : List ℕ
  -- the calls so far, from which the next call has its number
  pub calls : ℕ
  -- the failures so far
  pub faults : ℕ

-- a source that was not called yet
abbrev pub new_supply : List ℕ → ℕ → List ℕ → Supply
new_supply bytes piece failing = record { rest = bytes; piece = piece; failing = failing; calls = 0; faults = 0 }

-- how many bytes a call that does not fail gives into a buffer of this length
abbrev pub given_count : Supply → ℕ → ℕ
given_count s room = min s.piece (min room (length s.rest))

-- what a call of `read` does, beside the bytes: it fails exactly where its number stands in
-- `failing`, it gives as many bytes as it can, it is counted, and so is its failure. What was asked
-- of the source at first stays
pub record IsRead {E : Type 0} (old : Supply) (buf : List ℕ) (r : Result ℕ E) (new : Supply) : Type 0 where
  pub fails : IsErr r ↔ IsDue old.failing old.calls
  pub count : IfOk r (λ n. n ≡ given_count old (length buf))
  pub called : new.calls ≡ one_more old.calls
  pub failed : OnErr r (new.faults ≡ one_more old.faults)
  pub piece : new.piece ≡ old.piece
  pub failing : new.failing ≡ old.failing
