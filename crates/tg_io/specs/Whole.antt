-- What reading all and writing all did to the bytes and the faults of the outside.
use Rattle.std.specs.Prelude.{◌≡◌, ℕ, ◌+◌, ◌≤◌, List, length, Result, Ok, Err, IsErr, IfErr, OnOk}
use Rattle.std.specs.declared.option.Option.{Option}
use Rattle.std.specs.Io.KnownBytes.{Consumes}
use Rattle.tg_io.specs.Faults.{Rose}
use Rattle.tg_io.specs.Turns.{Step, Turns, EndsBy, IsRest, IsBuffer}
use Rattle.tg_io.specs.declared.whole.ReadErr.{ReadErr}
use Rattle.tg_io.specs.declared.whole.ReadErr.TheVariants.{Fault as ReadFault, TooLong, Memory}
use Rattle.tg_io.specs.declared.whole.WriteErr.{WriteErr}
use Rattle.tg_io.specs.declared.whole.WriteErr.TheVariants.{Fault as WriteFault}

-- how many bytes were taken where reading all was given up: one more than `max` where more than
-- `max` came, else no more than `max`
abbrev pub IsTakenCount : ReadErr → ℕ → ℕ → Type 0
IsTakenCount TooLong max n = n ≡ max + 1
IsTakenCount ReadFault max n = n ≤ max
IsTakenCount Memory max n = n ≤ max

-- the first of the bytes that were left are taken, as many as the error allows
pub record TakesFront (e : ReadErr) (max : ℕ) (old new : Option (List ℕ)) : Type 0 where
  pub bytes : List ℕ
  pub front : Consumes old new bytes
  pub count : IsTakenCount e max (length bytes)

-- a read fault comes only where the count rose. At the other errors the count stays
abbrev pub IsCauseOf : ReadErr → ℕ → ℕ → Type 0
IsCauseOf ReadFault before after = Rose before after
IsCauseOf TooLong before after = after ≡ before
IsCauseOf Memory before after = after ≡ before

-- each answer of reading all has a cause: the count stays but for a fault, and never falls
pub record HasReadCause {T : Type 0} (before after : ℕ) (r : Result T ReadErr) : Type 0 where
  pub later : before ≤ after
  pub failed : IfErr r (λ e. IsCauseOf e before after)
  pub kept : OnOk r (after ≡ before)

-- how many bytes were written before the fault
abbrev pub written_of : WriteErr → ℕ
written_of (WriteFault n) = n

-- the calls of a source that was given up by an error after n bytes: at a fault, and there alone,
-- the last of them failed
abbrev pub GivesUp : {S : Type 0} → Step S → ReadErr → ℕ → S → ℕ → S → Type 0
GivesUp gives ReadFault max old n new = EndsBy (λ r. IsErr r) gives (IsBuffer (max + 1)) old n new
GivesUp gives TooLong max old n new = Turns gives (IsBuffer (max + 1)) old n new
GivesUp gives Memory max old n new = Turns gives (IsBuffer (max + 1)) old n new

-- the calls of a source that is read whole: each gives at least one byte, but for a last one that
-- gives none or fails
abbrev pub ReadsInTurns : {S T : Type 0} → Step S → (T → ℕ) → ℕ → S → Result T ReadErr → S → Type 0
ReadsInTurns gives count max old (Ok v) new = EndsBy (λ r. r ≡ Ok 0) gives (IsBuffer (max + 1)) old (count v) new
ReadsInTurns gives count max old (Err e) new = (n : ℕ) × IsTakenCount e max n × GivesUp gives e max old n new

-- the calls of a sink that is given all of the bytes: each is given all that are left, and at an
-- error the last of them failed
abbrev pub WritesInTurns : {S T : Type 0} → Step S → List ℕ → S → Result T WriteErr → S → Type 0
WritesInTurns takes bytes old (Ok v) new = Turns takes (IsRest bytes) old (length bytes) new
WritesInTurns takes bytes old (Err e) new = EndsBy (λ r. IsErr r) takes (IsRest bytes) old (written_of e) new
