-- Each text has tokens or a first fault: part after part is read as long as one is found.
use Rattle.std.proofs.Common.{◌≡◌, ℕ, zero, suc, ◌+◌, ◌≤◌, List, [], ◌∷◌, ◌++◌, length, drop, Result, Ok, Err, inl, inr, refl, ap, arith, length-drop}
use Rattle.tg_lex.specs.declared.token.Token.{Token}
use Rattle.tg_lex.specs.declared.part.Part.{Part}
use Rattle.tg_lex.specs.declared.part.Part.TheVariants as parts
use Rattle.tg_lex.specs.declared.part.Fault.{Fault}
use Rattle.tg_lex.specs.Grammar.{token, ReadsTo, IsFirst}
use Rattle.tg_lex.specs.Scan.{part_of}
use Rattle.tg_lex.specs.Laws.{HasReadingOrFault, IsReadOrFails}
use Rattle.tg_lex.proofs.Sound.{sound_if_some}
use Rattle.tg_lex.proofs.Runs.{nothing_read, skips, takes, all_read}

-- from a place with at most `n` bytes behind it
abbrev GoesOn : List ℕ → ℕ → Type 0
GoesOn bytes n = (ts : List Token) (at : ℕ) → ReadsTo bytes ts at → at ≤ length bytes → length bytes ≤ at + n → IsReadOrFails bytes

with_part : (bytes : List ℕ) (n : ℕ) → GoesOn bytes n → (ts : List Token) (at : ℕ) (r : Result Part Fault) → IsFirst (drop at bytes) r → ReadsTo bytes ts at
    → at ≤ length bytes → length bytes ≤ at + suc n → IsReadOrFails bytes
with_part bytes n go ts at (Ok (parts.Skip size)) first a le ge =
    go ts (at + size) (skips bytes ts at size a first.0) (omega (arith, first.2, length-drop at bytes)) (omega (arith, first.1))
with_part bytes n go ts at (Ok (parts.Token kind size)) first a le ge =
    go (ts ++ token kind at (at + size) ∷ []) (at + size) (takes bytes ts at kind size a first.0) (omega (arith, first.2, length-drop at bytes))
    (omega (arith, first.1))
with_part bytes n go ts at (Err fault) first a le ge = inr (fault, at, ts, (a, first))

with_rest : (bytes : List ℕ) (n : ℕ) → GoesOn bytes n → (ts : List Token) (at : ℕ) (rest : List ℕ) → rest ≡ drop at bytes → ReadsTo bytes ts at
    → at ≤ length bytes → length bytes ≤ at + suc n → IsReadOrFails bytes
with_rest bytes n go ts at [] e a le ge =
    let none : 0 ≡ length (drop at bytes) = ap length e in inl (ts, all_read bytes ts at a le (omega (arith, none, length-drop at bytes)))
with_rest bytes n go ts at (b ∷ bs) e a le ge =
    let some : suc (length bs) ≡ length (drop at bytes) = ap length e in
    with_part bytes n go ts at (part_of (drop at bytes)) (sound_if_some (drop at bytes) (omega (arith, some))) a le ge

goes_on : (bytes : List ℕ) (n : ℕ) → GoesOn bytes n
goes_on bytes zero ts at a le ge = inl (ts, all_read bytes ts at a le (omega (arith, ge)))
goes_on bytes (suc n) ts at a le ge = with_rest bytes n (goes_on bytes n) ts at (drop at bytes) refl a le ge

pub reading_or_fault : HasReadingOrFault
reading_or_fault bytes = goes_on bytes (length bytes) [] 0 (nothing_read bytes) (omega arith) (omega arith)
