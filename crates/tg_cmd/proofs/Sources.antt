-- How far a source was read.
use Rattle.std.proofs.Common.{ℕ, zero, suc, ◌≡◌, ◌+◌, ◌≤◌, List, [], ◌∷◌, ◌++◌, length, drop, Option, Some, None, Result, Ok, Err, OnOk, refl, sym, ap, ◌∙◌, append-nil, arith}
use Rattle.std.specs.Io.KnownBytes.{Consumes, IsAtEnd}
use Rattle.tg_io.specs.declared.whole.ReadErr.TheVariants.{TooLong}
use Rattle.tg_io.specs.Whole.{TakesFront}
use Rattle.tg_cmd.specs.Causes.{longest}
use Rattle.tg_cmd.specs.Output.{IsRead}

drop_all : (n : ℕ) (xs : List ℕ) → length xs ≤ n → drop n xs ≡ []
drop_all zero [] short = refl
drop_all zero (x ∷ xs) short = absurd (omega (arith, short))
drop_all (suc n) [] short = refl
drop_all (suc n) (x ∷ xs) short = drop_all n xs (omega (arith, short))

drop_front : (xs ys : List ℕ) → drop (length xs) (xs ++ ys) ≡ ys
drop_front [] ys = refl
drop_front (x ∷ xs) ys = drop_front xs ys

-- a source that was read to its end
pub read_whole : (old new : Option (List ℕ)) (bytes : List ℕ) → Consumes old new bytes → IsAtEnd new → length bytes ≤ longest → IsRead old new
read_whole None new bytes taken end short = tt
read_whole (Some xs) None bytes taken end short = absurd taken
read_whole (Some xs) (Some ys) bytes taken end short = end ∙ sym (drop_all (longest + 1) xs (omega (arith, same, short)))
  where
    same : length xs ≡ length bytes
    same = ap length (taken ∙ (ap (λ l. bytes ++ l) end ∙ append-nil bytes))

-- one that has more than is read
pub read_front : (old new : Option (List ℕ)) → TakesFront TooLong longest old new → IsRead old new
read_front None new taken = tt
read_front (Some xs) None taken = absurd taken.front
read_front (Some xs) (Some ys) taken =
    sym (ap (λ n. drop n xs) (sym taken.count) ∙ (ap (λ l. drop (length taken.bytes) l) taken.front ∙ drop_front taken.bytes ys))

pub on_ok : {A E P : Type 0} (r : Result A E) → P → OnOk r P
on_ok (Ok a) p = p
on_ok (Err e) p = tt
