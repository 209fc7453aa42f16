-- A name's number is one more than its place.
use Rattle.std.proofs.Common.{ℕ, suc, ◌≡◌, ◌+◌, Bool, true, false, not, List, [], ◌∷◌, length, Some, None, refl, sym, ◌∙◌, ap, arith, if◌then◌else◌}
use Rattle.std.specs.Prelude.{nat_lt, option_map, position}
use Prim.Native.Nat.compare.{suc-suc}
use lib.Dec.{is_le}
use Rattle.std.proofs.lemmas.Bool.{lt-ltb}
use Rattle.std.specs.List.{position_or_len}
use Rattle.std.specs.Str.{bytes_eq}
use Rattle.tg_accept.specs.Meaning.{number_of}

abbrev pub Name : Type 0
Name = List ℕ

pub number_is : (x : Name) (ys : List Name) → number_of x ys ≡ option_map suc (position (bytes_eq x) ys)
number_is x [] = refl
number_is x (y ∷ ys) =
    ap (λ o. if bytes_eq x y then Some 1 else option_map suc o) (number_is x ys)
    ∙ go (bytes_eq x y) (position_or_len (bytes_eq x) ys) (length ys)
    ∙ ap (λ m. option_map suc (if nat_lt (if not (bytes_eq x y) then m else 0) (suc (length ys)) then Some (if not (bytes_eq x y) then m else 0) else None))
    (let s : suc (position_or_len (bytes_eq x) ys) ≡ 1 + position_or_len (bytes_eq x) ys = omega arith in s)
  where
    later : (c : Bool) (n : ℕ) → option_map suc (if c then Some n else None) ≡ (if c then Some (suc n) else None)
    later true n = refl
    later false n = refl

    step : (n l : ℕ) → nat_lt n l ≡ nat_lt (suc n) (suc l)
    step n l = ap is_le (sym (suc-suc (suc n) l))

    go : (b : Bool) (n l : ℕ)
        → (if b then Some 1 else option_map suc (option_map suc (if nat_lt n l then Some n else None)))
        ≡ option_map suc (if nat_lt (if not b then suc n else 0) (suc l) then Some (if not b then suc n else 0) else None)
    go true n l = ap (λ c. option_map suc (if c then Some 0 else None)) (sym (lt-ltb 0 (suc l) (omega arith)))
    go false n l = ap (option_map suc) (later (nat_lt n l) n ∙ ap (λ c. if c then Some (suc n) else None) (step n l))

pub number_at : (x : Name) (ys : List Name) (i : ℕ) → Some i ≡ position (bytes_eq x) ys → Some (i + 1) ≡ number_of x ys
number_at x ys i e = sym (number_is x ys ∙ ap (option_map suc) (sym e) ∙ ap Some (let s : suc i ≡ i + 1 = omega arith in s))

pub no_number : (x : Name) (ys : List Name) → None ≡ position (bytes_eq x) ys → None ≡ number_of x ys
no_number x ys e = sym (number_is x ys ∙ ap (option_map suc) (sym e))

pub ruleset numbering = (number_at, no_number)
