-- What is left of a list behind a place.
use Rattle.std.proofs.Common.{◌≡◌, ℕ, zero, suc, ◌+◌, ◌<◌, List, [], ◌∷◌, length, drop, get_or, sym, ap, ◌∙◌, add-one, arith}

drop_at : {A : Type 0} (xs : List A) (i : ℕ) (x : A) → i < length xs → x ≡ get_or xs i x → drop i xs ≡ x ∷ drop (suc i) xs
drop_at [] i x less e = absurd (omega (arith, less))
drop_at (y ∷ xs) zero x less e = ap (λ z. z ∷ xs) (sym e)
drop_at (y ∷ xs) (suc i) x less e = drop_at xs i x (omega (arith, less)) e

pub drop_next : {A : Type 0} (xs : List A) (i : ℕ) (x : A) → i < length xs → x ≡ get_or xs i x → drop i xs ≡ x ∷ drop (i + 1) xs
drop_next xs i x less e = drop_at xs i x less e ∙ ap (λ n. x ∷ drop n xs) (sym (add-one i))
