-- A place of a list that gets what it has.
use Rattle.std.proofs.Common.{ℕ, zero, suc, ◌≡◌, List, [], ◌∷◌, Some, ap, sym, slice_set}
use Rattle.std.specs.Prelude.{slice_get}

pub set_same : {A : Type 0} (xs : List A) (i : ℕ) (x : A) → slice_get xs i ≡ Some x → slice_set xs i x ≡ xs
set_same [] i x e = cc e
set_same (y ∷ xs) zero x e = let p : y ≡ x = cc e in ap (λ z. z ∷ xs) (sym p)
set_same (y ∷ xs) (suc i) x e = ap (λ ys. y ∷ ys) (set_same xs i x e)

pub ruleset unchanged = (set_same)
