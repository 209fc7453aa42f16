-- How many nodes a type has as a tree.
use Rattle.std.proofs.Common.{ℕ, zero, suc, ◌≡◌, ◌+◌, ◌<◌, ◌≤◌, List, [], ◌∷◌, length, get_or, subst, sym, arith}
use Rattle.tg_model.specs.Types as model
use Rattle.tg_types.specs.declared.types.Ty as declared
use Rattle.tg_types.specs.Types.{ty, types}

abbrev mutual
  pub size : model.Ty → ℕ
  size model.nat = 1
  size model.bool = 1
  size (model.parameter n) = 1
  size (model.meta n) = 1
  size (model.applied d ts) = suc (sizes ts)

  pub sizes : model.Tys → ℕ
  sizes model.none = 0
  sizes (model.more t ts) = size t + sizes ts

pub size_at : (ts : List declared.Ty) (i : ℕ) (t : declared.Ty) → i < length ts → t ≡ get_or ts i t → size (ty t) ≤ sizes (types ts)
size_at [] i t h e = absurd (omega (arith, h))
size_at (u ∷ ts) zero t h e = subst (λ x. size (ty x) ≤ sizes (types (u ∷ ts))) (sym e) (omega arith)
size_at (u ∷ ts) (suc i) t h e = let s = size_at ts i t (omega (arith, h)) e in omega arith
