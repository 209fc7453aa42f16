-- The constructors of a datatype, by their numbers.
use Rattle.std.proofs.Common.{ℕ, zero, suc, ◌≡◌, [], ◌∷◌, map, length, Option, Some, None, refl, ap}
use Rattle.std.specs.Prelude.{slice_get}
use Rattle.std.specs.Option.{option_map_or}
use Rattle.tg_model.specs.Theory.{Datatype, first_constructor}
use Rattle.tg_accept.specs.Core.{heads_of, heads_from}
use Rattle.tg_accept.specs.Declared.{Declared, theory}
use Rattle.tg_accept.specs.Resolved.{of}
use Rattle.tg_declarations.specs.Owners.{numbers_from}
use Rattle.tg_declarations.specs.View.{constructor_numbers}

heads_numbered : (c count : ℕ) → map of (numbers_from c count) ≡ heads_from c count
heads_numbered c zero = refl
heads_numbered c (suc count) = ap (λ l. of c ∷ l) (heads_numbered (suc c) count)

pub heads_declared : (D : Declared) (n : ℕ) → ¬ (n ≡ 0) → map of (constructor_numbers D.datatypes n) ≡ heads_of (theory [] D) n
heads_declared D zero p = absurd (p refl)
heads_declared D (suc d) p = by (slice_get D.datatypes d)
  where
    by : (o : Option Datatype)
        → map of (option_map_or (λ (x : Datatype). numbers_from (first_constructor D.datatypes (suc d)) (length x.constructors)) o [])
        ≡ heads_from (first_constructor D.datatypes (suc d)) (option_map_or (λ (x : Datatype). length x.constructors) o 0)
    by None = refl
    by (Some x) = heads_numbered (first_constructor D.datatypes (suc d)) (length x.constructors)
