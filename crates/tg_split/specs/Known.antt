-- Sizes of datatypes at closed types that are known.
use Rattle.std.specs.Prelude.{ℕ, ◌≡◌, List, All}
use Rattle.tg_model.specs.Types.{applied, Tys}
use Rattle.tg_model.specs.Theory.{Datatype}
use Rattle.tg_types.specs.Types.{types}
use Rattle.tg_split.specs.Shapes.{of_type}
use Rattle.tg_split.specs.Sizes.{size_of}
use Rattle.tg_split.specs.declared.known.Known.{Known}
use Rattle.tg_split.specs.declared.sizes.Size.{Size}

-- the size of the shapes of datatype `d` at the types `ts` to depth `k`
abbrev pub size_of_data : List Datatype → ℕ → Tys → ℕ → Size
size_of_data ds d ts k = size_of (of_type ds k (applied d ts))

-- what is known is so
abbrev pub AreRight : List Datatype → List Known → Type 0
AreRight ds known = All (λ (x : Known). x.size ≡ size_of_data ds x.data (types x.types.now) x.depth) known
