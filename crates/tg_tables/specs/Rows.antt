-- Rows of a table, and the order of their names.
use Rattle.std.specs.Prelude.{◌≡◌, ℕ, ◌+◌, ◌<◌, Bool, true, ◌&&◌, List, [], ◌∷◌, length, map, slice_index_or}
use Rattle.std.specs.List.{AllAdjacentBelow}
use Rattle.std.specs.Cmp.Lexicographic.{slice_cmp}
use Rattle.std.specs.Ordering.{nat_cmp, is_lt}
use Rattle.std.specs.declared.cmp.Ordering.TheVariants.{Less}
use Rattle.tg_tables.specs.declared.row.Row.{Row}

-- a row without where its name lies in memory
pub record Entry : Type 0 where
  pub name : List ℕ
  pub code : ℕ

abbrev pub entry : List ℕ → ℕ → Entry
entry name code = record { name = name; code = code }

abbrev pub entry_of : Row → Entry
entry_of row = entry row.name.now row.code

abbrev pub entries_of : List Row → List Entry
entries_of rows = map entry_of rows

abbrev pub names : List Entry → List (List ℕ)
names entries = map (λ e. e.name) entries

-- the first bytes that differ decide, and where none do, the shorter name is the lower one
abbrev pub Below : List ℕ → List ℕ → Type 0
Below low high = slice_cmp nat_cmp low high ≡ Less

-- each name is below the next one
abbrev pub Rises : List (List ℕ) → Type 0
Rises names = AllAdjacentBelow Below names (length names)

-- the same as a test, which computes on a list that is written out
abbrev pub rises : List (List ℕ) → Bool
rises [] = true
rises (x ∷ []) = true
rises (x ∷ y ∷ rest) = is_lt (slice_cmp nat_cmp x y) && rises (y ∷ rest)

-- some name is not below the next one
abbrev pub FailsToRise : List (List ℕ) → Type 0
FailsToRise names = (k : ℕ) × (k + 1 < length names) × ((d : List ℕ) → ¬ Below (slice_index_or names k d) (slice_index_or names (k + 1) d))
