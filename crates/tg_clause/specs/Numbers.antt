-- Clauses by the numbers of their literals in a table.
use Rattle.std.specs.Prelude.{ℕ, suc, ◌≡◌, Bool, true, false, not, ◌&&◌, ◌||◌, nat_eq, List, [], ◌∷◌, map, take, Option, Some, None, slice_get, if◌then◌else◌}
use Rattle.std.specs.List.{list_any, list_all}
use Rattle.std.specs.declared.alloc.Global.{Global}
use Rattle.std.specs.declared.vec.Vec.{Vec}
use Rattle.tg_clause.specs.declared.literals.Literal.{Literal}
use Rattle.tg_clause.specs.Clauses.{Clause, has, same_literal}

-- the place of the first such literal, and the table's length where there is none
abbrev pub first_at : List Literal → Literal → ℕ
first_at [] l = 0
first_at (m ∷ ms) l = if same_literal l m then 0 else suc (first_at ms l)

abbrev pub row_of : List Literal → Clause → List ℕ
row_of table c = map (first_at table) c

abbrev pub rows_of : List Literal → List Clause → List (List ℕ)
rows_of table cs = map (row_of table) cs

-- each literal of the clause, and of each clause, stands in the table
abbrev pub AreKnown : List Literal → Clause → Type 0
AreKnown table [] = Unit {0}
AreKnown table (l ∷ ls) = (has table l ≡ true) × AreKnown table ls

abbrev pub AreAllKnown : List Literal → List Clause → Type 0
AreAllKnown table [] = Unit {0}
AreAllKnown table (c ∷ cs) = AreKnown table c × AreAllKnown table cs

-- the table has all of the first one, and the literals of the clause
pub record HasAdded (old new : List Literal) (c : Clause) : Type 0 where
  pub known : AreKnown new c
  pub keeps : (l : Literal) → has old l ≡ true → has new l ≡ true

abbrev pub is_part : List ℕ → List ℕ → Bool
is_part d c = list_all (λ n. list_any (nat_eq n) c) d

abbrev pub is_proper_part : List ℕ → List ℕ → Bool
is_proper_part d c = is_part d c && not (is_part c d)

abbrev pub is_same_set : List ℕ → List ℕ → Bool
is_same_set d c = is_part d c && is_part c d

abbrev pub superfluous_by : List (List ℕ) → ℕ → Option (List ℕ) → Bool
superfluous_by rows at None = false
superfluous_by rows at (Some c) = list_any (λ d. is_proper_part d c) rows || list_any (λ d. is_same_set d c) (take at rows)

abbrev pub is_superfluous : List (List ℕ) → ℕ → Bool
is_superfluous rows at = superfluous_by rows at (slice_get rows at)

-- a row, as the program has it
abbrev pub row_items : Vec ℕ Global → List ℕ
row_items row = row.items
