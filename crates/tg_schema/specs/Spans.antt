-- Which rows may apply to a term.
use Rattle.std.specs.Prelude.{ℕ, ◌≡◌, ◌<◌, ◌≤◌, None}
use Rattle.tg_model.specs.Tree.{Tree}
use Rattle.tg_model.specs.Theory.{Theory}
use Rattle.tg_rows.specs.Rows.{row}

-- no row below number `low` applies to `t`, and none from number `high` on
pub record IsSpan (th : Theory) (t : Tree) (low high : ℕ) : Type 0 where
  pub below : (k : ℕ) → k < low → row th k t ≡ None
  pub above : (k : ℕ) → high ≤ k → row th k t ≡ None
