-- The sides of an equation, as the code finds them.
use Rattle.std.proofs.Common.{ℕ, ◌≡◌, ◌≢◌, List, length, Some, None, sym, ◌∙◌, ap}
use Rattle.std.specs.Prelude.{slice_get}
use Rattle.tg_model.specs.Tree.{Tree, Trees, op, equality, trees}
use Rattle.tg_rows.specs.Parts.{binary}
use Rattle.tg_term.specs.Operators.{operator}
use Rattle.tg_schema.proofs.PartLaws as rows

pub elsewhere : (p : ℕ) (ts : Trees) → p ≢ 6 → None ≡ binary equality (op (operator p) ts)
elsewhere p ts n = rows.binary_elsewhere 6 p ts n

pub here : (o : _) (p : ℕ) (ts : Trees) → p ≡ 6 → o ≡ binary equality (op equality ts) → o ≡ binary equality (op (operator p) ts)
here o p ts e h = h ∙ ap (λ n. binary equality (op (operator n) ts)) (sym e)

pub ruleset parts = (elsewhere, here)

pub two_of : (ts : List Tree) (a b : Tree) → length ts ≡ 2 → slice_get ts 0 ≡ Some a → slice_get ts 1 ≡ Some b
    → Some (a, b) ≡ binary equality (op equality (trees ts))
two_of ts a b n e f = rows.two_of equality ts a b n e f

pub not_two_of : (ts : List Tree) → ¬ (length ts ≡ 2) → None ≡ binary equality (op equality (trees ts))
not_two_of ts n = rows.not_two_of equality ts n

pub ruleset lists = (two_of, not_two_of)
