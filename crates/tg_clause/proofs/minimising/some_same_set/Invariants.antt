use Rattle.std.proofs.Common.{◌≡◌, map, drop}
use Rattle.std.specs.List.{list_any}
use Rattle.tg_clause.specs.Numbers.{is_same_set, row_items}
use Rattle.tg_clause.proofs.minimising.some_same_set.Given as goal

-- what is left decides
abbrev pub invariant-loop-d : goal.invariant-loop-d
invariant-loop-d l =
    list_any (λ d. is_same_set d l.c) (map row_items (drop l.d-index l.rows)) ≡ list_any (λ d. is_same_set d l.c) (map row_items l.rows)
