-- The assignments of small numbers to variables, in order. Of a variable it counts only whether it is a truth variable.
use Rattle.std.specs.Prelude.{ℕ, zero, suc, Bool, true, false, ◌+◌, ◌^◌, max, min, nat_eq, nat_le, List, [], ◌∷◌, map, if◌then◌else◌}
use Rattle.std.specs.List.{filter, flat_map, range_with_len}
use Rattle.tg_model.specs.Types.{Ty, nat, bool, parameter, meta, applied}
use Rattle.tg_model.specs.Value.{Value, number, boolean}

abbrev pub is_truth : Ty → Bool
is_truth bool = true
is_truth nat = false
is_truth (parameter n) = false
is_truth (meta n) = false
is_truth (applied d ts) = false

-- the value that a number stands for: for a truth variable, 0 for False and 1 for True
abbrev pub as_value : Bool → ℕ → Value
as_value truth n = if truth then boolean (nat_eq n 1) else number n

abbrev pub as_values : List Bool → List ℕ → List Value
as_values (truth ∷ truths) (n ∷ ns) = as_value truth n ∷ as_values truths ns
as_values truths ns = []

-- the greatest number of a variable, where numbers go up to `g`; a truth variable has none but 0 and 1
abbrev pub last_number : ℕ → Bool → ℕ
last_number g truth = if truth then min 1 g else g

-- all assignments of numbers up to `g`, in lexicographic order, the first variable first
abbrev pub assignments : ℕ → List Bool → List (List ℕ)
assignments g [] = [] ∷ []
assignments g (truth ∷ truths) = flat_map (λ n. map (λ ns. n ∷ ns) (assignments g truths)) (range_with_len 0 (last_number g truth + 1))

abbrev pub greatest : List ℕ → ℕ
greatest [] = 0
greatest (n ∷ ns) = max n (greatest ns)

-- those of them whose greatest number is `g`
abbrev pub reaching : ℕ → List Bool → List (List ℕ)
reaching g truths = filter (λ ns. nat_eq (greatest ns) g) (assignments g truths)

-- those of numbers up to `m`, by their greatest number
abbrev pub in_order : ℕ → List Bool → List (List Value)
in_order m truths = flat_map (λ g. map (as_values truths) (reaching g truths)) (range_with_len 0 (m + 1))

-- the greatest number up to the bound with which so many variables have at most 20,000 assignments
abbrev pub most_number : ℕ → ℕ → ℕ
most_number count zero = 0
most_number count (suc bound) = if nat_le ((suc bound + 1) ^ count) 20000 then suc bound else most_number count bound
