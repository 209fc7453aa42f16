-- The types of a left side's variables, one kind at a time.
use Rattle.std.specs.Prelude.{ℕ, ◌≡◌, ◌++◌, Bool, true, false, nat_eq, List, [], ◌∷◌, map, length, Option, Some, None, option_map, option_and_then, if◌then◌else◌}
use Rattle.tg_model.specs.Types.{Ty}
use Rattle.tg_model.specs.Theory.{Theory}
use Rattle.tg_accept.specs.Equations.{Pattern, variable, matched, opened}
use Rattle.tg_types.specs.declared.types.Ty as declared
use Rattle.tg_types.specs.Types.{ty}

-- both lists, one behind the other
abbrev pub together : Option (List Ty × List Ty) → Option (List Ty)
together o = option_map (λ (l : List Ty × List Ty). l.0 ++ l.1) o

-- the types of the arguments that are variables
abbrev pub of_variables : List Pattern → List Ty → List Ty
of_variables (variable x ∷ ps) (t ∷ ts) = t ∷ of_variables ps ts
of_variables (matched h xs ∷ ps) (t ∷ ts) = of_variables ps ts
of_variables ps ts = []

-- so many types, if these are so many
abbrev pub as_many : ℕ → Option (List Ty) → Option (List Ty)
as_many n o = option_and_then (λ us. if nat_eq n (length us) then Some us else None) o

-- the types of the variables for constructors' arguments
abbrev pub of_constructors : Theory → List Pattern → List Ty → Option (List Ty)
of_constructors th (variable x ∷ ps) (t ∷ ts) = of_constructors th ps ts
of_constructors th (matched h xs ∷ ps) (t ∷ ts) =
    option_and_then (λ us. option_map (λ vs. us ++ vs) (of_constructors th ps ts)) (as_many (length xs) (opened th h t))
of_constructors th ps ts = Some []

-- types are added, if there are any
abbrev pub AddsAll : Option (List Ty) → List Ty → List Ty → Bool → Type 0
AddsAll o old new true = (us : List Ty) × (o ≡ Some us) × (new ≡ old ++ us)
AddsAll o old new false = o ≡ None

abbrev pub Adds : Option (List Ty) → ℕ → List Ty → List Ty → Bool → Type 0
Adds o n old new ok = AddsAll (as_many n o) old new ok

abbrev pub seen_parts : ℕ → List declared.Ty → ℕ × List Ty
seen_parts n us = (n, map ty us)
