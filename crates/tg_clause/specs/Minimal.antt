-- Minimising a list of clauses, each as the set of its literals.
use Rattle.std.specs.Prelude.{Bool, not, ◌&&◌, ◌||◌, List, [], ◌∷◌, ◌++◌, if◌then◌else◌}
use Rattle.std.specs.List.{list_any, list_all}
use Rattle.tg_clause.specs.Clauses.{Clause, has}

-- each literal of the first clause stands in the second
abbrev pub is_part : Clause → Clause → Bool
is_part d c = list_all (has c) d

abbrev pub is_proper_part : Clause → Clause → Bool
is_proper_part d c = is_part d c && not (is_part c d)

abbrev pub is_same_set : Clause → Clause → Bool
is_same_set d c = is_part d c && is_part c d

-- a clause of the list is a proper part of this one, or one before it is the same set
abbrev pub is_superfluous : List Clause → List Clause → Clause → Bool
is_superfluous all earlier c = list_any (λ d. is_proper_part d c) all || list_any (λ d. is_same_set d c) earlier

-- what stays of the clauses of `all` that stand behind those in `earlier`
abbrev pub minimal_from : List Clause → List Clause → List Clause → List Clause
minimal_from all earlier [] = []
minimal_from all earlier (c ∷ rest) =
    (if is_superfluous all earlier c then [] else c ∷ []) ++ minimal_from all (earlier ++ c ∷ []) rest

abbrev pub minimised : List Clause → List Clause
minimised cs = minimal_from cs [] cs
