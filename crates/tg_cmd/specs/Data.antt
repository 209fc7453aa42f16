-- The data of classes.
use Rattle.std.specs.Prelude.{ℕ, suc, List, [], ◌∷◌}
use Rattle.tg_model.specs.Theory.{Theory}
use Rattle.tg_types.specs.declared.options.Settings.{Settings}
use Rattle.tg_hyps.specs.Hypotheses.{Class}
use Rattle.tg_solver.specs.Candidates.{first_candidate}
use Rattle.tg_derive.specs.Theorem.{Choice}

-- For each class the first candidate that satisfies its constraints, where there is one. The first class has the number `n`.
abbrev pub found : Theory → Settings → ℕ → List Class → List Choice
found th s n [] = []
found th s n (c ∷ cs) = first_candidate th c.variables c.constraints s n ∷ found th s (suc n) cs

-- a class with a datum is tested, and another one is assumed
abbrev pub choices_by_data : Theory → Settings → List Class → List Choice
choices_by_data th s cs = found th s 1 cs
