-- The tests of classes.
use Rattle.std.specs.Prelude.{ℕ, suc, List, [], ◌∷◌, ◌++◌, Some, None}
use Rattle.tg_hyps.specs.Hypotheses.{Class}
use Rattle.tg_derive.specs.Theorem.{Choice}
use Rattle.tg_model.specs.Filling.{fill}
use Rattle.tg_model.specs.Theory.{Theory}
use Rattle.tg_harness.specs.Tests.{Test}
use Rattle.tg_types.specs.declared.options.Settings.{Settings}
use Rattle.tg_cmd.specs.Data.{choices_by_data}

-- the test of the class of number `n`, if it has a datum
abbrev pub test_at : ℕ → Class → Choice → List Test
test_at n c None = []
test_at n c (Some vs) = record { number = n; datum = fill vs c.inputs } ∷ []

-- those of classes, the first of which has the number `n`
abbrev pub tests_at : ℕ → List Class → List Choice → List Test
tests_at n (c ∷ cs) (x ∷ xs) = test_at n c x ++ tests_at (suc n) cs xs
tests_at n _ _ = []

-- those of classes with the data that are found for them
abbrev pub tests_by_data : Theory → Settings → List Class → List Test
tests_by_data th s cs = tests_at 1 cs (choices_by_data th s cs)
