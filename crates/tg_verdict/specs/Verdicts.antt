-- The verdict on a class, by its test and the recorded outcome.
use Rattle.std.specs.Prelude.{ℕ, suc, ◌≡◌, true, List, [], ◌∷◌, length, map, Option, Some, None}
use Rattle.tg_eval.specs.Answering.{value_part}
use Rattle.tg_eval.specs.Limited.{limited_value}
use Rattle.tg_hyps.specs.Hypotheses.{Class, some_of}
use Rattle.tg_model.specs.Filling.{HaveVariables, IsMatch}
use Rattle.tg_model.specs.Theory.{Theory}
use Rattle.tg_model.specs.Tree.{Tree}
use Rattle.tg_model.specs.Value.{Value, boolean}
use Rattle.tg_term.specs.Classes.{answer_of}
use Rattle.tg_term.specs.Values as term
use Rattle.tg_term.specs.declared.classes.Test.{Test}
use Rattle.tg_term.specs.declared.classes.Outcome.{Outcome}
use Rattle.tg_types.specs.declared.verdicts.Verdict.{Verdict}
use Rattle.tg_types.specs.declared.verdicts.Verdict.TheVariants.{Passed, Failed, Undecided, Raised, Missing, NoDatum}
use Rattle.tg_verdict.specs.Places.{test_of, outcome_of}

-- by a limited value: True passes, anything else fails, and nothing is decided where a bound is passed
abbrev pub verdict_by : Option Value → Verdict
verdict_by None = Undecided
verdict_by (Some (boolean true)) = Passed
verdict_by (Some v) = Failed

-- The limited value of the disjunction of the checks, where the variables have these values and each program call the recorded answer.
-- Without checks it is False.
abbrev pub verdict_at : Theory → List Tree → List Value → Value → Verdict
verdict_at th checks vs a = verdict_by (value_part (limited_value th a vs (some_of checks)))

-- at the values at which the class has the datum; there are none for a datum of another class, of which nothing is decided
abbrev pub verdict_matched : Theory → List Tree → Value → Option (List Value) → Verdict
verdict_matched th checks a None = Undecided
verdict_matched th checks a (Some vs) = verdict_at th checks vs a

abbrev pub IsAnswered : Theory → Class → List Value → Option Value → Verdict → Type 0
IsAnswered th c datum None v = v ≡ Raised
IsAnswered th c datum (Some a) v =
    HaveVariables (length c.variables) c.inputs
    → (o : Option (List Value)) × IsMatch (length c.variables) c.inputs datum o × (v ≡ verdict_matched th c.checks a o)

-- by the class's test and outcome, where there are such
abbrev pub IsVerdict : Theory → Class → Option Test → Option Outcome → Verdict → Type 0
IsVerdict th c None o v = v ≡ NoDatum
IsVerdict th c (Some t) None v = v ≡ Missing
IsVerdict th c (Some t) (Some o) v = IsAnswered th c (map term.value t.datum) (answer_of o) v

-- one verdict for each class, the first of which has the number `n`
abbrev pub AreVerdicts : Theory → List Test → List Outcome → ℕ → List Class → List Verdict → Type 0
AreVerdicts th ts os n [] [] = Unit {0}
AreVerdicts th ts os n (c ∷ cs) (v ∷ vs) = IsVerdict th c (test_of ts n) (outcome_of os n) v × AreVerdicts th ts os (suc n) cs vs
AreVerdicts th ts os n _ _ = ⊥
