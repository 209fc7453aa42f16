-- What recorded outcomes say of the classes of a theory.
use Rattle.std.specs.Prelude.{ℕ, suc, nat_eq, List, [], ◌∷◌, Option, Some, None}
use Rattle.std.specs.List.{find}
use Rattle.tg_hyps.specs.Hypotheses.{Class}
use Rattle.tg_derive.specs.Theorem.{Choice}
use Rattle.tg_model.specs.Filling.{fill}
use Rattle.tg_model.specs.Table.{Table, Lists}
use Rattle.tg_model.specs.Theory.{Theory}
use Rattle.tg_model.specs.Value.{Value}
use Rattle.tg_harness.specs.Tests.{Record}
use Rattle.tg_types.specs.declared.verdicts.Verdict.{Verdict}
use Rattle.tg_types.specs.declared.verdicts.Verdict.TheVariants.{Passed, Failed, Undecided, Raised, Missing, NoDatum}
use Rattle.tg_verdict.specs.Verdicts.{verdict_at}

-- the numbers of the classes with a datum, where the first class has the number `n`: each is the number of its test
abbrev pub tests_from : ℕ → List Choice → List ℕ
tests_from n [] = []
tests_from n (Some vs ∷ xs) = n ∷ tests_from (suc n) xs
tests_from n (None ∷ xs) = tests_from (suc n) xs

abbrev pub recorded : List Record → ℕ → Option Record
recorded rs n = find (λ (r : Record). nat_eq n r.test) rs

abbrev pub verdict_on_answer : Theory → Class → List Value → Option Value → Verdict
verdict_on_answer th c vs None = Raised
verdict_on_answer th c vs (Some a) = verdict_at th c.checks vs a

-- the verdict on a class that has its datum at these values, if it has one, by what is recorded of its test
abbrev pub verdict_of : Theory → Class → Choice → Option Record → Verdict
verdict_of th c None o = NoDatum
verdict_of th c (Some vs) None = Missing
verdict_of th c (Some vs) (Some r) = verdict_on_answer th c vs r.answer

-- the verdicts on classes, the first of which has the number `n`
abbrev pub verdicts_from : Theory → ℕ → List Class → List Choice → List Record → List Verdict
verdicts_from th n (c ∷ cs) (x ∷ xs) rs = verdict_of th c x (recorded rs n) ∷ verdicts_from th (suc n) cs xs rs
verdicts_from th n _ _ rs = []

-- a class counts as tested where its verdict is that it passed
abbrev pub tested_if_passed : Verdict → Choice → Choice
tested_if_passed Passed x = x
tested_if_passed Failed x = None
tested_if_passed Undecided x = None
tested_if_passed Raised x = None
tested_if_passed Missing x = None
tested_if_passed NoDatum x = None

abbrev pub choices_by_verdicts : List Choice → List Verdict → List Choice
choices_by_verdicts (x ∷ xs) (v ∷ vs) = tested_if_passed v x ∷ choices_by_verdicts xs vs
choices_by_verdicts _ _ = []

-- the table lists the datum of the class with the answer that is recorded, where there is one
abbrev pub HasAnswer : Table → Class → List Value → Option Value → Type 0
HasAnswer tb c vs None = Unit {0}
HasAnswer tb c vs (Some a) = Lists tb (fill vs c.inputs) a

abbrev pub HasOutcome : Table → Class → Choice → Option Record → Type 0
HasOutcome tb c (Some vs) (Some r) = HasAnswer tb c vs r.answer
HasOutcome tb c _ _ = Unit {0}
