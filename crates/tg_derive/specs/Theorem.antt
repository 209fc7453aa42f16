-- The test theorem: its labelled hypotheses, which are both printed and derived from, and its conclusion. (Brucker and Wolff's test theorem,
-- restricted to tested inputs.)
use Rattle.std.specs.Prelude.{ℕ, suc, List, [], ◌∷◌, ◌++◌, map, Option, Some, None}
use Rattle.tg_model.specs.Value.{Value}
use Rattle.tg_model.specs.Formula.{Formula, Sequent}
use Rattle.tg_model.specs.Theory.{Theory}
use Rattle.tg_hyps.specs.Hypotheses.{Class, test_of, open_class_of, uniformity_of, regularity_of, conclusion_of}

-- a class is tested at these values of its variables, or is assumed
abbrev pub Choice : Type 0
Choice = Option (List Value)

-- what a hypothesis is, with the number of its class
pub data Label : Type 0 where
  test : (n : ℕ) → Label
  uniformity : (n : ℕ) → Label
  open_class : (n : ℕ) → Label
  regularity : Label

pub record Hypothesis : Type 0 where
  pub label : Label
  pub formula : Formula

abbrev pub labelled : Label → Formula → Hypothesis
labelled l f = record { label = l; formula = f }

-- of a tested class its test and its uniformity, of an assumed one its open class
abbrev pub of_class : ℕ → Class → Choice → List Hypothesis
of_class n c (Some vs) = labelled (test n) (test_of c vs) ∷ labelled (uniformity n) (uniformity_of c) ∷ []
of_class n c None = labelled (open_class n) (open_class_of c) ∷ []

-- class by class, where the first one has the number `n`
abbrev pub of_classes : ℕ → List Class → List Choice → List Hypothesis
of_classes n (c ∷ cs) (x ∷ xs) = of_class n c x ++ of_classes (suc n) cs xs
of_classes n cs xs = []

abbrev pub of_regularity : Option Formula → List Hypothesis
of_regularity None = []
of_regularity (Some f) = labelled regularity f ∷ []

-- classes are numbered from 1
abbrev pub hypotheses_of : Theory → ℕ → List Class → List Choice → List Hypothesis
hypotheses_of th k cs xs = of_classes 1 cs xs ++ of_regularity (regularity_of th k)

abbrev pub formulas : List Hypothesis → List Formula
formulas hs = map (λ (h : Hypothesis). h.formula) hs

-- the theorem, whose formulas have no variable
abbrev pub theorem_of : Theory → ℕ → List Class → List Choice → Sequent
theorem_of th k cs xs = record { vars = []; hypotheses = formulas (hypotheses_of th k cs xs); goal = conclusion_of th }

-- the hypotheses that no test shows
abbrev pub assumed : Label → Formula → List Formula
assumed (test n) f = []
assumed l f = f ∷ []

abbrev pub assumptions : List Hypothesis → List Formula
assumptions [] = []
assumptions (h ∷ hs) = assumed h.label h.formula ++ assumptions hs

abbrev pub assumptions_of : Theory → ℕ → List Class → List Choice → List Formula
assumptions_of th k cs xs = assumptions (hypotheses_of th k cs xs)
