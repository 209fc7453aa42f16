-- The judgement on classes as the program has them.
use Rattle.std.proofs.Common.{ℕ, suc, ◌≡◌, List, [], ◌∷◌, length, map, refl, sym, ap, ◌∙◌, subst}
use Rattle.tg_derive.specs.Answers.{choice_of}
use Rattle.tg_derive.specs.Classes.{AreClasses}
use Rattle.tg_derive.specs.declared.theorems.Choice as code_choice
use Rattle.tg_hyps.specs.Hypotheses.{Class, seen}
use Rattle.tg_model.specs.Accepted.{IsAccepted}
use Rattle.tg_model.specs.Theory.{Theory}
use Rattle.tg_term.specs.declared.classes.Class as code_class
use Rattle.tg_term.specs.declared.classes.Outcome as code_outcome
use Rattle.tg_term.specs.declared.classes.Test as code_test
use Rattle.tg_types.specs.declared.options.Settings.{Settings}
use Rattle.tg_types.specs.declared.verdicts.Verdict.{Verdict}
use Rattle.tg_verdict.specs.Places.{AreOnce, test_number}
use Rattle.tg_verdict.specs.Verdicts.{AreVerdicts}
use Rattle.tg_cmd.specs.Data.{choices_by_data}
use Rattle.tg_cmd.specs.Judging.{tests_from, verdicts_from}
use Rattle.tg_harness.specs.Tests.{record_of, test}
use Rattle.tg_cmd.specs.Output.{tests_of}
use Rattle.tg_cmd.specs.Tests.{tests_at}
use Rattle.tg_cmd.proofs.DataLaws.{as_many}
use Rattle.tg_cmd.proofs.Headline.{data_lengths}
use Rattle.tg_cmd.proofs.SimpleVariables.{linear_classes}
use Rattle.tg_cmd.proofs.VerdictLaws.{HaveLengths, tests_once, known_numbers, verdicts_are}

module _ (th : Theory) (accepted : IsAccepted th) (s : Settings) (cs : List code_class.Class) (xs : List code_choice.Choice) (ts : List code_test.Test)
    (are : AreClasses th s.depth (map seen cs)) (from_data : map choice_of xs ≡ choices_by_data th s (map seen cs))
    (tests : map test ts ≡ tests_at 1 (map seen cs) (map choice_of xs)) where
  lengths : HaveLengths (map seen cs) (map choice_of xs)
  lengths = subst (HaveLengths (map seen cs)) (sym from_data) (data_lengths th accepted s s.depth (map seen cs) are)

  pub each_test_once : AreOnce (map test_number ts)
  each_test_once = tests_once ts (map seen cs) (map choice_of xs) lengths tests

  -- the tests have the numbers of the classes with a datum
  pub test_numbers : map test_number ts ≡ tests_of s th (map seen cs)
  test_numbers = known_numbers ts (map seen cs) (map choice_of xs) lengths tests ∙ ap (tests_from 1) from_data

  pub judged : (os : List code_outcome.Outcome) (vs : List Verdict) → AreVerdicts th ts os 1 (map seen cs) vs
      → vs ≡ verdicts_from th 1 (map seen cs) (choices_by_data th s (map seen cs)) (map record_of os)
  judged os vs h =
      verdicts_are th ts os (map seen cs) (map choice_of xs) vs (linear_classes th s.depth (map seen cs) are) lengths tests h
      ∙ ap (λ ys. verdicts_from th 1 (map seen cs) ys (map record_of os)) from_data

-- a verdict for each class
verdict_count : (th : Theory) (ts : List code_test.Test) (os : List code_outcome.Outcome) (n : ℕ) (cs : List Class) (vs : List Verdict) → AreVerdicts th ts os n cs vs
    → length cs ≡ length vs
verdict_count th ts os n [] [] h = refl
verdict_count th ts os n [] (v ∷ vs) h = absurd h
verdict_count th ts os n (c ∷ cs) [] h = absurd h
verdict_count th ts os n (c ∷ cs) (v ∷ vs) h = ap suc (verdict_count th ts os (suc n) cs vs h.1)

seen_count : (cs : List code_class.Class) → length (map seen cs) ≡ length cs
seen_count [] = refl
seen_count (c ∷ cs) = ap suc (seen_count cs)

pub verdict_for_each : (th : Theory) (s : Settings) (cs : List code_class.Class) (xs : List code_choice.Choice) (ts : List code_test.Test) (os : List code_outcome.Outcome)
    (vs : List Verdict) → map choice_of xs ≡ choices_by_data th s (map seen cs) → AreVerdicts th ts os 1 (map seen cs) vs → length xs ≡ length vs
verdict_for_each th s cs xs ts os vs from_data h = sym (as_many th s cs xs from_data) ∙ sym (seen_count cs) ∙ verdict_count th ts os 1 (map seen cs) vs h
