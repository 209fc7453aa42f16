-- Texts that are known by hand.
use Rattle.std.specs.Prelude.{◌≡◌, ℕ, List, [], ◌∷◌, ◌++◌, map, codes, decimal, true, false, Some, None}
use Rattle.std.proofs.Common.{refl}
use Rattle.tg_model.specs.Theory.{Theory}
use Rattle.tg_model.specs.Value.{number, boolean}
use Rattle.tg_grammar.specs.Seen.{Seen}
use Rattle.tg_render.specs.Render as render
use Rattle.tg_harness.specs.OutcomeTexts.{recorded}
use Rattle.tg_harness.specs.HarnessTexts.{words, test_line}

abbrev texts : List Seen → List (List ℕ)
texts ts = map (λ (s : Seen). s.text) ts

module _ (th : Theory) where
  answered : texts (recorded th 12 (Some (number 7))) ≡ codes "answer" ∷ decimal 12 ∷ decimal 7 ∷ codes ";" ∷ []
  answered = refl

  raised : texts (recorded th 1 None) ≡ codes "raised" ∷ decimal 1 ∷ codes ";" ∷ []
  raised = refl

  no_word : words th [] ≡ []
  no_word = refl

  each_quoted : words th (boolean false ∷ boolean true ∷ []) ≡ codes " 'False' 'True'"
  unfolding render.put
  each_quoted = refl

  a_line : test_line th (record { number = 3; datum = boolean true ∷ [] })
      ≡ codes "if a=$(\"$1\" 'True'); then printf '%s\\n' \"answer " ++ (decimal 3 ++ (codes " $a;\"; else printf '%s\\n' 'raised " ++ (decimal 3 ++ codes ";'; fi\n")))
  unfolding render.put
  a_line = refl
