-- The draws: values of words of a random generator.
use Rattle.std.specs.Prelude.{ℕ, zero, suc, Bool, ◌%◌, ◌^◌, List, [], ◌∷◌, if◌then◌else◌}
use Rattle.rand_pcg.specs.Lcg.{Lcg, started, increment_of}
use Rattle.rand_pcg.specs.Pcg.{multiplier_64, pcg32}
use Rattle.tg_model.specs.Value.{Value}
use Rattle.tg_solver.specs.Numbers.{as_value}

-- the generator of a seed and the number of a stream
unfoldable pub generator : ℕ → ℕ → Lcg
generator seed stream = started 64 multiplier_64 seed (increment_of 64 stream)

unfoldable pub word : Lcg → ℕ
word g = (pcg32 g).0

unfoldable pub after_word : Lcg → Lcg
after_word g = (pcg32 g).1

-- the value of a word: a natural below 2^width, or a truth value
abbrev pub of_word : ℕ → Bool → ℕ → Value
of_word width truth w = as_value truth (w % (if truth then 2 else 2 ^ width))

-- one draw takes a word for each variable, in order
abbrev pub draw : ℕ → List Bool → Lcg → List Value
draw width [] g = []
draw width (truth ∷ truths) g = of_word width truth (word g) ∷ draw width truths (after_word g)

abbrev pub after_draw : List Bool → Lcg → Lcg
after_draw [] g = g
after_draw (truth ∷ truths) g = after_draw truths (after_word g)

abbrev pub draws_from : ℕ → ℕ → List Bool → Lcg → List (List Value)
draws_from zero width truths g = []
draws_from (suc tries) width truths g = draw width truths g ∷ draws_from tries width truths (after_draw truths g)

-- with no variable draws add nothing
abbrev pub draws : ℕ → ℕ → List Bool → Lcg → List (List Value)
draws tries width [] g = []
draws tries width (truth ∷ truths) g = draws_from tries width (truth ∷ truths) g
