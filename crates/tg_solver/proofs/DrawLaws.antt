-- Draws one by one.
use Rattle.std.proofs.Common.{ℕ, zero, suc, ◌≡◌, ◌+◌, ◌-◌, ◌%◌, ◌^◌, ◌<◌, ◌≤◌, Bool, true, false, true≢false, cond, ◌==◌, find, List, [], ◌∷◌, ◌++◌, length, take, get_or, Some, refl, ap, sym, ◌∙◌, arith, mod-eq_of_lt}
use Rattle.std.proofs.lemmas.Bool.{cond-true, cond-false}
use Rattle.std.proofs.lemmas.List.{take_more}
use Rattle.tg_model.specs.Value.{Value}
use Rattle.rand_pcg.specs.Lcg.{Lcg, started, increment_of}
use Rattle.rand_pcg.specs.Pcg.{multiplier_64, pcg32}
use Rattle.std.proofs.Math.Nat.{pow-le-pow_right}
use Rattle.tg_solver.specs.Draws.{generator, word, after_word, of_word, draw, after_draw, draws_from, draws}

pub is_generator : (seed stream : ℕ) → started 64 multiplier_64 seed (increment_of 64 stream) ≡ generator seed stream
unfolding generator
is_generator seed stream = refl

pub ruleset generating = (is_generator)

pub is_word : (w : ℕ) (g h : Lcg) → (w, h) ≡ pcg32 g → w ≡ word g
unfolding word
is_word w g h e = ap (λ p. p.0) e

pub is_after_word : (w : ℕ) (g h : Lcg) → (w, h) ≡ pcg32 g → h ≡ after_word g
unfolding after_word
is_after_word w g h e = ap (λ p. p.1) e

pub draw_push : (width : ℕ) (truths : List Bool) (truth : Bool) (g : Lcg)
    → draw width (truths ++ truth ∷ []) g ≡ draw width truths g ++ of_word width truth (word (after_draw truths g)) ∷ []
draw_push width [] truth g = refl
draw_push width (b ∷ truths) truth g = ap (λ vs. of_word width b (word g) ∷ vs) (draw_push width truths truth (after_word g))

pub after_push : (truths : List Bool) (truth : Bool) (g : Lcg) → after_draw (truths ++ truth ∷ []) g ≡ after_word (after_draw truths g)
after_push [] truth g = refl
after_push (b ∷ truths) truth g = after_push truths truth (after_word g)

pub draw_length : (width : ℕ) (truths : List Bool) (g : Lcg) → length (draw width truths g) ≡ length truths
draw_length width [] g = refl
draw_length width (b ∷ truths) g = ap suc (draw_length width truths (after_word g))

pub draw_more : (width i : ℕ) (truths : List Bool) (d : Bool) (first g next : Lcg) (vs more : List Value) (w : ℕ) (v : Value) → i < length truths
    → vs ≡ draw width (take i truths) first → g ≡ after_draw (take i truths) first → w ≡ word g → next ≡ after_word g
    → v ≡ of_word width (get_or truths i d) w → more ≡ vs ++ v ∷ []
    → (more ≡ draw width (take (i + 1) truths) first) × (next ≡ after_draw (take (i + 1) truths) first)
draw_more width i truths d first g next vs more w v l drawn left is after value pushed = (
  pushed
      ∙ (λ k. drawn k ++ (value ∙ ap (of_word width (get_or truths i d)) (is ∙ ap word left)) k ∷ [])
      ∙ sym (draw_push width (take i truths) (get_or truths i d) first)
      ∙ ap (λ bs. draw width bs first) (sym (take_more truths i d l)),
  after ∙ ap after_word left ∙ sym (after_push (take i truths) (get_or truths i d) first) ∙ ap (λ bs. after_draw bs first) (sym (take_more truths i d l)),
)

pub draws_some : (truths : List Bool) (tries width : ℕ) (g : Lcg) → (length truths == 0) ≡ false → draws tries width truths g ≡ draws_from tries width truths g
draws_some [] tries width g e = absurd (true≢false e)
draws_some (b ∷ truths) tries width g e = refl

pub draw_found : (test : List Value → Bool) (count width : ℕ) (truths : List Bool) (g : Lcg) (vs : List Value) (b : Bool) → 0 < count → vs ≡ draw width truths g → b ≡ test vs → b ≡ true
    → Some vs ≡ find test (draws_from count width truths g)
draw_found test zero width truths g vs b l e is t = absurd (omega arith)
draw_found test (suc count) width truths g vs b l e is t =
    sym (cond-true (test vs) (Some vs) (find test (draws_from count width truths (after_draw truths g))) (sym is ∙ t))
    ∙ ap (λ ws. cond (test ws) (Some ws) (find test (draws_from count width truths (after_draw truths g)))) e

pub draw_missed : (test : List Value → Bool) (count width : ℕ) (truths : List Bool) (g next : Lcg) (vs : List Value) (b : Bool) → 0 < count → vs ≡ draw width truths g → next ≡ after_draw truths g
    → b ≡ test vs → b ≡ false → find test (draws_from (count - 1) width truths next) ≡ find test (draws_from count width truths g)
draw_missed test zero width truths g next vs b l e n is f = absurd (omega arith)
draw_missed test (suc count) width truths g next vs b l e n is f =
    (λ i. find test (draws_from (let c : suc count - 1 ≡ count = omega arith in c i) width truths (n i)))
    ∙ sym (cond-false (test vs) (Some vs) (find test (draws_from count width truths (after_draw truths g))) (sym is ∙ f))
    ∙ ap (λ ws. cond (test ws) (Some ws) (find test (draws_from count width truths (after_draw truths g)))) e

pub all_bits : (w width : ℕ) → w < 4294967296 → 32 ≤ width → w ≡ w % 2 ^ width
all_bits w width l wide =
    let big : 2 ^ 32 ≤ 2 ^ width = pow-le-pow_right (omega arith) wide in
    sym (mod-eq_of_lt (omega arith))
