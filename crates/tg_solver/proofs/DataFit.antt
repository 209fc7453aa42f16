-- A datum is a candidate, and candidates are typed.
use Rattle.std.proofs.Common.{ℕ, zero, suc, ◌≡◌, ◌+◌, Bool, true, false, cond, nat_eq, List, [], ◌∷◌, map, length, Some, refl, ap, sym, ◌∙◌, subst, arith, All}
use Rattle.std.specs.List.{find, range_with_len}
use Rattle.std.proofs.lemmas.List.Elements.{All-cons, All-nil, All-map, All-weaker, All-head, All-tail, All-append, All-filter}
use Rattle.tg_model.specs.Theory.{Theory}
use Rattle.tg_model.specs.Types.{Ty, nat, bool, parameter, meta, applied}
use Rattle.tg_model.specs.Typing.{AreTyped}
use Rattle.tg_model.specs.Value.{Value}
use Rattle.rand_pcg.specs.Lcg.{Lcg}
use Rattle.tg_solver.specs.Numbers.{is_truth, as_values, reaching, greatest, assignments, in_order, most_number}
use Rattle.tg_solver.specs.Draws.{draw, after_draw, draws_from, draws, after_word, generator}
use Rattle.tg_solver.specs.Candidates.{candidates, satisfies, truths_of}
use Rattle.tg_solver.specs.Laws.{AreSimple, DataFit}
use Rattle.tg_solver.proofs.FindLaws.{all_of_flat_map}
use Rattle.tg_solver.proofs.DataLaws.{assignments_length}

found_passes : {X : Type 0} (p : X → Bool) (P : X → Type 0) (xs : List X) (x : X) → All P xs → find p xs ≡ Some x → (p x ≡ true) × P x
found_passes p P [] x all e = absurd cc
found_passes p P (y ∷ ys) x all e = by (p y) refl e (found_passes p P ys x (All-tail P y ys all))
  where
    by : (b : Bool) → p y ≡ b → cond b (Some y) (find p ys) ≡ Some x → (find p ys ≡ Some x → (p x ≡ true) × P x) → (p x ≡ true) × P x
    by true t e rest = let same : y ≡ x = cc in (ap p (sym same) ∙ t, subst P same (All-head P y ys all))
    by false f e rest = rest e

module _ (th : Theory) where
  values_typed : (ts : List Ty) → AreSimple ts → (ns : List ℕ) → length ns ≡ length (map is_truth ts) → AreTyped th (as_values (map is_truth ts) ns) ts
  values_typed [] s ns len = tt
  values_typed (t ∷ ts) s [] len = absurd (omega arith)
  values_typed (nat ∷ ts) s (n ∷ ns) len = (refl, values_typed ts s.1 ns (omega arith))
  values_typed (bool ∷ ts) s (n ∷ ns) len = (refl, values_typed ts s.1 ns (omega arith))
  values_typed (parameter k ∷ ts) s (n ∷ ns) len = absurd s.0
  values_typed (meta k ∷ ts) s (n ∷ ns) len = absurd s.0
  values_typed (applied d us ∷ ts) s (n ∷ ns) len = absurd s.0

  draw_typed : (width : ℕ) (ts : List Ty) → AreSimple ts → (g : Lcg) → AreTyped th (draw width (map is_truth ts) g) ts
  draw_typed width [] s g = tt
  draw_typed width (nat ∷ ts) s g = (refl, draw_typed width ts s.1 (after_word g))
  draw_typed width (bool ∷ ts) s g = (refl, draw_typed width ts s.1 (after_word g))
  draw_typed width (parameter k ∷ ts) s g = absurd s.0
  draw_typed width (meta k ∷ ts) s g = absurd s.0
  draw_typed width (applied d us ∷ ts) s g = absurd s.0

  module _ (ts : List Ty) (simple : AreSimple ts) where
    abbrev Fits : List Value → Type 0
    Fits vs = AreTyped th vs ts

    order_typed : (m : ℕ) → All Fits (in_order m (map is_truth ts))
    order_typed m =
        all_of_flat_map Fits (λ g. map (as_values (map is_truth ts)) (reaching g (map is_truth ts)))
        (λ g. All-map Fits (as_values (map is_truth ts)) (reaching g (map is_truth ts))
        (All-filter (λ ns. nat_eq (greatest ns) g) (λ ns. Fits (as_values (map is_truth ts) ns)) (assignments g (map is_truth ts))
        (All-weaker (λ ns. length ns ≡ length (map is_truth ts)) (λ ns. Fits (as_values (map is_truth ts) ns)) (values_typed ts simple)
        (assignments g (map is_truth ts)) (assignments_length g (map is_truth ts))))) (range_with_len 0 (m + 1))

    draws_typed : (tries width : ℕ) (g : Lcg) → All Fits (draws_from tries width (map is_truth ts) g)
    draws_typed zero width g = All-nil Fits
    draws_typed (suc tries) width g =
        All-cons Fits (draw width (map is_truth ts) g) (draws_from tries width (map is_truth ts) (after_draw (map is_truth ts) g))
        (draw_typed width ts simple g) (draws_typed tries width (after_draw (map is_truth ts) g))

  all_draws_typed : (ts : List Ty) → AreSimple ts → (tries width : ℕ) (g : Lcg) → All (λ vs. AreTyped th vs ts) (draws tries width (map is_truth ts) g)
  all_draws_typed [] s tries width g = All-nil (λ vs. AreTyped th vs [])
  all_draws_typed (t ∷ ts) s tries width g = draws_typed (t ∷ ts) s tries width g

pub data_fit : DataFit
data_fit th ts constraints s index vs e = (
  (found_passes (satisfies th constraints) (λ (ws : List Value). Unit {0}) (candidates (truths_of ts) s index) vs (λ k d l. tt) e).0,
  λ simple. (found_passes (satisfies th constraints) (λ ws. AreTyped th ws ts) (candidates (truths_of ts) s index) vs
      (All-append (λ ws. AreTyped th ws ts) (in_order (most_number (length (truths_of ts)) s.bound) (truths_of ts))
      (draws s.tries s.width (truths_of ts) (generator s.seed index))
      (order_typed th ts simple (most_number (length (truths_of ts)) s.bound))
      (all_draws_typed th ts simple s.tries s.width (generator s.seed index))) e).1,
)
