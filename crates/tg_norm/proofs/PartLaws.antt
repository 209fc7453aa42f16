-- The walks over arguments, one after the other.
use Rattle.std.proofs.Common.{ℕ, zero, suc, ◌≡◌, ◌<◌, ◌≤◌, ◌+◌, max, List, [], ◌∷◌, ◌++◌, length, get_or, take, drop, Some, refl, ap, sym, ◌∙◌, subst, arith, append_assoc, add-one}
use Rattle.std.proofs.lemmas.List.{append-nil}
use Rattle.std.proofs.lemmas.Option.{slice_get-get_or}
use Rattle.std.specs.Prelude.{slice_get}
use Rattle.tg_model.specs.Tree.{Tree}
use Rattle.tg_model.specs.Theory.{Theory}
use Rattle.tg_term.proofs.PartLaws.{drop_at, take_at}
use Rattle.tg_norm.specs.declared.walking.Run.{Run}
use Rattle.tg_norm.specs.Normal.{Walked, Parted, AllNorm, at_none, at_more, no_walks, joined, IsPassed}
use Rattle.tg_norm.specs.Walking.{IsWalked, AreWalked, ArePassed, AreReached, or_else}
use Rattle.tg_norm.proofs.OneWalk.{one_walk}

module _ (th : Theory) (levels : ℕ) where
  none_walked : (run : Run) → AreWalked th levels run run [] []
  none_walked run = record { walks = no_walks; are = at_none refl; same = refl; calls = omega arith; high = omega arith; steps = sym (append-nil run.steps.items) }

  more_walked : (b m e : Run) (t form : Tree) (ts forms : List Tree) → IsWalked th levels b m t form → AreWalked th levels m e ts forms
      → AreWalked th levels b e (t ∷ ts) (form ∷ forms)
  more_walked b m e t form ts forms w p = record {
    walks = joined w.walk p.walks;
    are = at_more w.walk p.walks w.is p.are refl;
    same = λ i. w.same i ∷ p.same i;
    calls = omega (arith, w.calls, p.calls);
    high = omega (arith, w.high, p.high);
    steps = p.steps ∙ ap (λ l. l ++ p.walks.steps) w.steps ∙ append_assoc b.steps.items w.walk.steps p.walks.steps;
  }

  first_passed : (left : ℕ) (t : Tree) (ts : List Tree) → IsPassed th left levels t → ArePassed th levels left (t ∷ ts)
  first_passed left t ts h = record { none = λ p a c. by p a c }
    where
      by : (p : Parted) → AllNorm th (t ∷ ts) p → p.cost ≤ left → ¬ (p.rise ≤ levels)
      by p (at_more w q n a e) c r =
          let k : p.cost ≡ w.cost + q.cost = ap (λ (x : Parted). x.cost) e in
          let l : p.rise ≡ max (suc w.rise) q.rise = ap (λ (x : Parted). x.rise) e in
          h.none w n (record { calls = omega (arith, c, k); high = omega (arith, r, l) })

  more_passed : (b m : Run) (t form : Tree) (ts : List Tree) → IsWalked th levels b m t form → ArePassed th levels m.left ts → ArePassed th levels b.left (t ∷ ts)
  more_passed b m t form ts v h = record { none = λ p a c. by p a c }
    where
      by : (p : Parted) → AllNorm th (t ∷ ts) p → p.cost ≤ b.left → ¬ (p.rise ≤ levels)
      by p (at_more w q n a e) c r =
          let k : p.cost ≡ w.cost + q.cost = ap (λ (x : Parted). x.cost) e in
          let l : p.rise ≡ max (suc w.rise) q.rise = ap (λ (x : Parted). x.rise) e in
          let s : v.walk.cost ≡ w.cost = ap (λ (x : Walked). x.cost) (one_walk th t v.walk w v.is n) in
          h.none q a (omega (arith, c, k, s, v.calls)) (omega (arith, r, l))

  pub reached_start : (run : Run) (ts : List Tree) → AreReached th levels run run ts 0 []
  reached_start run ts = record { on = λ end more h. h; back = λ h. h }

  reached_next : (b m a : Run) (ts : List Tree) (k : ℕ) (forms : List Tree) (t form : Tree) → slice_get ts k ≡ Some t → AreReached th levels b m ts k forms
      → IsWalked th levels m a t form → AreReached th levels b a ts (k + 1) (forms ++ form ∷ [])
  reached_next b m a ts k forms t form e h w = record {
    on = λ end more g. subst (λ (l : List Tree). AreWalked th levels b end ts l) (sym (append_assoc forms (form ∷ []) more))
        (h.on end (form ∷ more) (subst (λ (l : List Tree). AreWalked th levels m end l (form ∷ more)) (sym here)
        (more_walked m a end t form _ more w (subst (λ n. AreWalked th levels a end (drop n ts) more) (add-one k) g))));
    back = λ g. h.back (subst (λ (l : List Tree). ArePassed th levels m.left l) (sym here)
        (more_passed m a t form _ w (subst (λ n. ArePassed th levels a.left (drop n ts)) (add-one k) g)));
  }
    where
      here : drop k ts ≡ t ∷ drop (suc k) ts
      here = drop_at ts k t e

  -- the forms so far, as the code has them
  pub reached_more : (b m a : Run) (ts : List Tree) (k : ℕ) (us vs : List Tree) (t form : Tree) → slice_get ts k ≡ Some t
      → AreReached th levels b m ts k (or_else us (take k ts)) → IsWalked th levels m a t form
      → or_else vs (take k ts ++ t ∷ []) ≡ or_else us (take k ts) ++ form ∷ [] → AreReached th levels b a ts (k + 1) (or_else vs (take (k + 1) ts))
  reached_more b m a ts k us vs t form e h w f =
      let here : take (k + 1) ts ≡ take k ts ++ t ∷ [] = ap (λ n. take n ts) (add-one k) ∙ take_at ts k t e in
      subst (λ (l : List Tree). AreReached th levels b a ts (k + 1) l) (sym f ∙ ap (or_else vs) (sym here)) (reached_next b m a ts k _ t form e h w)

  none_left : (ts : List Tree) (k : ℕ) → length ts ≤ k → drop k ts ≡ []
  none_left [] zero h = refl
  none_left [] (suc k) h = refl
  none_left (t ∷ ts) zero h = absurd (omega (arith, h))
  none_left (t ∷ ts) (suc k) h = none_left ts k (omega (arith, h))

  all_taken : (ts : List Tree) (k : ℕ) → length ts ≤ k → take k ts ≡ ts
  all_taken [] zero h = refl
  all_taken [] (suc k) h = refl
  all_taken (t ∷ ts) zero h = absurd (omega (arith, h))
  all_taken (t ∷ ts) (suc k) h = ap (λ (l : List Tree). t ∷ l) (all_taken ts k (omega (arith, h)))

  pub reached_all : (b a : Run) (ts : List Tree) (k : ℕ) (us : List Tree) → length ts ≤ k → AreReached th levels b a ts k (or_else us (take k ts))
      → AreWalked th levels b a ts (or_else us ts)
  reached_all b a ts k us e h =
      subst (λ (l : List Tree). AreWalked th levels b a ts l) (append-nil (or_else us (take k ts)) ∙ ap (or_else us) (all_taken ts k e))
      (h.on a [] (subst (λ (l : List Tree). AreWalked th levels a a l []) (sym (none_left ts k e)) (none_walked a)))

  pub reached_passed : (b m : Run) (ts : List Tree) (k : ℕ) (forms : List Tree) (t : Tree) → slice_get ts k ≡ Some t → AreReached th levels b m ts k forms
      → IsPassed th m.left levels t → ArePassed th levels b.left ts
  reached_passed b m ts k forms t e h g =
      h.back (subst (λ (l : List Tree). ArePassed th levels m.left l) (sym (drop_at ts k t e)) (first_passed m.left t _ g))

-- at a place of the slice, as a loop over it reads it
read_at : (ts : List Tree) (k : ℕ) (t : Tree) → k < length ts → t ≡ get_or ts k t → slice_get ts k ≡ Some t
read_at ts k t h e = slice_get-get_or ts k t h ∙ ap Some (sym e)

module _ (th : Theory) (levels : ℕ) where
  pub read_more : (b m a : Run) (ts : List Tree) (k : ℕ) (us vs : List Tree) (t form : Tree) → k < length ts → t ≡ get_or ts k t
      → AreReached th levels b m ts k (or_else us (take k ts)) → IsWalked th levels m a t form
      → or_else vs (take k ts ++ t ∷ []) ≡ or_else us (take k ts) ++ form ∷ [] → AreReached th levels b a ts (k + 1) (or_else vs (take (k + 1) ts))
  read_more b m a ts k us vs t form h e = reached_more th levels b m a ts k us vs t form (read_at ts k t h e)

  pub read_passed : (b m : Run) (ts : List Tree) (k : ℕ) (forms : List Tree) (t : Tree) → k < length ts → t ≡ get_or ts k t
      → AreReached th levels b m ts k forms → IsPassed th m.left levels t → ArePassed th levels b.left ts
  read_passed b m ts k forms t h e = reached_passed th levels b m ts k forms t (read_at ts k t h e)

pub ruleset parts = (reached_start, read_more, reached_all, read_passed)
