-- One call of a walk, and calls one after the other on a level.
use Rattle.std.proofs.Common.{ℕ, suc, ◌≡◌, ◌<◌, ◌≤◌, ◌+◌, ◌-◌, max, true, false, List, [], ◌∷◌, ◌++◌, length, Some, None, refl, ap, sym, ◌∙◌, subst, arith, append_assoc}
use Rattle.std.proofs.lemmas.List.{append-nil}
use Rattle.tg_model.specs.Tree.{Tree}
use Rattle.tg_model.specs.Theory.{Theory}
use Rattle.tg_term.specs.Measures.{nodes}
use Rattle.tg_rows.specs.Rows.{first}
use Rattle.tg_norm.specs.declared.walking.Run.{Run}
use Rattle.tg_norm.specs.Normal.{Walked, Parted, Norm, at_leaf, at_end, at_step, AllNorm, at_none, at_more, leaf_walk, ended, stepped, step_of, rebuilt, arguments, is_leaf, IsWithin, IsPassed, most_nodes}
use Rattle.tg_norm.specs.Walking.{IsCounted, IsWalked, AreWalked, ArePassed, IsReached, IsRooted, IsUnrooted, IsTooLarge}
use Rattle.tg_norm.proofs.OneWalk.{one_parted, same_result}

-- there are as many forms as arguments
pub same_length : (th : Theory) (ts : List Tree) (p : Parted) → AllNorm th ts p → length p.forms ≡ length ts
same_length th [] p (at_none e) = ap (λ (x : Parted). length x.forms) e
same_length th (t ∷ ts) p (at_more w q n a e) = ap (λ (x : Parted). length x.forms) e ∙ ap suc (same_length th ts q a)

pub forms_length : (th : Theory) (levels : ℕ) (b a : Run) (ts forms : List Tree) → AreWalked th levels b a ts forms → length forms ≡ length ts
forms_length th levels b a ts forms h = ap length h.same ∙ same_length th ts h.walks h.are

module _ (th : Theory) where
  some_cost : (t : Tree) (w : Walked) → Norm th t w → 0 < w.cost
  some_cost t w (at_leaf l e) = let k : w.cost ≡ 1 = ap (λ (x : Walked). x.cost) e in omega (arith, k)
  some_cost t w (at_end p l a f n e) = let k : w.cost ≡ suc p.cost = ap (λ (x : Walked). x.cost) e in omega (arith, k)
  some_cost t w (at_step p s u r l a f n k e) = let k : w.cost ≡ suc (p.cost + r.cost) = ap (λ (x : Walked). x.cost) e in omega (arith, k)

  pub no_calls : (left levels : ℕ) (t : Tree) → left ≡ 0 → IsPassed th left levels t
  no_calls left levels t e = record { none = λ w n h. omega (arith, some_cost t w n, h.calls, e) }

  pub no_levels : (left levels : ℕ) (t : Tree) → levels ≡ 0 → IsPassed th left levels t
  no_levels left levels t e = record { none = λ w n h. omega (arith, h.high, e) }

  module _ (levels : ℕ) (b s : Run) (t : Tree) (counted : IsCounted b s) where
    pub leaf_turn : is_leaf t ≡ true → 0 < levels → IsWalked th levels b s t t
    leaf_turn l h = record {
      walk = leaf_walk t;
      is = at_leaf l refl;
      same = refl;
      calls = omega (arith, counted.left);
      high = omega (arith, h);
      steps = counted.steps ∙ sym (append-nil b.steps.items);
    }

    pub passed_turn : is_leaf t ≡ false → ArePassed th (levels - 1) s.left (arguments t) → IsPassed th b.left levels t
    passed_turn l h = record { none = λ w n k. by w n k }
      where
        by : (w : Walked) → Norm th t w → ¬ (IsWithin b.left levels w)
        by w (at_leaf l' e) k = absurd (cc (sym l' ∙ l))
        by w (at_end p l' a f n e) k =
            let c : w.cost ≡ suc p.cost = ap (λ (x : Walked). x.cost) e in
            let r : w.rise ≡ p.rise = ap (λ (x : Walked). x.rise) e in
            h.none p a (omega (arith, c, k.calls, counted.left)) (omega (arith, r, k.high))
        by w (at_step p i u v l' a f n g e) k =
            let c : w.cost ≡ suc (p.cost + v.cost) = ap (λ (x : Walked). x.cost) e in
            let r : w.rise ≡ max p.rise v.rise = ap (λ (x : Walked). x.rise) e in
            h.none p a (omega (arith, c, k.calls, counted.left)) (omega (arith, r, k.high))

    -- where the walks over the arguments are done
    module _ (m : Run) (whole : Tree) (forms : List Tree) (leaf : is_leaf t ≡ false) (above : 0 < levels)
        (args : AreWalked th (levels - 1) s m (arguments t) forms) (is : whole ≡ rebuilt t forms) where
      at_forms : whole ≡ rebuilt t args.walks.forms
      at_forms = is ∙ ap (rebuilt t) args.same

      here : (p : Parted) → AllNorm th (arguments t) p → whole ≡ rebuilt t p.forms
      here p a = at_forms ∙ ap (λ (x : Parted). rebuilt t x.forms) (one_parted th (arguments t) args.walks p args.are a)

      pub ended_turn : (e : Run) → IsUnrooted th m e whole → IsWalked th levels b e t whole
      ended_turn e h = record {
        walk = ended t args.walks;
        is = at_end args.walks leaf args.are (subst (λ (x : Tree). first th x ≡ None) at_forms h.first) (subst (λ (x : Tree). nodes x ≤ most_nodes) at_forms h.small) refl;
        same = at_forms;
        calls = let k : e.left ≡ m.left = ap (λ (x : Run). x.left) h.same in omega (arith, counted.left, args.calls, k);
        high = omega (arith, args.high, above);
        steps = ap (λ (x : Run). x.steps.items) h.same ∙ args.steps ∙ ap (λ l. l ++ args.walks.steps) counted.steps;
      }

      pub stepped_turn : (e : Run) (i : ℕ) (u : Tree) → IsRooted th m e whole i u → IsReached th levels b e t u
      stepped_turn e i u h = record { on = λ end form w. on end form w; back = λ k. record { none = λ w n l. back k w n l } }
        where
          on : (end : Run) (form : Tree) → IsWalked th levels e end u form → IsWalked th levels b end t form
          on end form w = record {
            walk = stepped t args.walks i u w.walk;
            is = at_step args.walks i u w.walk leaf args.are (subst (λ (x : Tree). first th x ≡ Some (i, u)) at_forms h.first) h.small w.is refl;
            same = w.same;
            calls = omega (arith, counted.left, args.calls, h.left, w.calls);
            high = omega (arith, args.high, above, w.high);
            steps =
                w.steps ∙ ap (λ l. l ++ w.walk.steps) (h.steps ∙ (λ j. (args.steps ∙ ap (λ l. l ++ args.walks.steps) counted.steps) j ++ step_of i (at_forms j) u ∷ []))
                ∙ append_assoc (b.steps.items ++ args.walks.steps) (step_of i (rebuilt t args.walks.forms) u ∷ []) w.walk.steps
                ∙ append_assoc b.steps.items args.walks.steps (step_of i (rebuilt t args.walks.forms) u ∷ w.walk.steps);
          }

          back : IsPassed th e.left levels u → (w : Walked) → Norm th t w → ¬ (IsWithin b.left levels w)
          back k w (at_leaf l' g) q = absurd (cc (sym l' ∙ leaf))
          back k w (at_end p l' a f n g) q = absurd (cc (sym h.first ∙ ap (first th) (here p a) ∙ f))
          back k w (at_step p j v r l' a f n g y) q =
              let to : u ≡ v = same_result i j u v (sym h.first ∙ ap (first th) (here p a) ∙ f) in
              let c : w.cost ≡ suc (p.cost + r.cost) = ap (λ (x : Walked). x.cost) y in
              let d : w.rise ≡ max p.rise r.rise = ap (λ (x : Walked). x.rise) y in
              let one : args.walks.cost ≡ p.cost = ap (λ (x : Parted). x.cost) (one_parted th (arguments t) args.walks p args.are a) in
              k.none r (subst (λ (x : Tree). Norm th x r) (sym to) g)
              (record { calls = omega (arith, c, q.calls, counted.left, args.calls, h.left, one); high = omega (arith, d, q.high) })

      pub large_turn : IsTooLarge th whole → IsPassed th b.left levels t
      large_turn h = record { none = λ w n k. by w n }
        where
          by : (w : Walked) → ¬ (Norm th t w)
          by w (at_leaf l' g) = absurd (cc (sym l' ∙ leaf))
          by w (at_end p l' a f n g) = h.none (ap (first th) (here p a) ∙ f) (subst (λ (x : Tree). nodes x ≤ most_nodes) (sym (here p a)) n)
          by w (at_step p j v r l' a f n g y) = h.some j v (ap (first th) (here p a) ∙ f) n

module _ (th : Theory) (levels : ℕ) where
  pub reached_walked : (b m e : Run) (t u form : Tree) → IsReached th levels b m t u → IsWalked th levels m e u form → IsWalked th levels b e t form
  reached_walked b m e t u form h w = h.on e form w

  pub reached_passed : (b m : Run) (t u : Tree) → IsReached th levels b m t u → IsPassed th m.left levels u → IsPassed th b.left levels t
  reached_passed b m t u h p = h.back p

  pub reached_itself : (b : Run) (t : Tree) → IsReached th levels b b t t
  reached_itself b t = record { on = λ end form w. w; back = λ p. p }

  pub reached_on : (b m e : Run) (t u v : Tree) → IsReached th levels b m t u → IsReached th levels m e u v → IsReached th levels b e t v
  reached_on b m e t u v h k = record { on = λ end form w. h.on end form (k.on end form w); back = λ p. h.back (k.back p) }

pub ruleset walks = (no_levels, reached_walked, reached_passed, reached_itself, reached_on)

pub ruleset turns = (no_calls, leaf_turn, passed_turn, ended_turn, stepped_turn, large_turn, forms_length)
