-- The first schema that applies, as the code finds it: its number first, and then what it makes.
use Rattle.std.proofs.Common.{ℕ, suc, ◌≡◌, ◌<◌, ◌≤◌, ◌+◌, List, [], ◌∷◌, ◌++◌, Option, Some, None, refl, ap, sym, ◌∙◌, subst, arith}
use Rattle.std.specs.Prelude.{slice_get, option_map, IsSome}
use Rattle.tg_model.specs.Tree.{Tree}
use Rattle.tg_model.specs.Theory.{Theory}
use Rattle.tg_term.specs.Measures.{nodes, counted}
use Rattle.tg_rows.specs.Parts.{and_then}
use Rattle.tg_rows.specs.Rows.{Row, rows, row, first, first_of, first_from}
use Rattle.tg_norm.specs.Normal.{most_nodes, step_of}
use Rattle.tg_norm.specs.declared.walking.Run.{Run}
use Rattle.tg_norm.proofs.OneWalk.{same_number, same_result}
use Rattle.tg_norm.specs.Walking.{IsRooted, IsUnrooted, IsTooLarge}

abbrev at : List Row → ℕ → Tree → Option Tree
at fs k t = and_then (slice_get fs k) (λ (f : Row). f t)

abbrev Found : List Row → ℕ → Tree → ℕ → Tree → Type 0
Found fs b t s u = (k : ℕ) × (s ≡ b + k) × (at fs k t ≡ Some u)

found_first : (f : Row) (fs : List Row) (b : ℕ) (t : Tree) (s : ℕ) (u v : Tree) → f t ≡ Some v → ◌≡◌ {A = Option (ℕ × Tree)} (Some (b, v)) (Some (s, u)) → Found (f ∷ fs) b t s u
found_first f fs b t s u v q r = (0, omega (arith, same_number b s v u r), q ∙ ap Some (same_result b s v u r))

found_later : (f : Row) (fs : List Row) (b : ℕ) (t : Tree) (s : ℕ) (u : Tree) → Found fs (suc b) t s u → Found (f ∷ fs) b t s u
found_later f fs b t s u (k, i, j) = (suc k, omega (arith, i), j)

found_by : (f : Row) (fs : List Row) (b : ℕ) (t : Tree) (s : ℕ) (u : Tree) (o : Option Tree) → f t ≡ o
    → ◌≡◌ {A = Option (ℕ × Tree)} (first_from b o (first_of (suc b) fs t)) (Some (s, u)) → (first_of (suc b) fs t ≡ Some (s, u) → Found fs (suc b) t s u) → Found (f ∷ fs) b t s u
found_by f fs b t s u (Some v) q e more = found_first f fs b t s u v q e
found_by f fs b t s u None q e more = found_later f fs b t s u (more e)

found_at : (fs : List Row) (b : ℕ) (t : Tree) (s : ℕ) (u : Tree) → first_of b fs t ≡ Some (s, u) → Found fs b t s u
found_at [] b t s u e = absurd (cc e)
found_at (f ∷ fs) b t s u e = found_by f fs b t s u (f t) refl e (λ r. found_at fs (suc b) t s u r)

pub first_row : (th : Theory) (t : Tree) (s : ℕ) (u : Tree) → first th t ≡ Some (s, u) → row th s t ≡ Some u
first_row th t s u e =
    let f = found_at (rows th) 1 t s u e in
    let i : s ≡ suc f.0 = omega (arith, f.1) in
    subst (λ (n : ℕ). row th n t ≡ Some u) (sym i) f.2

-- the number that was found
by_number : (th : Theory) (t : Tree) (s : ℕ) → Some s ≡ option_map (λ (p : ℕ × Tree). p.0) (first th t) → (u : Tree) × (first th t ≡ Some (s, u))
by_number th t s e = by (first th t) refl
  where
    by : (o : Option (ℕ × Tree)) → first th t ≡ o → (u : Tree) × (first th t ≡ Some (s, u))
    by None q = absurd (cc (e ∙ ap (option_map (λ (p : ℕ × Tree). p.0)) q))
    by (Some (n, u)) q =
        let r : Some s ≡ Some n = e ∙ ap (option_map (λ (p : ℕ × Tree). p.0)) q in
        let i : n ≡ s = cc in (u, q ∙ ap (λ k. Some (k, u)) i)

pub first_none : (th : Theory) (t : Tree) → None ≡ option_map (λ (p : ℕ × Tree). p.0) (first th t) → first th t ≡ None
first_none th t e = by (first th t) refl
  where
    by : (o : Option (ℕ × Tree)) → first th t ≡ o → first th t ≡ None
    by None q = q
    by (Some p) q = absurd (cc (e ∙ ap (option_map (λ (p : ℕ × Tree). p.0)) q))

pub first_makes : (th : Theory) (t : Tree) (s : ℕ) (o : Option Tree) → Some s ≡ option_map (λ (p : ℕ × Tree). p.0) (first th t) → o ≡ row th s t → IsSome o
first_makes th t s (Some u) e f = refl
first_makes th t s None e f = let (u, g) = by_number th t s e in absurd (cc (f ∙ first_row th t s u g))

pub first_after : (th : Theory) (t : Tree) (s : ℕ) (u : Tree) → Some s ≡ option_map (λ (p : ℕ × Tree). p.0) (first th t) → Some u ≡ row th s t
    → first th t ≡ Some (s, u)
first_after th t s u e f =
    let (v, g) = by_number th t s e in
    let r : Some u ≡ Some v = f ∙ first_row th t s v g in
    let i : v ≡ u = cc in g ∙ ap (λ x. Some (s, x)) i

pub large : (m n : ℕ) → m ≡ counted n → most_nodes < m → ¬ (n ≤ most_nodes)
large m n e h k = omega (arith, e, h, k)

pub small : (m n : ℕ) → m ≡ counted n → m ≤ most_nodes → n ≤ most_nodes
small m n e h = omega (arith, e, h)

pub too_large_itself : (th : Theory) (t : Tree) (m : ℕ) → None ≡ option_map (λ (p : ℕ × Tree). p.0) (first th t) → m ≡ counted (nodes t) → most_nodes < m → IsTooLarge th t
too_large_itself th t m e n h = record {
  none = λ _. large m (nodes t) n h;
  some = λ s u f. let z : ◌≡◌ {A = Option (ℕ × Tree)} (Some (s, u)) None = sym f ∙ first_none th t e in absurd (cc z);
}

pub too_large_after : (th : Theory) (t : Tree) (s : ℕ) (u : Tree) (m : ℕ) → Some s ≡ option_map (λ (p : ℕ × Tree). p.0) (first th t) → Some u ≡ row th s t
    → m ≡ counted (nodes u) → most_nodes < m → IsTooLarge th t
too_large_after th t s u m e f n h =
    let g = first_after th t s u e f in
    record {
      none = λ none. let z : ◌≡◌ {A = Option (ℕ × Tree)} (Some (s, u)) None = sym g ∙ none in absurd (cc z);
      some = λ k v same.
          subst (λ (x : Tree). ¬ (nodes x ≤ most_nodes)) (same_result s k u v (sym g ∙ same)) (large m (nodes u) n h);
    }

pub unrooted : (th : Theory) (run : Run) (t : Tree) (m : ℕ) → None ≡ option_map (λ (p : ℕ × Tree). p.0) (first th t) → m ≡ counted (nodes t) → m ≤ most_nodes
    → IsUnrooted th run run t
unrooted th run t m e n h = record { first = first_none th t e; small = small m (nodes t) n h; same = refl }

pub rooted : (th : Theory) (before after : Run) (t : Tree) (s : ℕ) (u : Tree) (m : ℕ) → Some s ≡ option_map (λ (p : ℕ × Tree). p.0) (first th t) → Some u ≡ row th s t
    → m ≡ counted (nodes u) → m ≤ most_nodes → after.left ≡ before.left → after.steps.items ≡ before.steps.items ++ step_of s t u ∷ []
    → IsRooted th before after t s u
rooted th before after t s u m e f n h l g =
    record { first = first_after th t s u e f; small = small m (nodes u) n h; left = l; steps = g }

pub ruleset roots = (first_none, first_makes, first_after, too_large_itself, too_large_after, unrooted, rooted)
