-- The numbers of the rows in each group.
use Rattle.std.proofs.Common.{ℕ, zero, suc, ◌≡◌, ◌≢◌, ◌<◌, ◌≤◌, ◌+◌, List, [], ◌∷◌, length, None, refl, arith, inl, inr}
use Rattle.std.specs.Prelude.{slice_get}
use Rattle.std.proofs.lemmas.Bool.{cases_eq}
use Rattle.tg_model.specs.Theory.{Theory}
use Rattle.tg_model.specs.Tree.{Tree}
use Rattle.tg_rows.specs.Parts.{and_then}
use Rattle.tg_rows.specs.Rows.{Row, row, rows}

-- `s` is none of the `n` numbers from `k`
abbrev Avoids : ℕ → ℕ → ℕ → Type 0
Avoids k zero s = Unit {0}
Avoids k (suc n) s = (s ≢ k) × Avoids (suc k) n s

outside : (n k s : ℕ) → k ≤ s → s < k + n → Avoids k n s → ⊥
outside zero k s a b h = omega (arith, a, b)
outside (suc n) k s a b h = elim (cases_eq s k) [
  | inl e ↦ h.0 e
  | inr ne ↦ outside n (suc k) s (omega (arith, a)) (omega (arith, b)) h.1
]

not_past : (fs : List Row) (k : ℕ) (t : Tree) → length fs ≤ k → None ≡ and_then (slice_get fs k) (λ f. f t)
not_past [] k t h = refl
not_past (f ∷ fs) zero t h = absurd (omega (arith, h))
not_past (f ∷ fs) (suc k) t h = not_past fs k t (omega (arith, h))

past : (k : ℕ) → 49 ≤ suc k → 48 ≤ k
past k h = omega (arith, h)

pub row_past : (th : Theory) (s : ℕ) (t : Tree) → 49 ≤ s → None ≡ row th s t
row_past th zero t h = refl
row_past th (suc k) t h = not_past (rows th) k t (past k h)

pub none_of_truths : (th : Theory) (s : ℕ) (t : Tree) → s < 19 → s ≢ 1 → s ≢ 2 → s ≢ 3 → s ≢ 4 → s ≢ 5 → s ≢ 6 → s ≢ 7 → s ≢ 8 → s ≢ 9 → s ≢ 10 → s ≢ 11 → s ≢ 12 → s ≢ 13 → s ≢ 14 → s ≢ 15 → s ≢ 16 → s ≢ 17 → s ≢ 18 → None ≡ row th s t
none_of_truths th zero t b h1 h2 h3 h4 h5 h6 h7 h8 h9 h10 h11 h12 h13 h14 h15 h16 h17 h18 = refl
none_of_truths th (suc s) t b h1 h2 h3 h4 h5 h6 h7 h8 h9 h10 h11 h12 h13 h14 h15 h16 h17 h18 = absurd (outside 18 1 (suc s) (omega arith) (omega (arith, b)) (h1, (h2, (h3, (h4, (h5, (h6, (h7, (h8, (h9, (h10, (h11, (h12, (h13, (h14, (h15, (h16, (h17, (h18, tt)))))))))))))))))))

pub ruleset of_truths = (none_of_truths)

pub none_of_binders : (th : Theory) (s : ℕ) (t : Tree) → 19 ≤ s → s < 30 → s ≢ 19 → s ≢ 20 → s ≢ 21 → s ≢ 22 → s ≢ 23 → s ≢ 24 → s ≢ 25 → s ≢ 26 → s ≢ 27 → s ≢ 28 → s ≢ 29 → None ≡ row th s t
none_of_binders th s t a b h19 h20 h21 h22 h23 h24 h25 h26 h27 h28 h29 = absurd (outside 11 19 s a (omega (arith, b)) (h19, (h20, (h21, (h22, (h23, (h24, (h25, (h26, (h27, (h28, (h29, tt))))))))))))

pub ruleset of_binders = (none_of_binders)

pub none_of_equations : (th : Theory) (s : ℕ) (t : Tree) → 30 ≤ s → s < 39 → s ≢ 30 → s ≢ 31 → s ≢ 32 → s ≢ 33 → s ≢ 34 → s ≢ 35 → s ≢ 36 → s ≢ 37 → s ≢ 38 → None ≡ row th s t
none_of_equations th s t a b h30 h31 h32 h33 h34 h35 h36 h37 h38 = absurd (outside 9 30 s a (omega (arith, b)) (h30, (h31, (h32, (h33, (h34, (h35, (h36, (h37, (h38, tt))))))))))

pub ruleset of_equations = (none_of_equations)

pub none_of_numbers : (th : Theory) (s : ℕ) (t : Tree) → 39 ≤ s → s < 49 → s ≢ 39 → s ≢ 40 → s ≢ 41 → s ≢ 42 → s ≢ 43 → s ≢ 44 → s ≢ 45 → s ≢ 46 → s ≢ 47 → s ≢ 48 → None ≡ row th s t
none_of_numbers th s t a b h39 h40 h41 h42 h43 h44 h45 h46 h47 h48 = absurd (outside 10 39 s a (omega (arith, b)) (h39, (h40, (h41, (h42, (h43, (h44, (h45, (h46, (h47, (h48, tt)))))))))))

pub ruleset of_numbers = (none_of_numbers)
