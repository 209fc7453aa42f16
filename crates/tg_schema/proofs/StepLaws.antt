-- Steps, and the first row that applies. The rows don't depend on the name of a theory.
use Rattle.std.proofs.Common.{ℕ, zero, suc, ◌≡◌, ◌<◌, ◌+◌, true, false, List, [], ◌∷◌, length, Option, Some, None, refl, ap, sym, ◌∙◌, arith, subst, inl, inr, ◌≤◌}
use Rattle.std.proofs.lemmas.Bool.{cases_lt}
use Rattle.std.specs.Prelude.{slice_get, option_map}
use Rattle.tg_accept.specs.Declared.{Declared, theory}
use Rattle.tg_model.specs.Accepted.{IsAccepted}
use Rattle.tg_model.specs.Theory.{Theory}
use Rattle.tg_model.specs.Tree.{Tree}
use Rattle.tg_rows.specs.Parts.{and_then}
use Rattle.tg_rows.specs.Rows.{Row, rows, row, first, first_of, first_from}
use Rattle.tg_rows.proofs.AllRows.{rows_keep}
use Rattle.tg_rows.proofs.RowInputs.{rows_keep_inputs}
use Rattle.std.specs.Option.{is_some}
use Rattle.tg_schema.specs.Spans.{IsSpan}
use Rattle.tg_schema.specs.Steps.{IsStep}
use Rattle.tg_schema.specs.Found.{term_of}
use Rattle.tg_schema.specs.declared.found.Found.{Found}

pub rows_unnamed : (x : List ℕ) (D : Declared) → rows (theory [] D) ≡ rows (theory x D)
rows_unnamed x D = refl

row_named : (th : Theory) (D : Declared) (s : ℕ) (t : Tree) → theory th.name D ≡ th → row (theory [] D) s t ≡ row th s t
row_named th D s t e = ap (λ (y : Theory). row y s t) e

step_at : (th : Theory) → IsAccepted th → (s : ℕ) (t : Tree) (o : Option Tree) → o ≡ row th s t → IsStep th s t o
step_at th ok s t o e = record {
  is = e;
  kept = λ u p n a k. rows_keep th ok.well_typed n s t u a (sym e ∙ p) k;
  inputs = λ u p tb env d k. rows_keep_inputs th ok tb env d s t u (sym e ∙ p) k;
}

pub step_is : (th : Theory) (D : Declared) (s : ℕ) (t : Tree) (o : Option Tree) → IsAccepted th → theory th.name D ≡ th → o ≡ row (theory [] D) s t → IsStep th s t o
step_is th D s t o ok n e = step_at th ok s t o (e ∙ row_named th D s t n)

pub step_some : (th : Theory) (D : Declared) (s : ℕ) (t u v : Tree) → IsAccepted th → theory th.name D ≡ th → Some v ≡ row (theory [] D) s t → u ≡ v → IsStep th s t (Some u)
step_some th D s t u v ok n e p = step_is th D s t (Some u) ok n (ap Some p ∙ e)

pub ruleset steps = (step_is, step_some)

-- none of the rows below number `s` applies
abbrev pub NoneBelow : Theory → ℕ → Tree → Type 0
NoneBelow th s t = (k : ℕ) → k < s → None ≡ row th k t

abbrev number_of_first : Option (ℕ × Tree) → Option ℕ
number_of_first o = option_map (λ (p : ℕ × Tree). p.0) o

found_in : (fs : List Row) (b s i : ℕ) (t u : Tree) → s ≡ b + i → ((k : ℕ) → k < i → None ≡ and_then (slice_get fs k) (λ (f : Row). f t))
    → Some u ≡ and_then (slice_get fs i) (λ (f : Row). f t) → Some s ≡ number_of_first (first_of b fs t)
found_in [] b s i t u n h e = cc e
found_in (f ∷ fs) b s zero t u n h e =
    ap Some (let p : s ≡ b = omega (arith, n) in p) ∙ ap (λ o. number_of_first (first_from b o (first_of (suc b) fs t))) e
found_in (f ∷ fs) b s (suc i) t u n h e =
    found_in fs (suc b) s i t u (omega (arith, n)) (λ k lt. h (suc k) (omega (arith, lt))) e
    ∙ ap (λ o. number_of_first (first_from b o (first_of (suc b) fs t))) (h 0 (omega arith))

none_in : (fs : List Row) (b : ℕ) (t : Tree) → ((k : ℕ) → k < length fs → None ≡ and_then (slice_get fs k) (λ (f : Row). f t)) → None ≡ number_of_first (first_of b fs t)
none_in [] b t h = refl
none_in (f ∷ fs) b t h =
    none_in fs (suc b) t (λ k lt. h (suc k) (omega (arith, lt)))
    ∙ ap (λ o. number_of_first (first_from b o (first_of (suc b) fs t))) (h 0 (omega arith))

pub first_found : (th : Theory) (s : ℕ) (t u : Tree) → NoneBelow th s t → Some u ≡ row th s t → Some s ≡ number_of_first (first th t)
first_found th zero t u h e = cc e
first_found th (suc i) t u h e = found_in (rows th) 1 (suc i) i t u (omega arith) (λ k lt. h (suc k) (omega (arith, lt))) e

pub first_none : (th : Theory) (low high s : ℕ) (t : Tree) → IsSpan th t low high → NoneBelow th s t → high ≤ s → None ≡ number_of_first (first th t)
first_none th low high s t k h e = none_in (rows th) 1 t (λ i lt. by (suc i))
  where
    by : (i : ℕ) → None ≡ row th i t
    by i = elim (cases_lt i s) [
      | inl l ↦ h i l
      | inr le ↦ sym (k.above i (omega (arith, e, le)))
    ]

pub none_below_first : (th : Theory) (low high : ℕ) (t : Tree) → IsSpan th t low high → NoneBelow th low t
none_below_first th low high t k i lt = sym (k.below i lt)

pub none_below_next : (th : Theory) (s : ℕ) (t : Tree) → NoneBelow th s t → None ≡ row th s t → NoneBelow th (s + 1) t
none_below_next th s t h e k lt = elim (cases_lt k s) [
  | inl l ↦ h k l
  | inr le ↦ let p : s ≡ k = omega (arith, lt, le) in subst (λ n. None ≡ row th n t) p e
]

pub first_named : (th : Theory) (D : Declared) (t : Tree) → theory th.name D ≡ th → number_of_first (first (theory [] D) t) ≡ number_of_first (first th t)
first_named th D t e = ap (λ (y : Theory). number_of_first (first y t)) e

pub found_if : (th : Theory) (s : ℕ) (t : Tree) (r : Option Found) → NoneBelow th s t → option_map term_of r ≡ row th s t → is_some r ≡ true
    → Some s ≡ number_of_first (first th t)
found_if th s t None h e k = cc k
found_if th s t (Some r) h e k = first_found th s t (term_of r) h e

pub none_if : (th : Theory) (s : ℕ) (t : Tree) (r : Option Found) → option_map term_of r ≡ row th s t → is_some r ≡ false → None ≡ row th s t
none_if th s t None e k = e
none_if th s t (Some r) e k = cc k
