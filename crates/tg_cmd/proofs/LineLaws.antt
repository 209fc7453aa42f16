-- The lines of a report, one behind another.
use Rattle.std.proofs.Common.{ℕ, zero, suc, ◌≡◌, ◌+◌, ◌≤◌, Bool, true, false, nat_eq, List, [], ◌∷◌, ◌++◌, map, take, drop, Option, Some, None, refl, sym, ap, ◌∙◌, arith, add-one, append_assoc, append-nil}
use Rattle.std.specs.Prelude.{slice_get, if◌then◌else◌}
use Rattle.tg_model.specs.Theory.{Theory}
use Rattle.tg_term.specs.declared.classes.Class as code_class
use Rattle.tg_types.specs.declared.verdicts.Verdict.{Verdict}
use Rattle.tg_hyps.specs.Hypotheses.{seen}
use Rattle.tg_derive.specs.Answers.{choice_of, hypothesis}
use Rattle.tg_derive.specs.Theorem.{Choice}
use Rattle.tg_derive.specs.declared.theorems.Choice as code_choice
use Rattle.tg_derive.specs.declared.theorems.Hypothesis as code_hypothesis
use Rattle.tg_render.specs.Render.{written_line, written_lines}
use Rattle.tg_render.proofs.Writing.{written-append, lines-append}
use Rattle.tg_cmd.specs.Lines.{lines_of, classes_from, hypothesis_line, hypothesis_lines, tested_count, open_count, number_of, once, count_of}

module _ (th : Theory) where
  rest_at : (vs : List Verdict) (i : ℕ) → slice_get (drop 1 vs) i ≡ slice_get vs (suc i)
  rest_at [] i = refl
  rest_at (v ∷ vs) i = refl

  next_from : (n : ℕ) (cs : List code_class.Class) (xs : List code_choice.Choice) (vs : List Verdict) (i : ℕ) (c : code_class.Class) (x : code_choice.Choice)
      → slice_get cs i ≡ Some c → slice_get xs i ≡ Some x
      → classes_from th n (map seen (take (suc i) cs)) (map choice_of (take (suc i) xs)) vs
      ≡ classes_from th n (map seen (take i cs)) (map choice_of (take i xs)) vs ++ lines_of th (n + i) (seen c) (choice_of x) (slice_get vs i)
  next_from n [] xs vs i c x e f = absurd cc
  next_from n (d ∷ cs) [] vs i c x e f = absurd cc
  next_from n (d ∷ cs) (y ∷ xs) vs zero c x e f =
      let p : d ≡ c = cc e in
      let q : y ≡ x = cc f in
      let z : n ≡ n + 0 = omega arith in
      append-nil (lines_of th n (seen d) (choice_of y) (slice_get vs 0)) ∙ (λ k. lines_of th (z k) (seen (p k)) (choice_of (q k)) (slice_get vs 0))
  next_from n (d ∷ cs) (y ∷ xs) vs (suc i) c x e f =
      let z : suc n + i ≡ n + suc i = omega arith in
      let front = lines_of th n (seen d) (choice_of y) (slice_get vs 0) in
      let middle = classes_from th (suc n) (map seen (take i cs)) (map choice_of (take i xs)) (drop 1 vs) in
      ap (λ l. front ++ l)
      (next_from (suc n) cs xs (drop 1 vs) i c x e f ∙ (λ k. middle ++ lines_of th (z k) (seen c) (choice_of x) (rest_at vs i k)))
      ∙ sym (append_assoc front middle (lines_of th (n + suc i) (seen c) (choice_of x) (slice_get vs (suc i))))

  pub class_next : (cs : List code_class.Class) (xs : List code_choice.Choice) (vs : List Verdict) (i number : ℕ) (c : code_class.Class) (x : code_choice.Choice)
      (v : Option Verdict) (out before after : List ℕ) → slice_get cs i ≡ Some c → slice_get xs i ≡ Some x → number ≡ i + 1 → v ≡ slice_get vs i
      → before ≡ written_lines out (classes_from th 1 (map seen (take i cs)) (map choice_of (take i xs)) vs)
      → after ≡ written_lines before (lines_of th number (seen c) (choice_of x) v)
      → after ≡ written_lines out (classes_from th 1 (map seen (take (i + 1) cs)) (map choice_of (take (i + 1) xs)) vs)
  class_next cs xs vs i number c x v out before after e f m g h w =
      let z : number ≡ 1 + i = omega (arith, m) in
      let front = classes_from th 1 (map seen (take i cs)) (map choice_of (take i xs)) vs in
      w ∙ (λ k. written_lines (h k) (lines_of th (z k) (seen c) (choice_of x) (g k)))
      ∙ sym (lines-append out front (lines_of th (1 + i) (seen c) (choice_of x) (slice_get vs i)))
      ∙ ap (written_lines out) (sym (next_from 1 cs xs vs i c x e f))
      ∙ ap (λ m. written_lines out (classes_from th 1 (map seen (take m cs)) (map choice_of (take m xs)) vs)) (sym (add-one i))

  next_line : (hs : List code_hypothesis.Hypothesis) (i : ℕ) (h : code_hypothesis.Hypothesis) → slice_get hs i ≡ Some h
      → hypothesis_lines th (map hypothesis (take (suc i) hs)) ≡ hypothesis_lines th (map hypothesis (take i hs)) ++ hypothesis_line th (hypothesis h) ∷ []
  next_line [] i h e = absurd cc
  next_line (g ∷ hs) zero h e = let p : g ≡ h = cc e in ap (λ x. hypothesis_line th (hypothesis x) ∷ []) p
  next_line (g ∷ hs) (suc i) h e = ap (λ l. hypothesis_line th (hypothesis g) ∷ l) (next_line hs i h e)

  pub hypothesis_next : (hs : List code_hypothesis.Hypothesis) (i : ℕ) (h : code_hypothesis.Hypothesis) (out vs ws : List ℕ) → slice_get hs i ≡ Some h
      → vs ≡ written_lines out (hypothesis_lines th (map hypothesis (take i hs)))
      → ws ≡ written_line vs (hypothesis_line th (hypothesis h))
      → ws ≡ written_lines out (hypothesis_lines th (map hypothesis (take (i + 1) hs)))
  hypothesis_next hs i h out vs ws e v w =
      let before = hypothesis_lines th (map hypothesis (take i hs)) in
      let line = hypothesis_line th (hypothesis h) in
      w ∙ ap (λ o. written_lines o (line ∷ [])) v ∙ sym (lines-append out before (line ∷ []))
      ∙ ap (written_lines out) (sym (next_line hs i h e))
      ∙ ap (λ m. written_lines out (hypothesis_lines th (map hypothesis (take m hs)))) (sym (add-one i))

pub ruleset writing = (written-append, lines-append)

-- ---- counting

-- with one choice more
abbrev counts : (xs : List code_choice.Choice) (i : ℕ) (x : Choice) → Type 0
counts xs i x =
    (tested_count (map choice_of (take (suc i) xs)) ≡ tested_count (x ∷ []) + tested_count (map choice_of (take i xs)))
    × (open_count (map choice_of (take (suc i) xs)) ≡ open_count (x ∷ []) + open_count (map choice_of (take i xs)))

count_next : (xs : List code_choice.Choice) (i : ℕ) (x : code_choice.Choice) → slice_get xs i ≡ Some x → counts xs i (choice_of x)
count_next [] i x e = absurd cc
count_next (y ∷ xs) zero x e = let p : y ≡ x = cc e in by (choice_of y) (choice_of x) (ap choice_of p)
  where
    by : (u v : Choice) → u ≡ v
        → (tested_count (u ∷ []) ≡ tested_count (v ∷ []) + 0) × (open_count (u ∷ []) ≡ open_count (v ∷ []) + 0)
    by u v e = (ap (λ w. tested_count (w ∷ [])) e ∙ omega arith, ap (λ w. open_count (w ∷ [])) e ∙ omega arith)
count_next (y ∷ xs) (suc i) x e = by (choice_of y) (count_next xs i x e)
  where
    by : (u : Choice) → counts xs i (choice_of x)
        → (tested_count (u ∷ map choice_of (take (suc i) xs)) ≡ tested_count (choice_of x ∷ []) + tested_count (u ∷ map choice_of (take i xs)))
        × (open_count (u ∷ map choice_of (take (suc i) xs)) ≡ open_count (choice_of x ∷ []) + open_count (u ∷ map choice_of (take i xs)))
    by None h = (h.0, ap suc h.1 ∙ omega arith)
    by (Some vs) h = (ap suc h.0 ∙ omega arith, h.1)

-- the counts with one choice more
pub counted_next : (xs : List code_choice.Choice) (i : ℕ) (x : code_choice.Choice) (n m : ℕ) → slice_get xs i ≡ Some x
    → (n ≡ tested_count (map choice_of (take i xs))) × (n + open_count (map choice_of (take i xs)) ≡ i)
    → m ≡ tested_count (choice_of x ∷ []) → m + open_count (choice_of x ∷ []) ≡ 1
    → (n + m ≡ tested_count (map choice_of (take (i + 1) xs))) × (n + m + open_count (map choice_of (take (i + 1) xs)) ≡ i + 1)
counted_next xs i x n m e so_far f g =
    let more = count_next xs i x e in
    let same = ap (λ k. map choice_of (take k xs)) (add-one i) in (
      omega (arith, so_far.0, f, more.0) ∙ sym (ap tested_count same),
      ap (λ l. n + m + open_count l) same ∙ omega (arith, so_far.1, g, more.1),
    )

-- ---- verdicts

pub verdicts_more : (w : Verdict) (vs : List Verdict) (i : ℕ) (v : Verdict) → slice_get vs i ≡ Some v
    → count_of w (take (suc i) vs) ≡ count_of w (take i vs) + once w v
verdicts_more w [] i v e = absurd cc
verdicts_more w (u ∷ vs) zero v e = let p : u ≡ v = cc e in ap (λ x. once w x + 0) p ∙ omega arith
verdicts_more w (u ∷ vs) (suc i) v e = ap (λ n. once w u + n) (verdicts_more w vs i v e) ∙ omega arith

-- none is counted twice
pub at_most_once : (w v : Verdict) → once w v ≤ 1
at_most_once w v = by (nat_eq (number_of v) (number_of w))
  where
    by : (b : Bool) → (if b then 1 else 0) ≤ 1
    by true = omega arith
    by false = omega arith

-- the count with one verdict more, which is within the places so far
pub counted_verdict : (w : Verdict) (vs : List Verdict) (i : ℕ) (v : Verdict) (n m : ℕ) → slice_get vs i ≡ Some v
    → (n ≡ count_of w (take i vs)) × (n ≤ i) → m ≡ once w v → (n + m ≡ count_of w (take (i + 1) vs)) × (n + m ≤ i + 1)
counted_verdict w vs i v n m e so_far f =
    let more = verdicts_more w vs i v e in
    let low = at_most_once w v in
    (omega (arith, so_far.0, f, more) ∙ ap (λ k. count_of w (take k vs)) (sym (add-one i)), omega (arith, so_far.1, f, low))
