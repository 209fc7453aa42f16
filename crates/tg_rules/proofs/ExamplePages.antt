-- The example's table for a reader has the readings of the one that people write, which says by itself that differences are
-- grouped to the left.
use Rattle.std.proofs.Common.{◌≡◌, ◌⊎◌, ◌↔◌, Some, None, List, [], ◌∷◌, ◌++◌, inl, inr, refl, sym, ap, subst, ◌∙◌, append_assoc, append-nil}
use Rattle.tg_rules.specs.Rule.{Rule, nt, ◌▸◌}
use Rattle.tg_rules.specs.Texts.{Is, Reads}
use Rattle.tg_rules.specs.Differences.{Token, kind, Tree, less, Part, difference, further, atom, Meaning, grouped, rule, page}
use Rattle.tg_rules.specs.Repetition.{listed}
use Rattle.tg_rules.proofs.Firsts.{first_same, rest_same}
use Rattle.tg_rules.proofs.Heights.{by_rule, of_rule, reads_also}

-- "-" atom
abbrev step : Rule Token Part Meaning Tree
step = 2 ▸ nt atom

nothing_is_something : (u : Tree) (us : List Tree) → [] ≡ u ∷ us → ⊥
nothing_is_something u us e = cc

-- the part that repeats, by its cases; it is the same in both tables
module _ (R : (n : Part) → Meaning n → List Token → Type 0) where
  abbrev IsMore : List Tree → List Token → Type 0
  IsMore us ts = (u : Tree) × (rest : List Tree) × (p : List Token) × (q : List Token) × (us ≡ u ∷ rest) × Is kind R step u p × R further rest q × (ts ≡ p ++ q)

  by_cases : (us : List Tree) (ts : List Token) → Is kind R (rule further) us ts → ((us ≡ []) × (ts ≡ [])) ⊎ IsMore us ts
  by_cases us ts (o, e, inl (none, nothing)) = inl (e ∙ ap listed none, nothing)
  by_cases us ts (o, e, inr (x, some, (p, q, a, b, same))) = inr (x.0, x.1, p, q, e ∙ ap listed some, a, b, same)

-- ---- from the page

grouped_last : (t : Tree) (us : List Tree) (u : Tree) → less (grouped t us) u ≡ grouped t (us ++ u ∷ [])
grouped_last t [] u = refl
grouped_last t (w ∷ ws) u = grouped_last (less t w) ws u

nothing_further : Reads kind rule further [] []
nothing_further = by_rule kind rule further [] [] (None, refl, inl (refl, refl))

one_further : (u : Tree) (us : List Tree) (p q : List Token) → Is kind (Reads kind rule) step u p → Reads kind rule further us q → Reads kind rule further (u ∷ us) (p ++ q)
one_further u us p q a b = by_rule kind rule further (u ∷ us) (p ++ q) (Some (u, us), refl, inr ((u, us), refl, (p, q, a, b, refl)))

further_last : (us : List Tree) (u : Tree) (p q : List Token) → Reads kind rule further us p → Is kind (Reads kind rule) step u q → Reads kind rule further (us ++ u ∷ []) (p ++ q)
further_last [] u p q r s =
    elim (by_cases (Reads kind rule) [] p (of_rule kind rule further [] p r)) [
      | inl (e, nothing) ↦ subst (λ z. Reads kind rule further (u ∷ []) z) (append-nil q ∙ ap (λ z. z ++ q) (sym nothing)) (one_further u [] q [] s nothing_further)
      | inr (w, ws, p1, p2, e, a, b, same) ↦ absurd (nothing_is_something w ws e)
    ]
further_last (w ∷ ws) u p q r s =
    elim (by_cases (Reads kind rule) (w ∷ ws) p (of_rule kind rule further (w ∷ ws) p r)) [
      | inl (e, nothing) ↦ absurd (nothing_is_something w ws (sym e))
      | inr (x, xs, p1, p2, e, a, b, same) ↦
          let first = subst (λ z. Is kind (Reads kind rule) step z p1) (sym (first_same w x ws xs e)) a in
          let rest = further_last ws u p2 q (subst (λ z. Reads kind rule further z p2) (sym (rest_same w x ws xs e)) b) s in
          subst (λ z. Reads kind rule further (w ∷ (ws ++ u ∷ [])) z) (sym (append_assoc p1 p2 q) ∙ ap (λ z. z ++ q) (sym same)) (one_further w (ws ++ u ∷ []) p1 (p2 ++ q) first rest)
    ]

closed_from_page : (n : Part) (v : Meaning n) (ts : List Token) → Is kind (Reads kind rule) (page n) v ts → Reads kind rule n v ts
closed_from_page difference v ts (inl a) = by_rule kind rule difference v ts ((v, []), refl, (ts, [], a, nothing_further, sym (append-nil ts)))
closed_from_page difference v ts (inr (x, e, (p, q, d, m, same))) =
    let (y, e1, (p1, p2, a, b, same1)) = of_rule kind rule difference x.0 p d in
    by_rule kind rule difference v ts (
      (y.0, y.1 ++ x.1 ∷ []),
      e ∙ ap (λ z. less z x.1) e1 ∙ grouped_last y.0 y.1 x.1,
      (p1, p2 ++ q, a, further_last y.1 x.1 p2 q b m, same ∙ ap (λ z. z ++ q) same1 ∙ append_assoc p1 p2 q),
    )
closed_from_page further v ts h = by_rule kind rule further v ts h
closed_from_page atom v ts h = by_rule kind rule atom v ts h

-- ---- to the page

goes_on : (us : List Tree) (t : Tree) (p q : List Token) → Reads kind page difference t p → Reads kind page further us q → Reads kind page difference (grouped t us) (p ++ q)
goes_on [] t p q d r =
    elim (by_cases (Reads kind page) [] q (of_rule kind page further [] q r)) [
      | inl (e, nothing) ↦ subst (λ z. Reads kind page difference t z) (sym (append-nil p) ∙ ap (λ z. p ++ z) (sym nothing)) d
      | inr (w, ws, q1, q2, e, a, b, same) ↦ absurd (nothing_is_something w ws e)
    ]
goes_on (w ∷ ws) t p q d r =
    elim (by_cases (Reads kind page) (w ∷ ws) q (of_rule kind page further (w ∷ ws) q r)) [
      | inl (e, nothing) ↦ absurd (nothing_is_something w ws (sym e))
      | inr (x, xs, q1, q2, e, a, b, same) ↦
          let first = subst (λ z. Is kind (Reads kind page) step z q1) (sym (first_same w x ws xs e)) a in
          let longer = by_rule kind page difference (less t w) (p ++ q1) (inr ((t, w), refl, (p, q1, d, first, refl))) in
          let rest = goes_on ws (less t w) (p ++ q1) q2 longer (subst (λ z. Reads kind page further z q2) (sym (rest_same w x ws xs e)) b) in
          subst (λ z. Reads kind page difference (grouped (less t w) ws) z) (append_assoc p q1 q2 ∙ ap (λ z. p ++ z) (sym same)) rest
    ]

closed_to_page : (n : Part) (v : Meaning n) (ts : List Token) → Is kind (Reads kind page) (rule n) v ts → Reads kind page n v ts
closed_to_page difference v ts (x, e, (p, q, a, b, same)) =
    let d = by_rule kind page difference x.0 p (inl a) in
    subst (λ z. Reads kind page difference z ts) (sym e) (subst (λ z. Reads kind page difference (grouped x.0 x.1) z) (sym same) (goes_on x.1 x.0 p q d b))
closed_to_page further v ts h = by_rule kind page further v ts h
closed_to_page atom v ts h = by_rule kind page atom v ts h

pub same_readings : (n : Part) (v : Meaning n) (ts : List Token) → Reads kind page n v ts ↔ Reads kind rule n v ts
same_readings n v ts = (reads_also kind rule page closed_from_page n v ts, reads_also kind page rule closed_to_page n v ts)
