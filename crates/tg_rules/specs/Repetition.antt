-- Repetition. `{ x }` is a part that is nothing, or `x` and the part again: its rule is `act listed (opt (x ∙∙ nt again))`, and
-- its value is a list. A chain to the left is a first operand and a repetition, whose values are folded.
use Rattle.std.specs.Prelude.{Option, Some, None, List, [], ◌∷◌, ◌++◌}
use Rattle.tg_rules.specs.Reader.{Read, mapped}

abbrev pub listed : {A : Type 0} → Option (A × List A) → List A
listed None = []
listed (Some p) = p.0 ∷ p.1

-- `a - b - c` is `(a - b) - c`
abbrev pub folded : {A B : Type 0} → (A → B → A) → A → List B → A
folded step a [] = a
folded step a (b ∷ bs) = folded step (step a b) bs

-- ---- what a loop has read, and what it has still to read

-- a list whose front was read before
abbrev pub with_front : {T A : Type 0} → List A → Read T (List A) → Read T (List A)
with_front front r = mapped (λ rest. front ++ rest) r

-- a fold that has come to `a`
abbrev pub fold_from : {T A B : Type 0} → (A → B → A) → A → Read T (List B) → Read T A
fold_from step a r = mapped (folded step a) r
