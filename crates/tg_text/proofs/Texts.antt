-- The text of one part more.
use Rattle.std.proofs.Common.{◌≡◌, ℕ, ◌+◌, ◌<◌, List, [], ◌∷◌, ◌++◌, length, take, get_or, refl, ap, sym, ◌∙◌, append_assoc, append-nil}
use Rattle.std.proofs.lemmas.List.{take_more}
use Rattle.tg_text.specs.Text.{part_text, text_of}
use Rattle.tg_text.specs.declared.Part.{Part}

pub text_of-append : (xs ys : List Part) → text_of (xs ++ ys) ≡ text_of xs ++ text_of ys
text_of-append [] ys = refl
text_of-append (x ∷ xs) ys = ap (λ t. part_text x ++ t) (text_of-append xs ys) ∙ sym (append_assoc (part_text x) (text_of xs) (text_of ys))

pub text_of-take : (parts : List Part) (i : ℕ) (d : Part) → i < length parts
    → text_of (take (i + 1) parts) ≡ text_of (take i parts) ++ part_text (get_or parts i d)
text_of-take parts i d h =
    ap text_of (take_more parts i d h) ∙ text_of-append (take i parts) (get_or parts i d ∷ [])
    ∙ ap (λ t. text_of (take i parts) ++ t) (append-nil (part_text (get_or parts i d)))

-- a text that grew by its part of number `i` now has the parts up to it
pub text_of-next : (old now next : List ℕ) (parts : List Part) (i : ℕ) (d : Part) → i < length parts → now ≡ old ++ text_of (take i parts)
    → next ≡ now ++ part_text (get_or parts i d) → next ≡ old ++ text_of (take (i + 1) parts)
text_of-next old now next parts i d within so_far grown =
    grown ∙ ap (λ t. t ++ part_text (get_or parts i d)) so_far ∙ append_assoc old (text_of (take i parts)) (part_text (get_or parts i d))
    ∙ ap (λ t. old ++ t) (sym (text_of-take parts i d within))
