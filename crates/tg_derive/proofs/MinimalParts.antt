-- What goes from a clause to all that have its literals holds of all clauses where it holds of the minimal ones.
use Rattle.std.proofs.Common.{◌≡◌, Bool, true, false, not, ◌||◌, List, [], ◌∷◌, ◌++◌, refl, ap, sym, subst, ◌∙◌, inl, inr}
use Rattle.std.specs.Prelude.{if◌then◌else◌}
use Rattle.std.specs.List.{list_any}
use Rattle.std.proofs.lemmas.List.Folds.{list_any-append}
use Rattle.tg_model.proofs.Booleans.{or_left, or_right, or_cases, or_left_false, or_right_false, and_both, and_left, and_right}
use Rattle.tg_accept.specs.Checks.{Each}
use Rattle.tg_clause.specs.declared.literals.Literal.{Literal}
use Rattle.tg_clause.specs.Clauses.{Clause, has, same_literal}
use Rattle.tg_clause.specs.Minimal.{is_part, is_proper_part, is_same_set, is_superfluous, minimal_from, minimised}
use Rattle.tg_clause.proofs.LiteralLaws.{same_is, same_self}
use Rattle.tg_clause.proofs.EachLaws.{each_on, each_rest}

-- parts of clauses
has_in_part : (b c : Clause) (l : Literal) → has b l ≡ true → is_part b c ≡ true → has c l ≡ true
has_in_part [] c l e h = absurd (cc e)
has_in_part (m ∷ b) c l e h = elim (or_cases (same_literal l m) (has b l) e) [
  | inl f ↦ ap (has c) (same_is l m f) ∙ and_left (has c m) (is_part b c) h
  | inr f ↦ has_in_part b c l f (and_right (has c m) (is_part b c) h)
]

part_of_part : (a b c : Clause) → is_part a b ≡ true → is_part b c ≡ true → is_part a c ≡ true
part_of_part [] b c h k = refl
part_of_part (l ∷ a) b c h k =
    and_both (has c l) (is_part a c) (has_in_part b c l (and_left (has b l) (is_part a b) h) k) (part_of_part a b c (and_right (has b l) (is_part a b) h) k)

part_of_more : (d c : Clause) (l : Literal) → is_part d c ≡ true → is_part d (l ∷ c) ≡ true
part_of_more [] c l h = refl
part_of_more (m ∷ d) c l h =
    and_both (has (l ∷ c) m) (is_part d (l ∷ c)) (or_right (same_literal m l) (has c m) (and_left (has c m) (is_part d c) h))
    (part_of_more d c l (and_right (has c m) (is_part d c) h))

part_of_itself : (c : Clause) → is_part c c ≡ true
part_of_itself [] = refl
part_of_itself (l ∷ c) =
    and_both (has (l ∷ c) l) (is_part c (l ∷ c)) (or_left (same_literal l l) (has c l) (same_self l)) (part_of_more c c l (part_of_itself c))

not_false : (a : Bool) → not a ≡ true → a ≡ false
not_false true e = cc e
not_false false e = refl

is_false : (a : Bool) → (a ≡ true → ⊥) → a ≡ false
is_false true h = absurd (h refl)
is_false false h = refl

-- a proper part of a part is a proper part
proper_of_part : (d x y : Clause) → is_proper_part d x ≡ true → is_part x y ≡ true → is_proper_part d y ≡ true
proper_of_part d x y h k =
    let in_x = and_left (is_part d x) (not (is_part x d)) h in
    let not_back : is_part x d ≡ false = not_false (is_part x d) (and_right (is_part d x) (not (is_part x d)) h) in
    let beyond : is_part y d ≡ false = is_false (is_part y d) (λ e. let z : true ≡ false = sym (part_of_part x y d k e) ∙ not_back in cc z) in
    and_both (is_part d y) (not (is_part y d)) (part_of_part d x y in_x k) (ap not beyond)

not_proper_itself : (d : Clause) → is_proper_part d d ≡ true → ⊥
not_proper_itself d h =
    let z : true ≡ false = sym (part_of_itself d) ∙ not_false (is_part d d) (and_right (is_part d d) (not (is_part d d)) h) in cc z

same_itself : (d : Clause) → is_same_set d d ≡ true
same_itself d = and_both (is_part d d) (is_part d d) (part_of_itself d) (part_of_itself d)

same_through : (d c x : Clause) → is_same_set d c ≡ true → is_same_set c x ≡ true → is_same_set d x ≡ true
same_through d c x h k =
    and_both (is_part d x) (is_part x d)
    (part_of_part d c x (and_left (is_part d c) (is_part c d) h) (and_left (is_part c x) (is_part x c) k))
    (part_of_part x c d (and_right (is_part c x) (is_part x c) k) (and_right (is_part d c) (is_part c d) h))

-- the lowest clause below `x`, going through a list
abbrev lowest : List Clause → Clause → Clause
lowest [] x = x
lowest (d ∷ ds) x = lowest ds (if is_proper_part d x then d else x)

lower_is_part : (d x : Clause) → is_part (if is_proper_part d x then d else x) x ≡ true
lower_is_part d x = by (is_proper_part d x) refl
  where
    by : (b : Bool) → is_proper_part d x ≡ b → is_part (if b then d else x) x ≡ true
    by true e = and_left (is_part d x) (not (is_part x d)) e
    by false e = part_of_itself x

lower_is_lower : (d x : Clause) → is_proper_part d (if is_proper_part d x then d else x) ≡ false
lower_is_lower d x = by (is_proper_part d x) refl
  where
    by : (b : Bool) → is_proper_part d x ≡ b → is_proper_part d (if b then d else x) ≡ false
    by true e = is_false (is_proper_part d d) (not_proper_itself d)
    by false e = e

lowest_is_part : (ds : List Clause) (x : Clause) → is_part (lowest ds x) x ≡ true
lowest_is_part [] x = part_of_itself x
lowest_is_part (d ∷ ds) x =
    let y = if is_proper_part d x then d else x in
    part_of_part (lowest ds y) y x (lowest_is_part ds y) (lower_is_part d x)

nothing_lower : (ds : List Clause) (x : Clause) → list_any (λ d. is_proper_part d (lowest ds x)) ds ≡ false
nothing_lower [] x = refl
nothing_lower (d ∷ ds) x =
    let y = if is_proper_part d x then d else x in
    let here : is_proper_part d (lowest ds y) ≡ false = is_false (is_proper_part d (lowest ds y))
    (λ e. let z : true ≡ false = sym (proper_of_part d (lowest ds y) y e (lowest_is_part ds y)) ∙ lower_is_lower d x in cc z) in
    (λ i. here i || list_any (λ c. is_proper_part c (lowest ds y)) ds) ∙ nothing_lower ds y

-- the same set of literals stands in the list
abbrev IsIn : List Clause → Clause → Type 0
IsIn cs x = list_any (λ d. is_same_set d x) cs ≡ true

all_in : (cs : List Clause) → Each (IsIn cs) cs
all_in [] = tt
all_in (c ∷ cs) = (
  or_left (is_same_set c c) (list_any (λ d. is_same_set d c) cs) (same_itself c),
  each_on (IsIn cs) (IsIn (c ∷ cs)) (λ x h. or_right (is_same_set c x) (list_any (λ d. is_same_set d x) cs) h) cs (all_in cs),
)

lowest_is_in : (cs ds : List Clause) (x : Clause) → Each (IsIn cs) ds → IsIn cs x → IsIn cs (lowest ds x)
lowest_is_in cs [] x h k = k
lowest_is_in cs (d ∷ ds) x h k = lowest_is_in cs ds (if is_proper_part d x then d else x) h.1 (by (is_proper_part d x))
  where
    by : (b : Bool) → IsIn cs (if b then d else x)
    by true = h.0
    by false = k

none_same : (xs : List Clause) (c x : Clause) → is_same_set c x ≡ true → list_any (λ d. is_same_set d x) xs ≡ false
    → list_any (λ d. is_same_set d c) xs ≡ false
none_same [] c x s h = refl
none_same (d ∷ ds) c x s h =
    let here : is_same_set d c ≡ false = is_false (is_same_set d c)
    (λ e. let z : true ≡ false = sym (same_through d c x e s) ∙ or_left_false (is_same_set d x) (list_any (λ e. is_same_set e x) ds) h in cc z) in
    (λ i. here i || list_any (λ e. is_same_set e c) ds)
    ∙ none_same ds c x s (or_right_false (is_same_set d x) (list_any (λ e. is_same_set e x) ds) h)

none_proper : (xs : List Clause) (c x : Clause) → is_part c x ≡ true → list_any (λ d. is_proper_part d x) xs ≡ false
    → list_any (λ d. is_proper_part d c) xs ≡ false
none_proper [] c x s h = refl
none_proper (d ∷ ds) c x s h =
    let here : is_proper_part d c ≡ false = is_false (is_proper_part d c)
    (λ e. let z : true ≡ false = sym (proper_of_part d c x e s) ∙ or_left_false (is_proper_part d x) (list_any (λ e. is_proper_part e x) ds) h in cc z) in
    (λ i. here i || list_any (λ e. is_proper_part e c) ds)
    ∙ none_proper ds c x s (or_right_false (is_proper_part d x) (list_any (λ e. is_proper_part e x) ds) h)

module _ (P : Clause → Type 0) (part : (d c : Clause) → is_part d c ≡ true → P d → P c) where
  -- of a clause without a proper part in the list the first that is the same set stays
  first_stays : (all earlier rest : List Clause) (x : Clause) → list_any (λ d. is_proper_part d x) all ≡ false
      → list_any (λ d. is_same_set d x) earlier ≡ false → IsIn rest x → Each P (minimal_from all earlier rest) → P x
  first_stays all earlier [] x p e i h = absurd (cc i)
  first_stays all earlier (c ∷ rest) x p e i h =
      by (λ s. first_stays all (earlier ++ c ∷ []) rest x p
      (list_any-append (λ d. is_same_set d x) earlier (c ∷ []) ∙ (λ j. e j || (s j || false)))
      (ap (λ b. b || list_any (λ d. is_same_set d x) rest) (sym s) ∙ i)
      (each_rest P (if is_superfluous all earlier c then [] else c ∷ []) (minimal_from all (earlier ++ c ∷ []) rest) h))
      (is_same_set c x) refl
    where
      by : (is_same_set c x ≡ false → P x) → (b : Bool) → is_same_set c x ≡ b → P x
      by later true s =
          let in_x = and_left (is_part c x) (is_part x c) s in
          let stays : is_superfluous all earlier c ≡ false = (λ j. none_proper all c x in_x p j || none_same earlier c x s e j) in
          let here : Each P (c ∷ minimal_from all (earlier ++ c ∷ []) rest) =
          subst (λ b. Each P ((if b then [] else c ∷ []) ++ minimal_from all (earlier ++ c ∷ []) rest)) stays h in
          part c x in_x here.0
      by later false s = later s

  each_of_minimal : (cs ds : List Clause) → Each P (minimised cs) → Each (IsIn cs) ds → Each P ds
  each_of_minimal cs [] h k = tt
  each_of_minimal cs (c ∷ ds) h k =
      let x = lowest cs c in
      (part x c (lowest_is_part cs c) (first_stays cs [] cs x (nothing_lower cs c) refl (lowest_is_in cs cs c (all_in cs) k.0) h), each_of_minimal cs ds h k.1)

  pub from_minimal : (cs : List Clause) → Each P (minimised cs) → Each P cs
  from_minimal cs h = each_of_minimal cs cs h (all_in cs)
