-- A value fits a shape exactly where it is the shape's term at values of the types of its holes.
use Rattle.std.proofs.Common.{ℕ, zero, suc, ◌≡◌, ◌<◌, ◌≤◌, ◌+◌, ◌⊎◌, inl, inr, true, List, [], ◌∷◌, ◌++◌, length, Some, refl, sym, ◌∙◌, ap, subst, arith, append_assoc, length-append}
use Rattle.std.specs.Prelude.{slice_get, unwrap_or}
use Rattle.std.proofs.lemmas.Bool.{eq-eqb}
use Rattle.tg_model.specs.Tree.{free}
use Rattle.tg_model.specs.Types.{Ty}
use Rattle.tg_model.specs.Value as value
use Rattle.tg_model.specs.Value.{Value, Values, number, boolean, made, values, wrong}
use Rattle.tg_model.specs.Theory.{Theory}
use Rattle.tg_model.specs.Typing.{HasType, AreTyped}
use Rattle.tg_model.specs.Filling.{filled_term, fill, stands, stands_among}
use Rattle.tg_model.specs.Made.{IsMade, AreMade}
use Rattle.tg_model.proofs.Booleans.{or_left, or_right}
use Rattle.tg_split.specs.Shapes.{Shape, Shapes, hole, node, none, more}
use Rattle.tg_split.specs.Patterns.{holes, all_holes, term_from, terms_from}
use Rattle.tg_split.proofs.ShapeCoverage.{Fits, AllFit}

-- a list of values in two parts, of the types of two lists
pub record Parts (th : Theory) (us : List Value) (xs ys : List Ty) : Type 0 where
  pub first : List Value
  pub rest : List Value
  pub is : us ≡ first ++ rest
  pub count : length first ≡ length xs
  pub first_typed : AreTyped th first xs
  pub rest_typed : AreTyped th rest ys

pub in_parts : (th : Theory) (us : List Value) (xs ys : List Ty) → AreTyped th us (xs ++ ys) → Parts th us xs ys
in_parts th us [] ys h = record { first = []; rest = us; is = refl; count = refl; first_typed = tt; rest_typed = h }
in_parts th [] (x ∷ xs) ys h = absurd h
in_parts th (u ∷ us) (x ∷ xs) ys h =
    let p = in_parts th us xs ys h.1 in
    record { first = u ∷ p.first; rest = p.rest; is = ap (λ l. u ∷ l) p.is; count = ap suc p.count; first_typed = (h.0, p.first_typed); rest_typed = p.rest_typed }

pub both_typed : (th : Theory) (us vs : List Value) (xs ys : List Ty) → AreTyped th us xs → AreTyped th vs ys → AreTyped th (us ++ vs) (xs ++ ys)
both_typed th [] vs [] ys h k = k
both_typed th [] vs (x ∷ xs) ys h k = absurd h
both_typed th (u ∷ us) vs [] ys h k = absurd h
both_typed th (u ∷ us) vs (x ∷ xs) ys h k = (h.0, both_typed th us vs xs ys h.1 k)

pub at_place : (pre : List Value) (v : Value) (post : List Value) → slice_get (pre ++ (v ∷ post)) (length pre) ≡ Some v
at_place [] v post = refl
at_place (u ∷ pre) v post = at_place pre v post

-- the variable past the values `pre` has the next one
variable_at : (env pre : List Value) (v : Value) (post : List Value) (n : ℕ) → env ≡ pre ++ (v ∷ post) → n ≡ suc (length pre) → filled_term env (free n) ≡ v
variable_at env pre v post n is place =
    ap (λ m. filled_term env (free m)) place ∙ ap (λ o. unwrap_or o wrong) (ap (λ l. slice_get l (length pre)) is ∙ at_place pre v post)

-- the next place is past the first part too
next_place : (pre us : List Value) (n m : ℕ) → n ≡ suc (length pre) → length us ≡ m → n + m ≡ suc (length (pre ++ us))
next_place pre us n m h k = omega (arith, h, k, length-append pre us)

regrouped : (env pre us first rest post : List Value) → env ≡ pre ++ (us ++ post) → us ≡ first ++ rest → env ≡ (pre ++ first) ++ (rest ++ post)
regrouped env pre us first rest post h e =
    h ∙ ap (λ l. pre ++ (l ++ post)) e ∙ ap (λ l. pre ++ l) (append_assoc first rest post) ∙ sym (append_assoc pre first (rest ++ post))

module _ (th : Theory) (env : List Value) where
  mutual
    pub fits_filled : (s : Shape) (pre us post : List Value) (n : ℕ) → env ≡ pre ++ (us ++ post) → n ≡ suc (length pre)
        → AreTyped th us (holes s) → Fits th s (filled_term env (term_from n s))
    fits_filled (hole t) pre [] post n is place typed = absurd typed
    fits_filled (hole t) pre (u ∷ []) post n is place typed =
        subst (λ v. HasType th v t) (sym (variable_at env pre u post n is place)) typed.0
    fits_filled (hole t) pre (u ∷ (v ∷ us)) post n is place typed = absurd typed.1
    fits_filled (node c ss) pre us post n is place typed = (refl, all_fit_filled ss pre us post n is place typed)

    pub all_fit_filled : (ss : Shapes) (pre us post : List Value) (n : ℕ) → env ≡ pre ++ (us ++ post) → n ≡ suc (length pre)
        → AreTyped th us (all_holes ss) → AllFit th ss (values (fill env (terms_from n ss)))
    all_fit_filled none pre us post n is place typed = tt
    all_fit_filled (more s ss) pre us post n is place typed =
        let p = in_parts th us (holes s) (all_holes ss) typed in (
          fits_filled s pre p.first (p.rest ++ post) n (is ∙ ap (λ l. pre ++ l) (ap (λ l. l ++ post) p.is ∙ append_assoc p.first p.rest post)) place p.first_typed,
          all_fit_filled ss (pre ++ p.first) p.rest post (n + length (holes s)) (regrouped env pre us p.first p.rest post is p.is)
              (next_place pre p.first n (length (holes s)) place p.count) p.rest_typed,
        )

-- what stands in the holes
abbrev mutual
  pub taken : Shape → Value → List Value
  taken (hole t) v = v ∷ []
  taken (node c ss) (made d vs) = all_taken ss vs
  taken (node c ss) v = []

  pub all_taken : Shapes → Values → List Value
  all_taken (more s ss) (value.more v vs) = taken s v ++ all_taken ss vs
  all_taken ss vs = []

typed_length : (th : Theory) (vs : List Value) (ts : List Ty) → AreTyped th vs ts → length vs ≡ length ts
typed_length th [] [] h = refl
typed_length th [] (t ∷ ts) h = absurd h
typed_length th (v ∷ vs) [] h = absurd h
typed_length th (v ∷ vs) (t ∷ ts) h = ap suc (typed_length th vs ts h.1)

module _ (th : Theory) where
  mutual
    pub taken_typed : (s : Shape) (v : Value) → Fits th s v → AreTyped th (taken s v) (holes s)
    taken_typed (hole t) v h = (h, tt)
    taken_typed (node c ss) (number n) h = absurd h
    taken_typed (node c ss) (boolean b) h = absurd h
    taken_typed (node c ss) (made d vs) h = all_taken_typed ss vs h.1

    pub all_taken_typed : (ss : Shapes) (vs : Values) → AllFit th ss vs → AreTyped th (all_taken ss vs) (all_holes ss)
    all_taken_typed none value.none h = tt
    all_taken_typed none (value.more v vs) h = absurd h
    all_taken_typed (more s ss) value.none h = absurd h
    all_taken_typed (more s ss) (value.more v vs) h =
        both_typed th (taken s v) (all_taken ss vs) (holes s) (all_holes ss) (taken_typed s v h.0) (all_taken_typed ss vs h.1)

  module _ (env : List Value) where
    mutual
      pub taken_fills : (s : Shape) (v : Value) (pre post : List Value) (n : ℕ) → Fits th s v → env ≡ pre ++ (taken s v ++ post)
          → n ≡ suc (length pre) → filled_term env (term_from n s) ≡ v
      taken_fills (hole t) v pre post n h is place = variable_at env pre v post n is place
      taken_fills (node c ss) (number m) pre post n h is place = absurd h
      taken_fills (node c ss) (boolean b) pre post n h is place = absurd h
      taken_fills (node c ss) (made d vs) pre post n h is place = λ i. made (h.0 i) (all_taken_fill ss vs pre post n h.1 is place i)

      pub all_taken_fill : (ss : Shapes) (vs : Values) (pre post : List Value) (n : ℕ) → AllFit th ss vs → env ≡ pre ++ (all_taken ss vs ++ post)
          → n ≡ suc (length pre) → values (fill env (terms_from n ss)) ≡ vs
      all_taken_fill none value.none pre post n h is place = refl
      all_taken_fill none (value.more v vs) pre post n h is place = absurd h
      all_taken_fill (more s ss) value.none pre post n h is place = absurd h
      all_taken_fill (more s ss) (value.more v vs) pre post n h is place =
          let us : List Value = taken s v ++ all_taken ss vs in
          let first = taken_fills s v pre (all_taken ss vs ++ post) n h.0 (is ∙ ap (λ l. pre ++ l) (append_assoc (taken s v) (all_taken ss vs) post)) place in
          let rest = all_taken_fill ss vs (pre ++ taken s v) post (n + length (holes s)) h.1 (regrouped env pre us (taken s v) (all_taken ss vs) post is refl)
          (next_place pre (taken s v) n (length (holes s)) place (typed_length th (taken s v) (holes s) (taken_typed s v h.0))) in
          λ i. value.more (first i) (rest i)

pub which : (m n : ℕ) → (m < n) ⊎ (n ≤ m)
which m zero = inr (omega arith)
which zero (suc n) = inl (omega arith)
which (suc m) (suc n) = elim (which m n) [ inl h ↦ inl (omega (arith, h)) | inr h ↦ inr (omega (arith, h)) ]

-- each of a shape's variables stands in its term, which is made of variables and constructors
mutual
  pub shape_stands : (s : Shape) (n k : ℕ) → n ≤ k → k < n + length (holes s) → stands k (term_from n s) ≡ true
  shape_stands (hole t) n k low high = eq-eqb n k (omega (arith, low, high))
  shape_stands (node c ss) n k low high = shapes_stand ss n k low high

  pub shapes_stand : (ss : Shapes) (n k : ℕ) → n ≤ k → k < n + length (all_holes ss) → stands_among k (terms_from n ss) ≡ true
  shapes_stand none n k low high = absurd (omega (arith, low, high))
  shapes_stand (more s ss) n k low high =
      let sum = length-append (holes s) (all_holes ss) in
      elim (which k (n + length (holes s))) [
        | inl before ↦ or_left (stands k (term_from n s)) (stands_among k (terms_from (n + length (holes s)) ss)) (shape_stands s n k low before)
        | inr after ↦ or_right (stands k (term_from n s)) (stands_among k (terms_from (n + length (holes s)) ss))
            (shapes_stand ss (n + length (holes s)) k after (omega (arith, high, sum)))
      ]

mutual
  pub shape_made : (s : Shape) (n : ℕ) → IsMade (term_from n s)
  shape_made (hole t) n = tt
  shape_made (node c ss) n = shapes_made ss n

  pub shapes_made : (ss : Shapes) (n : ℕ) → AreMade (terms_from n ss)
  shapes_made none n = tt
  shapes_made (more s ss) n = (shape_made s n, shapes_made ss (n + length (holes s)))

made_arguments : (c d : ℕ) (vs ws : Values) → made c vs ≡ made d ws → vs ≡ ws
made_arguments c d vs ws e = cc

first_same : (v w : Value) (vs ws : Values) → value.more v vs ≡ value.more w ws → v ≡ w
first_same v w vs ws e = cc

rest_same : (v w : Value) (vs ws : Values) → value.more v vs ≡ value.more w ws → vs ≡ ws
rest_same v w vs ws e = cc

-- where a shape's terms are the same at two lists of values, so is each of its variables
module _ (vs ws : List Value) where
  mutual
    same_at : (s : Shape) (n k : ℕ) → n ≤ k → k < n + length (holes s) → filled_term vs (term_from n s) ≡ filled_term ws (term_from n s)
        → filled_term vs (free k) ≡ filled_term ws (free k)
    same_at (hole t) n k low high e =
        let place : n ≡ k = omega (arith, low, high) in
        subst (λ (m : ℕ). filled_term vs (free m) ≡ filled_term ws (free m)) place e
    same_at (node c ss) n k low high e =
        all_same_at ss n k low high (made_arguments c c (values (fill vs (terms_from n ss))) (values (fill ws (terms_from n ss))) e)

    pub all_same_at : (ss : Shapes) (n k : ℕ) → n ≤ k → k < n + length (all_holes ss) → values (fill vs (terms_from n ss)) ≡ values (fill ws (terms_from n ss))
        → filled_term vs (free k) ≡ filled_term ws (free k)
    all_same_at none n k low high e = absurd (omega (arith, low, high))
    all_same_at (more s ss) n k low high e =
        let sum = length-append (holes s) (all_holes ss) in
        let m : ℕ = n + length (holes s) in
        elim (which k m) [
          | inl before ↦ same_at s n k low before (first_same (filled_term vs (term_from n s)) (filled_term ws (term_from n s)) (values (fill vs (terms_from m ss))) (values (fill ws (terms_from m ss))) e)
          | inr after ↦ all_same_at ss m k after (omega (arith, high, sum))
              (rest_same (filled_term vs (term_from n s)) (filled_term ws (term_from n s)) (values (fill vs (terms_from m ss))) (values (fill ws (terms_from m ss))) e)
        ]

pub same_lists : (vs ws : List Value) → length vs ≡ length ws
    → ((k : ℕ) → k < length vs → unwrap_or (slice_get vs k) wrong ≡ unwrap_or (slice_get ws k) wrong) → vs ≡ ws
same_lists [] [] e each = refl
same_lists [] (w ∷ ws) e each = absurd (omega (arith, e))
same_lists (v ∷ vs) [] e each = absurd (omega (arith, e))
same_lists (v ∷ vs) (w ∷ ws) e each =
    let first : v ≡ w = each zero (omega arith) in
    let rest : vs ≡ ws = same_lists vs ws (omega (arith, e)) (λ k low. each (suc k) (omega (arith, low))) in
    λ i. first i ∷ rest i
