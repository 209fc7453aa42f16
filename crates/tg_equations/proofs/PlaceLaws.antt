-- Places in a list, one item after another.
use Rattle.std.proofs.Common.{ℕ, suc, ◌≡◌, ◌+◌, Bool, true, false, not, ◌||◌, List, [], ◌∷◌, ◌++◌, length, Some, None, refl, sym, ◌∙◌, ap, if◌then◌else◌, arith}
use Rattle.std.specs.List.{list_any}
use Rattle.std.specs.Prelude.{slice_get, take}
use Rattle.std.proofs.lemmas.List.{length-take}
use Rattle.std.proofs.lemmas.List.Folds.{list_any-append}
use Rattle.std.proofs.lemmas.Option.{slice_get_within}
use Rattle.tg_term.proofs.PartLaws.{take_at}
use Rattle.tg_accept.specs.Core.{same_head}
use Rattle.tg_accept.specs.Resolved.{Head}
use Rattle.tg_equations.specs.declared.places.Places.{Places}
use Rattle.tg_equations.specs.Places.{placed_from, held, noted}

or_false : (b : Bool) → (b || false) ≡ b
or_false true = refl
or_false false = refl

any_last : {A : Type 0} (is : A → Bool) (xs : List A) (x : A) → list_any is (xs ++ x ∷ []) ≡ (list_any is xs || is x)
any_last is xs x = list_any-append is xs (x ∷ []) ∙ ap (λ b. list_any is xs || b) (or_false (is x))

pub unplaced : {A : Type 0} (is : A → Bool) (n : ℕ) (xs : List A) → list_any is xs ≡ false → placed_from is n xs ≡ None
unplaced is n [] e = refl
unplaced is n (x ∷ xs) e = go (is x) (unplaced is (suc n) xs) e
  where
    go : (b : Bool) → (list_any is xs ≡ false → placed_from is (suc n) xs ≡ None) → (b || list_any is xs) ≡ false
        → (if b then Some (record { first = n; only = not (list_any is xs) }) else placed_from is (suc n) xs) ≡ None
    go true h e = cc e
    go false h e = h e

-- one more item at the end
pub placed_last : {A : Type 0} (is : A → Bool) (n : ℕ) (xs : List A) (x : A)
    → placed_from is n (xs ++ x ∷ []) ≡ (if is x then Some (noted (n + length xs) (placed_from is n xs)) else placed_from is n xs)
placed_last is n [] x = go (is x) (let e : n ≡ n + 0 = omega arith in e)
  where
    go : (b : Bool) → n ≡ n + 0 → (if b then Some (record { first = n; only = true }) else None) ≡ (if b then Some (noted (n + 0) None) else None)
    go true e = ap (λ k. Some (record { first = k; only = true })) e
    go false e = refl
placed_last is n (y ∷ ys) x = go (is y) (is x) (any_last is ys x) (placed_last is (suc n) ys x) (let e : suc n + length ys ≡ n + suc (length ys) = omega arith in e)
  where
    go : (b a : Bool) → list_any is (ys ++ x ∷ []) ≡ (list_any is ys || a)
        → placed_from is (suc n) (ys ++ x ∷ []) ≡ (if a then Some (noted (suc n + length ys) (placed_from is (suc n) ys)) else placed_from is (suc n) ys)
        → suc n + length ys ≡ n + suc (length ys)
        → (if b then Some (record { first = n; only = not (list_any is (ys ++ x ∷ [])) }) else placed_from is (suc n) (ys ++ x ∷ []))
        ≡ (if a then Some (noted (n + suc (length ys)) (if b then Some (record { first = n; only = not (list_any is ys) }) else placed_from is (suc n) ys))
        else (if b then Some (record { first = n; only = not (list_any is ys) }) else placed_from is (suc n) ys))
    go true true e h k = ap (λ c. Some (record { first = n; only = not c })) (e ∙ or_true (list_any is ys))
      where
        or_true : (b : Bool) → (b || true) ≡ true
        or_true true = refl
        or_true false = refl
    go true false e h k = ap (λ c. Some (record { first = n; only = not c })) (e ∙ or_false (list_any is ys))
    go false true e h k = h ∙ ap (λ m. Some (noted m (placed_from is (suc n) ys))) k
    go false false e h k = h

-- ---- places of a list's first items

module _ {A : Type 0} (is : Head → A → Bool) (xs : List A) (i : ℕ) (x : A) (at : slice_get xs i ≡ Some x) (old : Places) where
  abbrev pub Placed : Places → List A → Type 0
  Placed p ys = (h : Head) → held p h ≡ placed_from (is h) 0 ys

  so_many : 0 + length (take i xs) ≡ i
  so_many = let l = length-take i xs in let w = slice_get_within xs i x at in omega (arith, l, w)

  taken : take (i + 1) xs ≡ take i xs ++ x ∷ []
  taken = let n : i + 1 ≡ suc i = omega arith in ap (λ m. take m xs) n ∙ take_at xs i x at

  pub placed_next : (new : Places) (k : Head) → ((h : Head) → is h x ≡ same_head k h) → Placed old (take i xs)
      → ((h : Head) → held new h ≡ (if same_head k h then Some (noted i (held old h)) else held old h)) → Placed new (take (i + 1) xs)
  placed_next new k same before now h =
      now h
      ∙ (λ j. if sym (same h) j then Some (noted (sym so_many j) (before h j)) else before h j)
      ∙ sym (placed_last (is h) 0 (take i xs) x)
      ∙ ap (placed_from (is h) 0) (sym taken)

  pub placed_skip : ((h : Head) → is h x ≡ false) → Placed old (take i xs) → Placed old (take (i + 1) xs)
  placed_skip none before h =
      before h
      ∙ (λ j. if sym (none h) j then Some (noted (0 + length (take i xs)) (placed_from (is h) 0 (take i xs))) else placed_from (is h) 0 (take i xs))
      ∙ sym (placed_last (is h) 0 (take i xs) x)
      ∙ ap (placed_from (is h) 0) (sym taken)
