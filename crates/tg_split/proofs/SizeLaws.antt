-- The size of lists, of a product and of shapes under a constructor.
use Rattle.std.proofs.Common.{ℕ, suc, ◌≡◌, ◌<◌, ◌≤◌, ◌+◌, ◌*◌, ◌⊎◌, inl, inr, Bool, true, false, ◌||◌, max, List, [], ◌∷◌, ◌++◌, map, length, refl, sym, ◌∙◌, ap, ap₂, arith, length-append, nat_lt, lt-ltb, le-ltb, ne_eqb, zero-mul, mul-suc, suc-mul}
use Rattle.std.proofs.lemmas.List.{length-map}
use Rattle.tg_split.proofs.Filled.{which}
use Rattle.tg_model.proofs.Booleans.{or_left, or_right, if_true, if_false}
use Rattle.tg_split.specs.Shapes.{Shape, Shapes, node, more, product}
use Rattle.tg_split.specs.Sizes.{most, is_over, nodes, all_nodes, sized, size_of, size_of_lists, no_shape, is_empty, either, paired, both, under}
use Rattle.tg_split.specs.declared.sizes.Size.{Size}
use Rattle.tg_split.specs.declared.sizes.Size.TheVariants.{Passed, Within}

-- ---- the two cases

abbrev Over : ℕ → ℕ → Type 0
Over n x = (4096 < n) ⊎ (100000 < x)

pub over_or_not : (n x : ℕ) → Over n x ⊎ ((n ≤ 4096) × (x ≤ 100000))
over_or_not n x = elim (which 4096 n) [
  | inl p ↦ inl (inl p)
  | inr p ↦ elim (which 100000 x) [ inl q ↦ inl (inr q) | inr q ↦ inr (p, q) ]
]

pub is_passed : (n x : ℕ) → Over n x → sized n x ≡ Passed
is_passed n x h = if_true Passed (Within n x) (is_over n x) (elim h [
  | inl p ↦ or_left (nat_lt 4096 n) (nat_lt 100000 x) (lt-ltb 4096 n p)
  | inr q ↦ or_right (nat_lt 4096 n) (nat_lt 100000 x) (lt-ltb 100000 x q)
])

pub is_within : (n x : ℕ) → n ≤ 4096 → x ≤ 100000 → sized n x ≡ Within n x
is_within n x h k = if_false Passed (Within n x) (is_over n x) (ap₂ (λ a b. a || b) (le-ltb 4096 n h) (le-ltb 100000 x k))

-- ---- lists

pub most_append : {A : Type 0} (f : A → ℕ) (xs ys : List A) → most f (xs ++ ys) ≡ max (most f xs) (most f ys)
most_append f [] ys = omega arith
most_append f (x ∷ xs) ys = let e = most_append f xs ys in omega (arith, e)

either_sized : (m x n y : ℕ) → either (sized m x) (sized n y) ≡ sized (m + n) (max x y)
either_sized m x n y = elim (over_or_not m x) [
  | inl p ↦ ap (λ s. either s (sized n y)) (is_passed m x p) ∙ sym (is_passed (m + n) (max x y) (elim p [
    | inl h ↦ inl (omega (arith, h))
    | inr h ↦ inr (omega (arith, h))
  ]))
  | inr p ↦ elim (over_or_not n y) [
    | inl q ↦ ap₂ either (is_within m x p.0 p.1) (is_passed n y q) ∙ sym (is_passed (m + n) (max x y) (elim q [
      | inl h ↦ inl (omega (arith, h))
      | inr h ↦ inr (omega (arith, h))
    ]))
    | inr q ↦ ap₂ either (is_within m x p.0 p.1) (is_within n y q.0 q.1)
  ]
]

pub either_sizes : (xs ys : List Shape) → either (size_of xs) (size_of ys) ≡ size_of (xs ++ ys)
either_sizes xs ys =
    either_sized (length xs) (most nodes xs) (length ys) (most nodes ys)
    ∙ ap₂ sized (sym (length-append xs ys)) (sym (most_append nodes xs ys))

-- ---- products

pub not_empty : (n x : ℕ) → is_empty (sized (suc n) x) ≡ false
not_empty n x = elim (over_or_not (suc n) x) [
  | inl p ↦ ap is_empty (is_passed (suc n) x p)
  | inr p ↦ ap is_empty (is_within (suc n) x p.0 p.1) ∙ ne_eqb (suc n) 0 (λ e. absurd (omega (arith, e)))
]

at_least : (m n : ℕ) → m ≤ m * suc n
at_least m n = let e = mul-suc m n in omega (arith, e)

at_least_right : (m n : ℕ) → n ≤ suc m * n
at_least_right m n = let e = suc-mul m n in omega (arith, e)

paired_sized : (m x n y : ℕ) → paired (sized (suc m) x) (sized (suc n) y) ≡ sized (suc m * suc n) (x + y)
paired_sized m x n y = elim (over_or_not (suc m) x) [
  | inl p ↦ ap (λ s. paired s (sized (suc n) y)) (is_passed (suc m) x p) ∙ sym (is_passed (suc m * suc n) (x + y) (elim p [
    | inl h ↦ inl (let k = at_least (suc m) n in omega (arith, h, k))
    | inr h ↦ inr (omega (arith, h))
  ]))
  | inr p ↦ elim (over_or_not (suc n) y) [
    | inl q ↦ ap₂ paired (is_within (suc m) x p.0 p.1) (is_passed (suc n) y q) ∙ sym (is_passed (suc m * suc n) (x + y) (elim q [
      | inl h ↦ inl (let k = at_least_right m (suc n) in omega (arith, h, k))
      | inr h ↦ inr (omega (arith, h))
    ]))
    | inr q ↦ ap₂ paired (is_within (suc m) x p.0 p.1) (is_within (suc n) y q.0 q.1)
  ]
]

both_sized : (m x n y : ℕ) → both (sized (suc m) x) (sized (suc n) y) ≡ sized (suc m * suc n) (x + y)
both_sized m x n y =
    if_false no_shape (paired (sized (suc m) x) (sized (suc n) y)) (is_empty (sized (suc m) x) || is_empty (sized (suc n) y))
    (ap₂ (λ a b. a || b) (not_empty m x) (not_empty n y))
    ∙ paired_sized m x n y

or_true : (a : Bool) → (a || true) ≡ true
or_true true = refl
or_true false = refl

both_empty : (a : Size) → both a no_shape ≡ no_shape
both_empty a = if_true no_shape (paired a no_shape) (is_empty a || true) (or_true (is_empty a))

pub product_empty : (xs : List Shape) → product xs [] ≡ []
product_empty [] = refl
product_empty (x ∷ xs) = product_empty xs

pub length_product : (xs : List Shape) (rests : List Shapes) → length (product xs rests) ≡ length xs * length rests
length_product [] rests = sym (zero-mul (length rests))
length_product (x ∷ xs) rests =
    length-append (map (more x) rests) (product xs rests)
    ∙ ap₂ (λ a b. a + b) (length-map rests (more x)) (length_product xs rests)
    ∙ (let e = suc-mul (length xs) (length rests) in omega (arith, e))

most_more : (x : Shape) (r : Shapes) (rests : List Shapes) → most all_nodes (map (more x) (r ∷ rests)) ≡ nodes x + most all_nodes (r ∷ rests)
most_more x r [] = omega arith
most_more x r (q ∷ rests) = let e = most_more x q rests in omega (arith, e)

pub most_product : (x : Shape) (xs : List Shape) (r : Shapes) (rests : List Shapes)
    → most all_nodes (product (x ∷ xs) (r ∷ rests)) ≡ most nodes (x ∷ xs) + most all_nodes (r ∷ rests)
most_product x [] r rests =
    most_append all_nodes (map (more x) (r ∷ rests)) [] ∙ (let e = most_more x r rests in omega (arith, e))
most_product x (y ∷ xs) r rests =
    most_append all_nodes (map (more x) (r ∷ rests)) (product (y ∷ xs) (r ∷ rests))
    ∙ (let e = most_more x r rests in let f = most_product y xs r rests in omega (arith, e, f))

pub both_sizes : (xs : List Shape) (rests : List Shapes) → both (size_of xs) (size_of_lists rests) ≡ size_of_lists (product xs rests)
both_sizes [] rests = refl
both_sizes (x ∷ xs) [] = both_empty (size_of (x ∷ xs)) ∙ ap size_of_lists (sym (product_empty (x ∷ xs)))
both_sizes (x ∷ xs) (r ∷ rests) =
    both_sized (length xs) (most nodes (x ∷ xs)) (length rests) (most all_nodes (r ∷ rests))
    ∙ ap₂ sized (sym (length_product (x ∷ xs) (r ∷ rests))) (sym (most_product x xs r rests))

pub most_node : (c : ℕ) (ss : Shapes) (sss : List Shapes) → most nodes (map (node c) (ss ∷ sss)) ≡ most all_nodes (ss ∷ sss) + 1
most_node c ss [] = omega arith
most_node c ss (ts ∷ sss) = let e = most_node c ts sss in omega (arith, e)

pub under_sizes : (c : ℕ) (sss : List Shapes) → under (size_of_lists sss) ≡ size_of (map (node c) sss)
under_sizes c [] = refl
under_sizes c (ss ∷ sss) =
    both_sized (length sss) (most all_nodes (ss ∷ sss)) 0 1
    ∙ ap₂ sized (let e : suc (length sss) * 1 ≡ suc (length sss) = omega arith in e ∙ sym (length-map (ss ∷ sss) (node c))) (sym (most_node c ss sss))
