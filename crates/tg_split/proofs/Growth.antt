-- A greater depth has no fewer shapes, and no smaller ones.
use Rattle.std.proofs.Common.{true, ℕ, zero, suc, ◌≡◌, ◌≤◌, inl, inr, List, [], ◌∷◌, ◌++◌, map, length, sym, ◌∙◌, subst, arith, length-append, mul-le-mul}
use Rattle.std.proofs.lemmas.List.{length-map}
use Rattle.tg_model.specs.Types.{Ty, nat, bool, parameter, meta, applied, elements}
use Rattle.tg_model.specs.Theory.{Datatype, first_constructor}
use Rattle.tg_split.specs.Shapes.{Shape, Shapes, node, product, products, of_constructors, arguments_at, of_type}
use Rattle.tg_split.specs.Sizes.{is_passed as passed_size, most, nodes, all_nodes, sized, size_of}
use Rattle.tg_split.specs.declared.sizes.Size.{Size}
use Rattle.tg_split.specs.declared.sizes.Size.TheVariants.{Passed, Within}
use Rattle.tg_split.proofs.SizeLaws.{over_or_not, is_passed, is_within, most_append, product_empty, length_product, most_product, most_node}

-- no more items, and none with a greater number
abbrev pub Smaller : {A : Type 0} → (A → ℕ) → List A → List A → Type 0
Smaller f xs ys = (length xs ≤ length ys) × (most f xs ≤ most f ys)

smaller_both : {A : Type 0} (f : A → ℕ) (xs ys us vs : List A) → Smaller f xs us → Smaller f ys vs → Smaller f (xs ++ ys) (us ++ vs)
smaller_both f xs ys us vs h k =
    let a = length-append xs ys in
    let b = length-append us vs in
    let m = most_append f xs ys in
    let n = most_append f us vs in
    let p = h.0 in let q = h.1 in let r = k.0 in let s = k.1 in (omega (arith, a, b, p, r), omega (arith, m, n, q, s))

smaller_nodes : (c : ℕ) (xs ys : List Shapes) → Smaller all_nodes xs ys → Smaller nodes (map (node c) xs) (map (node c) ys)
smaller_nodes c [] ys h = (omega arith, omega arith)
smaller_nodes c (x ∷ xs) [] h = absurd (let p = h.0 in omega (arith, p))
smaller_nodes c (x ∷ xs) (y ∷ ys) h =
    let a = length-map (x ∷ xs) (node c) in
    let b = length-map (y ∷ ys) (node c) in
    let m = most_node c x xs in
    let n = most_node c y ys in
    let p = h.0 in let q = h.1 in (omega (arith, a, b, p), omega (arith, m, n, q))

smaller_product : (xs us : List Shape) (rests lists : List Shapes) → Smaller nodes xs us → Smaller all_nodes rests lists
    → Smaller all_nodes (product xs rests) (product us lists)
smaller_product [] us rests lists h k = (omega arith, omega arith)
smaller_product (x ∷ xs) us [] lists h k =
    subst (λ (l : List Shapes). Smaller all_nodes l (product us lists)) (sym (product_empty (x ∷ xs))) (omega arith, omega arith)
smaller_product (x ∷ xs) [] (r ∷ rests) lists h k = absurd (let p = h.0 in omega (arith, p))
smaller_product (x ∷ xs) (u ∷ us) (r ∷ rests) [] h k = absurd (let p = k.0 in omega (arith, p))
smaller_product (x ∷ xs) (u ∷ us) (r ∷ rests) (l ∷ lists) h k =
    let a = length_product (x ∷ xs) (r ∷ rests) in
    let b = length_product (u ∷ us) (l ∷ lists) in
    let c = mul-le-mul h.0 k.0 in
    let m = most_product x xs r rests in
    let n = most_product u us l lists in
    let q = h.1 in let s = k.1 in (omega (arith, a, b, c), omega (arith, m, n, q, s))

module _ (f g : Ty → List Shape) (each : (t : Ty) → Smaller nodes (f t) (g t)) where
  smaller_products : (ts : List Ty) → Smaller all_nodes (products f ts) (products g ts)
  smaller_products [] = (omega arith, omega arith)
  smaller_products (t ∷ ts) = smaller_product (f t) (g t) (products f ts) (products g ts) (each t) (smaller_products ts)

  smaller_constructors : (c : ℕ) (args : List (List Ty)) → Smaller nodes (of_constructors f c args) (of_constructors g c args)
  smaller_constructors c [] = (omega arith, omega arith)
  smaller_constructors c (ts ∷ rest) =
      smaller_both nodes (map (node c) (products f ts)) (of_constructors f (suc c) rest) (map (node c) (products g ts)) (of_constructors g (suc c) rest)
      (smaller_nodes c (products f ts) (products g ts) (smaller_products ts)) (smaller_constructors (suc c) rest)

grows : (ds : List Datatype) (k : ℕ) (t : Ty) → Smaller nodes (of_type ds k t) (of_type ds (suc k) t)
grows ds k nat = (omega arith, omega arith)
grows ds k bool = (omega arith, omega arith)
grows ds k (parameter n) = (omega arith, omega arith)
grows ds k (meta n) = (omega arith, omega arith)
grows ds zero (applied d ts) = (omega arith, omega arith)
grows ds (suc k) (applied d ts) = smaller_constructors (of_type ds k) (of_type ds (suc k)) (grows ds k) (first_constructor ds d) (arguments_at ds d (elements ts))

stays : (n x m y : ℕ) → n ≤ m → x ≤ y → Passed ≡ sized n x → Passed ≡ sized m y
stays n x m y h k e = elim (over_or_not n x) [
  | inl p ↦ sym (is_passed m y (elim p [ inl q ↦ inl (omega (arith, h, q)) | inr q ↦ inr (omega (arith, k, q)) ]))
  | inr p ↦ cc (e ∙ is_within n x p.0 p.1)
]

-- what passes the limit to a depth does so to the next
pub stays_passed : (ds : List Datatype) (k : ℕ) (t : Ty) → Passed ≡ size_of (of_type ds k t) → Passed ≡ size_of (of_type ds (suc k) t)
stays_passed ds k t e =
    let g = grows ds k t in
    stays (length (of_type ds k t)) (most nodes (of_type ds k t)) (length (of_type ds (suc k) t)) (most nodes (of_type ds (suc k) t)) g.0 g.1 e

pub passes : (ds : List Datatype) (k : ℕ) (t : Ty) (size : Size) → passed_size size ≡ true → size ≡ size_of (of_type ds k t) → Passed ≡ size_of (of_type ds (suc k) t)
passes ds k t Passed h e = stays_passed ds k t e
passes ds k t (Within n x) h e = cc h
