-- Counts that are known by hand, up to the limit and past it.
use Rattle.std.proofs.Common.{ℕ, suc, ◌≡◌, ◌+◌, ◌*◌, true, false, refl, ◌∙◌, ap, arith, List, [], ◌∷◌, map, length, length-append}
use Rattle.std.proofs.lemmas.List.{length-map}
use Rattle.tg_model.specs.Types.{nat}
use Rattle.tg_model.proofs.KnownValues.{sorting}
use Rattle.tg_split.specs.Shapes.{Shape, Shapes, hole, node, none, more, product, of_type}
use Rattle.tg_split.specs.Patterns.{patterns_at}
use Rattle.tg_split.specs.Sizes.{is_over, counted, nodes}
use Rattle.tg_split.proofs.SizeLaws.{length_product}
use Rattle.tg_split.proofs.KnownPatterns.{tree_type, count_at}

-- both limits are passed by one more, and by one of them alone
known_limits : (is_over 4096 100000 ≡ false) × (is_over 4097 0 ≡ true) × (is_over 1 100001 ≡ true)
known_limits = (refl, refl, refl)

known_nodes : nodes (node 3 (more (node 4 none) (more (hole nat) (more (node 4 none) none)))) ≡ 4
known_nodes = refl

-- two inputs, a tree to depth 3 and a natural
known_count : counted (patterns_at sorting ((3, tree_type) ∷ (1, nat) ∷ [])) ≡ 5
known_count = refl

-- five times five
known_pairs : counted (patterns_at sorting ((3, tree_type) ∷ (3, tree_type) ∷ [])) ≡ 25
known_pairs = refl

-- without a tree of depth 0 there is no pattern
known_nothing : counted (patterns_at sorting ((0, tree_type) ∷ (5, tree_type) ∷ [])) ≡ 0
known_nothing = refl

-- 26 times 26
known_squares : (counted (patterns_at sorting ((4, tree_type) ∷ (4, tree_type) ∷ [])) ≡ 676)
known_squares = refl

-- one more than the square: with 677 trees of depth 5 there are more than 4,096 of depth 6
next_count : (k : ℕ) → count_at (suc k) ≡ count_at k * count_at k + 1
next_count k =
    let trees : List Shape = of_type sorting.datatypes k tree_type in
    let rests : List Shapes = product (hole nat ∷ []) (product trees (none ∷ [])) in
    let last = length_product trees (none ∷ []) in
    let middle = length_product (hole nat ∷ []) (product trees (none ∷ [])) in
    let rest : length rests ≡ length trees = omega (arith, last, middle) in
    length-append (map (node 3) (product trees rests)) (node 4 none ∷ [])
    ∙ ap (λ n. n + 1) (length-map (product trees rests) (node 3) ∙ length_product trees rests ∙ ap (λ n. length trees * n) rest)

known_six : count_at 6 ≡ 458330
known_six = next_count 5 ∙ ap (λ n. n * n + 1) (let e : count_at 5 ≡ 677 = refl in e)
