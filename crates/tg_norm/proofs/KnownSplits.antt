-- Leaves that are known by hand, where the one rewriting is that of an `if` at True or at False.
use Rattle.std.proofs.Common.{◌≡◌, true, false, List, [], ◌∷◌, ◌++◌, map, Some, refl}
use Rattle.tg_model.specs.Tree.{Tree, free, put, op, one, two, choice, trees, negation, implication}
use Rattle.tg_model.specs.Value.{number, boolean}
use Rattle.tg_model.specs.Theory.{Theory}
use Rattle.tg_model.specs.Table.{Table}
use Rattle.tg_rows.specs.Parts.{or_else}
use Rattle.tg_rows.specs.Rows.{if_truth, denied}
use Rattle.tg_norm.specs.Laws.{truth_at}
use Rattle.tg_norm.specs.Splits.{Splits, leaf, inner, implied}

abbrev if_ : Tree → Tree → Tree → Tree
if_ c t u = choice (trees (c ∷ t ∷ u ∷ []))

abbrev Chosen : Tree → Tree → Type 0
Chosen t u = or_else (if_truth true t) (if_truth false t) ≡ Some u

words : (implied (free 1) (free 2) ≡ op implication (two (free 1) (free 2)))
    × (implied (denied (free 1)) (free 2) ≡ op implication (two (op negation (one (free 1))) (free 2)))
words = (refl, refl)

whole : Splits Chosen (put (one (free 1))) (put (one (free 1)) ∷ [])
whole = leaf refl refl

-- `if ?1 then ?2 else ?3`
two_leaves : Splits Chosen (if_ (free 1) (free 2) (free 3)) (implied (free 1) (free 2) ∷ implied (denied (free 1)) (free 3) ∷ [])
two_leaves = inner (free 1) (free 2) (free 3) (free 2 ∷ []) (free 3 ∷ []) refl refl refl (leaf refl refl) (leaf refl refl) refl

-- it is no leaf
not_items : (q r t u v : Tree) (ms ns : List Tree) → if_ t u v ∷ [] ≡ map (implied q) ms ++ map (implied r) ns → ⊥
not_items q r t u v [] [] e = cc e
not_items q r t u v [] (n ∷ ns) e = cc e
not_items q r t u v (m ∷ ms) ns e = cc e

no_leaf : Splits Chosen (if_ (free 1) (free 2) (free 3)) (if_ (free 1) (free 2) (free 3) ∷ []) → ⊥
no_leaf (leaf c e) = cc c
no_leaf (inner q u v ms ns c f g x y e) = not_items q (denied q) (free 1) (free 2) (free 3) ms ns e

module _ (th : Theory) (tb : Table) where
  truths : (truth_at th tb (boolean true ∷ []) (free 1) ≡ true) × (truth_at th tb (boolean false ∷ []) (free 1) ≡ false)
      × (truth_at th tb (number 1 ∷ []) (free 1) ≡ false)
  truths = (refl, refl, refl)
