-- A term has one walk: nothing in it depends on a budget.
use Rattle.std.proofs.Common.{ℕ, ◌≡◌, true, false, List, [], ◌∷◌, Option, Some, None, ap, sym, ◌∙◌, subst}
use Rattle.std.proofs.lemmas.Option.{same_Some}
use Rattle.tg_model.specs.Tree.{Tree}
use Rattle.tg_model.specs.Theory.{Theory}
use Rattle.tg_rows.specs.Rows.{first}
use Rattle.tg_norm.specs.Normal.{Walked, Parted, Norm, at_leaf, at_end, at_step, AllNorm, at_none, at_more, joined, ended, stepped, rebuilt, is_leaf}

pub same_number : (s k : ℕ) (u v : Tree) → ◌≡◌ {A = Option (ℕ × Tree)} (Some (s, u)) (Some (k, v)) → s ≡ k
same_number s k u v e = ap (λ (p : ℕ × Tree). p.0) (same_Some (s, u) (k, v) e)

pub same_result : (s k : ℕ) (u v : Tree) → ◌≡◌ {A = Option (ℕ × Tree)} (Some (s, u)) (Some (k, v)) → u ≡ v
same_result s k u v e = ap (λ (p : ℕ × Tree). p.1) (same_Some (s, u) (k, v) e)

module _ (th : Theory) where
  leaf_or_not : {A : Type 0} (t : Tree) → is_leaf t ≡ true → is_leaf t ≡ false → A
  leaf_or_not t e f = absurd (cc (sym e ∙ f))

  some_or_none : {A : Type 0} (t : Tree) (p q : Parted) (s : ℕ) (u : Tree) → p ≡ q → first th (rebuilt t p.forms) ≡ Some (s, u) → first th (rebuilt t q.forms) ≡ None → A
  some_or_none t p q s u e f g = absurd (cc (sym f ∙ ap (λ (r : Parted). first th (rebuilt t r.forms)) e ∙ g))

  mutual
    pub one_walk : (t : Tree) (w v : Walked) → Norm th t w → Norm th t v → w ≡ v
    one_walk t w v (at_leaf l e) (at_leaf l' e') = e ∙ sym e'
    one_walk t w v (at_leaf l e) (at_end p' l' a' f' n' e') = leaf_or_not t l l'
    one_walk t w v (at_leaf l e) (at_step p' s' u' r' l' a' f' n' k' e') = leaf_or_not t l l'
    one_walk t w v (at_end p l a f n e) (at_leaf l' e') = leaf_or_not t l' l
    one_walk t w v (at_end p l a f n e) (at_end p' l' a' f' n' e') = e ∙ ap (ended t) (one_parted _ p p' a a') ∙ sym e'
    one_walk t w v (at_end p l a f n e) (at_step p' s' u' r' l' a' f' n' k' e') = some_or_none t p' p s' u' (sym (one_parted _ p p' a a')) f' f
    one_walk t w v (at_step p s u r l a f n k e) (at_leaf l' e') = leaf_or_not t l' l
    one_walk t w v (at_step p s u r l a f n k e) (at_end p' l' a' f' n' e') = some_or_none t p p' s u (one_parted _ p p' a a') f f'
    one_walk t w v (at_step p s u r l a f n k e) (at_step p' s' u' r' l' a' f' n' k' e') =
        let q : p ≡ p' = one_parted _ p p' a a' in
        let g : Some (s, u) ≡ Some (s', u') = sym f ∙ ap (λ (x : Parted). first th (rebuilt t x.forms)) q ∙ f' in
        let i : s ≡ s' = same_number s s' u u' g in
        let j : u ≡ u' = same_result s s' u u' g in
        e ∙ (λ x. stepped t (q x) (i x) (j x) (one_walk u r r' k (subst (λ (y : Tree). Norm th y r') (sym j) k') x)) ∙ sym e'

    pub one_parted : (ts : List Tree) (p q : Parted) → AllNorm th ts p → AllNorm th ts q → p ≡ q
    one_parted [] p q (at_none e) (at_none e') = e ∙ sym e'
    one_parted (t ∷ ts) p q (at_more w r n a e) (at_more w' r' n' a' e') =
        e ∙ (λ x. joined (one_walk t w w' n n' x) (one_parted ts r r' a a' x)) ∙ sym e'
