-- The normal form keeps the inputs of program calls, whose arguments are their own normal forms.
use Rattle.std.proofs.Common.{◌≡◌, List, [], ◌∷◌, ap, sym, ◌∙◌, subst}
use Rattle.tg_model.specs.Tree as tree
use Rattle.tg_model.specs.Tree.{Tree, Trees, bound, free, literal, truth, con, call, put, choice, case, bind, op, trees, elements}
use Rattle.tg_model.specs.Value.{Value}
use Rattle.tg_model.specs.Theory.{Theory}
use Rattle.tg_model.specs.Table.{Table}
use Rattle.tg_model.specs.Accepted.{IsAccepted}
use Rattle.tg_model.specs.Calls.{EachPut, EachPuts}
use Rattle.tg_rows.specs.Laws.{HaveValues}
use Rattle.tg_rows.proofs.RowInputs.{rows_keep_inputs}
use Rattle.tg_norm.specs.Normal.{Walked, Parted, Norm, at_leaf, at_end, at_step, AllNorm, at_none, at_more, rebuilt, arguments}
use Rattle.tg_norm.proofs.ArgumentLaws.{trees_elements}
use Rattle.tg_norm.proofs.RootLaws.{first_row}
use Rattle.tg_norm.proofs.MadeForms.{all_made, made_forms}

module _ (th : Theory) (accepted : IsAccepted th) (tb : Table) (env d : List Value) where
  abbrev P : Trees → Type 0
  P = HaveValues th tb env d

  abbrev Good : Tree → Type 0
  Good = EachPut P

  abbrev Goods : Trees → Type 0
  Goods = EachPuts P

  abbrev AllGood : List Tree → Type 0
  AllGood [] = Unit {0}
  AllGood (t ∷ ts) = Good t × AllGood ts

  abbrev Like : List Tree → List Tree → Type 0
  Like [] [] = Unit {0}
  Like (t ∷ ts) (u ∷ us) = (Good t → Good u) × Like ts us
  Like ts us = ⊥

  like_all : (ts : Trees) (us : List Tree) → Like (elements ts) us → Goods ts → Goods (trees us)
  like_all tree.none [] h g = tt
  like_all tree.none (u ∷ us) h g = absurd h
  like_all (tree.more t ts) [] h g = absurd h
  like_all (tree.more t ts) (u ∷ us) h g = (h.0 g.0, like_all ts us h.1 g.1)

  rebuilt_good : (t : Tree) (p : Parted) → AllNorm th (arguments t) p → Like (arguments t) p.forms → Good t → Good (rebuilt t p.forms)
  rebuilt_good (bound k) p a h g = tt
  rebuilt_good (free k) p a h g = tt
  rebuilt_good (literal k) p a h g = tt
  rebuilt_good (truth b) p a h g = tt
  rebuilt_good (con c ts) p a h g = like_all ts p.forms h g
  rebuilt_good (call f ts) p a h g = like_all ts p.forms h g
  rebuilt_good (put ts) p a h g =
      let same : p.forms ≡ elements ts = (made_forms th (elements ts) p (all_made ts g.0.made) a).0 in
      subst Good (ap put (sym (ap trees same ∙ trees_elements ts))) g
  rebuilt_good (op o ts) p a h g = like_all ts p.forms h g
  rebuilt_good (choice tree.none) p a h g = g
  rebuilt_good (choice (tree.more c ts)) p a h g = by p.forms h
    where
      by : (us : List Tree) → Like (c ∷ []) us → Good (rebuilt (choice (tree.more c ts)) us)
      by [] k = absurd k
      by (u ∷ us) k = (k.0 g.0, g.1)
  rebuilt_good (case m t arms) p a h g = by p.forms h
    where
      by : (us : List Tree) → Like (t ∷ []) us → Good (rebuilt (case m t arms) us)
      by [] k = absurd k
      by (u ∷ us) k = (k.0 g.0, g.1)
  rebuilt_good (bind t body) p a h g = by p.forms h
    where
      by : (us : List Tree) → Like (t ∷ []) us → Good (rebuilt (bind t body) us)
      by [] k = absurd k
      by (u ∷ us) k = (k.0 g.0, g.1)

  mutual
    pub form_good : (t : Tree) (w : Walked) → Norm th t w → Good t → Good w.form
    form_good t w (at_leaf l e) g = subst (λ (y : Walked). Good y.form) (sym e) g
    form_good t w (at_end p l a f m e) g =
        subst (λ (y : Walked). Good y.form) (sym e) (rebuilt_good t p a (forms_good (arguments t) p a) g)
    form_good t w (at_step p s u r l a f m n e) g =
        subst (λ (y : Walked). Good y.form) (sym e)
        (form_good u r n (rows_keep_inputs th accepted tb env d s (rebuilt t p.forms) u (first_row th (rebuilt t p.forms) s u f)
        (rebuilt_good t p a (forms_good (arguments t) p a) g)))

    forms_good : (ts : List Tree) (p : Parted) → AllNorm th ts p → Like ts p.forms
    forms_good [] p (at_none e) = subst (λ (y : Parted). Like [] y.forms) (sym e) tt
    forms_good (t ∷ ts) p (at_more w q n a e) = subst (λ (y : Parted). Like (t ∷ ts) y.forms) (sym e) (λ g. form_good t w n g, forms_good ts q a)
