-- Terms made of constructors, variables and truth values are their own normal forms, and normal forms have no `let` in the way.
use Rattle.std.proofs.Common.{ℕ, ◌≡◌, Bool, true, false, ◌||◌, ◌++◌, List, [], ◌∷◌, length, arith, Option, Some, None, refl, ap, sym, ◌∙◌, subst}
use Rattle.tg_model.specs.Tree as tree
use Rattle.tg_model.specs.Tree.{Tree, Trees, bound, free, literal, truth, con, call, put, choice, case, bind, op, trees, elements}
use Rattle.tg_model.specs.Theory.{Theory}
use Rattle.tg_model.specs.Made.{IsMade, AreMade}
use Rattle.tg_rows.specs.Rows.{first}
use Rattle.tg_rows.proofs.AllRows.{none_for_made, some_for_let}
use Rattle.tg_norm.specs.Normal.{Walked, Parted, Norm, at_leaf, at_end, at_step, AllNorm, at_none, at_more, rebuilt, arguments, is_leaf}
use Rattle.tg_norm.specs.Laws.{has_let, have_let}
use Rattle.tg_norm.proofs.ArgumentLaws.{rebuilt_same}
use Rattle.tg_norm.proofs.TurnLaws.{same_length}

abbrev pub AllMade : List Tree → Type 0
AllMade [] = Unit {0}
AllMade (t ∷ ts) = IsMade t × AllMade ts

pub all_made : (ts : Trees) → AreMade ts → AllMade (elements ts)
all_made tree.none h = tt
all_made (tree.more t ts) h = (h.0, all_made ts h.1)

-- the arguments of a made term are made
made_arguments : (t : Tree) → IsMade t → AllMade (arguments t)
made_arguments (free n) h = tt
made_arguments (truth b) h = tt
made_arguments (con c ts) h = all_made ts h
made_arguments (bound k) h = absurd h
made_arguments (literal n) h = absurd h
made_arguments (call f ts) h = absurd h
made_arguments (put ts) h = absurd h
made_arguments (choice ts) h = absurd h
made_arguments (case d t arms) h = absurd h
made_arguments (bind t body) h = absurd h
made_arguments (op o ts) h = absurd h

module _ (th : Theory) where
  mutual
    pub made_form : (t : Tree) (w : Walked) → IsMade t → Norm th t w → (w.form ≡ t) × (w.steps ≡ [])
    made_form t w h (at_leaf l e) = (ap (λ (x : Walked). x.form) e, ap (λ (x : Walked). x.steps) e)
    made_form t w h (at_end p l a f n e) =
        let k = made_forms (arguments t) p (made_arguments t h) a in
        (ap (λ (x : Walked). x.form) e ∙ ap (rebuilt t) k.0 ∙ rebuilt_same t, ap (λ (x : Walked). x.steps) e ∙ k.1)
    made_form t w h (at_step p s u r l a f n g e) =
        let k = made_forms (arguments t) p (made_arguments t h) a in
        let z : ◌≡◌ {A = Option (ℕ × Tree)} None (Some (s, u)) = sym (none_for_made th t h) ∙ ap (first th) (sym (ap (rebuilt t) k.0 ∙ rebuilt_same t)) ∙ f in
        absurd (cc z)

    pub made_forms : (ts : List Tree) (p : Parted) → AllMade ts → AllNorm th ts p → (p.forms ≡ ts) × (p.steps ≡ [])
    made_forms [] p h (at_none e) = (ap (λ (x : Parted). x.forms) e, ap (λ (x : Parted). x.steps) e)
    made_forms (t ∷ ts) p h (at_more w q n a e) =
        let k = made_form t w h.0 n in
        let l = made_forms ts q h.1 a in
        (ap (λ (x : Parted). x.forms) e ∙ (λ i. k.0 i ∷ l.0 i), ap (λ (x : Parted). x.steps) e ∙ (λ i. k.1 i ++ l.1 i))

abbrev NoLets : List Tree → Type 0
NoLets [] = Unit {0}
NoLets (t ∷ ts) = (has_let t ≡ false) × NoLets ts

neither : (a b : Bool) → a ≡ false → b ≡ false → (a || b) ≡ false
neither true b h k = absurd (cc h)
neither false b h k = k

no_lets : (us : List Tree) → NoLets us → have_let (trees us) ≡ false
no_lets [] h = refl
no_lets (u ∷ us) h = neither (has_let u) (have_let (trees us)) h.0 (no_lets us h.1)

module _ (th : Theory) where
  leaf_has_none : (t : Tree) → is_leaf t ≡ true → has_let t ≡ false
  leaf_has_none (bound k) l = refl
  leaf_has_none (free n) l = refl
  leaf_has_none (literal n) l = refl
  leaf_has_none (truth b) l = absurd (cc l)
  leaf_has_none (con c ts) l = absurd (cc l)
  leaf_has_none (call f ts) l = absurd (cc l)
  leaf_has_none (put ts) l = absurd (cc l)
  leaf_has_none (choice ts) l = absurd (cc l)
  leaf_has_none (case d t arms) l = absurd (cc l)
  leaf_has_none (bind t body) l = absurd (cc l)
  leaf_has_none (op o ts) l = absurd (cc l)

  bind_applies : {A : Type 0} (t body : Tree) → first th (bind t body) ≡ None → A
  bind_applies t body f =
      let (s, u, e) = some_for_let th t body in
      let z : ◌≡◌ {A = Option (ℕ × Tree)} (Some (s, u)) None = sym e ∙ f in absurd (cc z)

  -- a rebuilt term to which no schema applies
  rebuilt_has_none : (t : Tree) (us : List Tree) → length us ≡ length (arguments t) → NoLets us → first th (rebuilt t us) ≡ None → has_let (rebuilt t us) ≡ false
  rebuilt_has_none (bound k) us n h f = refl
  rebuilt_has_none (free m) us n h f = refl
  rebuilt_has_none (literal m) us n h f = refl
  rebuilt_has_none (truth b) us n h f = refl
  rebuilt_has_none (con c ts) us n h f = no_lets us h
  rebuilt_has_none (call g ts) us n h f = no_lets us h
  rebuilt_has_none (put ts) us n h f = no_lets us h
  rebuilt_has_none (choice tree.none) us n h f = refl
  rebuilt_has_none (choice (tree.more t ts)) [] n h f = absurd (omega (arith, n))
  rebuilt_has_none (choice (tree.more t ts)) (u ∷ us) n h f = h.0
  rebuilt_has_none (case d t arms) [] n h f = absurd (omega (arith, n))
  rebuilt_has_none (case d t arms) (u ∷ us) n h f = h.0
  rebuilt_has_none (bind t body) [] n h f = absurd (omega (arith, n))
  rebuilt_has_none (bind t body) (u ∷ us) n h f = bind_applies u body f
  rebuilt_has_none (op o ts) us n h f = no_lets us h

  mutual
    pub form_has_none : (t : Tree) (w : Walked) → Norm th t w → has_let w.form ≡ false
    form_has_none t w (at_leaf l e) = ap (λ (x : Walked). has_let x.form) e ∙ leaf_has_none t l
    form_has_none t w (at_end p l a f n e) =
        ap (λ (x : Walked). has_let x.form) e ∙ rebuilt_has_none t p.forms (same_length th (arguments t) p a) (forms_have_none (arguments t) p a) f
    form_has_none t w (at_step p s u r l a f n g e) = ap (λ (x : Walked). has_let x.form) e ∙ form_has_none u r g

    forms_have_none : (ts : List Tree) (p : Parted) → AllNorm th ts p → NoLets p.forms
    forms_have_none [] p (at_none e) = subst (λ (x : Parted). NoLets x.forms) (sym e) tt
    forms_have_none (t ∷ ts) p (at_more w q n a e) = subst (λ (x : Parted). NoLets x.forms) (sym e) (form_has_none t w n, forms_have_none ts q a)
