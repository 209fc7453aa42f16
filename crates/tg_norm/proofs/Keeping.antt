-- The normal form of a typed term has its value and each of its types.
use Rattle.std.proofs.Common.{ℕ, ◌≡◌, List, [], ◌∷◌, refl, ap, sym, ◌∙◌, subst}
use Rattle.std.specs.Option.{option_map_or}
use Rattle.tg_model.specs.Tree as tree
use Rattle.tg_model.specs.Tree.{Tree, Trees, bound, free, literal, truth, con, call, put, choice, case, bind, op, trees, elements}
use Rattle.tg_model.specs.Types.{Ty}
use Rattle.tg_model.specs.Value.{Value, made, values, wrong}
use Rattle.tg_model.specs.Theory.{Theory}
use Rattle.tg_model.specs.Denotation.{World, value_in, values_in, branch_in, opened, chosen, operated, world}
use Rattle.tg_model.specs.TermTyping.{Typings, leaf, instanced, compound, branching, binding, none, more, type_of, types_of, AreTypings, IsOperation, IsTyped}
use Rattle.tg_model.specs.WellTyped.{IsWellTyped}
use Rattle.tg_rows.specs.Laws.{Setting}
use Rattle.tg_rows.proofs.AllRows.{rows_keep}
use Rattle.tg_norm.specs.Normal.{Walked, Parted, Norm, at_leaf, at_end, at_step, AllNorm, at_none, at_more, rebuilt, arguments}
use Rattle.tg_norm.proofs.RootLaws.{first_row}

module _ (th : Theory) (wt : IsWellTyped th) (n : Setting th) where
  abbrev w : World
  w = world th n.table

  abbrev value : Tree → Value
  value t = value_in w n.env n.loc t

  abbrev Typed : Tree → Ty → Type 0
  Typed t a = IsTyped th n.vars n.locs t a

  -- the value and each type of `t` are those of `u`
  abbrev Kept : Tree → Tree → Type 0
  Kept t u = (a : Ty) → Typed t a → (value t ≡ value u) × Typed u a

  abbrev AllKept : List Tree → List Tree → Type 0
  AllKept [] [] = Unit {0}
  AllKept (t ∷ ts) (u ∷ us) = Kept t u × AllKept ts us
  AllKept ts us = ⊥

  record KeptParts (ts : Trees) (us : List Tree) (ds : Typings) : Type 0 where
    typings : Typings
    types : types_of typings ≡ types_of ds
    typed : AreTypings th n.vars n.locs (trees us) typings
    same : values_in w n.env n.loc ts ≡ values_in w n.env n.loc (trees us)

  kept_parts : (ts : Trees) (us : List Tree) (ds : Typings) → AllKept (elements ts) us → AreTypings th n.vars n.locs ts ds → KeptParts ts us ds
  kept_parts tree.none [] none h k = record { typings = none; types = refl; typed = tt; same = refl }
  kept_parts tree.none [] (more d ds) h k = absurd k
  kept_parts tree.none (u ∷ us) ds h k = absurd h
  kept_parts (tree.more t ts) [] ds h k = absurd h
  kept_parts (tree.more t ts) (u ∷ us) none h k = absurd k
  kept_parts (tree.more t ts) (u ∷ us) (more d ds) h k =
      let q = h.0 (type_of d) (d, k.0, refl) in
      let r = kept_parts ts us ds h.1 k.1 in
      record { typings = more q.1.0 r.typings; types = λ i. q.1.2 i ∷ r.types i; typed = (q.1.1, r.typed); same = λ i. q.0 i ∷ r.same i }

  -- other arguments that keep their values and types
  rebuilt_kept : (t : Tree) (us : List Tree) → AllKept (arguments t) us → Kept t (rebuilt t us)
  rebuilt_kept (bound k) us h a d = (refl, d)
  rebuilt_kept (free k) us h a d = (refl, d)
  rebuilt_kept (literal k) us h a d = (refl, d)
  rebuilt_kept (truth b) us h a d = (refl, d)
  rebuilt_kept (con c ts) us h a (instanced is t ds, (o, e, f, g, i, k), j) =
      let r = kept_parts ts us ds h k in
      (ap (λ vs. made c (values vs)) r.same, (instanced is t r.typings, (o, e, f, g, r.types ∙ i, r.typed), j))
  rebuilt_kept (con c ts) us h a (leaf t, k, j) = absurd k
  rebuilt_kept (con c ts) us h a (compound t ds, k, j) = absurd k
  rebuilt_kept (con c ts) us h a (branching is t d arms, k, j) = absurd k
  rebuilt_kept (con c ts) us h a (binding s t d e, k, j) = absurd k
  rebuilt_kept (call f ts) us h a (instanced is t ds, (x, e, g, l, i, k), j) =
      let r = kept_parts ts us ds h k in
      (ap (w.calls f) r.same, (instanced is t r.typings, (x, e, g, l, r.types ∙ i, r.typed), j))
  rebuilt_kept (call f ts) us h a (leaf t, k, j) = absurd k
  rebuilt_kept (call f ts) us h a (compound t ds, k, j) = absurd k
  rebuilt_kept (call f ts) us h a (branching is t d arms, k, j) = absurd k
  rebuilt_kept (call f ts) us h a (binding s t d e, k, j) = absurd k
  rebuilt_kept (put ts) us h a (compound t ds, (e, i, k), j) =
      let r = kept_parts ts us ds h k in
      (ap w.answers r.same, (compound t r.typings, (e, r.types ∙ i, r.typed), j))
  rebuilt_kept (put ts) us h a (leaf t, k, j) = absurd k
  rebuilt_kept (put ts) us h a (instanced is t ds, k, j) = absurd k
  rebuilt_kept (put ts) us h a (branching is t d arms, k, j) = absurd k
  rebuilt_kept (put ts) us h a (binding s t d e, k, j) = absurd k
  rebuilt_kept (op o ts) us h a (compound t ds, (e, k), j) =
      let r = kept_parts ts us ds h k in
      (ap (operated o) r.same, (compound t r.typings, (subst (λ (l : List Ty). IsOperation o l t) (sym r.types) e, r.typed), j))
  rebuilt_kept (op o ts) us h a (leaf t, k, j) = absurd k
  rebuilt_kept (op o ts) us h a (instanced is t ds, k, j) = absurd k
  rebuilt_kept (op o ts) us h a (branching is t d arms, k, j) = absurd k
  rebuilt_kept (op o ts) us h a (binding s t d e, k, j) = absurd k
  rebuilt_kept (choice tree.none) us h a d = (refl, d)
  rebuilt_kept (choice (tree.more c ts)) [] h a d = absurd h
  rebuilt_kept (choice (tree.more c ts)) (u ∷ us) h a (compound t (more d ds), (e, k), j) =
      let q = h.0 (type_of d) (d, k.0, refl) in
      (ap (λ v. chosen (v ∷ values_in w n.env n.loc ts)) q.0, (compound t (more q.1.0 ds), ((λ i. q.1.2 i ∷ types_of ds) ∙ e, (q.1.1, k.1)), j))
  rebuilt_kept (choice (tree.more c ts)) (u ∷ us) h a (compound t none, (e, k), j) = absurd k
  rebuilt_kept (choice (tree.more c ts)) (u ∷ us) h a (leaf t, k, j) = absurd k
  rebuilt_kept (choice (tree.more c ts)) (u ∷ us) h a (instanced is t ds, k, j) = absurd k
  rebuilt_kept (choice (tree.more c ts)) (u ∷ us) h a (branching is t d arms, k, j) = absurd k
  rebuilt_kept (choice (tree.more c ts)) (u ∷ us) h a (binding s t d e, k, j) = absurd k
  rebuilt_kept (case m t arms) [] h a d = absurd h
  rebuilt_kept (case m t arms) (u ∷ us) h a (branching is s d bs, (e, f, k, l), j) =
      let q = h.0 (type_of d) (d, k, refl) in (
        ap (λ v. option_map_or (λ (p : ℕ × List Value). branch_in w n.env n.loc p.0 p.1 arms) (opened m (w.first m) v) wrong) q.0,
        (branching is s q.1.0 bs, (e, q.1.2 ∙ f, q.1.1, l), j),
      )
  rebuilt_kept (case m t arms) (u ∷ us) h a (leaf s, k, j) = absurd k
  rebuilt_kept (case m t arms) (u ∷ us) h a (instanced is s ds, k, j) = absurd k
  rebuilt_kept (case m t arms) (u ∷ us) h a (compound s ds, k, j) = absurd k
  rebuilt_kept (case m t arms) (u ∷ us) h a (binding r s d e, k, j) = absurd k
  rebuilt_kept (bind t body) [] h a d = absurd h
  rebuilt_kept (bind t body) (u ∷ us) h a (binding r s d e, (k, f, l, m), j) =
      let q = h.0 (type_of d) (d, k, refl) in
      (ap (λ v. value_in w n.env (v ∷ n.loc) body) q.0, (binding r s q.1.0 e, (q.1.1, f ∙ sym q.1.2, l, m), j))
  rebuilt_kept (bind t body) (u ∷ us) h a (leaf s, k, j) = absurd k
  rebuilt_kept (bind t body) (u ∷ us) h a (instanced is s ds, k, j) = absurd k
  rebuilt_kept (bind t body) (u ∷ us) h a (compound s ds, k, j) = absurd k
  rebuilt_kept (bind t body) (u ∷ us) h a (branching is s d bs, k, j) = absurd k

  kept_on : (t u v : Tree) → Kept t u → Kept u v → Kept t v
  kept_on t u v h k a d = let p = h a d in let q = k a p.1 in (p.0 ∙ q.0, q.1)

  mutual
    pub form_kept : (t : Tree) (x : Walked) → Norm th t x → Kept t x.form
    form_kept t x (at_leaf l e) = subst (λ (y : Walked). Kept t y.form) (sym e) (λ a d. (refl, d))
    form_kept t x (at_end p l h f m e) =
        subst (λ (y : Walked). Kept t y.form) (sym e) (rebuilt_kept t p.forms (forms_kept (arguments t) p h))
    form_kept t x (at_step p s u r l h f m g e) =
        subst (λ (y : Walked). Kept t y.form) (sym e)
        (kept_on t (rebuilt t p.forms) r.form (rebuilt_kept t p.forms (forms_kept (arguments t) p h))
        (kept_on (rebuilt t p.forms) u r.form (λ a d. rows_keep th wt n s (rebuilt t p.forms) u a (first_row th (rebuilt t p.forms) s u f) d) (form_kept u r g)))

    forms_kept : (ts : List Tree) (p : Parted) → AllNorm th ts p → AllKept ts p.forms
    forms_kept [] p (at_none e) = subst (λ (y : Parted). AllKept [] y.forms) (sym e) tt
    forms_kept (t ∷ ts) p (at_more x q m h e) = subst (λ (y : Parted). AllKept (t ∷ ts) y.forms) (sym e) (form_kept t x m, forms_kept ts q h)
