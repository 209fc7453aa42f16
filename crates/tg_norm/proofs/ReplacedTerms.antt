-- A truth value in place of a condition keeps types, and values where the condition has that value.
use Rattle.std.proofs.Common.{ℕ, ◌≡◌, Bool, true, false, List, ◌∷◌, refl, ap, sym, ◌∙◌, subst}
use Rattle.std.specs.Option.{option_map_or}
use Rattle.std.specs.Prelude.{if◌then◌else◌}
use Rattle.tg_model.specs.Tree as tree
use Rattle.tg_model.specs.Tree.{Tree, Trees, Arms, bound, free, literal, truth, con, call, put, choice, case, bind, op}
use Rattle.tg_model.specs.Types.{Ty, bool}
use Rattle.tg_model.specs.Value.{Value, boolean, made, values, wrong}
use Rattle.tg_model.specs.Theory.{Theory}
use Rattle.tg_model.specs.Table.{Table}
use Rattle.tg_model.specs.Denotation.{World, value_in, values_in, branch_in, opened, chosen, operated, world, den}
use Rattle.tg_model.specs.Equality.{same_tree}
use Rattle.tg_model.specs.TermTyping.{Typings, leaf, instanced, compound, branching, binding, none, more, type_of, types_of, AreTypings, IsOperation, IsTyped}
use Rattle.tg_model.proofs.Equalities.{decides_trees}
use Rattle.tg_norm.specs.Halves.{replaced, all_replaced, unless_same}

module _ (th : Theory) (tb : Table) (env : List Value) (q : Tree) (b : Bool) (known : (loc : List Value) → den th tb env loc q ≡ boolean b) where
  abbrev w : World
  w = world th tb

  unless_value : (loc : List Value) (t u : Tree) → value_in w env loc u ≡ value_in w env loc t → value_in w env loc (unless_same q b t u) ≡ value_in w env loc t
  unless_value loc t u e = by (same_tree t q) refl
    where
      by : (c : Bool) → same_tree t q ≡ c → value_in w env loc (if c then truth b else u) ≡ value_in w env loc t
      by true f = sym (known loc) ∙ ap (value_in w env loc) (sym ((decides_trees t q).0 f))
      by false f = e

  mutual
    pub replaced_value : (t : Tree) (loc : List Value) → value_in w env loc (replaced q b t) ≡ value_in w env loc t
    replaced_value (bound k) loc = unless_value loc (bound k) (bound k) refl
    replaced_value (free n) loc = unless_value loc (free n) (free n) refl
    replaced_value (literal n) loc = unless_value loc (literal n) (literal n) refl
    replaced_value (truth c) loc = unless_value loc (truth c) (truth c) refl
    replaced_value (con c ts) loc = unless_value loc (con c ts) (con c (all_replaced q b ts)) (ap (λ vs. made c (values vs)) (all_value ts loc))
    replaced_value (call f ts) loc = unless_value loc (call f ts) (call f (all_replaced q b ts)) (ap (w.calls f) (all_value ts loc))
    replaced_value (put ts) loc = unless_value loc (put ts) (put (all_replaced q b ts)) (ap w.answers (all_value ts loc))
    replaced_value (choice ts) loc = unless_value loc (choice ts) (choice (all_replaced q b ts)) (ap chosen (all_value ts loc))
    replaced_value (case d t arms) loc = unless_value loc (case d t arms) (case d (replaced q b t) arms)
        (ap (λ v. option_map_or (λ (p : ℕ × List Value). branch_in w env loc p.0 p.1 arms) (opened d (w.first d) v) wrong) (replaced_value t loc))
    replaced_value (bind t body) loc = unless_value loc (bind t body) (bind (replaced q b t) (replaced q b body))
        (replaced_value body (value_in w env loc (replaced q b t) ∷ loc) ∙ ap (λ v. value_in w env (v ∷ loc) body) (replaced_value t loc))
    replaced_value (op o ts) loc = unless_value loc (op o ts) (op o (all_replaced q b ts)) (ap (operated o) (all_value ts loc))

    all_value : (ts : Trees) (loc : List Value) → values_in w env loc (all_replaced q b ts) ≡ values_in w env loc ts
    all_value tree.none loc = refl
    all_value (tree.more t ts) loc = λ i. replaced_value t loc i ∷ all_value ts loc i

module _ (th : Theory) (vars : List Ty) (q : Tree) (b : Bool) (one : (locs : List Ty) (a : Ty) → IsTyped th vars locs q a → a ≡ bool) where
  abbrev Typed : List Ty → Tree → Ty → Type 0
  Typed locs t a = IsTyped th vars locs t a

  unless_typed : (locs : List Ty) (t u : Tree) (a : Ty) → Typed locs t a → Typed locs u a → Typed locs (unless_same q b t u) a
  unless_typed locs t u a h k = by (same_tree t q) refl
    where
      by : (c : Bool) → same_tree t q ≡ c → Typed locs (if c then truth b else u) a
      by true f = (leaf bool, refl, sym (one locs a (subst (λ (x : Tree). Typed locs x a) ((decides_trees t q).0 f) h)))
      by false f = k

  record Others (locs : List Ty) (us : Trees) (ds : Typings) : Type 0 where
    typings : Typings
    types : types_of typings ≡ types_of ds
    typed : AreTypings th vars locs us typings

  abbrev AllOther : List Ty → Trees → Trees → Type 0
  AllOther locs ts us = (ds : Typings) → AreTypings th vars locs ts ds → Others locs us ds

  abbrev Other : List Ty → Tree → Tree → Type 0
  Other locs t u = (a : Ty) → Typed locs t a → Typed locs u a

  con_typed : (c : ℕ) (ts : Trees) (us' : Trees) (locs : List Ty) (a : Ty) → AllOther locs ts us' → Typed locs (con c ts) a → Typed locs (con c us') a
  con_typed c ts us' locs a other (instanced us t ds, (o, e, f, g, i, k), j) =
      let r = other ds k in (instanced us t r.typings, (o, e, f, g, r.types ∙ i, r.typed), j)
  con_typed c ts us' locs a other (leaf t, k, j) = absurd k
  con_typed c ts us' locs a other (compound t ds, k, j) = absurd k
  con_typed c ts us' locs a other (branching us t d arms, k, j) = absurd k
  con_typed c ts us' locs a other (binding s t d e, k, j) = absurd k

  call_typed : (f : ℕ) (ts : Trees) (us' : Trees) (locs : List Ty) (a : Ty) → AllOther locs ts us' → Typed locs (call f ts) a → Typed locs (call f us') a
  call_typed f ts us' locs a other (instanced us t ds, (x, e, g, l, i, k), j) =
      let r = other ds k in (instanced us t r.typings, (x, e, g, l, r.types ∙ i, r.typed), j)
  call_typed f ts us' locs a other (leaf t, k, j) = absurd k
  call_typed f ts us' locs a other (compound t ds, k, j) = absurd k
  call_typed f ts us' locs a other (branching us t d arms, k, j) = absurd k
  call_typed f ts us' locs a other (binding s t d e, k, j) = absurd k

  put_typed : (ts : Trees) (us' : Trees) (locs : List Ty) (a : Ty) → AllOther locs ts us' → Typed locs (put ts) a → Typed locs (put us') a
  put_typed ts us' locs a other (compound t ds, (e, i, k), j) = let r = other ds k in (compound t r.typings, (e, r.types ∙ i, r.typed), j)
  put_typed ts us' locs a other (leaf t, k, j) = absurd k
  put_typed ts us' locs a other (instanced us t ds, k, j) = absurd k
  put_typed ts us' locs a other (branching us t d arms, k, j) = absurd k
  put_typed ts us' locs a other (binding s t d e, k, j) = absurd k

  choice_typed : (ts : Trees) (us' : Trees) (locs : List Ty) (a : Ty) → AllOther locs ts us' → Typed locs (choice ts) a → Typed locs (choice us') a
  choice_typed ts us' locs a other (compound t ds, (i, k), j) = let r = other ds k in (compound t r.typings, (r.types ∙ i, r.typed), j)
  choice_typed ts us' locs a other (leaf t, k, j) = absurd k
  choice_typed ts us' locs a other (instanced us t ds, k, j) = absurd k
  choice_typed ts us' locs a other (branching us t d arms, k, j) = absurd k
  choice_typed ts us' locs a other (binding s t d e, k, j) = absurd k

  op_typed : (o : tree.Operator) (ts : Trees) (us' : Trees) (locs : List Ty) (a : Ty) → AllOther locs ts us' → Typed locs (op o ts) a → Typed locs (op o us') a
  op_typed o ts us' locs a other (compound t ds, (e, k), j) =
      let r = other ds k in (compound t r.typings, (subst (λ (l : List Ty). IsOperation o l t) (sym r.types) e, r.typed), j)
  op_typed o ts us' locs a other (leaf t, k, j) = absurd k
  op_typed o ts us' locs a other (instanced us t ds, k, j) = absurd k
  op_typed o ts us' locs a other (branching us t d arms, k, j) = absurd k
  op_typed o ts us' locs a other (binding s t d e, k, j) = absurd k

  case_typed : (n : ℕ) (t t' : Tree) (arms : Arms) (locs : List Ty) (a : Ty) → Other locs t t' → Typed locs (case n t arms) a → Typed locs (case n t' arms) a
  case_typed n t t' arms locs a other (branching us s d bs, (e, f, k, l), j) =
      let r = other (type_of d) (d, k, refl) in (branching us s r.0 bs, (e, r.2 ∙ f, r.1, l), j)
  case_typed n t t' arms locs a other (leaf s, k, j) = absurd k
  case_typed n t t' arms locs a other (instanced us s ds, k, j) = absurd k
  case_typed n t t' arms locs a other (compound s ds, k, j) = absurd k
  case_typed n t t' arms locs a other (binding r s d e, k, j) = absurd k

  bind_typed : (t t' body body' : Tree) (locs : List Ty) (a : Ty) → Other locs t t' → ((s : Ty) → Other (s ∷ locs) body body') → Typed locs (bind t body) a → Typed locs (bind t' body') a
  bind_typed t t' body body' locs a other within (binding u s d e, (k, f, l, m), j) =
      let r = other (type_of d) (d, k, refl) in
      let x = within u (type_of e) (e, l, refl) in
      (binding u s r.0 x.0, (r.1, f ∙ sym r.2, x.1, m ∙ sym x.2), j)
  bind_typed t t' body body' locs a other within (leaf s, k, j) = absurd k
  bind_typed t t' body body' locs a other within (instanced us s ds, k, j) = absurd k
  bind_typed t t' body body' locs a other within (compound s ds, k, j) = absurd k
  bind_typed t t' body body' locs a other within (branching us s d bs, k, j) = absurd k

  mutual
    pub replaced_typed : (t : Tree) (locs : List Ty) (a : Ty) → Typed locs t a → Typed locs (replaced q b t) a
    replaced_typed (bound k) locs a h = unless_typed locs (bound k) (bound k) a h h
    replaced_typed (free n) locs a h = unless_typed locs (free n) (free n) a h h
    replaced_typed (literal n) locs a h = unless_typed locs (literal n) (literal n) a h h
    replaced_typed (truth c) locs a h = unless_typed locs (truth c) (truth c) a h h
    replaced_typed (con c ts) locs a h = unless_typed locs (con c ts) (con c (all_replaced q b ts)) a h (con_typed c ts (all_replaced q b ts) locs a (all_typed ts locs) h)
    replaced_typed (call f ts) locs a h = unless_typed locs (call f ts) (call f (all_replaced q b ts)) a h (call_typed f ts (all_replaced q b ts) locs a (all_typed ts locs) h)
    replaced_typed (put ts) locs a h = unless_typed locs (put ts) (put (all_replaced q b ts)) a h (put_typed ts (all_replaced q b ts) locs a (all_typed ts locs) h)
    replaced_typed (choice ts) locs a h = unless_typed locs (choice ts) (choice (all_replaced q b ts)) a h (choice_typed ts (all_replaced q b ts) locs a (all_typed ts locs) h)
    replaced_typed (case n t arms) locs a h = unless_typed locs (case n t arms) (case n (replaced q b t) arms) a h (case_typed n t (replaced q b t) arms locs a (replaced_typed t locs) h)
    replaced_typed (bind t body) locs a h = unless_typed locs (bind t body) (bind (replaced q b t) (replaced q b body)) a h (bind_typed t (replaced q b t) body (replaced q b body) locs a (replaced_typed t locs) (λ s. replaced_typed body (s ∷ locs)) h)
    replaced_typed (op o ts) locs a h = unless_typed locs (op o ts) (op o (all_replaced q b ts)) a h (op_typed o ts (all_replaced q b ts) locs a (all_typed ts locs) h)

    all_typed : (ts : Trees) (locs : List Ty) (ds : Typings) → AreTypings th vars locs ts ds → Others locs (all_replaced q b ts) ds
    all_typed tree.none locs none h = record { typings = none; types = refl; typed = tt }
    all_typed tree.none locs (more d ds) h = absurd h
    all_typed (tree.more t ts) locs none h = absurd h
    all_typed (tree.more t ts) locs (more d ds) h =
        let r = replaced_typed t locs (type_of d) (d, h.0, refl) in
        let rest = all_typed ts locs ds h.1 in
        record { typings = more r.0 rest.typings; types = λ i. r.2 i ∷ rest.types i; typed = (r.1, rest.typed) }
