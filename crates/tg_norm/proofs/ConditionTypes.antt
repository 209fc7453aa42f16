-- The condition at which a normal form is split is typed where the form is: it stands under no binder.
use Rattle.std.proofs.Common.{◌≡◌, false, List, [], ◌∷◌, Option, Some, None, refl, sym, ◌∙◌, subst}
use Rattle.std.specs.Prelude.{unwrap_or}
use Rattle.std.proofs.lemmas.Option.{same_Some}
use Rattle.tg_model.specs.Tree as tree
use Rattle.tg_model.specs.Tree.{Tree, Trees, bound, free, literal, truth, con, call, put, choice, case, bind, op}
use Rattle.tg_model.specs.Types.{Ty, bool}
use Rattle.tg_model.specs.Theory.{Theory}
use Rattle.tg_model.specs.TermTyping.{Typings, leaf, instanced, compound, branching, binding, none, more, type_of, types_of, AreTypings, IsTyped}
use Rattle.tg_model.proofs.Booleans.{or_left_false, or_right_false}
use Rattle.tg_norm.specs.Laws.{has_let, have_let}
use Rattle.tg_norm.specs.Halves.{conditions, all_conditions, first_plain, condition_of}
use Rattle.tg_norm.proofs.ConditionLaws.{or_next, first_append, first_of_choice, either}

module _ (th : Theory) (vars locs : List Ty) where
  abbrev Typed : Tree → Ty → Type 0
  Typed t a = IsTyped th vars locs t a

  -- the condition of an `if`, or the one that is found in it
  of_own : (c q : Tree) (o : Option Tree) → o ≡ condition_of c → Some (unwrap_or o c) ≡ Some q → Typed c bool → (condition_of c ≡ Some q → Typed q bool) → Typed q bool
  of_own c q None e f h k = subst (λ (x : Tree). Typed x bool) (same_Some c q f) h
  of_own c q (Some p) e f h k = k (sym e ∙ f)

  -- the one that is found first, or else the next
  of_two : (o : Option Tree) (q : Tree) (p : Option Tree) → or_next o p ≡ Some q → (o ≡ Some q → Typed q bool) → (p ≡ Some q → Typed q bool) → Typed q bool
  of_two None q p e f g = g e
  of_two (Some r) q p e f g = f e

  head_is : (a b : Ty) (as' bs : List Ty) → a ∷ as' ≡ b ∷ bs → a ≡ b
  head_is a b as' bs e = cc e

  mutual
    pub condition_typed : (t : Tree) (a : Ty) (q : Tree) → has_let t ≡ false → condition_of t ≡ Some q → Typed t a → Typed q bool
    condition_typed (bound k) a q l e h = absurd (cc e)
    condition_typed (free k) a q l e h = absurd (cc e)
    condition_typed (literal k) a q l e h = absurd (cc e)
    condition_typed (truth b) a q l e h = absurd (cc e)
    condition_typed (con c ts) a q l e (instanced us t ds, (o, f, g, i, j, k), m) = conditions_typed ts ds q l e k
    condition_typed (con c ts) a q l e (leaf t, k, m) = absurd k
    condition_typed (con c ts) a q l e (compound t ds, k, m) = absurd k
    condition_typed (con c ts) a q l e (branching us t d arms, k, m) = absurd k
    condition_typed (con c ts) a q l e (binding s t d b, k, m) = absurd k
    condition_typed (call f ts) a q l e (instanced us t ds, (x, g, n, i, j, k), m) = conditions_typed ts ds q l e k
    condition_typed (call f ts) a q l e (leaf t, k, m) = absurd k
    condition_typed (call f ts) a q l e (compound t ds, k, m) = absurd k
    condition_typed (call f ts) a q l e (branching us t d arms, k, m) = absurd k
    condition_typed (call f ts) a q l e (binding s t d b, k, m) = absurd k
    condition_typed (put ts) a q l e (compound t ds, (i, j, k), m) = conditions_typed ts ds q l e k
    condition_typed (put ts) a q l e (leaf t, k, m) = absurd k
    condition_typed (put ts) a q l e (instanced us t ds, k, m) = absurd k
    condition_typed (put ts) a q l e (branching us t d arms, k, m) = absurd k
    condition_typed (put ts) a q l e (binding s t d b, k, m) = absurd k
    condition_typed (op o ts) a q l e (compound t ds, (i, k), m) = conditions_typed ts ds q l e k
    condition_typed (op o ts) a q l e (leaf t, k, m) = absurd k
    condition_typed (op o ts) a q l e (instanced us t ds, k, m) = absurd k
    condition_typed (op o ts) a q l e (branching us t d arms, k, m) = absurd k
    condition_typed (op o ts) a q l e (binding s t d b, k, m) = absurd k
    condition_typed (choice tree.none) a q l e h = absurd (cc e)
    condition_typed (choice (tree.more c ts)) a q l e (compound t (more d ds), (i, k), m) =
        of_own c q (condition_of c) refl (sym (first_of_choice c (all_conditions ts) (either c)) ∙ e) (d, k.0, head_is (type_of d) bool (types_of ds) (t ∷ t ∷ []) i)
        (λ f. condition_typed c (type_of d) q l f (d, k.0, refl))
    condition_typed (choice (tree.more c ts)) a q l e (compound t none, (i, k), m) = absurd k
    condition_typed (choice (tree.more c ts)) a q l e (leaf t, k, m) = absurd k
    condition_typed (choice (tree.more c ts)) a q l e (instanced us t ds, k, m) = absurd k
    condition_typed (choice (tree.more c ts)) a q l e (branching us t d arms, k, m) = absurd k
    condition_typed (choice (tree.more c ts)) a q l e (binding s t d b, k, m) = absurd k
    condition_typed (case n t arms) a q l e (branching us s d bs, (i, j, k, m), o) = condition_typed t (type_of d) q l e (d, k, refl)
    condition_typed (case n t arms) a q l e (leaf s, k, m) = absurd k
    condition_typed (case n t arms) a q l e (instanced us s ds, k, m) = absurd k
    condition_typed (case n t arms) a q l e (compound s ds, k, m) = absurd k
    condition_typed (case n t arms) a q l e (binding r s d b, k, m) = absurd k
    condition_typed (bind t body) a q l e h = absurd (cc l)

    conditions_typed : (ts : Trees) (ds : Typings) (q : Tree) → have_let ts ≡ false → first_plain (all_conditions ts) ≡ Some q → AreTypings th vars locs ts ds → Typed q bool
    conditions_typed tree.none ds q l e k = absurd (cc e)
    conditions_typed (tree.more t ts) none q l e k = absurd k
    conditions_typed (tree.more t ts) (more d ds) q l e k =
        of_two (condition_of t) q (first_plain (all_conditions ts)) (sym (first_append (conditions t) (all_conditions ts)) ∙ e)
        (λ f. condition_typed t (type_of d) q (or_left_false (has_let t) (have_let ts) l) f (d, k.0, refl))
        (λ f. conditions_typed ts ds q (or_right_false (has_let t) (have_let ts) l) f k.1)
