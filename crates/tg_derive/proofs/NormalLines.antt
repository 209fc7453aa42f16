-- A typed term equals its normal form: argument by argument, then by the row at the root, along the walk.
use Rattle.std.proofs.Common.{ℕ, ◌≡◌, List, [], ◌∷◌, refl, sym, ◌∙◌, subst}
use Rattle.tg_model.specs.Tree as tree
use Rattle.tg_model.specs.Tree.{Tree, Trees, Arms, Operator, bound, free, literal, truth, con, call, put, choice, case, bind, op}
use Rattle.tg_model.specs.Types.{Ty}
use Rattle.tg_model.specs.Theory.{Theory}
use Rattle.tg_model.specs.TermTyping.{Typing, instanced, compound, branching, binding, none, more, type_of, types_of, IsTyping, AllTyped, IsOperation}
use Rattle.tg_model.specs.Accepted.{IsAccepted}
use Rattle.tg_norm.specs.Normal.{Walked, Parted, Norm, at_leaf, at_end, at_step, AllNorm, at_none, at_more, rebuilt, arguments}
use Rattle.tg_norm.specs.Splits.{IsForm}
use Rattle.tg_norm.proofs.RootLaws.{first_row}
use Rattle.tg_calculus.specs.Sequent.{Context, Hypotheses, equation}
use Rattle.tg_calculus.specs.Replacement as by
use Rattle.tg_calculus.specs.Step.{IsContext, IsTerm}
use Rattle.tg_calculus.specs.Theorem.{Follows}
use Rattle.tg_calculus.proofs.DerivedRules.{theorem_of}
use Rattle.tg_calculus.proofs.SetLaws.{only_sets_count}
use Rattle.tg_derive.specs.Derivability.{NormalFormsAreDerivable}
use Rattle.tg_derive.proofs.Equations.{IsSame, AreSameTerms, Fits, FitsOne, all_kept, all_of_typings, typings_of_all, same_itself, same_then, same_by_row, one_replaced, all_replaced}

module _ (th : Theory) (G : Context) where
  -- the arguments of a typed term: their types, and what fits in their places
  record Parts (F : Trees → Tree) (ts : Trees) (T : Ty) : Type 0 where
    types : List Ty
    typed : AllTyped th G [] ts types
    fits : Fits th G F types T

  con_parts : (c : ℕ) (ts : Trees) (T : Ty) (d : Typing) → IsTyping th G [] (con c ts) d → type_of d ≡ T → Parts (con c) ts T
  con_parts c ts T (instanced us t ds) (o, e, f, g, i, k) j = record {
    types = types_of ds;
    typed = all_of_typings th G ts ds k;
    fits = record {
      typed = λ vs h. let r = typings_of_all th G vs (types_of ds) h in (instanced us t r.0, (o, e, f, g, r.2 ∙ i, r.1), j);
      into = λ s r us vs a. by.in_con c a;
    };
  }
  con_parts c ts T d h j = absurd h

  call_parts : (c : ℕ) (ts : Trees) (T : Ty) (d : Typing) → IsTyping th G [] (call c ts) d → type_of d ≡ T → Parts (call c) ts T
  call_parts c ts T (instanced us t ds) (o, e, f, g, i, k) j = record {
    types = types_of ds;
    typed = all_of_typings th G ts ds k;
    fits = record {
      typed = λ vs h. let r = typings_of_all th G vs (types_of ds) h in (instanced us t r.0, (o, e, f, g, r.2 ∙ i, r.1), j);
      into = λ s r us vs a. by.in_call c a;
    };
  }
  call_parts c ts T d h j = absurd h

  put_parts : (ts : Trees) (T : Ty) (d : Typing) → IsTyping th G [] (put ts) d → type_of d ≡ T → Parts put ts T
  put_parts ts T (compound t ds) (e, i, k) j = record {
    types = types_of ds;
    typed = all_of_typings th G ts ds k;
    fits = record {
      typed = λ vs h. let r = typings_of_all th G vs (types_of ds) h in (compound t r.0, (e, r.2 ∙ i, r.1), j);
      into = λ s r us vs a. by.in_put a;
    };
  }
  put_parts ts T d h j = absurd h

  op_parts : (o : Operator) (ts : Trees) (T : Ty) (d : Typing) → IsTyping th G [] (op o ts) d → type_of d ≡ T → Parts (op o) ts T
  op_parts o ts T (compound t ds) (e, k) j = record {
    types = types_of ds;
    typed = all_of_typings th G ts ds k;
    fits = record {
      typed = λ vs h.
          let r = typings_of_all th G vs (types_of ds) h in
          (compound t r.0, (subst (λ (l : List Ty). IsOperation o l t) (sym r.2) e, r.1), j);
      into = λ s r us vs a. by.in_op o a;
    };
  }
  op_parts o ts T d h j = absurd h

  record Part (F : Tree → Tree) (t : Tree) (T : Ty) : Type 0 where
    type : Ty
    typed : IsTerm th G t type
    fits : FitsOne th G F type T

  choice_part : (c : Tree) (ts : Trees) (T : Ty) (d : Typing) → IsTyping th G [] (choice (tree.more c ts)) d → type_of d ≡ T → Part (λ x. choice (tree.more x ts)) c T
  choice_part c ts T (compound t (more d ds)) (e, k) j = record {
    type = type_of d;
    typed = (d, k.0, refl);
    fits = record {
      typed = λ x h. (compound t (more h.0 ds), ((λ i. h.2 i ∷ types_of ds) ∙ e, (h.1, k.1)), j);
      into = λ s r u v a. by.in_choice (by.more a (all_kept s r ts));
    };
  }
  choice_part c ts T (compound t none) h j = absurd h.1
  choice_part c ts T d h j = absurd h

  case_part : (m : ℕ) (t : Tree) (arms : Arms) (T : Ty) (d : Typing) → IsTyping th G [] (case m t arms) d → type_of d ≡ T → Part (λ x. case m x arms) t T
  case_part m t arms T (branching us s d bs) (e, f, k, l) j = record {
    type = type_of d;
    typed = (d, k, refl);
    fits = record {
      typed = λ x h. (branching us s h.0 bs, (e, h.2 ∙ f, h.1, l), j);
      into = λ s r u v a. by.in_case m a (arms_kept s r arms);
    };
  }
    where
      arms_kept : (s r : Tree) (bs : Arms) → by.ArmsReplaced s r bs bs
      arms_kept s r tree.end = by.end
      arms_kept s r (tree.arm n body bs) = by.arm n (by.kept body) (arms_kept s r bs)
  case_part m t arms T d h j = absurd h

  bind_part : (t body : Tree) (T : Ty) (d : Typing) → IsTyping th G [] (bind t body) d → type_of d ≡ T → Part (λ x. bind x body) t T
  bind_part t body T (binding r s d e) (k, f, l, m) j = record {
    type = type_of d;
    typed = (d, k, refl);
    fits = record {
      typed = λ x h. (binding r s h.0 e, (h.1, f ∙ sym h.2, l, m), j);
      into = λ s r u v a. by.in_bind a (by.kept body);
    };
  }
  bind_part t body T d h j = absurd h

module _ (th : Theory) (accepted : IsAccepted th) (G : Context) (closed : IsContext th G) (H : Hypotheses) where
  abbrev Same : Tree → Tree → Type 0
  Same t u = IsSame th G H t u

  abbrev AllSame : List Tree → List Tree → Type 0
  AllSame ts us = AreSameTerms th G H ts us

  itself_same : (t : Tree) → Same t t
  itself_same t = same_itself th G H closed t

  of_parts : (F : Trees → Tree) (ts : Trees) (us : List Tree) (T : Ty) → Parts th G F ts T → AllSame (tree.elements ts) us → IsTerm th G (F ts) T
      → IsTerm th G (F (tree.trees us)) T × Follows th G H (equation (F ts) (F (tree.trees us)))
  of_parts F ts us T p h typed = all_replaced th G H (F ts) F ts us p.types T p.fits typed p.typed h (itself_same (F ts) T typed).1

  of_part : (F : Tree → Tree) (t u : Tree) (T : Ty) → Part th G F t T → Same t u → IsTerm th G (F t) T
      → IsTerm th G (F u) T × Follows th G H (equation (F t) (F u))
  of_part F t u T p h typed = one_replaced th G H (F t) F t u p.type T p.fits typed p.typed h (itself_same (F t) T typed).1

  rebuilt_same : (t : Tree) (us : List Tree) → AllSame (arguments t) us → Same t (rebuilt t us)
  rebuilt_same (bound k) us h T d = itself_same (bound k) T d
  rebuilt_same (free k) us h T d = itself_same (free k) T d
  rebuilt_same (literal k) us h T d = itself_same (literal k) T d
  rebuilt_same (truth b) us h T d = itself_same (truth b) T d
  rebuilt_same (con c ts) us h T d = of_parts (con c) ts us T (con_parts th G c ts T d.0 d.1 d.2) h d
  rebuilt_same (call f ts) us h T d = of_parts (call f) ts us T (call_parts th G f ts T d.0 d.1 d.2) h d
  rebuilt_same (put ts) us h T d = of_parts put ts us T (put_parts th G ts T d.0 d.1 d.2) h d
  rebuilt_same (op o ts) us h T d = of_parts (op o) ts us T (op_parts th G o ts T d.0 d.1 d.2) h d
  rebuilt_same (choice tree.none) us h T d = itself_same (choice tree.none) T d
  rebuilt_same (choice (tree.more c ts)) [] h T d = absurd h
  rebuilt_same (choice (tree.more c ts)) (u ∷ us) h T d = of_part (λ x. choice (tree.more x ts)) c u T (choice_part th G c ts T d.0 d.1 d.2) h.0 d
  rebuilt_same (case m t arms) [] h T d = absurd h
  rebuilt_same (case m t arms) (u ∷ us) h T d = of_part (λ x. case m x arms) t u T (case_part th G m t arms T d.0 d.1 d.2) h.0 d
  rebuilt_same (bind t body) [] h T d = absurd h
  rebuilt_same (bind t body) (u ∷ us) h T d = of_part (λ x. bind x body) t u T (bind_part th G t body T d.0 d.1 d.2) h.0 d

  mutual
    form_same : (t : Tree) (x : Walked) → Norm th t x → IsSame th G H t x.form
    form_same t x (at_leaf l e) = subst (λ (y : Walked). Same t y.form) (sym e) (itself_same t)
    form_same t x (at_end p l h f m e) =
        subst (λ (y : Walked). Same t y.form) (sym e) (rebuilt_same t p.forms (forms_same (arguments t) p h))
    form_same t x (at_step p s u r l h f m g e) =
        subst (λ (y : Walked). Same t y.form) (sym e)
        (same_then th G H t (rebuilt t p.forms) r.form (rebuilt_same t p.forms (forms_same (arguments t) p h))
        (same_then th G H (rebuilt t p.forms) u r.form (same_by_row th G H accepted closed s (rebuilt t p.forms) u (first_row th (rebuilt t p.forms) s u f))
        (form_same u r g)))

    forms_same : (ts : List Tree) (p : Parted) → AllNorm th ts p → AllSame ts p.forms
    forms_same [] p (at_none e) = subst (λ (y : Parted). AllSame [] y.forms) (sym e) tt
    forms_same (t ∷ ts) p (at_more x q m h e) = subst (λ (y : Parted). AllSame (t ∷ ts) y.forms) (sym e) (form_same t x m, forms_same ts q h)

  -- the normal form is equal, and has each type of the term
  pub form_line : (t u : Tree) → IsForm th t u → IsSame th G H t u
  form_line t u (w, is, e) = subst (λ x. IsSame th G H t x) e (form_same t w is)

pub normal_forms_are_derivable : NormalFormsAreDerivable
normal_forms_are_derivable th G t u T accepted closed typed form =
    (only_sets_count th G [] (equation t u)).1 (tt, theorem_of th G {H = []} tt (form_line th accepted G closed [] t u form T typed).1)
