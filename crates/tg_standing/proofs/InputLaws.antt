-- Lists of terms for inputs.
use Rattle.std.proofs.Common.{ℕ, suc, ◌≡◌, ◌+◌, ◌≤◌, List, [], ◌∷◌, ◌++◌, length, map, drop, reverse, Option, Some, refl, sym, ◌∙◌, ap, subst, arith, add-one}
use Rattle.std.proofs.Math.Path.{transport}
use Rattle.std.proofs.lemmas.List.{drop_all}
use Rattle.std.specs.Prelude.{slice_get}
use Rattle.tg_model.specs.Theory.{Theory, Program, AreClosed}
use Rattle.tg_model.specs.Tree as tree
use Rattle.tg_model.specs.Tree.{Tree, Trees, trees}
use Rattle.tg_model.specs.Types as model
use Rattle.tg_accept.specs.Declared.{Declared, theory}
use Rattle.tg_accept.specs.Standing.{AreTermsAt, IsTermAt}
use Rattle.tg_declarations.specs.View.{program}
use Rattle.tg_declarations.specs.declared.definitions.ProgDef.{ProgDef}
use Rattle.tg_grammar.specs.declared.terms.RawTerm.{RawTerm}
use Rattle.tg_infer.specs.View.{raw_term, raw_terms}
use Rattle.tg_shared_types.specs.Growth.{AreDeclared}
use Rattle.tg_term.proofs.PartLaws.{drop_at}
use Rattle.tg_theory.proofs.ClosedTypes.{all_closed_declared}
use Rattle.tg_types.specs.declared.types.Ty.{Ty}
use Rattle.tg_types.specs.Types.{ty, types}
use Rattle.tg_standing.specs.declared.places.Place.{Place}
use Rattle.tg_standing.specs.declared.quantified.Under.{Under}
use Rattle.tg_standing.specs.Places.{IsPlace}
use Rattle.tg_standing.specs.Quantified.{IsUnder, IsSame, Stands, types_under}
use Rattle.tg_standing.proofs.PlaceLaws.{same_declared}

-- ---- the inputs' types

pub inputs_declared : (p : Place) → IsPlace p → (def : ProgDef) → program def ≡ p.th.now.program → AreDeclared (types def.inputs)
inputs_declared p h def e =
    let closed = (h.kept.program p.th.now.program (ap (λ (D : Declared). D.program) (same_declared p h))).inputs in
    all_closed_declared (theory [] p.scope.now.declared.now) (types def.inputs) (subst (λ (q : Program). AreClosed (theory [] p.scope.now.declared.now) (model.tys q.inputs)) (sym e) closed)

pub at_inputs : (th : Theory) (vars : List model.Ty) (a b : Under) (ts : List RawTerm) (def : ProgDef) (o : Option Trees) → program def ≡ th.program
    → Stands a b (AreTermsAt th vars (types_under a) (map ty def.inputs) (raw_terms ts)) o → Stands a b (AreTermsAt th vars (types_under a) th.program.inputs (raw_terms ts)) o
at_inputs th vars a b ts def o e h = subst (λ q. Stands a b (AreTermsAt th vars (types_under a) q (raw_terms ts)) o) (ap (λ (q : Program). q.inputs) e) h

pub ruleset inputs = (inputs_declared, at_inputs)

-- ---- lists

-- terms in front of others
abbrev pub before : List Tree → Trees → Trees
before [] us = us
before (t ∷ ts) us = tree.more t (before ts us)

before_none : (ts : List Tree) → before ts tree.none ≡ trees ts
before_none [] = refl
before_none (t ∷ ts) = ap (tree.more t) (before_none ts)

before_more : (ts : List Tree) (u : Tree) (us : Trees) → before ts (tree.more u us) ≡ before (ts ++ u ∷ []) us
before_more [] u us = refl
before_more (t ∷ ts) u us = ap (tree.more t) (before_more ts u us)

module _ (th : Theory) (vars : List model.Ty) where
  abbrev pub Are : Under → List Ty → List RawTerm → Trees → Type 0
  Are a us ts xs = AreTermsAt th vars (types_under a) (map ty us) (raw_terms ts) xs

  -- the texts before the rest stand for `all`
  pub record AreFound (a b : Under) (us : List Ty) (ts : List RawTerm) (all : List Tree) (i : ℕ) : Type 0 where
    pub there : (xs : Trees) → Are a (drop i us) (drop i ts) xs → Are a us ts (before all xs)
    pub back : (xs : Trees) → Are a us ts xs → (ys : Trees) × Are a (drop i us) (drop i ts) ys
    pub same : IsSame a b

  pub first_found : (a : Under) (us : List Ty) (ts : List RawTerm) → IsUnder a → AreFound a a us ts [] 0
  first_found a us ts h = record { there = λ xs s. s; back = λ xs s. (xs, s); same = record { is = refl; under = h } }

  module _ (a b : Under) (us : List Ty) (ts : List RawTerm) (all : List Tree) (i : ℕ) (u : Ty) (t : RawTerm) (at : slice_get us i ≡ Some u) (here : slice_get ts i ≡ Some t) (h : AreFound a b us ts all i) where
    rest : (xs : Trees) → Are a (drop i us) (drop i ts) xs ≡ Are a (u ∷ drop (i + 1) us) (t ∷ drop (i + 1) ts) xs
    rest xs = λ j. Are a ((drop_at us i u at ∙ ap (λ n. u ∷ drop n us) (sym (add-one i))) j) ((drop_at ts i t here ∙ ap (λ n. t ∷ drop n ts) (sym (add-one i))) j) xs

    first_of : (xs : Trees) → Are a (u ∷ drop (i + 1) us) (t ∷ drop (i + 1) ts) xs
        → ((x : Tree) × IsTermAt th vars (types_under a) (ty u) (raw_term t) x) × ((ys : Trees) × Are a (drop (i + 1) us) (drop (i + 1) ts) ys)
    first_of (tree.more x xs) s = ((x, s.0), (xs, s.1))
    first_of tree.none s = absurd s

    abbrev At : Under → Tree → Type 0
    At c x = IsTermAt th vars (types_under c) (ty u) (raw_term t) x

    same_term : (x : Tree) → At b x ≡ At a x
    same_term x = ap (λ l. IsTermAt th vars (reverse (map ty l)) (ty u) (raw_term t) x) h.same.is

    pub next_found : (c : Under) (x : Tree) (all' : List Tree) → Stands b c (IsTermAt th vars (types_under b) (ty u) (raw_term t)) (Some x) → all' ≡ all ++ x ∷ []
        → AreFound a c us ts all' (i + 1)
    next_found c x all' s more = record {
      there = λ xs r. subst (Are a us ts) (before_more all x xs ∙ ap (λ l. before l xs) (sym more)) (h.there (tree.more x xs) (transport (sym (rest (tree.more x xs))) (transport (same_term x) s.0, r)));
      back = λ xs r. let q = h.back xs r in (first_of q.0 (transport (rest q.0) q.1)).1;
      same = record { is = s.1.is ∙ h.same.is; under = s.1.under };
    }

    pub no_term : ((x : Tree) → ¬ (IsTermAt th vars (types_under b) (ty u) (raw_term t) x)) → (xs : Trees) → ¬ (Are a us ts xs)
    no_term none xs r =
        let q = h.back xs r in
        let f = (first_of q.0 (transport (rest q.0) q.1)).0 in
        none f.0 (transport (sym (same_term f.0)) f.1)

  pub all_found : (a b : Under) (us : List Ty) (ts : List RawTerm) (all : List Tree) (i : ℕ) → AreFound a b us ts all i → length ts ≡ length us → length ts ≤ i
      → Stands a b (Are a us ts) (Some (trees all))
  all_found a b us ts all i h even past =
      let end : Are a [] [] tree.none ≡ Are a (drop i us) (drop i ts) tree.none =
      (λ j. Are a (sym (drop_all i us (omega (arith, even, past))) j) (sym (drop_all i ts past) j) tree.none) in
      (subst (Are a us ts) (before_none all) (h.there tree.none (transport end tt)), h.same)

  pub uneven : (a : Under) (us : List Ty) (ts : List RawTerm) → ¬ (length ts ≡ length us) → (xs : Trees) → ¬ (Are a us ts xs)
  uneven a us ts e xs s = e (even us ts xs s)
    where
      even : (us : List Ty) (ts : List RawTerm) (xs : Trees) → Are a us ts xs → length ts ≡ length us
      even [] [] xs s = refl
      even [] (t ∷ ts) xs s = absurd s
      even (u ∷ us) [] xs s = absurd s
      even (u ∷ us) (t ∷ ts) (tree.more x xs) s = ap suc (even us ts xs s.1)
      even (u ∷ us) (t ∷ ts) tree.none s = absurd s

pub ruleset lists = (first_found, uneven)
