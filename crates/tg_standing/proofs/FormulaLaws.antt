-- What a formula of a certificate stands for.
use Rattle.std.proofs.Common.{ℕ, ◌≡◌, ◌+◌, true, false, List, [], ◌∷◌, length, map, reverse, take, Option, Some, None, refl, sym, ◌∙◌, ap, subst}
use Rattle.std.proofs.Math.Path.{transport}
use Rattle.std.proofs.lemmas.List.{length-append, map-append, reverse-append}
use Rattle.std.proofs.Math.Seq.{take-append_seam}
use Rattle.tg_model.specs.Formula as model
use Rattle.tg_model.specs.Theory.{Theory}
use Rattle.tg_model.specs.Tree.{Tree, Trees}
use Rattle.tg_model.specs.Types as sem
use Rattle.tg_accept.specs.Raw as raw
use Rattle.tg_accept.specs.Standing.{IsAnswer, IsFormulaAt, IsTermAt, IsTypeOf, AreTermsAt}
use Rattle.tg_theory.proofs.ClosedTypes.{are_declared_yes, all_declared_if}
use Rattle.tg_theory.specs.Typed.{are_declared}
use Rattle.tg_grammar.specs.declared.types.RawTy.{RawTy}
use Rattle.tg_grammar.specs.declared.terms.RawTerm.{RawTerm}
use Rattle.tg_grammar.specs.declared.formulas.RawFormula.{RawFormula}
use Rattle.tg_grammar.specs.declared.formulas.RawFormula.TheVariants.{Atom, And, Imp, All, Ex, Thyp, Tested, Deep}
use Rattle.tg_infer.specs.View.{raw_term, raw_terms, raw_type}
use Rattle.tg_shared_types.specs.Growth.{IsDeclared}
use Rattle.tg_types.specs.declared.types.Ty.{Ty}
use Rattle.tg_types.specs.declared.types.Ty.TheVariants.{Bool}
use Rattle.tg_types.specs.Types.{ty, types, ty-Bool}
use Rattle.tg_standing.specs.declared.quantified.Under.{Under}
use Rattle.tg_standing.specs.Formulas.{IsFormulaIn, AreBoth, IsQuantified, raw_formula, raw_formula-Atom, raw_formula-And, raw_formula-Imp, raw_formula-All, raw_formula-Ex, raw_formula-Thyp, raw_formula-Tested, raw_formula-Deep}
use Rattle.tg_standing.specs.Quantified.{Enters, Leaves, Stands, types_under}
use Rattle.tg_standing.proofs.QuantifiedLaws.{type_declared}

-- ---- the types that are given

pub no_vars : (th : Theory) (vars : List Ty) (r : raw.RawFormula) → are_declared (types vars) ≡ false → IsAnswer (IsFormulaIn th vars r) None
no_vars th vars r e = λ x s. let q : true ≡ false = sym (are_declared_yes (types vars) s.variables) ∙ e in cc q

pub answer_in : (th : Theory) (vars : List Ty) (r : raw.RawFormula) (a b : Under) (found : Option model.Formula) → a.types.items ≡ [] → are_declared (types vars) ≡ true
    → Stands a b (IsFormulaAt th (map ty vars) (types_under a) r) found → IsAnswer (IsFormulaIn th vars r) found
answer_in th vars r a b (Some x) none e h = record { variables = all_declared_if (types vars) e; stands = subst (λ l. IsFormulaAt th (map ty vars) (reverse (map ty l)) r x) none h.0 }
answer_in th vars r a b None none e h = λ x s. h x (subst (λ l. IsFormulaAt th (map ty vars) (reverse (map ty l)) r x) (sym none) s.stands)

pub ruleset answering = (no_vars, answer_in)

-- ---- one level

pub bool_declared : IsDeclared (ty Bool)
bool_declared = subst IsDeclared (sym ty-Bool) tt

module _ (th : Theory) (vars : List sem.Ty) (a b : Under) where
  abbrev At : raw.RawFormula → model.Formula → Type 0
  At r x = IsFormulaAt th vars (types_under a) r x

  -- what stands there makes the formula, and the formula is made of it
  module _ {A : Type 0} (Is : A → Type 0) (make : A → model.Formula) (f : RawFormula) (r : raw.RawFormula) (same : raw_formula f ≡ r) where
    level_found : ((x : A) → Is x → At r (make x)) → (x : A) → Stands a b Is (Some x) → Stands a b (At (raw_formula f)) (Some (make x))
    level_found there x h = (subst (λ q. At q (make x)) (sym same) (there x h.0), h.1)

    level_none : ((x : model.Formula) → At r x → (y : A) × Is y) → ((y : A) → ¬ (Is y)) → (x : model.Formula) → ¬ (At (raw_formula f) x)
    level_none back h x s = let q = back x (subst (λ q. At q x) same s) in h q.0 q.1

  abbrev TermAt : RawTerm → Tree → Type 0
  TermAt t x = IsTermAt th vars (types_under a) (ty Bool) (raw_term t) x

  to_bool : (t : RawTerm) (x : Tree) → TermAt t x → At (raw.raw_atom (raw_term t)) (model.atom x)
  to_bool t x h = subst (λ u. IsTermAt th vars (types_under a) u (raw_term t) x) ty-Bool h

  of_bool : (t : RawTerm) (x : model.Formula) → At (raw.raw_atom (raw_term t)) x → (y : Tree) × TermAt t y
  of_bool t (model.atom x) s = (x, subst (λ u. IsTermAt th vars (types_under a) u (raw_term t) x) (sym ty-Bool) s)
  of_bool t x s = absurd s

  pub atom_found : (t : RawTerm) (x : Tree) → Stands a b (IsTermAt th vars (types_under a) (ty Bool) (raw_term t)) (Some x)
      → Stands a b (IsFormulaAt th vars (types_under a) (raw_formula (Atom t))) (Some (model.atom x))
  atom_found t x h = level_found (TermAt t) model.atom (Atom t) (raw.raw_atom (raw_term t)) (raw_formula-Atom t) (to_bool t) x h

  pub no_atom : (t : RawTerm) → ((x : Tree) → ¬ (IsTermAt th vars (types_under a) (ty Bool) (raw_term t) x))
      → (x : model.Formula) → ¬ (IsFormulaAt th vars (types_under a) (raw_formula (Atom t)) x)
  no_atom t h = level_none (TermAt t) model.atom (Atom t) (raw.raw_atom (raw_term t)) (raw_formula-Atom t) (of_bool t) h

  abbrev Both : RawFormula → RawFormula → model.Formula × model.Formula → Type 0
  Both f g = AreBoth th vars (types_under a) (raw_formula f) (raw_formula g)

  of_both : (f g : RawFormula) (x : model.Formula) → At (raw.raw_both (raw_formula f) (raw_formula g)) x → (y : model.Formula × model.Formula) × Both f g y
  of_both f g (model.both x y) s = ((x, y), s)
  of_both f g x s = absurd s

  of_implies : (f g : RawFormula) (x : model.Formula) → At (raw.raw_implies (raw_formula f) (raw_formula g)) x → (y : model.Formula × model.Formula) × Both f g y
  of_implies f g (model.implies x y) s = ((x, y), s)
  of_implies f g x s = absurd s

  pub both_found : (f g : RawFormula) (x y : model.Formula) → Stands a b (AreBoth th vars (types_under a) (raw_formula f) (raw_formula g)) (Some (x, y))
      → Stands a b (IsFormulaAt th vars (types_under a) (raw_formula (And f g))) (Some (model.both x y))
  both_found f g x y h =
      level_found (Both f g) (λ p. model.both p.0 p.1) (And f g) (raw.raw_both (raw_formula f) (raw_formula g)) (raw_formula-And f g) (λ p s. s) (x, y) h

  pub no_both : (f g : RawFormula) → ((p : model.Formula × model.Formula) → ¬ (AreBoth th vars (types_under a) (raw_formula f) (raw_formula g) p))
      → (x : model.Formula) → ¬ (IsFormulaAt th vars (types_under a) (raw_formula (And f g)) x)
  no_both f g h = level_none (Both f g) (λ p. model.both p.0 p.1) (And f g) (raw.raw_both (raw_formula f) (raw_formula g)) (raw_formula-And f g) (of_both f g) h

  pub implies_found : (f g : RawFormula) (x y : model.Formula) → Stands a b (AreBoth th vars (types_under a) (raw_formula f) (raw_formula g)) (Some (x, y))
      → Stands a b (IsFormulaAt th vars (types_under a) (raw_formula (Imp f g))) (Some (model.implies x y))
  implies_found f g x y h =
      level_found (Both f g) (λ p. model.implies p.0 p.1) (Imp f g) (raw.raw_implies (raw_formula f) (raw_formula g)) (raw_formula-Imp f g) (λ p s. s) (x, y) h

  pub no_implies : (f g : RawFormula) → ((p : model.Formula × model.Formula) → ¬ (AreBoth th vars (types_under a) (raw_formula f) (raw_formula g) p))
      → (x : model.Formula) → ¬ (IsFormulaAt th vars (types_under a) (raw_formula (Imp f g)) x)
  no_implies f g h = level_none (Both f g) (λ p. model.implies p.0 p.1) (Imp f g) (raw.raw_implies (raw_formula f) (raw_formula g)) (raw_formula-Imp f g) (of_implies f g) h

  abbrev Under_one : RawTy → RawFormula → sem.Ty × model.Formula → Type 0
  Under_one t f = IsQuantified th vars (types_under a) (raw_type t) (raw_formula f)

  of_all : (t : RawTy) (f : RawFormula) (x : model.Formula) → At (raw.raw_all (raw_type t) (raw_formula f)) x → (y : sem.Ty × model.Formula) × Under_one t f y
  of_all t f (model.all u x) s = ((u, x), s)
  of_all t f x s = absurd s

  of_some : (t : RawTy) (f : RawFormula) (x : model.Formula) → At (raw.raw_some (raw_type t) (raw_formula f)) x → (y : sem.Ty × model.Formula) × Under_one t f y
  of_some t f (model.some u x) s = ((u, x), s)
  of_some t f x s = absurd s

  pub all_found : (t : RawTy) (f : RawFormula) (u : sem.Ty) (x : model.Formula) → Stands a b (IsQuantified th vars (types_under a) (raw_type t) (raw_formula f)) (Some (u, x))
      → Stands a b (IsFormulaAt th vars (types_under a) (raw_formula (All t f))) (Some (model.all u x))
  all_found t f u x h =
      level_found (Under_one t f) (λ p. model.all p.0 p.1) (All t f) (raw.raw_all (raw_type t) (raw_formula f)) (raw_formula-All t f) (λ p s. s) (u, x) h

  pub no_all : (t : RawTy) (f : RawFormula) → ((p : sem.Ty × model.Formula) → ¬ (IsQuantified th vars (types_under a) (raw_type t) (raw_formula f) p))
      → (x : model.Formula) → ¬ (IsFormulaAt th vars (types_under a) (raw_formula (All t f)) x)
  no_all t f h = level_none (Under_one t f) (λ p. model.all p.0 p.1) (All t f) (raw.raw_all (raw_type t) (raw_formula f)) (raw_formula-All t f) (of_all t f) h

  pub some_found : (t : RawTy) (f : RawFormula) (u : sem.Ty) (x : model.Formula) → Stands a b (IsQuantified th vars (types_under a) (raw_type t) (raw_formula f)) (Some (u, x))
      → Stands a b (IsFormulaAt th vars (types_under a) (raw_formula (Ex t f))) (Some (model.some u x))
  some_found t f u x h =
      level_found (Under_one t f) (λ p. model.some p.0 p.1) (Ex t f) (raw.raw_some (raw_type t) (raw_formula f)) (raw_formula-Ex t f) (λ p s. s) (u, x) h

  pub no_some : (t : RawTy) (f : RawFormula) → ((p : sem.Ty × model.Formula) → ¬ (IsQuantified th vars (types_under a) (raw_type t) (raw_formula f) p))
      → (x : model.Formula) → ¬ (IsFormulaAt th vars (types_under a) (raw_formula (Ex t f)) x)
  no_some t f h = level_none (Under_one t f) (λ p. model.some p.0 p.1) (Ex t f) (raw.raw_some (raw_type t) (raw_formula f)) (raw_formula-Ex t f) (of_some t f) h

  of_thyp : (f : RawFormula) (x : model.Formula) → At (raw.raw_thyp (raw_formula f)) x → (y : model.Formula) × At (raw_formula f) y
  of_thyp f (model.thyp x) s = (x, s)
  of_thyp f x s = absurd s

  pub thyp_found : (f : RawFormula) (x : model.Formula) → Stands a b (IsFormulaAt th vars (types_under a) (raw_formula f)) (Some x)
      → Stands a b (IsFormulaAt th vars (types_under a) (raw_formula (Thyp f))) (Some (model.thyp x))
  thyp_found f x h = level_found (At (raw_formula f)) model.thyp (Thyp f) (raw.raw_thyp (raw_formula f)) (raw_formula-Thyp f) (λ p s. s) x h

  pub no_thyp : (f : RawFormula) → ((x : model.Formula) → ¬ (IsFormulaAt th vars (types_under a) (raw_formula f) x))
      → (x : model.Formula) → ¬ (IsFormulaAt th vars (types_under a) (raw_formula (Thyp f)) x)
  no_thyp f h = level_none (At (raw_formula f)) model.thyp (Thyp f) (raw.raw_thyp (raw_formula f)) (raw_formula-Thyp f) (of_thyp f) h

  abbrev Inputs : List RawTerm → Trees → Type 0
  Inputs ts = AreTermsAt th vars (types_under a) th.program.inputs (raw_terms ts)

  of_tested : (ts : List RawTerm) (x : model.Formula) → At (raw.raw_tested (raw_terms ts)) x → (y : Trees) × Inputs ts y
  of_tested ts (model.tested xs) s = (xs, s)
  of_tested ts x s = absurd s

  of_deep : (k : ℕ) (ts : List RawTerm) (x : model.Formula) → At (raw.raw_deep k (raw_terms ts)) x → (y : Trees) × Inputs ts y
  of_deep k ts (model.deep n xs) s = (xs, s.1)
  of_deep k ts x s = absurd s

  pub tested_found : (ts : List RawTerm) (xs : Trees) → Stands a b (AreTermsAt th vars (types_under a) th.program.inputs (raw_terms ts)) (Some xs)
      → Stands a b (IsFormulaAt th vars (types_under a) (raw_formula (Tested ts))) (Some (model.tested xs))
  tested_found ts xs h = level_found (Inputs ts) model.tested (Tested ts) (raw.raw_tested (raw_terms ts)) (raw_formula-Tested ts) (λ p s. s) xs h

  pub no_tested : (ts : List RawTerm) → ((xs : Trees) → ¬ (AreTermsAt th vars (types_under a) th.program.inputs (raw_terms ts) xs))
      → (x : model.Formula) → ¬ (IsFormulaAt th vars (types_under a) (raw_formula (Tested ts)) x)
  no_tested ts h = level_none (Inputs ts) model.tested (Tested ts) (raw.raw_tested (raw_terms ts)) (raw_formula-Tested ts) (of_tested ts) h

  pub deep_found : (k : ℕ) (ts : List RawTerm) (xs : Trees) → Stands a b (AreTermsAt th vars (types_under a) th.program.inputs (raw_terms ts)) (Some xs)
      → Stands a b (IsFormulaAt th vars (types_under a) (raw_formula (Deep k ts))) (Some (model.deep k xs))
  deep_found k ts xs h = level_found (Inputs ts) (model.deep k) (Deep k ts) (raw.raw_deep k (raw_terms ts)) (raw_formula-Deep k ts) (λ p s. (refl, s)) xs h

  pub no_deep : (k : ℕ) (ts : List RawTerm) → ((xs : Trees) → ¬ (AreTermsAt th vars (types_under a) th.program.inputs (raw_terms ts) xs))
      → (x : model.Formula) → ¬ (IsFormulaAt th vars (types_under a) (raw_formula (Deep k ts)) x)
  no_deep k ts h = level_none (Inputs ts) (model.deep k) (Deep k ts) (raw.raw_deep k (raw_terms ts)) (raw_formula-Deep k ts) (of_deep k ts) h

-- how many formulas a formula has in it
abbrev pub formulas_in : raw.RawFormula → ℕ
formulas_in (raw.raw_atom t) = 1
formulas_in (raw.raw_both f g) = 1 + (formulas_in f + formulas_in g)
formulas_in (raw.raw_implies f g) = 1 + (formulas_in f + formulas_in g)
formulas_in (raw.raw_all t f) = 1 + formulas_in f
formulas_in (raw.raw_some t f) = 1 + formulas_in f
formulas_in (raw.raw_thyp f) = 1 + formulas_in f
formulas_in (raw.raw_tested ts) = 1
formulas_in (raw.raw_deep k ts) = 1

pub ruleset formulas = (raw_formula-And, raw_formula-Imp, raw_formula-All, raw_formula-Ex, raw_formula-Thyp, bool_declared, atom_found, no_atom, both_found, no_both, implies_found, no_implies, all_found, no_all, some_found, no_some, thyp_found, no_thyp, tested_found, no_tested, deep_found, no_deep)

-- ---- two formulas

module _ (th : Theory) (vars : List sem.Ty) (a b : Under) (f g : raw.RawFormula) (x : model.Formula) (first : Stands a b (IsFormulaAt th vars (types_under a) f) (Some x)) where
  same_place : (y : model.Formula) → IsFormulaAt th vars (types_under b) g y ≡ IsFormulaAt th vars (types_under a) g y
  same_place y = ap (λ l. IsFormulaAt th vars (reverse (map ty l)) g y) first.1.is

  pub pair_found : (c : Under) (y : model.Formula) → Stands b c (IsFormulaAt th vars (types_under b) g) (Some y) → Stands a c (AreBoth th vars (types_under a) f g) (Some (x, y))
  pair_found c y h = ((first.0, transport (same_place y) h.0), record { is = h.1.is ∙ first.1.is; under = h.1.under })

  pub no_second : ((y : model.Formula) → ¬ (IsFormulaAt th vars (types_under b) g y)) → (p : model.Formula × model.Formula) → ¬ (AreBoth th vars (types_under a) f g p)
  no_second h p s = h p.1 (transport (sym (same_place p.1)) s.1)

pub no_first : (th : Theory) (vars : List sem.Ty) (a : Under) (f g : raw.RawFormula) → ((x : model.Formula) → ¬ (IsFormulaAt th vars (types_under a) f x))
    → (p : model.Formula × model.Formula) → ¬ (AreBoth th vars (types_under a) f g p)
no_first th vars a f g h p s = h p.0 s.0

pub ruleset pairs = (pair_found, no_second, no_first)

-- ---- quantifiers

module _ (th : Theory) (vars : List sem.Ty) (a : Under) (t : raw.RawType) (f : raw.RawFormula) where
  abbrev Quantified : sem.Ty × model.Formula → Type 0
  Quantified p = IsQuantified th vars (types_under a) t f p

  pub no_type : ((u : sem.Ty) → ¬ (IsTypeOf th t u)) → (p : sem.Ty × model.Formula) → ¬ (IsQuantified th vars (types_under a) t f p)
  no_type h p s = h p.0 s.0

  module _ (u : Ty) (closed : IsTypeOf th t (ty u)) (b : Under) (enters : Enters a b u) where
    inside : types_under b ≡ ty u ∷ types_under a
    inside = ap (λ l. reverse (map ty l)) enters.is ∙ ap reverse (map-append ty a.types.items (u ∷ [])) ∙ reverse-append (map ty a.types.items) (ty u ∷ [])

    pub none_inside : ((x : model.Formula) → ¬ (IsFormulaAt th vars (types_under b) f x)) → (p : sem.Ty × model.Formula) → ¬ (IsQuantified th vars (types_under a) t f p)
    none_inside h p s =
        let q : Some p.0 ≡ Some (ty u) = sym s.0.0 ∙ closed.0 in
        let same : p.0 ≡ ty u = cc q in
        h p.1 (subst (λ l. IsFormulaAt th vars l f p.1) (sym inside) (subst (λ v. IsFormulaAt th vars (v ∷ types_under a) f p.1) same s.1))

    module _ (c : Under) (x : model.Formula) (found : Stands b c (IsFormulaAt th vars (types_under b) f) (Some x)) where
      pub one_more : length c.types.items ≡ length a.types.items + 1
      one_more = ap length (found.1.is ∙ enters.is) ∙ length-append a.types.items (u ∷ [])

      pub quantified_found : (d : Under) → Leaves c d (length a.types.items) → Stands a d (IsQuantified th vars (types_under a) t f) (Some (ty u, x))
      quantified_found d leaves = (
        (closed, subst (λ l. IsFormulaAt th vars l f x) inside found.0),
        record { is = leaves.is ∙ ap (take (length a.types.items)) (found.1.is ∙ enters.is) ∙ take-append_seam a.types.items (u ∷ []); under = leaves.under },
      )

pub ruleset quantifiers = (type_declared, no_type, none_inside, one_more, quantified_found)
