-- What a rule makes of its premises, as a function: the conclusion, and what must still be typed for it.
use Rattle.std.specs.Prelude.{ℕ, suc, Bool, true, false, not, ◌&&◌, nat_le, ◌-◌, List, [], ◌∷◌, ◌++◌, length, take, Option, Some, None}
use Rattle.tg_model.specs.Tree as tree
use Rattle.tg_model.specs.Tree.{Tree, Trees, free, op, one, two, equality}
use Rattle.tg_model.specs.Types.{Ty, bool, applied, Tys, elements}
use Rattle.tg_model.specs.Equality.{same_tree, same_type, same_formula}
use Rattle.tg_model.specs.Formula as formula
use Rattle.tg_model.specs.Formula.{Formula, Sequent, atom, both, implies, all, some, thyp}
use Rattle.tg_model.specs.Theory.{Theory, numbered, first_constructor}
use Rattle.tg_model.specs.TermTyping.{constructor_arguments}
use Rattle.tg_model.specs.Walk.{abstracted_formula, instantiated_formula}
use Rattle.tg_model.specs.Calls.{has_call}
use Rattle.tg_rows.specs.Parts.{only_if, and_then, binary}
use Rattle.tg_rows.specs.Rows.{row}
use Rattle.tg_calculus.specs.Sequent.{Context, ◌│◌⊢◌, Each, equation, denied, added, ◌∪◌, ◌∖◌, next, uses_new, some_use_new}
use Rattle.tg_calculus.specs.Replacing.{replaces}
use Rattle.tg_calculus.specs.Cases.{own_equation, collected}
use Rattle.tg_calculus.specs.Chains.{some_has_chain}
use Rattle.tg_calculus.specs.Computing.{computes}
use Rattle.tg_calculus.specs.Rule as rule
use Rattle.tg_calculus.specs.Rule.{Rule}
use Rattle.tg_calculus.specs.Step.{IsContext, IsFormula, IsTerm}

pub data Need : Type 0 where
  -- the types are closed
  closed : (G : Context) → Need
  -- a formula of the context
  formed : (G : Context) (F : Formula) → Need
  -- a term of the context and the type
  typed : (G : Context) (t : Tree) (T : Ty) → Need

abbrev pub IsMet : Theory → Need → Type 0
IsMet th (closed G) = IsContext th G
IsMet th (formed G F) = IsFormula th G F
IsMet th (typed G t T) = IsTerm th G t T

abbrev pub AreMet : Theory → List Need → Type 0
AreMet th ns = Each (IsMet th) ns

pub record Draft : Type 0 where
  pub needs : List Need
  pub conclusion : Sequent

abbrev pub always : List Need → Sequent → Option Draft
always ns s = let d : Draft = record { needs = ns; conclusion = s } in Some d

abbrev pub given : Bool → List Need → Sequent → Option Draft
given b ns s = let d : Draft = record { needs = ns; conclusion = s } in only_if b d

-- the parts of a formula of a form
abbrev pub as_both : Formula → Option (Formula × Formula)
as_both (both F Q) = Some (F, Q)
as_both F = None

abbrev pub as_implies : Formula → Option (Formula × Formula)
as_implies (implies F Q) = Some (F, Q)
as_implies F = None

abbrev pub as_all : Formula → Option (Ty × Formula)
as_all (all T F) = Some (T, F)
as_all F = None

abbrev pub as_some : Formula → Option (Ty × Formula)
as_some (some T F) = Some (T, F)
as_some F = None

abbrev pub as_thyp : Formula → Option Formula
as_thyp (thyp F) = Some F
as_thyp F = None

abbrev pub as_atom : Formula → Option Tree
as_atom (atom t) = Some t
as_atom F = None

abbrev pub as_equation : Formula → Option (Tree × Tree)
as_equation F = and_then (as_atom F) (binary equality)

abbrev pub as_data : Ty → Option (ℕ × Tys)
as_data (applied d Ts) = Some (d, Ts)
as_data T = None

abbrev pub same_context : Context → Context → Bool
same_context [] [] = true
same_context (T ∷ G) (U ∷ K) = same_type T U && same_context G K
same_context G K = false

-- a context without its last type, and this type
abbrev pub with_first : Ty → Option (Context × Ty) → Option (Context × Ty)
with_first T None = None
with_first T (Some p) = Some (T ∷ p.0, p.1)

abbrev pub without_last : Context → Option (Context × Ty)
without_last [] = None
without_last (T ∷ []) = Some ([], T)
without_last (T ∷ U ∷ G) = with_first T (without_last (U ∷ G))

-- a premise for each constructor from number `c` on
abbrev pub fits : Context → ℕ → Formula → ℕ → List Ty → Sequent → Bool
fits G n Q c Ts p = same_context p.vars (G ++ Ts)
    && (same_formula p.goal Q && (not (uses_new G Ts Q) && not (some_use_new G Ts (p.hypotheses ∖ own_equation G n c Ts))))

abbrev pub all_fit : Context → ℕ → Formula → ℕ → List (List Ty) → List Sequent → Bool
all_fit G n Q c [] [] = true
all_fit G n Q c (Ts ∷ rest) (p ∷ ps) = fits G n Q c Ts p && all_fit G n Q (suc c) rest ps
all_fit G n Q c args ps = false

-- a context without as many types as the first list has
abbrev pub before_first : Context → List (List Ty) → Context
before_first K [] = K
before_first K (Ts ∷ rest) = take (length K - length Ts) K

abbrev pub exhausts : ℕ → ℕ → List (List Ty) → Context → Formula → List Sequent → Option Draft
exhausts n c args G Q ps = given (nat_le n (length G) && all_fit G n Q c args ps) [] (G │ collected [] G n c args ps ⊢ Q)

module _ (th : Theory) where
  abbrev pub draft : Rule → List Sequent → Option Draft
  draft (rule.hyp G F) [] = always (closed G ∷ formed G F ∷ []) (G │ F ∷ [] ⊢ F)
  draft (rule.weak F) (p ∷ []) = always (formed p.vars F ∷ []) (p.vars │ added p.hypotheses F ⊢ p.goal)
  draft rule.cut (p ∷ q ∷ []) = given (same_context q.vars p.vars) [] (p.vars │ p.hypotheses ∪ q.hypotheses ∖ p.goal ⊢ q.goal)
  draft (rule.grow Ts) (p ∷ []) = always (closed Ts ∷ []) (p.vars ++ Ts │ p.hypotheses ⊢ p.goal)
  draft rule.and_i (p ∷ q ∷ []) = given (same_context q.vars p.vars) [] (p.vars │ p.hypotheses ∪ q.hypotheses ⊢ both p.goal q.goal)
  draft rule.and_l (p ∷ []) = and_then (as_both p.goal) (λ f. always [] (p.vars │ p.hypotheses ⊢ f.0))
  draft rule.and_r (p ∷ []) = and_then (as_both p.goal) (λ f. always [] (p.vars │ p.hypotheses ⊢ f.1))
  draft (rule.imp_i F) (p ∷ []) = always (formed p.vars F ∷ []) (p.vars │ p.hypotheses ∖ F ⊢ implies F p.goal)
  draft rule.mp (p ∷ q ∷ []) =
      and_then (as_implies p.goal) (λ f. given (same_context q.vars p.vars && same_formula q.goal f.0) [] (p.vars │ p.hypotheses ∪ q.hypotheses ⊢ f.1))
  draft rule.all_i (p ∷ []) =
      and_then (without_last p.vars) (λ k. given (not (some_use_new k.0 (k.1 ∷ []) p.hypotheses)) []
      (k.0 │ p.hypotheses ⊢ all k.1 (abstracted_formula (next k.0) p.goal)))
  draft (rule.all_e t) (p ∷ []) =
      and_then (as_all p.goal) (λ f. always (typed p.vars t f.0 ∷ []) (p.vars │ p.hypotheses ⊢ instantiated_formula (t ∷ []) f.1))
  draft (rule.ex_i F t) (p ∷ []) =
      and_then (as_some F) (λ f. given (same_formula p.goal (instantiated_formula (t ∷ []) f.1)) (formed p.vars F ∷ typed p.vars t f.0 ∷ [])
      (p.vars │ p.hypotheses ⊢ F))
  draft rule.ex_e (p ∷ q ∷ []) =
      and_then (as_some p.goal) (λ f. given (same_context q.vars (p.vars ++ f.0 ∷ [])
      && (not (uses_new p.vars (f.0 ∷ []) q.goal)
      && not (some_use_new p.vars (f.0 ∷ []) (q.hypotheses ∖ instantiated_formula (free (next p.vars) ∷ []) f.1)))) []
      (p.vars │ p.hypotheses ∪ q.hypotheses ∖ instantiated_formula (free (next p.vars) ∷ []) f.1 ⊢ q.goal))
  draft rule.thyp_i (p ∷ []) = always [] (p.vars │ p.hypotheses ⊢ thyp p.goal)
  draft rule.thyp_e (p ∷ []) = and_then (as_thyp p.goal) (λ F. always [] (p.vars │ p.hypotheses ⊢ F))
  draft (rule.truth G) [] = always (closed G ∷ []) (G │ [] ⊢ atom (tree.truth true))
  draft (rule.falsity F) (p ∷ []) = given (same_formula p.goal (atom (tree.truth false))) (formed p.vars F ∷ []) (p.vars │ p.hypotheses ⊢ F)
  draft (rule.split t) (p ∷ q ∷ []) =
      given (same_context q.vars p.vars && same_formula q.goal p.goal) (typed p.vars t bool ∷ [])
      (p.vars │ p.hypotheses ∖ atom t ∪ q.hypotheses ∖ denied t ⊢ p.goal)
  draft (rule.reflexive G t) [] = always (closed G ∷ formed G (equation t t) ∷ []) (G │ [] ⊢ equation t t)
  draft rule.symmetric (p ∷ []) = and_then (as_equation p.goal) (λ e. always [] (p.vars │ p.hypotheses ⊢ equation e.1 e.0))
  draft rule.transitive (p ∷ q ∷ []) =
      and_then (as_equation p.goal) (λ e. and_then (as_equation q.goal) (λ f. given (same_context q.vars p.vars && same_tree f.0 e.1)
      (formed p.vars (equation e.0 f.1) ∷ []) (p.vars │ p.hypotheses ∪ q.hypotheses ⊢ equation e.0 f.1)))
  draft (rule.replace F) (p ∷ q ∷ []) =
      and_then (as_equation p.goal) (λ e. given (same_context q.vars p.vars && replaces e.0 e.1 q.goal F) (formed p.vars F ∷ [])
      (p.vars │ p.hypotheses ∪ q.hypotheses ⊢ F))
  draft (rule.schema G k t) [] = and_then (row th k t) (λ u. always (closed G ∷ formed G (equation t u) ∷ []) (G │ [] ⊢ equation t u))
  draft (rule.exhaust n) (p ∷ ps) =
      and_then (numbered p.vars n) (λ T. and_then (as_data T) (λ d. exhausts n (first_constructor th.datatypes d.0)
      (constructor_arguments th d.0 (elements d.1)) (before_first p.vars (constructor_arguments th d.0 (elements d.1))) p.goal (p ∷ ps)))
  draft (rule.deep G (suc k) ts) [] =
      given (some_has_chain th ts (suc k) th.program.inputs) (closed G ∷ formed G (formula.deep (suc k) ts) ∷ []) (G │ [] ⊢ formula.deep (suc k) ts)
  draft (rule.compute G t) [] = given (not (has_call t) && computes th t) (closed G ∷ formed [] (atom t) ∷ []) (G │ [] ⊢ atom t)
  draft r ps = None
