-- The specification at terms for the inputs, as a formula with holes; and at the inputs themselves.
use Rattle.std.proofs.Common.{ℕ, zero, suc, ◌≡◌, ◌+◌, false, List, [], ◌∷◌, length, refl, sym, ap, subst}
use Rattle.std.specs.Prelude.{slice_get}
use Rattle.std.specs.Option.{option_map_or}
use Rattle.tg_model.specs.Tree as tree
use Rattle.tg_model.specs.Tree.{Tree, Trees, Arms, bound, free, literal, truth, con, call, put, choice, case, bind, op, trees, elements}
use Rattle.tg_model.specs.Types.{Ty, bool}
use Rattle.tg_model.specs.Formula.{Formula, atom, implies, tested}
use Rattle.tg_model.specs.Theory.{Theory}
use Rattle.tg_model.specs.TermTyping.{AllTyped}
use Rattle.tg_model.specs.Walk.{walk, walk_all, walk_arms, as_bound, raised, given, lifted, substituted}
use Rattle.tg_model.specs.Made.{AreMade}
use Rattle.tg_model.specs.Accepted.{IsAccepted, variables_from}
use Rattle.tg_model.proofs.MadeTerms.{made_terms_stay}
use Rattle.tg_model.proofs.Keeping.{substitution_keeps_types}
use Rattle.tg_rows.proofs.TypedLists.{listed_typed}
use Rattle.tg_hyps.specs.Written as written
use Rattle.tg_calculus.specs.Sequent.{Context, Hypotheses, Each}
use Rattle.tg_calculus.specs.Replacement as by
use Rattle.tg_calculus.specs.Replacement.{Replaced, AllReplaced, ArmsReplaced, FormulaReplaced}
use Rattle.tg_calculus.specs.Step.{IsFormula}
use Rattle.tg_derive.proofs.CoverLines.{HasHoles}

-- replacing in the terms that are put in
module _ (s r : Tree) (ts us : List Tree) (put_in : (d n : ℕ) → Replaced s r (given ts d n) (given us d n)) where
  mutual
    walked : (t : Tree) (d : ℕ) → Replaced s r (walk as_bound (given ts) d t) (walk as_bound (given us) d t)
    walked (bound k) d = by.kept (bound k)
    walked (free n) d = put_in d n
    walked (literal n) d = by.kept (literal n)
    walked (truth b) d = by.kept (truth b)
    walked (con c xs) d = by.in_con c (all_walked xs d)
    walked (call f xs) d = by.in_call f (all_walked xs d)
    walked (put xs) d = by.in_put (all_walked xs d)
    walked (choice xs) d = by.in_choice (all_walked xs d)
    walked (case e t arms) d = by.in_case e (walked t d) (arms_walked arms d)
    walked (bind t body) d = by.in_bind (walked t d) (walked body (d + 1))
    walked (op o xs) d = by.in_op o (all_walked xs d)

    all_walked : (xs : Trees) (d : ℕ) → AllReplaced s r (walk_all as_bound (given ts) d xs) (walk_all as_bound (given us) d xs)
    all_walked tree.none d = by.none
    all_walked (tree.more x xs) d = by.more (walked x d) (all_walked xs d)

    arms_walked : (arms : Arms) (d : ℕ) → ArmsReplaced s r (walk_arms as_bound (given ts) d arms) (walk_arms as_bound (given us) d arms)
    arms_walked tree.end d = by.end
    arms_walked (tree.arm n body arms) d = by.arm n (walked body (d + n)) (arms_walked arms d)

at_place : (s r : Tree) (ts us : Trees) (d k : ℕ) → AreMade ts → AreMade us → AllReplaced s r ts us
    → Replaced s r (option_map_or (lifted d) (slice_get (elements ts) k) (truth false)) (option_map_or (lifted d) (slice_get (elements us) k) (truth false))
at_place s r tree.none tree.none d k m n by.none = by.kept (truth false)
at_place s r tree.none (tree.more u us) d k m n e = elim e [ ]
at_place s r (tree.more t ts) tree.none d k m n e = elim e [ ]
at_place s r (tree.more t ts) (tree.more u us) d zero m n (by.more e es) =
    subst (λ x. Replaced s r x (lifted d u)) (sym ((made_terms_stay t m.0).walked (raised d) 0))
    (subst (λ x. Replaced s r t x) (sym ((made_terms_stay u n.0).walked (raised d) 0)) e)
at_place s r (tree.more t ts) (tree.more u us) d (suc k) m n (by.more e es) = at_place s r ts us d k m.1 n.1 es

-- the specification at the terms, where they are tested
abbrev pub specified : Theory → Trees → Formula
specified th ts = implies (tested ts) (atom (substituted (elements ts) th.specification))

pub specified_formed : (th : Theory) → IsAccepted th → (K : Context) (ts : Trees) → AllTyped th K [] ts th.program.inputs → IsFormula th K (specified th ts)
specified_formed th accepted K ts h = (
  h,
  substitution_keeps_types th K [] th.program.inputs (elements ts) th.specification bool (listed_typed th K [] ts th.program.inputs h)
      accepted.well_typed.specification,
)

pub specified_holes : (th : Theory) (H : Hypotheses) (accepted : IsAccepted th) (wf : Each (IsFormula th []) H) (G : Context)
    → HasHoles th H accepted wf G th.program.inputs (specified th)
specified_holes th H accepted wf G = record {
  into = λ s r ts us m n e. by.implies (by.tested e) (by.atom (walked s r (elements ts) (elements us) (λ d k. place s r ts us m n e d k) th.specification 0));
  fits = λ K ext ts h. specified_formed th accepted K ts h;
}
  where
    place : (s r : Tree) (ts us : Trees) → AreMade ts → AreMade us → AllReplaced s r ts us → (d k : ℕ)
        → Replaced s r (given (elements ts) d k) (given (elements us) d k)
    place s r ts us m n e d zero = by.kept (truth false)
    place s r ts us m n e d (suc k) = at_place s r ts us d k m n e

-- the inputs themselves
pub own_inputs : (m : ℕ) (Ts : List Ty) → trees (variables_from m (length Ts)) ≡ written.variables_from m Ts
own_inputs m [] = refl
own_inputs m (T ∷ Ts) = ap (tree.more (free m)) (own_inputs (suc m) Ts)
