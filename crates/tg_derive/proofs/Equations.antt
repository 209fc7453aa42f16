-- Equations of typed terms, and replacing an argument in one.
use Rattle.std.proofs.Common.{ℕ, ◌≡◌, List, [], ◌∷◌, map, refl, Some}
use Rattle.tg_model.specs.Tree as tree
use Rattle.tg_model.specs.Tree.{Tree, Trees, op, equality}
use Rattle.tg_model.specs.Types.{Ty, bool}
use Rattle.tg_model.specs.Theory.{Theory}
use Rattle.tg_model.specs.Typing.{AreTyped, least}
use Rattle.tg_model.specs.TermTyping.{Typings, compound, none, more, types_of, AllTyped, AreTypings}
use Rattle.tg_model.specs.Accepted.{IsAccepted}
use Rattle.tg_model.proofs.Constructors.{least_has_its_type}
use Rattle.tg_rows.specs.Laws.{Setting}
use Rattle.tg_rows.specs.Rows.{row}
use Rattle.tg_rows.proofs.AllRows.{rows_keep}
use Rattle.tg_calculus.specs.Sequent.{Context, Hypotheses, equation}
use Rattle.tg_calculus.specs.Replacement as by
use Rattle.tg_calculus.specs.Replacement.{Replaced, AllReplaced, FormulaReplaced}
use Rattle.tg_calculus.specs.Step.{IsContext, IsFormula, IsTerm}
use Rattle.tg_calculus.specs.Theorem.{Follows}
use Rattle.tg_calculus.proofs.DerivedRules.{replacing, chained, by_row, itself}

pub equated : (th : Theory) (G : Context) (t u : Tree) (T : Ty) → IsTerm th G t T → IsTerm th G u T → IsFormula th G (equation t u)
equated th G t u T (d, h, e) (d', h', e') = (compound bool (more d (more d' none)), (((T, λ i. e i ∷ e' i ∷ []), refl), (h, (h', tt))), refl)

pub least_values : (th : Theory) → IsAccepted th → (G : Context) → IsContext th G → AreTyped th (map (least th) G) G
least_values th accepted [] h = tt
least_values th accepted (T ∷ G) h = (least_has_its_type th accepted.well_typed T h.0, least_values th accepted G h.1)

-- some values of a context's types
abbrev pub some_setting : (th : Theory) → IsAccepted th → (G : Context) → IsContext th G → Setting th
some_setting th accepted G closed = record {
  table = [];
  is_table = tt;
  vars = G;
  locs = [];
  env = map (least th) G;
  loc = [];
  closed_vars = closed;
  closed_locs = tt;
  typed_env = least_values th accepted G closed;
  typed_loc = tt;
}

pub row_typed : (th : Theory) → IsAccepted th → (G : Context) → IsContext th G → (k : ℕ) (t u : Tree) (T : Ty) → row th k t ≡ Some u → IsTerm th G t T
    → IsTerm th G u T
row_typed th accepted G closed k t u T e typed = (rows_keep th accepted.well_typed (some_setting th accepted G closed) k t u T e typed).1

pub all_kept : (s r : Tree) (ts : Trees) → AllReplaced s r ts ts
all_kept s r tree.none = by.none
all_kept s r (tree.more t ts) = by.more (by.kept t) (all_kept s r ts)

-- the right side of an equation
pub on_right : {s r : Tree} (t : Tree) {u v : Tree} → Replaced s r u v → FormulaReplaced s r (equation t u) (equation t v)
on_right t p = by.atom (by.in_op equality (by.more (by.kept t) (by.more p by.none)))

-- lists of typed terms by their typings
pub all_of_typings : (th : Theory) (G : Context) (ts : Trees) (ds : Typings) → AreTypings th G [] ts ds → AllTyped th G [] ts (types_of ds)
all_of_typings th G tree.none none h = tt
all_of_typings th G tree.none (more d ds) h = absurd h
all_of_typings th G (tree.more t ts) none h = absurd h
all_of_typings th G (tree.more t ts) (more d ds) h = ((d, h.0, refl), all_of_typings th G ts ds h.1)

pub typings_of_all : (th : Theory) (G : Context) (ts : Trees) (Ts : List Ty) → AllTyped th G [] ts Ts → (ds : Typings) × AreTypings th G [] ts ds × (types_of ds ≡ Ts)
typings_of_all th G tree.none [] h = (none, tt, refl)
typings_of_all th G tree.none (T ∷ Ts) h = absurd h
typings_of_all th G (tree.more t ts) [] h = absurd h
typings_of_all th G (tree.more t ts) (T ∷ Ts) h =
    let r = typings_of_all th G ts Ts h.1 in (more h.0.0 r.0, (h.0.1, r.1), λ i. h.0.2 i ∷ r.2 i)

-- Where a term is an argument of a typed term, other terms of its type may stand there.
pub record Fits (th : Theory) (G : Context) (F : Trees → Tree) (Ts : List Ty) (T : Ty) : Type 0 where
  pub typed : (us : Trees) → AllTyped th G [] us Ts → IsTerm th G (F us) T
  pub into : (s r : Tree) (us vs : Trees) → AllReplaced s r us vs → Replaced s r (F us) (F vs)

pub record FitsOne (th : Theory) (G : Context) (F : Tree → Tree) (U T : Ty) : Type 0 where
  pub typed : (u : Tree) → IsTerm th G u U → IsTerm th G (F u) T
  pub into : (s r u v : Tree) → Replaced s r u v → Replaced s r (F u) (F v)

module _ (th : Theory) (G : Context) (H : Hypotheses) where
  -- each type of `t` is one of `u`, and the two are equal
  abbrev pub IsSame : Tree → Tree → Type 0
  IsSame t u = (T : Ty) → IsTerm th G t T → IsTerm th G u T × Follows th G H (equation t u)

  abbrev pub AreSameTerms : List Tree → List Tree → Type 0
  AreSameTerms [] [] = Unit {0}
  AreSameTerms (t ∷ ts) (u ∷ us) = IsSame t u × AreSameTerms ts us
  AreSameTerms ts us = ⊥

  pub same_then : (t u v : Tree) → IsSame t u → IsSame u v → IsSame t v
  same_then t u v p q T typed =
      let a = p T typed in let b = q T a.0 in
      (b.0, chained th G (equated th G t v T typed b.0) a.1 b.1)

  pub same_itself : IsContext th G → (t : Tree) → IsSame t t
  same_itself closed t T typed = (typed, itself th G t closed (equated th G t t T typed typed))

  -- one argument by an equal one
  pub one_replaced : (w : Tree) (F : Tree → Tree) (t u : Tree) (U T : Ty) → FitsOne th G F U T → IsTerm th G w T → IsTerm th G t U → IsSame t u
      → Follows th G H (equation w (F t)) → IsTerm th G (F u) T × Follows th G H (equation w (F u))
  one_replaced w F t u U T f whole typed p q =
      let a = p U typed in
      let b = f.typed u a.0 in
      (b, replacing th G (on_right w (f.into t u t u by.here)) (equated th G w (F u) T whole b) a.1 q)

  -- arguments from the left
  pub all_replaced : (w : Tree) (F : Trees → Tree) (ts : Trees) (us : List Tree) (Ts : List Ty) (T : Ty) → Fits th G F Ts T → IsTerm th G w T
      → AllTyped th G [] ts Ts → AreSameTerms (tree.elements ts) us → Follows th G H (equation w (F ts))
      → IsTerm th G (F (tree.trees us)) T × Follows th G H (equation w (F (tree.trees us)))
  all_replaced w F tree.none [] [] T f whole typed p q = (f.typed tree.none tt, q)
  all_replaced w F tree.none [] (U ∷ Ts) T f whole typed p q = absurd typed
  all_replaced w F tree.none (u ∷ us) Ts T f whole typed p q = absurd p
  all_replaced w F (tree.more t ts) [] Ts T f whole typed p q = absurd p
  all_replaced w F (tree.more t ts) (u ∷ us) [] T f whole typed p q = absurd typed
  all_replaced w F (tree.more t ts) (u ∷ us) (U ∷ Ts) T f whole typed p q =
      let first : FitsOne th G (λ x. F (tree.more x ts)) U T = record {
        typed = λ x h. f.typed (tree.more x ts) (h, typed.1);
        into = λ s r x y e. f.into s r (tree.more x ts) (tree.more y ts) (by.more e (all_kept s r ts));
      } in
      let next = one_replaced w (λ x. F (tree.more x ts)) t u U T first whole typed.0 p.0 q in
      let rest : Fits th G (λ xs. F (tree.more u xs)) Ts T = record {
        typed = λ xs h. f.typed (tree.more u xs) ((p.0 U typed.0).0, h);
        into = λ s r xs ys e. f.into s r (tree.more u xs) (tree.more u ys) (by.more (by.kept u) e);
      } in
      all_replaced w (λ xs. F (tree.more u xs)) ts us Ts T rest whole typed.1 p.1 next.1

  pub same_by_row : IsAccepted th → IsContext th G → (k : ℕ) (t u : Tree) → row th k t ≡ Some u → IsSame t u
  same_by_row accepted closed k t u e T typed =
      let a = row_typed th accepted G closed k t u T e typed in
      (a, by_row th G k t u closed e (equated th G t u T typed a))
