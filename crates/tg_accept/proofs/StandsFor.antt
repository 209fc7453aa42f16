-- A text stands for one term, formula or value at most, which is well typed.
use Rattle.std.proofs.Common.{◌≡◌, List, [], ◌∷◌, Option, Some, None, refl, sym, ◌∙◌, ap, subst}
use Rattle.tg_model.specs.Tree as tree
use Rattle.tg_model.specs.Tree.{Tree, Trees}
use Rattle.tg_model.specs.Types.{Ty, bool}
use Rattle.tg_model.specs.Formula.{Formula, atom, both, implies, all, some, thyp, tested, deep}
use Rattle.tg_model.specs.Theory.{Theory}
use Rattle.tg_model.specs.TermTyping.{type_of, IsTyped, AllTyped, IsWellFormed}
use Rattle.tg_accept.specs.Core.{core}
use Rattle.tg_accept.specs.Raw as raw
use Rattle.tg_accept.specs.Raw.{RawTerms, RawFormula, raw_atom, raw_both, raw_implies, raw_all, raw_some, raw_thyp, raw_tested, raw_deep}
use Rattle.tg_accept.specs.Standing.{AreTermsAt, IsFormulaAt}
use Rattle.tg_accept.specs.StandingLaws.{TermIsTyped, OneTerm, FormulaIsWellFormed, OneFormula, OneValue}
use Rattle.tg_accept.proofs.CoreTypes.{typed}

some_same : {A : Type 0} (o : Option A) (x y : A) → o ≡ Some x → o ≡ Some y → x ≡ y
some_same o x y e f = let q : Some x ≡ Some y = sym e ∙ f in cc q

pub term_is_typed : TermIsTyped
term_is_typed th vars locs u r t is =
    let d = is.right.typed in
    let k = typed th 0 None [] vars (λ y e. cc e) is.resolved d.typing locs d.is.0 is.right.whole in
    subst (λ s. IsTyped th vars locs s u) (sym is.same) (k.0, k.1, subst (λ v. type_of k.0 ≡ v) d.is.1 k.2)

pub one_term : OneTerm
one_term th vars locs u v r t s a b = a.same ∙ (ap (core th 0) (some_same _ a.resolved b.resolved a.is b.is) ∙ sym b.same)

module _ (th : Theory) (vars : List Ty) where
  all_typed : (locs us : List Ty) (ts : RawTerms) (xs : Trees) → AreTermsAt th vars locs us ts xs → AllTyped th vars locs xs us
  all_typed locs [] raw.none tree.none h = tt
  all_typed locs (u ∷ us) (raw.more t ts) (tree.more x xs) h = (term_is_typed th vars locs u t x h.0, all_typed locs us ts xs h.1)
  all_typed locs us ts xs h = absurd h

  one_list : (locs us : List Ty) (ts : RawTerms) (xs ys : Trees) → AreTermsAt th vars locs us ts xs → AreTermsAt th vars locs us ts ys → xs ≡ ys
  one_list locs [] raw.none tree.none tree.none h k = refl
  one_list locs (u ∷ us) (raw.more t ts) (tree.more x xs) (tree.more y ys) h k =
      let here = one_term th vars locs u u t x y h.0 k.0 in
      let rest = one_list locs us ts xs ys h.1 k.1 in λ i. tree.more (here i) (rest i)
  one_list locs [] raw.none tree.none (tree.more y ys) h k = absurd k
  one_list locs (u ∷ us) (raw.more t ts) (tree.more x xs) tree.none h k = absurd k
  one_list locs us ts xs ys h k = absurd h

  well_formed : (locs : List Ty) (r : RawFormula) (f : Formula) → IsFormulaAt th vars locs r f → IsWellFormed th vars locs f
  well_formed locs (raw_atom t) (atom x) h = term_is_typed th vars locs bool t x h
  well_formed locs (raw_both f g) (both x y) h = (well_formed locs f x h.0, well_formed locs g y h.1)
  well_formed locs (raw_implies f g) (implies x y) h = (well_formed locs f x h.0, well_formed locs g y h.1)
  well_formed locs (raw_all t f) (all u x) h = (h.0.1, well_formed (u ∷ locs) f x h.1)
  well_formed locs (raw_some t f) (some u x) h = (h.0.1, well_formed (u ∷ locs) f x h.1)
  well_formed locs (raw_thyp f) (thyp x) h = well_formed locs f x h
  well_formed locs (raw_tested ts) (tested xs) h = all_typed locs th.program.inputs ts xs h
  well_formed locs (raw_deep k ts) (deep n xs) h = all_typed locs th.program.inputs ts xs h.1
  well_formed locs r f h = absurd h

  one_at : (locs : List Ty) (r : RawFormula) (f g : Formula) → IsFormulaAt th vars locs r f → IsFormulaAt th vars locs r g → f ≡ g
  one_at locs (raw_atom t) (atom x) (atom y) h k = ap atom (one_term th vars locs bool bool t x y h k)
  one_at locs (raw_atom t) (atom x) g h k = absurd k
  one_at locs (raw_both f g) (both x y) (both v w) h k =
      let a = one_at locs f x v h.0 k.0 in let b = one_at locs g y w h.1 k.1 in λ i. both (a i) (b i)
  one_at locs (raw_both f g) (both x y) z h k = absurd k
  one_at locs (raw_implies f g) (implies x y) (implies v w) h k =
      let a = one_at locs f x v h.0 k.0 in let b = one_at locs g y w h.1 k.1 in λ i. implies (a i) (b i)
  one_at locs (raw_implies f g) (implies x y) z h k = absurd k
  one_at locs (raw_all t f) (all u x) (all v y) h k =
      let a : u ≡ v = some_same _ u v h.0.0 k.0.0 in
      let b = one_at (u ∷ locs) f x y h.1 (subst (λ w. IsFormulaAt th vars (w ∷ locs) f y) (sym a) k.1) in λ i. all (a i) (b i)
  one_at locs (raw_all t f) (all u x) z h k = absurd k
  one_at locs (raw_some t f) (some u x) (some v y) h k =
      let a : u ≡ v = some_same _ u v h.0.0 k.0.0 in
      let b = one_at (u ∷ locs) f x y h.1 (subst (λ w. IsFormulaAt th vars (w ∷ locs) f y) (sym a) k.1) in λ i. some (a i) (b i)
  one_at locs (raw_some t f) (some u x) z h k = absurd k
  one_at locs (raw_thyp f) (thyp x) (thyp y) h k = ap thyp (one_at locs f x y h k)
  one_at locs (raw_thyp f) (thyp x) z h k = absurd k
  one_at locs (raw_tested ts) (tested xs) (tested ys) h k = ap tested (one_list locs th.program.inputs ts xs ys h k)
  one_at locs (raw_tested ts) (tested xs) z h k = absurd k
  one_at locs (raw_deep n ts) (deep m xs) (deep l ys) h k =
      let a = h.0 ∙ sym k.0 in let b = one_list locs th.program.inputs ts xs ys h.1 k.1 in λ i. deep (a i) (b i)
  one_at locs (raw_deep n ts) (deep m xs) z h k = absurd k
  one_at locs r f g h k = absurd h

pub one_formula : OneFormula
one_formula th vars locs r f g h k = one_at th vars locs r f g h k

pub formula_is_well_formed : FormulaIsWellFormed
formula_is_well_formed th vars locs r f h = well_formed th vars locs r f h

pub one_value : OneValue
one_value th t r v w a b = some_same _ v w a.0 b.0
