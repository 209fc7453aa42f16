-- The patterns of a theory cover its inputs once, and each has its variables.
use Rattle.std.proofs.Common.{ℕ, suc, ◌≡◌, ◌≤◌, List, [], ◌∷◌, refl, sym, ◌∙◌, ap, subst, arith, append-nil}
use Rattle.tg_model.specs.Types.{Ty}
use Rattle.tg_model.specs.Value.{Value, values, elements, depth, IsShallow}
use Rattle.tg_model.specs.Theory.{Theory}
use Rattle.tg_model.specs.Typing.{HasType, AreTyped}
use Rattle.tg_model.specs.Filling.{fill}
use Rattle.tg_split.specs.Shapes.{Shapes, products}
use Rattle.tg_split.specs.Patterns.{Input, pattern_of, of_input, to_depth, terms_from}
use Rattle.tg_split.specs.Laws.{Matches, AreInputs, AreShallow, CoversOnce, CoversEachOnce, IsLinear, PatternsAreLinear}
use Rattle.tg_split.proofs.Listed.{none_mapped, one_mapped, all_mapped}
use Rattle.tg_split.proofs.ShapeCoverage.{AllFit, AllHave, covers_as, either, cover, cover_products}
use Rattle.tg_split.proofs.Filled.{all_fit_filled, all_taken, all_taken_typed, all_taken_fill, shapes_stand, shapes_made, all_same_at, same_lists}

elements-values : (vs : List Value) → elements (values vs) ≡ vs
elements-values [] = refl
elements-values (v ∷ vs) = ap (λ l. v ∷ l) (elements-values vs)

same_items : (vs ws : List Value) → values vs ≡ values ws → vs ≡ ws
same_items vs ws e = sym (elements-values vs) ∙ (ap elements e ∙ elements-values ws)

matches_fits : (th : Theory) (inputs : List Value) (ss : Shapes) → Matches th inputs (pattern_of ss) → AllFit th ss (values inputs)
matches_fits th inputs ss (vs, typed, filled) =
    subst (λ (l : List Value). AllFit th ss (values l)) filled (all_fit_filled th vs ss [] vs [] 1 (sym (append-nil vs)) refl typed)

fits_matches : (th : Theory) (inputs : List Value) (ss : Shapes) → AllFit th ss (values inputs) → Matches th inputs (pattern_of ss)
fits_matches th inputs ss h =
    let vs : List Value = all_taken ss (values inputs) in (
      vs,
      all_taken_typed th ss (values inputs) h,
      same_items (fill vs (terms_from 1 ss)) inputs (all_taken_fill th vs ss (values inputs) [] [] 1 h (sym (append-nil vs)) refl),
    )

abbrev Typed : Theory → Input → Value → Type 0
Typed th p v = HasType th v p.1

abbrev Low : Input → Value → Type 0
Low p v = depth v ≤ p.0

typed_all : (th : Theory) (ps : List Input) (vs : List Value) → AreInputs th ps vs → AllHave (Typed th) ps (values vs)
typed_all th [] [] h = tt
typed_all th [] (v ∷ vs) h = absurd h
typed_all th (p ∷ ps) [] h = absurd h
typed_all th (p ∷ ps) (v ∷ vs) h = (h.0, typed_all th ps vs h.1)

all_low : (ps : List Input) (vs : List Value) → AreShallow ps vs → AllHave Low ps (values vs)
all_low [] [] h = tt
all_low [] (v ∷ vs) h = absurd h
all_low (p ∷ ps) [] h = absurd h
all_low (p ∷ ps) (v ∷ vs) h = (h.0, all_low ps vs h.1)

shallow : (ps : List Input) (vs : List Value) → AllHave Low ps (values vs) → AreShallow ps vs
shallow [] [] h = tt
shallow [] (v ∷ vs) h = absurd h
shallow (p ∷ ps) [] h = absurd h
shallow (p ∷ ps) (v ∷ vs) h = (h.0, shallow ps vs h.1)

pub covers_each_once : CoversEachOnce
covers_each_once th ps inputs typed =
    let sss : List Shapes = products (of_input th) ps in
    let lows = cover_products th (of_input th) (Typed th) Low (λ p v. either (depth v) p.0) (λ p v h. cover th p.0 p.1 v h) ps (values inputs) (typed_all th ps inputs typed) in
    let all = covers_as (AreShallow ps inputs) (AllHave Low ps (values inputs)) (λ ss. AllFit th ss (values inputs)) sss (all_low ps inputs) (shallow ps inputs) lows in (
      λ low. one_mapped pattern_of (Matches th inputs) (λ ss. AllFit th ss (values inputs)) (matches_fits th inputs) (fits_matches th inputs) sss (all.0 low),
      λ high. none_mapped pattern_of (Matches th inputs) (λ ss. AllFit th ss (values inputs)) (matches_fits th inputs) sss (all.1 high),
    )

to_inputs : (th : Theory) (k : ℕ) (vs : List Value) (ts : List Ty) → AreTyped th vs ts → AreInputs th (to_depth k ts) vs
to_inputs th k [] [] h = tt
to_inputs th k [] (t ∷ ts) h = absurd h
to_inputs th k (v ∷ vs) [] h = absurd h
to_inputs th k (v ∷ vs) (t ∷ ts) h = (h.0, to_inputs th k vs ts h.1)

to_shallow : (th : Theory) (k : ℕ) (vs : List Value) (ts : List Ty) → AreTyped th vs ts → IsShallow k vs → AreShallow (to_depth k ts) vs
to_shallow th k [] [] h low = tt
to_shallow th k [] (t ∷ ts) h low = absurd h
to_shallow th k (v ∷ vs) [] h low = absurd h
to_shallow th k (v ∷ vs) (t ∷ ts) h low = (low.0, to_shallow th k vs ts h.1 low.1)

from_shallow : (k : ℕ) (vs : List Value) (ts : List Ty) → AreShallow (to_depth k ts) vs → IsShallow k vs
from_shallow k [] ts low = tt
from_shallow k (v ∷ vs) [] low = absurd low
from_shallow k (v ∷ vs) (t ∷ ts) low = (low.0, from_shallow k vs ts low.1)

pub covers_once : CoversOnce
covers_once th k inputs typed =
    let ts : List Ty = th.program.inputs in
    let each = covers_each_once th (to_depth k ts) inputs (to_inputs th k inputs ts typed) in (
      λ low. each.0 (to_shallow th k inputs ts typed low),
      λ high. each.1 (λ low. high (from_shallow k inputs ts low)),
    )

linear : (ss : Shapes) → IsLinear (pattern_of ss)
linear ss = record {
  have = λ k low high. shapes_stand ss 1 k low (omega (arith, high));
  made = shapes_made ss 1;
  injective = λ vs ws m n e.
      same_lists vs ws (m ∙ sym n) (λ k low. all_same_at vs ws ss 1 (suc k) (omega arith) (omega (arith, low, m)) (ap values e));
}

pub patterns_are_linear : PatternsAreLinear
patterns_are_linear th ps = all_mapped pattern_of IsLinear linear (products (of_input th) ps)
