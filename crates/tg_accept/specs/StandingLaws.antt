-- A text stands for one term, formula or value at most, which is well typed.
use Rattle.std.specs.Prelude.{◌≡◌, List}
use Rattle.tg_model.specs.Tree.{Tree}
use Rattle.tg_model.specs.Types.{Ty}
use Rattle.tg_model.specs.Formula.{Formula}
use Rattle.tg_model.specs.Value.{Value}
use Rattle.tg_model.specs.Theory.{Theory}
use Rattle.tg_model.specs.TermTyping.{IsTyped, IsWellFormed}
use Rattle.tg_accept.specs.Raw.{RawTerm, RawFormula}
use Rattle.tg_accept.specs.Standing.{IsTermAt, IsFormulaAt, IsValueOf}

abbrev pub TermIsTyped : Type 0
TermIsTyped = (th : Theory) (vars locs : List Ty) (u : Ty) (r : RawTerm) (t : Tree) → IsTermAt th vars locs u r t → IsTyped th vars locs t u

abbrev pub OneTerm : Type 0
OneTerm = (th : Theory) (vars locs : List Ty) (u v : Ty) (r : RawTerm) (t s : Tree) → IsTermAt th vars locs u r t → IsTermAt th vars locs v r s → t ≡ s

abbrev pub FormulaIsWellFormed : Type 0
FormulaIsWellFormed = (th : Theory) (vars locs : List Ty) (r : RawFormula) (f : Formula) → IsFormulaAt th vars locs r f → IsWellFormed th vars locs f

abbrev pub OneFormula : Type 0
OneFormula = (th : Theory) (vars locs : List Ty) (r : RawFormula) (f g : Formula) → IsFormulaAt th vars locs r f → IsFormulaAt th vars locs r g → f ≡ g

abbrev pub OneValue : Type 0
OneValue = (th : Theory) (t : Ty) (r : RawTerm) (v w : Value) → IsValueOf th t r v → IsValueOf th t r w → v ≡ w
