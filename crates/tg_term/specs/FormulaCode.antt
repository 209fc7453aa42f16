-- How the logic stores a formula: as a tree of numbers that gives it back.
use Rattle.std.specs.Prelude.{◌≡◌, ℕ, zero, suc}
use Rattle.std.proofs.Common.{ap, sym, ◌∙◌}
use base.Stored.{Gv, gnil, gnum, gcons, Coded}
use Rattle.tg_model.specs.Tree.{literal}
use Rattle.tg_model.specs.Types.{Ty}
use Rattle.tg_model.specs.Formula.{Formula, atom, both, implies, all, some, thyp, tested, deep}
use Rattle.tg_types.specs.Code.{code_type, back_type, again_type}
use Rattle.tg_term.specs.Code.{code_tree, back_tree, again_tree, code_trees, back_trees, again_trees}

abbrev pub code_formula : Formula → Gv
code_formula (atom t) = gcons gnil (code_tree t)
code_formula (both f g) = gcons (gnum 0) (gcons (code_formula f) (code_formula g))
code_formula (implies f g) = gcons (gnum 1) (gcons (code_formula f) (code_formula g))
code_formula (all t f) = gcons (gcons gnil (gnum 0)) (gcons (code_type t) (code_formula f))
code_formula (some t f) = gcons (gcons gnil (gnum 1)) (gcons (code_type t) (code_formula f))
code_formula (thyp f) = gcons (gcons gnil gnil) (code_formula f)
code_formula (tested ts) = gcons (gcons (gnum 0) gnil) (code_trees ts)
code_formula (deep k ts) = gcons (gcons (gnum 0) (gnum k)) (code_trees ts)

abbrev pub connected : ℕ → Formula → Formula → Formula
connected zero f g = both f g
connected (suc k) f g = implies f g

abbrev pub quantified : ℕ → Ty → Formula → Formula
quantified zero t f = all t f
quantified (suc k) t f = some t f

abbrev pub back_formula : Gv → Formula
back_formula (gcons gnil t) = atom (back_tree t)
back_formula (gcons (gnum k) (gcons f g)) = connected k (back_formula f) (back_formula g)
back_formula (gcons (gcons gnil (gnum k)) (gcons t f)) = quantified k (back_type t) (back_formula f)
back_formula (gcons (gcons gnil gnil) f) = thyp (back_formula f)
back_formula (gcons (gcons (gnum a) gnil) ts) = tested (back_trees ts)
back_formula (gcons (gcons (gnum a) (gnum k)) ts) = deep k (back_trees ts)
back_formula g = atom (literal 0)

pub again_formula : (f : Formula) → back_formula (code_formula f) ≡ f
again_formula (atom t) = ap atom (again_tree t)
again_formula (both f g) = λ i. both (again_formula f i) (again_formula g i)
again_formula (implies f g) = λ i. implies (again_formula f i) (again_formula g i)
again_formula (all t f) = λ i. all (again_type t i) (again_formula f i)
again_formula (some t f) = λ i. some (again_type t i) (again_formula f i)
again_formula (thyp f) = ap thyp (again_formula f)
again_formula (tested ts) = ap tested (again_trees ts)
again_formula (deep k ts) = ap (deep k) (again_trees ts)

abbrev pub coded_formula : Coded Formula
coded_formula = record { code = code_formula; inj = λ f g same. sym (again_formula f) ∙ ap back_formula same ∙ again_formula g }
