-- What is made from the end of a list: the last item goes into what stands behind the list.
use Rattle.std.proofs.Common.{◌≡◌, ◌++◌, List, [], ◌∷◌, map, refl, ap}
use Rattle.tg_model.specs.Tree.{Tree, op, two, disjunction}
use Rattle.tg_model.specs.Formula.{Formula, atom, both, implies, all, some}
use Rattle.tg_model.specs.Closing.{for_all, for_some}
use Rattle.tg_types.specs.Types.{ty}
use Rattle.tg_types.specs.declared.types.Ty.{Ty}
use Rattle.tg_hyps.specs.Hypotheses.{some_of, both_all, if_all}

pub all_last : (ts : List Ty) (t : Ty) (f : Formula) → for_all (map ty (ts ++ t ∷ [])) f ≡ for_all (map ty ts) (all (ty t) f)
all_last [] t f = refl
all_last (u ∷ ts) t f = ap (all (ty u)) (all_last ts t f)

pub some_last : (ts : List Ty) (t : Ty) (f : Formula) → for_some (map ty (ts ++ t ∷ [])) f ≡ for_some (map ty ts) (some (ty t) f)
some_last [] t f = refl
some_last (u ∷ ts) t f = ap (some (ty u)) (some_last ts t f)

pub both_last : (ts : List Tree) (t : Tree) (f : Formula) → both_all (ts ++ t ∷ []) f ≡ both_all ts (both (atom t) f)
both_last [] t f = refl
both_last (u ∷ ts) t f = ap (both (atom u)) (both_last ts t f)

pub if_last : (ts : List Tree) (t : Tree) (f : Formula) → if_all (ts ++ t ∷ []) f ≡ if_all ts (implies (atom t) f)
if_last [] t f = refl
if_last (u ∷ ts) t f = ap (implies (atom u)) (if_last ts t f)

-- the last two terms as one
pub either_last : (ts : List Tree) (t u : Tree) → some_of ((ts ++ t ∷ []) ++ u ∷ []) ≡ some_of (ts ++ op disjunction (two t u) ∷ [])
either_last [] t u = refl
either_last (s ∷ []) t u = refl
either_last (s ∷ r ∷ ts) t u = ap (λ rest. op disjunction (two s rest)) (either_last (r ∷ ts) t u)

pub ruleset ends = (all_last, some_last, both_last, if_last, either_last)
