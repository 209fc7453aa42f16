-- Known closures: which variable which quantifier binds, and what stays.
use Rattle.std.proofs.Common.{◌≡◌, [], ◌∷◌, refl}
use Rattle.tg_model.specs.Tree.{literal, bound, free, bind, op, two, less}
use Rattle.tg_model.specs.Types.{nat, bool}
use Rattle.tg_model.specs.Formula.{atom, implies, all, some, tested}
use Rattle.tg_model.specs.Closing.{closed, universal_closure, existential_closure}

-- `?1 < ?2` is `ALL x. ALL y. x < y`, with `x` outermost
first_outermost : universal_closure (nat ∷ bool ∷ []) (atom (op less (two (free 1) (free 2)))) ≡ all nat (all bool (atom (op less (two (bound 1) (bound 0)))))
first_outermost = refl

existence : existential_closure (nat ∷ []) (atom (free 1)) ≡ some nat (atom (bound 0))
existence = refl

-- within the formula's own binders the variables are further out; its own bound variable stays
within_binders : closed 2 (all nat (atom (bind (free 1) (op less (two (free 2) (bound 0)))))) ≡ all nat (atom (bind (bound 2) (op less (two (bound 2) (bound 0)))))
within_binders = refl

-- a loose bound variable goes up over the new quantifiers, and a variable past the last stays
loose_goes_up : closed 2 (implies (atom (bound 0)) (tested (two (free 3) (literal 3)))) ≡ implies (atom (bound 2)) (tested (two (free 3) (literal 3)))
loose_goes_up = refl

nothing_to_close : universal_closure [] (atom (free 1)) ≡ atom (free 1)
nothing_to_close = refl
