-- The words of the rules at values that are known by hand.
use Rattle.std.proofs.Common.{ℕ, ◌≡◌, Bool, true, false, refl, [], ◌∷◌}
use Rattle.tg_model.specs.Tree.{Tree, free, literal, con, call, put, case, bind, op, one, two, plus, successor, less, arm, end}
use Rattle.tg_model.specs.Types.{nat, bool}
use Rattle.tg_model.specs.Formula.{Formula, atom, both, implies, all, some, thyp, tested, deep}
use Rattle.tg_model.proofs.KnownValues.{sorting, nil, cons, list_of, pair_of}
use Rattle.tg_eval.specs.Limited.{limited}
use Rattle.tg_calculus.specs.Sequent.{has, added, ◌∪◌, ◌∖◌, next, uses_new, some_use_new}
use Rattle.tg_calculus.specs.Replacing.{replaces}
use Rattle.tg_calculus.specs.Chains.{has_chain, some_has_chain}
use Rattle.tg_calculus.specs.Computing.{computes}

abbrev pub a : Formula
a = atom (free 1)

abbrev pub b : Formula
b = atom (free 2)

abbrev pub c : Formula
c = atom (free 3)

kept_in_order : (added (a ∷ b ∷ []) c ≡ a ∷ b ∷ c ∷ []) × (added (a ∷ b ∷ []) a ≡ a ∷ b ∷ [])
    × ((b ∷ a ∷ []) ∪ (c ∷ b ∷ []) ≡ b ∷ a ∷ c ∷ []) × ((a ∷ []) ∪ [] ≡ a ∷ []) × ([] ∪ (b ∷ a ∷ []) ≡ b ∷ a ∷ [])
    × ((a ∷ b ∷ c ∷ []) ∖ b ≡ a ∷ c ∷ []) × ((a ∷ c ∷ []) ∖ b ≡ a ∷ c ∷ []) × ((b ∷ []) ∖ b ≡ [])
    × (has (a ∷ b ∷ []) b ≡ true) × (has (a ∷ b ∷ []) c ≡ false)
kept_in_order = (refl, refl, refl, refl, refl, refl, refl, refl, refl, refl)

-- of one variable more `?2` is new, of two `?2` and `?3`
new_variables : (next (nat ∷ []) ≡ 2) × (uses_new (nat ∷ []) (nat ∷ []) b ≡ true) × (uses_new (nat ∷ []) (nat ∷ []) a ≡ false)
    × (uses_new (nat ∷ []) (nat ∷ []) c ≡ false) × (uses_new (nat ∷ []) (nat ∷ bool ∷ []) c ≡ true) × (uses_new (nat ∷ []) [] b ≡ false)
    × (some_use_new (nat ∷ []) (nat ∷ []) (a ∷ b ∷ []) ≡ true) × (some_use_new (nat ∷ []) (nat ∷ []) (a ∷ c ∷ []) ≡ false)
new_variables = (refl, refl, refl, refl, refl, refl, refl, refl)

abbrev replaced : Formula → Formula → Bool
replaced F Q = replaces (free 1) (literal 5) F Q

abbrev sum_of : Tree → Tree → Formula
sum_of t u = atom (op less (two t (op plus (two t u))))

-- some places, none or all; also the term that is put in is left
some_places : (replaced (sum_of (free 1) (free 1)) (atom (op less (two (literal 5) (op plus (two (free 1) (literal 5)))))) ≡ true)
    × (replaced (sum_of (free 1) (free 1)) (sum_of (literal 5) (literal 5)) ≡ true) × (replaced (sum_of (free 1) (free 1)) (sum_of (free 1) (free 1)) ≡ true)
    × (replaced (sum_of (free 1) (free 1)) (sum_of (free 2) (literal 5)) ≡ false)
    × (replaced (sum_of (literal 5) (free 1)) (sum_of (free 1) (free 1)) ≡ false)
    × (replaced (atom (free 1)) (atom (literal 5)) ≡ true) × (replaced (atom (literal 5)) (atom (free 1)) ≡ false)
some_places = (refl, refl, refl, refl, refl, refl, refl)

-- under quantifiers, `let` and branches
under_binders : (replaced (all nat (atom (free 1))) (all nat (atom (literal 5))) ≡ true)
    × (replaced (some nat (atom (free 1))) (some nat (atom (literal 5))) ≡ true)
    × (replaced (all nat (atom (free 1))) (all bool (atom (literal 5))) ≡ false) × (replaced (all nat (atom (free 1))) (some nat (atom (literal 5))) ≡ false)
    × (replaced (atom (bind (free 1) (free 1))) (atom (bind (literal 5) (literal 5))) ≡ true)
    × (replaced (atom (bind (free 1) (free 1))) (atom (bind (free 1) (literal 5))) ≡ true)
    × (replaced (atom (case 1 (free 1) (arm 0 (free 1) end))) (atom (case 1 (literal 5) (arm 0 (literal 5) end))) ≡ true)
    × (replaced (atom (case 1 (free 1) (arm 0 (free 1) end))) (atom (case 2 (literal 5) (arm 0 (literal 5) end))) ≡ false)
    × (replaced (atom (case 1 (free 1) (arm 0 (free 1) end))) (atom (case 1 (literal 5) (arm 1 (literal 5) end))) ≡ false)
under_binders = (refl, refl, refl, refl, refl, refl, refl, refl, refl)

in_formulas : (replaced (both a a) (both a (atom (literal 5))) ≡ true) × (replaced (both a a) (implies a (atom (literal 5))) ≡ false)
    × (replaced (implies a a) (implies (atom (literal 5)) a) ≡ true) × (replaced (thyp a) (thyp (atom (literal 5))) ≡ true)
    × (replaced (thyp a) (atom (literal 5)) ≡ false)
    × (replaced (tested (one (free 1))) (tested (one (literal 5))) ≡ true) × (replaced (tested (one (free 1))) (tested (two (literal 5) (literal 5))) ≡ false)
    × (replaced (deep 2 (one (free 1))) (deep 2 (one (literal 5))) ≡ true) × (replaced (deep 2 (one (free 1))) (deep 3 (one (literal 5))) ≡ false)
    × (replaced (atom (con 1 (one (free 1)))) (atom (con 2 (one (literal 5)))) ≡ false)
    × (replaced (atom (call 1 (one (free 1)))) (atom (call 2 (one (literal 5)))) ≡ false)
    × (replaced (atom (put (one (free 1)))) (atom (put (one (literal 5)))) ≡ true)
in_formulas = (refl, refl, refl, refl, refl, refl, refl, refl, refl, refl, refl, refl)

abbrev chain : Tree → ℕ → Bool
chain t k = has_chain sorting t k (list_of nat)

-- the root is the first of the chain, and what stands under the last has a datatype's type
chains : (chain (cons (literal 1) (free 1)) 1 ≡ true) × (chain (cons (literal 1) nil) 1 ≡ true) × (chain (cons (literal 1) (free 1)) 2 ≡ false)
    × (chain (cons (literal 1) (cons (free 2) (free 1))) 2 ≡ true) × (chain nil 1 ≡ false) × (chain (free 1) 1 ≡ false)
    × (chain (call 2 (one (cons (literal 1) nil))) 1 ≡ false) × (has_chain sorting (cons (literal 1) nil) 1 nat ≡ false)
    × (has_chain sorting (cons nil nil) 1 (list_of (list_of nat)) ≡ true) × (has_chain sorting (op successor (one (literal 1))) 1 nat ≡ false)
    × (has_chain sorting (con 5 (two (literal 1) (literal 2))) 1 (pair_of nat nat) ≡ false)
    × (has_chain sorting (con 5 (two (literal 1) nil)) 1 (pair_of nat (list_of nat)) ≡ true)
    × (some_has_chain sorting (two nil (cons (literal 1) nil)) 1 (list_of nat ∷ list_of nat ∷ []) ≡ true)
    × (some_has_chain sorting (two nil nil) 1 (list_of nat ∷ list_of nat ∷ []) ≡ false)
chains = (refl, refl, refl, refl, refl, refl, refl, refl, refl, refl, refl, refl, refl, refl)

-- True, but not what is False, no truth value, or passes a bound
computing : (computes sorting (op less (two (literal 1) (literal 2))) ≡ true) × (computes sorting (op less (two (literal 2) (literal 2))) ≡ false)
    × (computes sorting (literal 1) ≡ false) × (computes sorting (op less (two (literal 1) (literal 18446744073709551616))) ≡ false)
    × (computes sorting (op less (two (literal 5) (call 4 (one (literal 3))))) ≡ true)
unfolding limited
computing = (refl, refl, refl, refl, refl)
