-- Truths of clauses that are known by hand, on any table. `?1` is True, `?2` is False and `?3` is a number.
use Rattle.std.proofs.Common.{◌≡◌, true, false, refl, List, [], ◌∷◌}
use Rattle.tg_model.specs.Tree.{Tree, free, put, op, one, negation}
use Rattle.tg_model.specs.Value.{Value, number, boolean}
use Rattle.tg_model.specs.Theory.{Theory}
use Rattle.tg_model.specs.Table.{Table}
use Rattle.tg_model.specs.Denotation.{World}
use Rattle.tg_clause.specs.Clauses.{Clause, said}
use Rattle.tg_clause.specs.Truth.{truth_at, holds, clause_holds, all_hold}
use Rattle.tg_clause.specs.Laws.{AtomsOf, HasInputs}

abbrev p : Tree
p = free 1

abbrev q : Tree
q = free 2

abbrev r : Tree
r = free 3

abbrev values : List Value
values = boolean true ∷ boolean false ∷ number 1 ∷ []

module _ (w : World) where
  terms : (truth_at w values [] p ≡ true) × (truth_at w values [] q ≡ false) × (truth_at w values [] r ≡ false)
      × (truth_at w values [] (op negation (one q)) ≡ true)
  terms = (refl, refl, refl, refl)

  literals : (holds w values [] (said true p) ≡ true) × (holds w values [] (said false p) ≡ false) × (holds w values [] (said false q) ≡ true)
  literals = (refl, refl, refl)

  -- one of the literals, and all of the clauses
  clauses : (clause_holds w values [] (said false p ∷ said false q ∷ []) ≡ true) × (clause_holds w values [] (said false p ∷ said true q ∷ []) ≡ false)
      × (clause_holds w values [] [] ≡ false) × (all_hold w values [] ((said true p ∷ []) ∷ (said true q ∷ said false q ∷ []) ∷ []) ≡ true)
      × (all_hold w values [] ((said true p ∷ []) ∷ (said true q ∷ []) ∷ []) ≡ false) × (all_hold w values [] [] ≡ true)
  clauses = (refl, refl, refl, refl, refl, refl)

atoms : AtomsOf (λ a. a ≡ p) (said true p ∷ said false p ∷ [])
atoms = (refl, (refl, tt))

other_atoms : AtomsOf (λ a. a ≡ p) (said true p ∷ said true q ∷ []) → ⊥
other_atoms h = let e : free 2 ≡ free 1 = h.1.0 in cc e

-- `?2 | put ?1`, and `?1 | put ?1`
abbrev calling : Clause
calling = said true q ∷ said true (put (one p)) ∷ []

abbrev known : Clause
known = said true p ∷ said true (put (one p)) ∷ []

module _ (th : Theory) (tb : Table) where
  -- `?2` is False, and the input is `?1`
  called : HasInputs th tb values (boolean true ∷ []) calling
  called f = (tt, ((record { values = refl; made = (tt, tt) }, (tt, tt)), tt))

  called_elsewhere : HasInputs th tb values (boolean false ∷ []) calling → ⊥
  called_elsewhere h = let e : boolean true ∷ [] ≡ boolean false ∷ [] = (h (λ e. refl, (λ e. cc e, tt))).1.0.0.values in cc e

  -- `?1` is True, so the clause says nothing of the input
  not_called : HasInputs th tb values (boolean false ∷ []) known
  not_called f = let e : true ≡ false = f.0 refl in absurd (cc e)
