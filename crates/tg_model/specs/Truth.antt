-- The truth of formulas and sequents on a table.
use Rattle.std.specs.Prelude.{true, ◌≡◌, List, [], ◌∷◌}
use Rattle.tg_model.specs.Value.{Value, boolean, IsShallow}
use Rattle.tg_model.specs.Formula.{Formula, atom, both, implies, all, some, thyp, tested, deep, Sequent}
use Rattle.tg_model.specs.Theory.{Theory}
use Rattle.tg_model.specs.Typing.{HasType, AreTyped}
use Rattle.tg_model.specs.Table.{Table, IsListed}
use Rattle.tg_model.specs.Denotation.{den, values_in, world}

-- `env` has the values of the free variables, the list the values of the quantified ones round the formula, innermost first
module _ (th : Theory) (tb : Table) (env : List Value) where
  abbrev pub Holds : List Value → Formula → Type 0
  Holds loc (atom t) = den th tb env loc t ≡ boolean true
  Holds loc (both f g) = Holds loc f × Holds loc g
  Holds loc (implies f g) = Holds loc f → Holds loc g
  Holds loc (all t f) = (v : Value) → HasType th v t → Holds (v ∷ loc) f
  Holds loc (some t f) = (v : Value) × HasType th v t × Holds (v ∷ loc) f
  Holds loc (thyp f) = Holds loc f
  Holds loc (tested ts) = IsListed tb (values_in (world th tb) env loc ts)
  Holds loc (deep k ts) = ¬ (IsShallow k (values_in (world th tb) env loc ts))

  abbrev pub AllHold : List Formula → Type 0
  AllHold [] = Unit {0}
  AllHold (f ∷ fs) = Holds [] f × AllHold fs

-- at all values of the sequent's variables, its goal is true if all its hypotheses are
abbrev pub IsTrueOn : Theory → Table → Sequent → Type 0
IsTrueOn th tb s = (env : List Value) → AreTyped th env s.vars → AllHold th tb env s.hypotheses → Holds th tb env [] s.goal

-- the specification is True at every listed input
abbrev pub SatisfiesSpecification : Theory → Table → Type 0
SatisfiesSpecification th tb = (vs : List Value) → IsListed tb vs → den th tb vs [] th.specification ≡ boolean true
