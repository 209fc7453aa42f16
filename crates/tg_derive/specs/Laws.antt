-- The laws of classes: there is one list of them or one limit that is passed, they cover the specification both ways, and their checks
-- call the program at their inputs.
use Rattle.std.specs.Prelude.{ℕ, false, ◌≡◌, ◌≤◌, List, [], ◌∷◌, length, Some, None}
use Rattle.tg_model.specs.Value.{Value, IsShallow}
use Rattle.tg_model.specs.Theory.{Theory}
use Rattle.tg_model.specs.Table.{Table, IsTable}
use Rattle.tg_model.specs.Typing.{AreTyped}
use Rattle.tg_model.specs.Truth.{AllHold, IsTrueOn, SatisfiesSpecification}
use Rattle.tg_model.specs.Calls.{has_call, EachPut}
use Rattle.tg_model.specs.Accepted.{IsAccepted, IsAmong}
use Rattle.tg_accept.specs.Checks.{Each}
use Rattle.tg_rows.specs.Laws.{HaveValues}
use Rattle.tg_split.specs.Patterns.{patterns}
use Rattle.tg_hyps.specs.Hypotheses.{Class}
use Rattle.tg_hyps.specs.Meaning.{IsTrueTerm, AllTrue, IsMember, IsTrueAt, IsClassOf}
use Rattle.tg_derive.specs.Work.{Worked}
use Rattle.tg_derive.specs.Classes.{Derived, AreClasses}
use Rattle.tg_derive.specs.Trees.{AreClassesOf}
use Rattle.tg_derive.specs.Theorem.{Choice, theorem_of, assumptions_of}

-- The work on a theory to a depth comes to one answer.
abbrev pub IsOneAnswer : Type 0
IsOneAnswer = (th : Theory) (k : ℕ) (o o' : Worked Class) → Derived th k o → Derived th k o' → o ≡ o'

-- The classes are those of the split trees of the patterns, whatever the order of work.
abbrev pub ClassesAreOfTrees : Type 0
ClassesAreOfTrees = (th : Theory) (k : ℕ) (cs : List Class) → AreClasses th k cs → AreClassesOf th (patterns th k) cs

-- There are at most 4,096, since the clauses are counted that they are made of.
abbrev pub ClassesAreFew : Type 0
ClassesAreFew = (th : Theory) (k : ℕ) (cs : List Class) → AreClasses th k cs → length cs ≤ 4096

-- each class is true at the inputs
abbrev pub AreTrueAt : Theory → Table → List Class → List Value → Type 0
AreTrueAt th tb cs inputs = Each (λ c. IsTrueAt th tb c inputs) cs

-- Where the specification is True at some inputs, each class is true there. Where each class is true at inputs that aren't deeper than
-- `k`, the specification is True there.
pub record CoverAt (th : Theory) (k : ℕ) (cs : List Class) (tb : Table) (inputs : List Value) : Type 0 where
  pub true_there : IsTrueTerm th tb inputs th.specification → AreTrueAt th tb cs inputs
  pub suffice : IsShallow k inputs → AreTrueAt th tb cs inputs → IsTrueTerm th tb inputs th.specification

-- on each table, at all inputs of the program's types
abbrev pub ClassesCover : Type 0
ClassesCover = (th : Theory) (k : ℕ) (cs : List Class) → IsAccepted th → AreClasses th k cs → (tb : Table) → IsTable th tb
    → (inputs : List Value) → AreTyped th inputs th.program.inputs → CoverAt th k cs tb inputs

-- They are classes of the theory, and their constraints have no program call.
abbrev pub ClassesAreTyped : Type 0
ClassesAreTyped = (th : Theory) (k : ℕ) (cs : List Class) → IsAccepted th → AreClasses th k cs → Each (IsClassOf th) cs

abbrev pub ConstraintsHaveNoCall : Type 0
ConstraintsHaveNoCall = (th : Theory) (k : ℕ) (cs : List Class) → AreClasses th k cs → Each (λ c. Each (λ t. has_call t ≡ false) c.constraints) cs

-- At each member of a class the program calls in its checks have the inputs of that member.
abbrev pub CallsAreAtInputs : Type 0
CallsAreAtInputs = (th : Theory) (k : ℕ) (cs : List Class) → IsAccepted th → AreClasses th k cs → (tb : Table) → IsTable th tb
    → (c : Class) → IsAmong c cs → (vs inputs : List Value) → IsMember th tb c vs inputs → Each (EachPut (HaveValues th tb vs inputs)) c.checks

-- a choice for each class: of a tested one values of its variables, at which its constraints are True, whatever the program answers
abbrev pub IsChosen : Theory → Class → Choice → Type 0
IsChosen th c (Some vs) = AreTyped th vs c.variables × ((tb : Table) → IsTable th tb → AllTrue th tb vs c.constraints)
IsChosen th c None = Unit {0}

abbrev pub AreChosen : Theory → List Class → List Choice → Type 0
AreChosen th [] [] = Unit {0}
AreChosen th (c ∷ cs) (x ∷ xs) = IsChosen th c x × AreChosen th cs xs
AreChosen th _ _ = ⊥

-- The theorem is true on every table.
abbrev pub TheoremIsTrue : Type 0
TheoremIsTrue = (th : Theory) (k : ℕ) (cs : List Class) (xs : List Choice) → IsAccepted th → AreClasses th k cs → AreChosen th cs xs
    → (tb : Table) → IsTable th tb → IsTrueOn th tb (theorem_of th k cs xs)

-- What no test shows, each uniformity, each open class and the regularity, is true on every table where the specification is.
abbrev pub AssumptionsAreNecessary : Type 0
AssumptionsAreNecessary = (th : Theory) (k : ℕ) (cs : List Class) (xs : List Choice) → IsAccepted th → AreClasses th k cs
    → (tb : Table) → IsTable th tb → SatisfiesSpecification th tb → AllHold th tb [] (assumptions_of th k cs xs)
