-- What the formulas say on a table, in words of classes and of the inputs that the table lists.
use Rattle.std.specs.Prelude.{ℕ, true, ◌≡◌, ◌↔◌, ◌⊎◌, List, [], ◌∷◌, Some, None}
use Rattle.tg_model.specs.Tree.{Tree}
use Rattle.tg_model.specs.Types.{Ty, bool, tys}
use Rattle.tg_model.specs.Value.{Value, boolean, IsShallow}
use Rattle.tg_model.specs.Theory.{Theory, AreClosed}
use Rattle.tg_model.specs.Typing.{AreTyped}
use Rattle.tg_model.specs.Table.{Table, IsTable, IsListed}
use Rattle.tg_model.specs.Denotation.{den, world, values_in}
use Rattle.tg_model.specs.Formula.{Formula}
use Rattle.tg_model.specs.Truth.{Holds, SatisfiesSpecification}
use Rattle.tg_model.specs.TermTyping.{IsTyped, AllTyped, IsWellFormed}
use Rattle.tg_model.specs.WellTyped.{IsWellTyped}
use Rattle.tg_model.specs.Accepted.{IsAccepted}
use Rattle.tg_hyps.specs.Hypotheses.{Class, test_of, open_class_of, uniformity_of, regularity_of, conclusion_of}

-- at the values `vs` of the variables
module _ (th : Theory) (tb : Table) (vs : List Value) where
  abbrev pub IsTrueTerm : Tree → Type 0
  IsTrueTerm t = den th tb vs [] t ≡ boolean true

  abbrev pub AllTrue : List Tree → Type 0
  AllTrue [] = Unit {0}
  AllTrue (t ∷ ts) = IsTrueTerm t × AllTrue ts

  abbrev pub SomeTrue : List Tree → Type 0
  SomeTrue [] = ⊥
  SomeTrue (t ∷ ts) = IsTrueTerm t ⊎ SomeTrue ts

  -- the inputs that the class has there
  abbrev pub inputs_at : Class → List Value
  inputs_at c = values_in (world th tb) vs [] c.inputs

-- These inputs are a member of the class: they are what it has at the values `vs` of its variables, and its constraints are
-- true there.
pub record IsMember (th : Theory) (tb : Table) (c : Class) (vs inputs : List Value) : Type 0 where
  pub typed : AreTyped th vs c.variables
  pub is : inputs_at th tb vs c ≡ inputs
  pub constraints : AllTrue th tb vs c.constraints

-- The class is true at the inputs: they are no member, or one of its checks is true.
abbrev pub IsTrueAt : Theory → Table → Class → List Value → Type 0
IsTrueAt th tb c inputs = (vs : List Value) → IsMember th tb c vs inputs → SomeTrue th tb vs c.checks

-- The class is true at each tested input.
abbrev pub IsTrueWhereTested : Theory → Table → Class → Type 0
IsTrueWhereTested th tb c = (inputs : List Value) → IsListed tb inputs → IsTrueAt th tb c inputs

-- One of the class's checks is true at some tested member.
abbrev pub HasTrueMember : Theory → Table → Class → Type 0
HasTrueMember th tb c =
    (inputs : List Value) × IsListed tb inputs × ((vs : List Value) × IsMember th tb c vs inputs × SomeTrue th tb vs c.checks)

-- The specification is true at each tested input that is deeper than `k`.
abbrev pub IsRightWhereDeep : Theory → Table → ℕ → Type 0
IsRightWhereDeep th tb k = (inputs : List Value) → IsListed tb inputs → (¬ (IsShallow k inputs)) → IsTrueTerm th tb inputs th.specification

-- terms of type bool
abbrev pub AreTruths : Theory → List Ty → List Tree → Type 0
AreTruths th vars [] = Unit {0}
AreTruths th vars (t ∷ ts) = IsTyped th vars [] t bool × AreTruths th vars ts

-- A class of the theory's inputs. Its variables have closed types, its terms are typed where the variables have theirs.
pub record IsClassOf (th : Theory) (c : Class) : Type 0 where
  pub closed : AreClosed th (tys c.variables)
  pub inputs : AllTyped th c.variables [] c.inputs th.program.inputs
  pub constraints : AreTruths th c.variables c.constraints
  pub checks : AreTruths th c.variables c.checks

-- of a class of a well-typed theory, on each of its tables
abbrev pub OfClasses : (Theory → Table → Class → Type 0) → Type 0
OfClasses P = (th : Theory) (tb : Table) (c : Class) → IsWellTyped th → IsTable th tb → IsClassOf th c → P th tb c

-- The open class is true exactly where the class is at each tested input.
abbrev pub OpenClassIsOfMembers : Type 0
OpenClassIsOfMembers = OfClasses (λ th tb c. Holds th tb [] [] (open_class_of c) ↔ IsTrueWhereTested th tb c)

-- Uniformity is true exactly where a true member makes the class true at each tested input.
abbrev pub UniformityIsOfMembers : Type 0
UniformityIsOfMembers = OfClasses (λ th tb c. Holds th tb [] [] (uniformity_of c) ↔ (HasTrueMember th tb c → IsTrueWhereTested th tb c))

-- A test is true exactly where the inputs at its values are tested and one of the checks is true there.
abbrev pub TestIsOfValues : Type 0
TestIsOfValues = OfClasses (λ th tb c. (vs env : List Value) → AreTyped th vs c.variables
    → Holds th tb env [] (test_of c vs) ↔ (IsListed tb (inputs_at th tb vs c) × SomeTrue th tb vs c.checks))

-- Regularity is true exactly where the specification is at each tested input that is deeper. Where there is none, no input is.
abbrev pub RegularityIsOfDeep : Type 0
RegularityIsOfDeep = (th : Theory) (tb : Table) (k : ℕ) (f : Formula) → IsTable th tb → regularity_of th k ≡ Some f
    → Holds th tb [] [] f ↔ IsRightWhereDeep th tb k

abbrev pub NoneIsDeep : Type 0
NoneIsDeep = (th : Theory) (k j : ℕ) → regularity_of th k ≡ None → (inputs : List Value) → AreTyped th inputs th.program.inputs → IsShallow j inputs

-- The conclusion is true exactly where the specification is at each tested input.
abbrev pub ConclusionIsSpecification : Type 0
ConclusionIsSpecification = (th : Theory) (tb : Table) → IsTable th tb → Holds th tb [] [] (conclusion_of th) ↔ SatisfiesSpecification th tb

-- The formulas of a class of the theory are well formed without variables, and those of a well-typed theory.
abbrev pub ClassesAreWellFormed : Type 0
ClassesAreWellFormed = (th : Theory) (c : Class) → IsClassOf th c → IsWellFormed th [] [] (open_class_of c) × IsWellFormed th [] [] (uniformity_of c)

-- So is a test at values of the variables' types, in an accepted theory.
abbrev pub TestsAreWellFormed : Type 0
TestsAreWellFormed = (th : Theory) (c : Class) (vs : List Value) → IsAccepted th → IsClassOf th c → AreTyped th vs c.variables
    → IsWellFormed th [] [] (test_of c vs)

abbrev pub ConclusionIsWellFormed : Type 0
ConclusionIsWellFormed = (th : Theory) → IsWellTyped th → IsWellFormed th [] [] (conclusion_of th)

abbrev pub RegularityIsWellFormed : Type 0
RegularityIsWellFormed = (th : Theory) (k : ℕ) (f : Formula) → IsWellTyped th → regularity_of th k ≡ Some f → IsWellFormed th [] [] f
