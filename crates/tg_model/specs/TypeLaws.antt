-- Laws of types: instances, contexts, values of a type, and the numbers of constructors.
use Rattle.std.specs.Prelude.{ℕ, zero, suc, true, ◌≡◌, ◌+◌, ◌↔◌, ◌++◌, List, [], ◌∷◌, map, length, Some, slice_get}
use Rattle.tg_model.specs.Tree as tree
use Rattle.tg_model.specs.Tree.{Tree, Trees, Arms, bound, free, literal, truth, con, call, put, choice, case, bind, op}
use Rattle.tg_model.specs.Types.{Ty, bool, applied, tys}
use Rattle.tg_model.specs.Formula.{Formula}
use Rattle.tg_model.specs.Value.{Value, made, values}
use Rattle.tg_model.specs.Theory.{Theory, Datatype, Constructor, Owned, constructor_at, first_constructor, numbered, instance, IsClosed, AreClosed}
use Rattle.tg_model.specs.Typing.{HasType, AreTyped, least}
use Rattle.tg_model.specs.Table.{Table, IsTable}
use Rattle.tg_model.specs.Denotation.{den}
use Rattle.tg_model.specs.TermTyping.{IsTyped, IsWellFormed}
use Rattle.tg_model.specs.WellTyped.{IsWellTyped}
use Rattle.tg_model.specs.Uses.{uses, uses_in_formula}

-- A term has each instance of a type that it has, where its variables have the instances of theirs.
abbrev pub InstanceKeepsTypes : Type 0
InstanceKeepsTypes = (th : Theory) → IsWellTyped th → (us vars locs : List Ty) (t : Tree) (u : Ty)
    → IsTyped th vars locs t u → IsTyped th (map (instance us) vars) (map (instance us) locs) t (instance us u)

-- Type soundness at an instance: the value has the instance of the term's type, where the variables' values have those of theirs.
abbrev pub IsTypeSoundAt : Type 0
IsTypeSoundAt = (th : Theory) (tb : Table) → IsWellTyped th → IsTable th tb → (us vars locs : List Ty) (env loc : List Value) (t : Tree) (u : Ty)
    → AreTyped th env (map (instance us) vars) → AreTyped th loc (map (instance us) locs) → IsTyped th vars locs t u
    → HasType th (den th tb env loc t) (instance us u)

-- A typed term has no type but bool where it has this type outside all binders: so a truth value may stand for it wherever it
-- stands, also as an argument of a polymorphic function.
abbrev pub TruthHasOneType : Type 0
TruthHasOneType = (th : Theory) → IsWellTyped th → (vars locs : List Ty) (t : Tree) (u : Ty) → AreClosed th (tys vars)
    → IsTyped th vars [] t bool → IsTyped th vars locs t u → u ≡ bool

-- two contexts give the same type to each variable that stands in the term, or in the formula
abbrev pub AgreeIn : Tree → List Ty → List Ty → Type 0
AgreeIn t vars vars' = (n : ℕ) → uses n t ≡ true → numbered vars n ≡ numbered vars' n

abbrev pub AgreeInFormula : Formula → List Ty → List Ty → Type 0
AgreeInFormula f vars vars' = (n : ℕ) → uses_in_formula n f ≡ true → numbered vars n ≡ numbered vars' n

-- Types and well-formedness depend on the types of the variables that stand there, and on no other.
abbrev pub TypesDependOnUsed : Type 0
TypesDependOnUsed = (th : Theory) (vars vars' locs : List Ty) (t : Tree) (u : Ty) → AgreeIn t vars vars'
    → IsTyped th vars locs t u → IsTyped th vars' locs t u

abbrev pub FormDependsOnUsed : Type 0
FormDependsOnUsed = (th : Theory) (vars vars' locs : List Ty) (f : Formula) → AgreeInFormula f vars vars'
    → IsWellFormed th vars locs f → IsWellFormed th vars' locs f

-- A typed term, and a well-formed formula, use variables of the context alone.
abbrev pub UsedHaveTypes : Type 0
UsedHaveTypes = (th : Theory) (vars locs : List Ty) (t : Tree) (u : Ty) → IsTyped th vars locs t u
    → (n : ℕ) → uses n t ≡ true → (s : Ty) × (numbered vars n ≡ Some s)

abbrev pub UsedInFormulasHaveTypes : Type 0
UsedInFormulasHaveTypes = (th : Theory) (vars locs : List Ty) (f : Formula) → IsWellFormed th vars locs f
    → (n : ℕ) → uses_in_formula n f ≡ true → (s : Ty) × (numbered vars n ≡ Some s)

-- A larger context keeps types and well-formedness: further variables, and further binders outside.
abbrev pub ContextsGrow : Type 0
ContextsGrow = (th : Theory) (vars more locs outer : List Ty) (t : Tree) (u : Ty)
    → IsTyped th vars locs t u → IsTyped th (vars ++ more) (locs ++ outer) t u

abbrev pub ContextsGrowForm : Type 0
ContextsGrowForm = (th : Theory) (vars more locs outer : List Ty) (f : Formula)
    → IsWellFormed th vars locs f → IsWellFormed th (vars ++ more) (locs ++ outer) f

-- A term that is typed outside all binders has one value within any.
abbrev pub IsClosedValue : Type 0
IsClosedValue = (th : Theory) (tb : Table) (vars : List Ty) (env loc : List Value) (t : Tree) (u : Ty)
    → IsTyped th vars [] t u → den th tb env loc t ≡ den th tb env [] t

-- The least value of a closed type has the type.
abbrev pub LeastHasType : Type 0
LeastHasType = (th : Theory) → IsWellTyped th → (t : Ty) → IsClosed th t → HasType th (least th t) t

-- constructor `o` stands at place `k`, from 0, among those of its datatype
abbrev pub StandsAt : Theory → Owned → ℕ → Type 0
StandsAt th o k = (x : Datatype) × (numbered th.datatypes o.datatype ≡ Some x) × (slice_get x.constructors k ≡ Some o.constructor)

-- A constructor's number, and its datatype with its place there, determine one another.
abbrev pub NumbersArePlaces : Type 0
NumbersArePlaces = (th : Theory) (c : ℕ) (o : Owned)
    → constructor_at th c ≡ Some o ↔ ((k : ℕ) × (c ≡ first_constructor th.datatypes o.datatype + k) × StandsAt th o k)

-- a value made by a constructor of datatype `d` at values of the constructor's types at `us`
abbrev pub IsMadeBy : Theory → ℕ → List Ty → Value → Type 0
IsMadeBy th d us v =
    (c : ℕ) × (o : Owned) × (vs : List Value) × (v ≡ made c (values vs)) × (constructor_at th c ≡ Some o) × (o.datatype ≡ d)
    × AreTyped th vs (map (instance us) o.constructor.arguments)

-- A value has a datatype's type exactly where one of the datatype's constructors makes it of values of the arguments' types.
abbrev pub ValuesAreMade : Type 0
ValuesAreMade = (th : Theory) (d : ℕ) (us : List Ty) (v : Value) → HasType th v (applied d (tys us)) ↔ IsMadeBy th d us v

-- how many variables the branches of a `case` on datatype `d` (0 for nat) bind, as declared
abbrev pub AreBranchSizes : Theory → ℕ → List ℕ → Type 0
AreBranchSizes th zero ns = ns ≡ 0 ∷ 1 ∷ []
AreBranchSizes th (suc d) ns = (x : Datatype) × (slice_get th.datatypes d ≡ Some x) × (ns ≡ map (λ (c : Constructor). length c.arguments) x.constructors)

abbrev pub branch_sizes : Arms → List ℕ
branch_sizes tree.end = []
branch_sizes (tree.arm n body arms) = n ∷ branch_sizes arms

-- each `case` in the term has its branches as declared: one for each constructor, in their order
module _ (th : Theory) where
  abbrev mutual
    pub EachCase : Tree → Type 0
    EachCase (bound k) = Unit {0}
    EachCase (free n) = Unit {0}
    EachCase (literal n) = Unit {0}
    EachCase (truth b) = Unit {0}
    EachCase (con c ts) = EachCases ts
    EachCase (call f ts) = EachCases ts
    EachCase (put ts) = EachCases ts
    EachCase (choice ts) = EachCases ts
    EachCase (case d t arms) = AreBranchSizes th d (branch_sizes arms) × EachCase t × EachCaseOf arms
    EachCase (bind t body) = EachCase t × EachCase body
    EachCase (op o ts) = EachCases ts

    pub EachCases : Trees → Type 0
    EachCases tree.none = Unit {0}
    EachCases (tree.more t ts) = EachCase t × EachCases ts

    pub EachCaseOf : Arms → Type 0
    EachCaseOf tree.end = Unit {0}
    EachCaseOf (tree.arm n body arms) = EachCase body × EachCaseOf arms

abbrev pub CasesAreDeclared : Type 0
CasesAreDeclared = (th : Theory) (vars locs : List Ty) (t : Tree) (u : Ty) → IsTyped th vars locs t u → EachCase th t
