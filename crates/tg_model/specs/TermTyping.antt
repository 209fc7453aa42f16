-- Typings of terms. A typing is a tree: it gives a type to each node and binder, and an instance to each use of a
-- constructor or a function. `IsTyping` says when a tree of types is a typing of a term.
use Rattle.std.specs.Prelude.{ℕ, zero, suc, ◌≡◌, ◌++◌, List, [], ◌∷◌, map, reverse, length, Some, slice_get}
use Rattle.std.specs.Option.{option_map_or}
use Rattle.tg_model.specs.Tree as tree
use Rattle.tg_model.specs.Tree.{Tree, Trees, Arms, bound, free, literal, truth, con, call, put, choice, case, bind, op, Operator, successor, negation, conjunction, disjunction, implication, equality, less, less_equal, plus, minus, times, divide, modulo, unnamed}
use Rattle.tg_model.specs.Types.{Ty, nat, bool, applied, tys}
use Rattle.tg_model.specs.Formula.{Formula, atom, both, implies, all, some, thyp, tested, deep}
use Rattle.tg_model.specs.Theory.{Theory, Datatype, Constructor, Function, Owned, constructor_at, numbered, instance, IsClosed}

mutual
  pub data Typing : Type 0 where
    -- of a variable, a literal or a truth value
    leaf : (t : Ty) → Typing
    -- of a constructor or a function, used at the instance `us`
    instanced : (us : List Ty) (t : Ty) (ds : Typings) → Typing
    -- of a program call, an `if` or an operator
    compound : (t : Ty) (ds : Typings) → Typing
    -- of a `case` on a datatype at the instance `us`
    branching : (us : List Ty) (t : Ty) (d : Typing) (arms : ArmTypings) → Typing
    -- of a `let`, whose variable has the type `u`
    binding : (u t : Ty) (d e : Typing) → Typing

  pub data Typings : Type 0 where
    none : Typings
    more : (d : Typing) (ds : Typings) → Typings

  -- of the branches of a `case`, with the types of their variables
  pub data ArmTypings : Type 0 where
    end : ArmTypings
    arm : (vars : List Ty) (d : Typing) (arms : ArmTypings) → ArmTypings

abbrev pub type_of : Typing → Ty
type_of (leaf t) = t
type_of (instanced us t ds) = t
type_of (compound t ds) = t
type_of (branching us t d arms) = t
type_of (binding u t d e) = t

abbrev pub types_of : Typings → List Ty
types_of none = []
types_of (more d ds) = type_of d ∷ types_of ds

-- the operands' types and the type of the whole
abbrev pub IsOperation : Operator → List Ty → Ty → Type 0
IsOperation successor ts t = (ts ≡ nat ∷ []) × (t ≡ nat)
IsOperation negation ts t = (ts ≡ bool ∷ []) × (t ≡ bool)
IsOperation conjunction ts t = (ts ≡ bool ∷ bool ∷ []) × (t ≡ bool)
IsOperation disjunction ts t = (ts ≡ bool ∷ bool ∷ []) × (t ≡ bool)
IsOperation implication ts t = (ts ≡ bool ∷ bool ∷ []) × (t ≡ bool)
IsOperation equality ts t = ((u : Ty) × (ts ≡ u ∷ u ∷ [])) × (t ≡ bool)
IsOperation less ts t = (ts ≡ nat ∷ nat ∷ []) × (t ≡ bool)
IsOperation less_equal ts t = (ts ≡ nat ∷ nat ∷ []) × (t ≡ bool)
IsOperation plus ts t = (ts ≡ nat ∷ nat ∷ []) × (t ≡ nat)
IsOperation minus ts t = (ts ≡ nat ∷ nat ∷ []) × (t ≡ nat)
IsOperation times ts t = (ts ≡ nat ∷ nat ∷ []) × (t ≡ nat)
IsOperation divide ts t = (ts ≡ nat ∷ nat ∷ []) × (t ≡ nat)
IsOperation modulo ts t = (ts ≡ nat ∷ nat ∷ []) × (t ≡ nat)
IsOperation (unnamed n) ts t = ⊥

-- `d` is a datatype with as many parameters as `us` has types, or it is 0, for nat, and `us` is empty
abbrev pub IsDatatype : Theory → ℕ → List Ty → Type 0
IsDatatype th zero us = us ≡ []
IsDatatype th (suc d) us = (x : Datatype) × (slice_get th.datatypes d ≡ Some x) × (length us ≡ x.parameters)

abbrev pub datatype_at : ℕ → List Ty → Ty
datatype_at zero us = nat
datatype_at (suc d) us = applied (suc d) (tys us)

-- the arguments' types of each constructor, in order
abbrev pub constructor_arguments : Theory → ℕ → List Ty → List (List Ty)
constructor_arguments th zero us = [] ∷ (nat ∷ []) ∷ []
constructor_arguments th (suc d) us =
    option_map_or (λ (x : Datatype). map (λ (k : Constructor). map (instance us) k.arguments) x.constructors) (slice_get th.datatypes d) []

-- `vars` are the types of the free variables, the list those of the loose bound ones, the innermost first
module _ (th : Theory) (vars : List Ty) where
  abbrev mutual
    pub IsTyping : List Ty → Tree → Typing → Type 0
    IsTyping locs (bound k) (leaf t) = slice_get locs k ≡ Some t
    IsTyping locs (free n) (leaf t) = numbered vars n ≡ Some t
    IsTyping locs (literal n) (leaf t) = t ≡ nat
    IsTyping locs (truth b) (leaf t) = t ≡ bool
    IsTyping locs (con c ts) (instanced us t ds) =
        (o : Owned) × (constructor_at th c ≡ Some o) × IsDatatype th o.datatype us × (t ≡ applied o.datatype (tys us))
        × (types_of ds ≡ map (instance us) o.constructor.arguments) × AreTypings locs ts ds
    IsTyping locs (call f ts) (instanced us t ds) =
        (x : Function) × (numbered th.functions f ≡ Some x) × (length us ≡ x.parameters) × (t ≡ instance us x.answer)
        × (types_of ds ≡ map (instance us) x.arguments) × AreTypings locs ts ds
    IsTyping locs (put ts) (compound t ds) = (t ≡ th.program.answer) × (types_of ds ≡ th.program.inputs) × AreTypings locs ts ds
    IsTyping locs (choice ts) (compound t ds) = (types_of ds ≡ bool ∷ t ∷ t ∷ []) × AreTypings locs ts ds
    IsTyping locs (op o ts) (compound t ds) = IsOperation o (types_of ds) t × AreTypings locs ts ds
    IsTyping locs (case n t bs) (branching us u d arms) =
        IsDatatype th n us × (type_of d ≡ datatype_at n us) × IsTyping locs t d × AreArmTypings locs u bs (constructor_arguments th n us) arms
    IsTyping locs (bind t body) (binding u v d e) = IsTyping locs t d × (u ≡ type_of d) × IsTyping (u ∷ locs) body e × (v ≡ type_of e)
    IsTyping locs _ _ = ⊥

    pub AreTypings : List Ty → Trees → Typings → Type 0
    AreTypings locs tree.none none = Unit {0}
    AreTypings locs (tree.more t ts) (more d ds) = IsTyping locs t d × AreTypings locs ts ds
    AreTypings locs _ _ = ⊥

    -- one branch for each constructor, with a variable for each argument; all bodies have the type `u`
    pub AreArmTypings : List Ty → Ty → Arms → List (List Ty) → ArmTypings → Type 0
    AreArmTypings locs u tree.end [] end = Unit {0}
    AreArmTypings locs u (tree.arm n body bs) (args ∷ rest) (arm ts d arms) =
        (n ≡ length args) × (ts ≡ args) × IsTyping (reverse args ++ locs) body d × (type_of d ≡ u) × AreArmTypings locs u bs rest arms
    AreArmTypings locs u _ _ _ = ⊥

  -- a term has a typing at a type
  abbrev pub IsTyped : List Ty → Tree → Ty → Type 0
  IsTyped locs t u = (d : Typing) × IsTyping locs t d × (type_of d ≡ u)

  abbrev pub AllTyped : List Ty → Trees → List Ty → Type 0
  AllTyped locs tree.none [] = Unit {0}
  AllTyped locs (tree.more t ts) (u ∷ us) = IsTyped locs t u × AllTyped locs ts us
  AllTyped locs _ _ = ⊥

  abbrev pub AreListTyped : List Ty → List Tree → List Ty → Type 0
  AreListTyped locs [] [] = Unit {0}
  AreListTyped locs (t ∷ ts) (u ∷ us) = IsTyped locs t u × AreListTyped locs ts us
  AreListTyped locs _ _ = ⊥

  -- each term is typed by itself, quantified types are closed
  abbrev pub IsWellFormed : List Ty → Formula → Type 0
  IsWellFormed locs (atom t) = IsTyped locs t bool
  IsWellFormed locs (both f g) = IsWellFormed locs f × IsWellFormed locs g
  IsWellFormed locs (implies f g) = IsWellFormed locs f × IsWellFormed locs g
  IsWellFormed locs (all t f) = IsClosed th t × IsWellFormed (t ∷ locs) f
  IsWellFormed locs (some t f) = IsClosed th t × IsWellFormed (t ∷ locs) f
  IsWellFormed locs (thyp f) = IsWellFormed locs f
  IsWellFormed locs (tested ts) = AllTyped locs ts th.program.inputs
  IsWellFormed locs (deep k ts) = AllTyped locs ts th.program.inputs

-- each call of a function in the term passes a test
module _ (Allowed : ℕ → Trees → Type 0) where
  abbrev mutual
    pub EachCall : Tree → Type 0
    EachCall (bound k) = Unit {0}
    EachCall (free n) = Unit {0}
    EachCall (literal n) = Unit {0}
    EachCall (truth b) = Unit {0}
    EachCall (con c ts) = EachCalls ts
    EachCall (call f ts) = Allowed f ts × EachCalls ts
    EachCall (put ts) = EachCalls ts
    EachCall (choice ts) = EachCalls ts
    EachCall (case n t bs) = EachCall t × EachCallOf bs
    EachCall (bind t body) = EachCall t × EachCall body
    EachCall (op o ts) = EachCalls ts

    pub EachCalls : Trees → Type 0
    EachCalls tree.none = Unit {0}
    EachCalls (tree.more t ts) = EachCall t × EachCalls ts

    pub EachCallOf : Arms → Type 0
    EachCallOf tree.end = Unit {0}
    EachCallOf (tree.arm n body bs) = EachCall body × EachCallOf bs
