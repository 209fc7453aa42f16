-- The laws of the definitions, which the crate's functions carry.
use Rattle.std.specs.Prelude.{ℕ, suc, ◌≡◌, ◌≢◌, ◌<◌, ◌↔◌, List, ◌∷◌, ◌++◌, map, reverse, Some, length, true}
use Rattle.tg_model.specs.Tree.{Tree}
use Rattle.tg_model.specs.Types.{Ty, tys}
use Rattle.tg_model.specs.Formula.{Formula}
use Rattle.tg_model.specs.Value.{Value, size, same_value}
use Rattle.tg_model.specs.Theory.{Theory, Function, numbered, IsClosed, AreClosed}
use Rattle.tg_model.specs.Typing.{HasType, AreTyped}
use Rattle.tg_model.specs.TermTyping.{IsTyped, AreListTyped, IsWellFormed}
use Rattle.tg_model.specs.WellTyped.{IsWellTyped}
use Rattle.tg_model.specs.Truth.{Holds}
use Rattle.tg_model.specs.Uses.{uses, uses_in_formula, AgreeWhere}
use Rattle.tg_model.specs.Walk.{lifted, substituted, instantiated, abstracted, substituted_formula, instantiated_formula, abstracted_formula}
use Rattle.tg_model.specs.Table.{Table, IsTable, IsListed, Lists, answer_of}
use Rattle.tg_model.specs.Denotation.{World, Recursion, with_calls, place_of, lower_calls, case_value, recursive_value, body_value, world, world_below, den}

-- a primitive recursive function, without the number that bounds the recursion
abbrev pub recursion : World → Recursion → List Value → Value
recursion w r vs = recursive_value w r (suc (size (place_of vs r.place))) vs

-- A primitive recursive call is the body of the case of its constructor, in which the function's own calls, where the
-- argument at its place is smaller, are calls of the same function.
abbrev pub UnfoldsRecursion : Type 0
UnfoldsRecursion = (w : World) (r : Recursion) (vs : List Value)
    → recursion w r vs ≡ case_value (with_calls w (lower_calls r (recursion w r) w.calls vs)) r vs

-- A call of a declared function is its body, in which the functions before it may be called.
abbrev pub UnfoldsCalls : Type 0
UnfoldsCalls = (th : Theory) (tb : Table) (n : ℕ) (x : Function) (vs : List Value) →
    n < length th.functions → numbered th.functions (suc n) ≡ Some x
    → (world th tb).calls (suc n) vs ≡ body_value (world_below th tb n) (suc n) x x.body vs

-- What a table lists with an answer it lists, and of a table with distinct inputs the program's answer there is that one.
abbrev pub IsListedWithAnswer : Type 0
IsListedWithAnswer = (tb : Table) (vs : List Value) (v : Value) → Lists tb vs v → IsListed tb vs

abbrev pub AnswersAreRecorded : Type 0
AnswersAreRecorded = (th : Theory) (tb : Table) (vs : List Value) (v : Value) → IsTable th tb → Lists tb vs v → answer_of th tb vs ≡ v

-- What is listed is typed.
abbrev pub InputsAreTyped : Type 0
InputsAreTyped = (th : Theory) (tb : Table) (vs : List Value) → IsTable th tb → IsListed tb vs → AreTyped th vs th.program.inputs

-- Equality of values is decided by `same_value`.
abbrev pub DecidesEquality : Type 0
DecidesEquality = (v w : Value) → (same_value v w ≡ true → v ≡ w) × (v ≡ w → same_value v w ≡ true)

-- Type soundness. In a well-typed theory, on a table of its program, a term that is typed at a closed type has, where its
-- variables' values have their closed types, a value of that type. So no typed term meets a call that isn't lower, or any
-- other use that no typing allows.
abbrev pub IsTypeSound : Type 0
IsTypeSound = (th : Theory) (tb : Table) → IsWellTyped th → IsTable th tb
    → (vars locs : List Ty) (env loc : List Value) (t : Tree) (u : Ty) → AreClosed th (tys vars) → AreClosed th (tys locs) → IsClosed th u
    → AreTyped th env vars → AreTyped th loc locs → IsTyped th vars locs t u → HasType th (den th tb env loc t) u

-- Substitution keeps values, for all values of the loose bound variables. The lifted term has the value of the term, where
-- the values of the binders that are lifted over are skipped.
abbrev pub LiftingKeeps : Type 0
LiftingKeeps = (th : Theory) (tb : Table) (env between loc : List Value) (t : Tree)
    → den th tb env (between ++ loc) (lifted (length between) t) ≡ den th tb env loc t

abbrev pub SubstitutionKeeps : Type 0
SubstitutionKeeps = (th : Theory) (tb : Table) (env loc : List Value) (us : List Tree) (t : Tree)
    → den th tb env loc (substituted us t) ≡ den th tb (map (den th tb env loc) us) loc t

abbrev pub InstantiationKeeps : Type 0
InstantiationKeeps = (th : Theory) (tb : Table) (env loc : List Value) (us : List Tree) (t : Tree)
    → den th tb env loc (instantiated us t) ≡ den th tb env (reverse (map (den th tb env loc) us) ++ loc) t

-- `env'` is `env` but for the value of `?n`, which the innermost loose bound variable has
abbrev pub AbstractionKeeps : Type 0
AbstractionKeeps = (th : Theory) (tb : Table) (env env' loc : List Value) (n : ℕ) (v : Value) (t : Tree)
    → numbered env n ≡ Some v → ((m : ℕ) → m ≢ n → numbered env' m ≡ numbered env m)
    → den th tb env' (v ∷ loc) (abstracted n t) ≡ den th tb env loc t

-- The same of formulas: each is true exactly where the other is.
abbrev pub SubstitutionKeepsTruth : Type 0
SubstitutionKeepsTruth = (th : Theory) (tb : Table) (env loc : List Value) (us : List Tree) (f : Formula)
    → Holds th tb env loc (substituted_formula us f) ↔ Holds th tb (map (den th tb env loc) us) loc f

abbrev pub InstantiationKeepsTruth : Type 0
InstantiationKeepsTruth = (th : Theory) (tb : Table) (env loc : List Value) (us : List Tree) (f : Formula)
    → Holds th tb env loc (instantiated_formula us f) ↔ Holds th tb env (reverse (map (den th tb env loc) us) ++ loc) f

abbrev pub AbstractionKeepsTruth : Type 0
AbstractionKeepsTruth = (th : Theory) (tb : Table) (env env' loc : List Value) (n : ℕ) (v : Value) (f : Formula)
    → numbered env n ≡ Some v → ((m : ℕ) → m ≢ n → numbered env' m ≡ numbered env m)
    → Holds th tb env' (v ∷ loc) (abstracted_formula n f) ↔ Holds th tb env loc f

-- A value, and the truth of a formula, depend on the variables that stand there and on no other.
abbrev pub DependsOnUsed : Type 0
DependsOnUsed = (th : Theory) (tb : Table) (env env' loc : List Value) (t : Tree) → AgreeWhere (λ m. uses m t) env env'
    → den th tb env loc t ≡ den th tb env' loc t

abbrev pub TruthDependsOnUsed : Type 0
TruthDependsOnUsed = (th : Theory) (tb : Table) (env env' loc : List Value) (f : Formula) → AgreeWhere (λ m. uses_in_formula m f) env env'
    → Holds th tb env loc f ↔ Holds th tb env' loc f

-- Substitution keeps types: the lifted, substituted, instantiated or abstracted term has every type of the term.
abbrev pub LiftingKeepsTypes : Type 0
LiftingKeepsTypes = (th : Theory) (vars between locs : List Ty) (t : Tree) (u : Ty)
    → IsTyped th vars locs t u → IsTyped th vars (between ++ locs) (lifted (length between) t) u

abbrev pub SubstitutionKeepsTypes : Type 0
SubstitutionKeepsTypes = (th : Theory) (vars locs ts : List Ty) (us : List Tree) (t : Tree) (u : Ty) → AreListTyped th vars locs us ts
    → IsTyped th ts locs t u → IsTyped th vars locs (substituted us t) u

abbrev pub InstantiationKeepsTypes : Type 0
InstantiationKeepsTypes = (th : Theory) (vars locs ts : List Ty) (us : List Tree) (t : Tree) (u : Ty) → AreListTyped th vars locs us ts
    → IsTyped th vars (reverse ts ++ locs) t u → IsTyped th vars locs (instantiated us t) u

abbrev pub AbstractionKeepsTypes : Type 0
AbstractionKeepsTypes = (th : Theory) (vars vars' locs : List Ty) (n : ℕ) (s : Ty) (t : Tree) (u : Ty)
    → numbered vars n ≡ Some s → ((m : ℕ) → m ≢ n → numbered vars' m ≡ numbered vars m)
    → IsTyped th vars locs t u → IsTyped th vars' (s ∷ locs) (abstracted n t) u

-- The same of formulas: well-formedness is kept.
abbrev pub SubstitutionKeepsForm : Type 0
SubstitutionKeepsForm = (th : Theory) (vars locs ts : List Ty) (us : List Tree) (f : Formula) → AreListTyped th vars locs us ts
    → IsWellFormed th ts locs f → IsWellFormed th vars locs (substituted_formula us f)

abbrev pub InstantiationKeepsForm : Type 0
InstantiationKeepsForm = (th : Theory) (vars locs ts : List Ty) (us : List Tree) (f : Formula) → AreListTyped th vars locs us ts
    → IsWellFormed th vars (reverse ts ++ locs) f → IsWellFormed th vars locs (instantiated_formula us f)

abbrev pub AbstractionKeepsForm : Type 0
AbstractionKeepsForm = (th : Theory) (vars vars' locs : List Ty) (n : ℕ) (s : Ty) (f : Formula)
    → numbered vars n ≡ Some s → ((m : ℕ) → m ≢ n → numbered vars' m ≡ numbered vars m)
    → IsWellFormed th vars locs f → IsWellFormed th vars' (s ∷ locs) (abstracted_formula n f)
