-- The laws of normal forms: there is one, it has the term's value and types, it keeps the inputs of program calls, and it has no
-- `let` in the way of a split. The laws of splits: halves and leaves keep the same.
use Rattle.std.specs.Prelude.{Bool, true, false, ◌||◌, ◌≡◌, List, [], Some}
use Rattle.std.specs.List.{list_all}
use Rattle.tg_model.specs.Tree as tree
use Rattle.tg_model.specs.Tree.{Tree, Trees, bound, free, literal, truth, con, call, put, choice, case, bind, op}
use Rattle.tg_model.specs.Types.{Ty, bool, tys}
use Rattle.tg_model.specs.Value.{Value, boolean, same_value}
use Rattle.tg_model.specs.Theory.{Theory, AreClosed}
use Rattle.tg_model.specs.Table.{Table}
use Rattle.tg_model.specs.Denotation.{den}
use Rattle.tg_model.specs.TermTyping.{IsTyped}
use Rattle.tg_model.specs.WellTyped.{IsWellTyped}
use Rattle.tg_model.specs.Accepted.{IsAccepted}
use Rattle.tg_model.specs.Calls.{has_call, EachPut}
use Rattle.tg_model.specs.Made.{IsMade}
use Rattle.tg_accept.specs.Checks.{Each}
use Rattle.tg_rows.specs.Laws.{Setting, HaveValues}
use Rattle.tg_norm.specs.Halves.{condition_of, replaced}
use Rattle.tg_norm.specs.Normal.{Walked, Norm}
use Rattle.tg_norm.specs.Splits.{Splits, IsForm}

-- a term has one walk: its form, cost, levels and steps depend on no budget
abbrev pub IsOneWalk : Type 0
IsOneWalk = (th : Theory) (t : Tree) (w v : Walked) → Norm th t w → Norm th t v → w ≡ v

-- the normal form of a typed term has its value on every table, at all values of its context's types, and each of its types
abbrev pub FormsKeep : Type 0
FormsKeep = (th : Theory) → IsWellTyped th → (n : Setting th) (t : Tree) (w : Walked) (a : Ty) → Norm th t w → IsTyped th n.vars n.locs t a
    → (den th n.table n.env n.loc t ≡ den th n.table n.env n.loc w.form) × IsTyped th n.vars n.locs w.form a

-- where all program calls of a term have the inputs `d`, so have those of its normal form
abbrev pub FormsKeepInputs : Type 0
FormsKeepInputs = (th : Theory) → IsAccepted th → (tb : Table) (env d : List Value) (t : Tree) (w : Walked) → Norm th t w
    → EachPut (HaveValues th tb env d) t → EachPut (HaveValues th tb env d) w.form

-- a term that is made of constructors, variables and truth values is its own normal form, without a step
abbrev pub MadeTermsAreForms : Type 0
MadeTermsAreForms = (th : Theory) (t : Tree) (w : Walked) → IsMade t → Norm th t w → (w.form ≡ t) × (w.steps ≡ [])

-- a `let` stands in the term, other than in a branch of an `if` or of a `case`
abbrev mutual
  pub has_let : Tree → Bool
  has_let (bound k) = false
  has_let (free n) = false
  has_let (literal n) = false
  has_let (truth b) = false
  has_let (con c ts) = have_let ts
  has_let (call f ts) = have_let ts
  has_let (put ts) = have_let ts
  has_let (choice ts) = condition_has_let ts
  has_let (case d t arms) = has_let t
  has_let (bind t body) = true
  has_let (op o ts) = have_let ts

  pub have_let : Trees → Bool
  have_let tree.none = false
  have_let (tree.more t ts) = has_let t || have_let ts

  pub condition_has_let : Trees → Bool
  condition_has_let tree.none = false
  condition_has_let (tree.more t ts) = has_let t

-- a normal form has none
abbrev pub FormsHaveNoLet : Type 0
FormsHaveNoLet = (th : Theory) (t : Tree) (w : Walked) → Norm th t w → has_let w.form ≡ false

-- the condition at which a normal form is split is of type bool where the form is typed, so it stands under no binder
abbrev pub ConditionsAreTyped : Type 0
ConditionsAreTyped = (th : Theory) (t q : Tree) (w : Walked) (vars locs : List Ty) (a : Ty) → Norm th t w → condition_of w.form ≡ Some q
    → IsTyped th vars locs w.form a → IsTyped th vars locs q bool

-- Where a condition is of type bool outside all binders, a truth value in its place keeps every type of a term; and it keeps the
-- term's value on each table where it is the condition's value.
abbrev pub HalvesKeepTypes : Type 0
HalvesKeepTypes = (th : Theory) → IsWellTyped th → (vars locs : List Ty) (q t : Tree) (a : Ty) (b : Bool) → AreClosed th (tys vars)
    → IsTyped th vars [] q bool → IsTyped th vars locs t a → IsTyped th vars locs (replaced q b t) a

abbrev pub HalvesKeepValues : Type 0
HalvesKeepValues = (th : Theory) (tb : Table) (vars : List Ty) (env loc : List Value) (q t : Tree) (b : Bool) → IsTyped th vars [] q bool
    → den th tb env [] q ≡ boolean b → den th tb env loc (replaced q b t) ≡ den th tb env loc t

-- Where all program calls of a term have the inputs `d`, so have those of its halves: with either truth value for a condition that
-- has a program call, and with its own value for another. And so have those of the condition.
abbrev pub HalvesKeepInputs : Type 0
HalvesKeepInputs = (th : Theory) (tb : Table) (env d : List Value) (q t : Tree) (b : Bool) → (has_call q ≡ false → den th tb env [] q ≡ boolean b)
    → EachPut (HaveValues th tb env d) t → EachPut (HaveValues th tb env d) (replaced q b t)

abbrev pub ConditionsKeepInputs : Type 0
ConditionsKeepInputs = (th : Theory) (tb : Table) (env d : List Value) (q t : Tree) → condition_of t ≡ Some q
    → EachPut (HaveValues th tb env d) t → EachPut (HaveValues th tb env d) q

-- the term is True at the values of its variables
abbrev pub truth_at : Theory → Table → List Value → Tree → Bool
truth_at th tb env t = same_value (boolean true) (den th tb env [] t)

-- The leaves of a normal form of type bool are of this type, and it is True exactly where all of them are.
abbrev pub SplitsKeep : Type 0
SplitsKeep = (th : Theory) → IsWellTyped th → (n : Setting th) (s t : Tree) (ls : List Tree) → IsForm th s t → Splits (IsForm th) t ls
    → IsTyped th n.vars [] t bool
    → Each (λ l. IsTyped th n.vars [] l bool) ls × (list_all (truth_at th n.table n.env) ls ≡ truth_at th n.table n.env t)

-- A term has one list of leaves.
abbrev pub IsOneSplit : Type 0
IsOneSplit = (th : Theory) (t : Tree) (ls ms : List Tree) → Splits (IsForm th) t ls → Splits (IsForm th) t ms → ls ≡ ms
