-- Which variables the limited value reads, and how their values may stand in the term itself.
use Rattle.std.specs.Prelude.{ℕ, true, false, ◌≡◌, ◌<◌, List, map}
use Rattle.tg_model.specs.Tree.{Tree, literal, truth}
use Rattle.tg_model.specs.Value.{Value, number, boolean, made}
use Rattle.tg_model.specs.Theory.{Theory}
use Rattle.tg_model.specs.Denotation.{place_of}
use Rattle.tg_model.specs.Uses.{uses, AgreeWhere}
use Rattle.tg_model.specs.Walk.{substituted}
use Rattle.tg_eval.specs.Limited.{limited}

-- The limited value depends on the values of the variables that the term uses, and on no other.
abbrev pub LimitedReadsUsed : Type 0
LimitedReadsUsed = (th : Theory) (answer : Value) (levels left : ℕ) (env env' loc : List Value) (t : Tree) → AgreeWhere (λ m. uses m t) env env'
    → limited th answer levels left env loc t ≡ limited th answer levels left env' loc t

-- a natural within the bound or a truth value, and the leaf that has this value
abbrev pub IsSimple : Value → Type 0
IsSimple (number n) = n < 18446744073709551616
IsSimple (boolean b) = Unit {0}
IsSimple (made c vs) = ⊥

abbrev pub leaf_of : Value → Tree
leaf_of (number n) = literal n
leaf_of (boolean b) = truth b
leaf_of (made c vs) = truth false

-- Where the variables that the term uses are naturals or truth values, the term with these put in has the same limited
-- value, with the same levels and calls, whatever the values of variables then are.
abbrev pub LimitedOfSubstituted : Type 0
LimitedOfSubstituted = (th : Theory) (answer : Value) (levels left : ℕ) (env env' loc : List Value) (t : Tree)
    → ((m : ℕ) → uses m t ≡ true → IsSimple (place_of env m))
    → limited th answer levels left env loc t ≡ limited th answer levels left env' loc (substituted (map leaf_of env) t)
