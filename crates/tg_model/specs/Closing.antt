-- Closing a formula: its first free variables become the bound variables of quantifiers that are put round it.
use Rattle.std.specs.Prelude.{ℕ, ◌↔◌, ◌&&◌, ◌+◌, ◌-◌, nat_lt, nat_le, List, [], ◌∷◌, ◌++◌, length, drop, if◌then◌else◌}
use Rattle.tg_model.specs.Tree.{Tree, bound, free}
use Rattle.tg_model.specs.Types.{Ty}
use Rattle.tg_model.specs.Formula.{Formula, all, some}
use Rattle.tg_model.specs.Value.{Value}
use Rattle.tg_model.specs.Theory.{Theory}
use Rattle.tg_model.specs.Typing.{AreTyped}
use Rattle.tg_model.specs.Table.{Table}
use Rattle.tg_model.specs.Truth.{Holds}
use Rattle.tg_model.specs.Walk.{walk_formula, raised}

-- within `d` binders: of the variables `?1` to `?n` the first is bound by the outermost of the `n` quantifiers, the last by
-- the innermost
abbrev pub bound_among : ℕ → ℕ → ℕ → Tree
bound_among n d k = if nat_lt 0 k && nat_le k n then bound (d + (n - k)) else free k

-- the formula that stands within the `n` quantifiers; its loose bound variables go up by `n`
abbrev pub closed : ℕ → Formula → Formula
closed n f = walk_formula (raised n) (bound_among n) 0 f

-- a quantifier for each type, that of the first type outermost
abbrev pub for_all : List Ty → Formula → Formula
for_all [] f = f
for_all (t ∷ ts) f = all t (for_all ts f)

abbrev pub for_some : List Ty → Formula → Formula
for_some [] f = f
for_some (t ∷ ts) f = some t (for_some ts f)

-- the closures of a formula whose first free variables have the given types
abbrev pub universal_closure : List Ty → Formula → Formula
universal_closure ts f = for_all ts (closed (length ts) f)

abbrev pub existential_closure : List Ty → Formula → Formula
existential_closure ts f = for_some ts (closed (length ts) f)

-- the formula is true where its first free variables have the values `vs`, and the others those that they have
abbrev pub HoldsAt : Theory → Table → List Value → List Value → List Value → Formula → Type 0
HoldsAt th tb env loc vs f = Holds th tb (vs ++ drop (length vs) env) loc f

-- The universal closure is true exactly where the formula is at all values of the variables' types, on every table and for
-- all values of the loose bound variables.
abbrev pub ClosureIsUniversal : Type 0
ClosureIsUniversal = (th : Theory) (tb : Table) (env loc : List Value) (ts : List Ty) (f : Formula)
    → Holds th tb env loc (universal_closure ts f) ↔ ((vs : List Value) → AreTyped th vs ts → HoldsAt th tb env loc vs f)

-- The existential closure is true exactly where the formula is at some values of the variables' types.
abbrev pub ClosureIsExistential : Type 0
ClosureIsExistential = (th : Theory) (tb : Table) (env loc : List Value) (ts : List Ty) (f : Formula)
    → Holds th tb env loc (existential_closure ts f) ↔ ((vs : List Value) × AreTyped th vs ts × HoldsAt th tb env loc vs f)
