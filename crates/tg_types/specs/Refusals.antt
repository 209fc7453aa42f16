-- How a call of `unify` ends, and what its errors say. `Memory` says nothing.
use Rattle.std.specs.Prelude.{Result, Ok, Err}
use Rattle.tg_model.specs.Types as model
use Rattle.tg_types.specs.declared.unifying.UnifyErr.{UnifyErr}
use Rattle.tg_types.specs.declared.unifying.UnifyErr.TheVariants.{Clash, Occurs, Memory}
use Rattle.tg_types.specs.declared.unifying.Meeting.{Meeting}
use Rattle.tg_types.specs.declared.unifying.Meeting.TheVariants.{Agree, Binds, Loops, Inside, Differ}
use Rattle.tg_types.specs.Types.{ty, types}
use Rattle.tg_types.specs.Substitutions.{Substitution}
use Rattle.tg_types.specs.Unifiers.{HasNoUnifier}
use Rattle.tg_types.specs.Walks as walks
use Rattle.tg_types.specs.Walks.{Walk, Walks, Outcome, done, clash, occurs}

abbrev pub meeting : Meeting → walks.Meeting
meeting Agree = walks.agree
meeting (Binds v u) = walks.binds v (ty u.now)
meeting (Loops v u) = walks.loops v (ty u.now)
meeting (Inside ts us) = walks.inside (types ts.now) (types us.now)
meeting Differ = walks.differ

-- an end of a walk at the pair that the error carries
abbrev pub StopsAt : (Outcome → Type 0) → UnifyErr → Type 0
StopsAt P (Clash left right) = P (clash (ty left) (ty right))
StopsAt P (Occurs var t) = P (occurs var (ty t))
StopsAt P Memory = Unit {0}

-- an end of a walk with the new substitution or at a pair
abbrev pub EndsIn : {U : Type 0} → (Outcome → Type 0) → Substitution → Result U UnifyErr → Type 0
EndsIn P new (Ok u) = P (done new)
EndsIn P new (Err e) = StopsAt P e

-- no assignment that extends the substitution unifies the pair
abbrev pub Refuses : UnifyErr → Substitution → model.Ty → model.Ty → Type 0
Refuses (Clash left right) s a b = HasNoUnifier s a b
Refuses (Occurs var t) s a b = HasNoUnifier s a b
Refuses Memory s a b = Unit {0}
