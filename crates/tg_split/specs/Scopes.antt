-- The types that a scope's parameters stand for.
use Rattle.std.specs.Prelude.{◌≡◌, List, [], map}
use Rattle.std.specs.Borrow.{Bor}
use Rattle.std.proofs.Common.{ap, sym, ◌∙◌}
use Rattle.tg_model.specs.Types as model
use Rattle.tg_model.specs.Theory.{instance}
use Rattle.tg_types.specs.declared.types.Ty.{Ty}
use Rattle.tg_types.specs.Types.{ty}
use Rattle.tg_split.specs.declared.scopes.Root.{Root}
use Rattle.tg_split.specs.declared.scopes.Root.TheVariants.{Nat, Bool, Meta, Data}
use Rattle.tg_split.specs.declared.scopes.Scope.{Scope, fold-Scope}
use Rattle.tg_split.specs.declared.scopes.Scope.TheFolds.{fold-roll-Scope}
use Rattle.tg_split.specs.declared.scopes.Scope.TheOpen.{Scope-F}
use Rattle.tg_split.specs.declared.scopes.Scope.TheVariants.{Closed, Within, rolls-Closed, rolls-Within}

abbrev pub scope_step : Scope-F (List model.Ty) → List model.Ty
scope_step Scope-F.Closed = []
scope_step (Scope-F.Within ts outer) = map (λ t. instance outer.now (ty t)) ts.now

abbrev pub arguments : Scope → List model.Ty
arguments = fold-Scope (List model.Ty) scope_step

pub arguments-Closed : arguments Closed ≡ []
arguments-Closed = ap arguments (sym rolls-Closed) ∙ fold-roll-Scope (List model.Ty) scope_step _

pub arguments-Within : (ts : Bor (List Ty)) (outer : Bor Scope) → arguments (Within ts outer) ≡ map (λ t. instance (arguments outer.now) (ty t)) ts.now
arguments-Within ts outer = ap arguments (sym (rolls-Within ts outer)) ∙ fold-roll-Scope (List model.Ty) scope_step _

-- types in a scope
abbrev pub within : List Ty → Scope → List model.Ty
within ts scope = map (λ t. instance (arguments scope) (ty t)) ts

pub ruleset scope_laws = (arguments-Closed, arguments-Within)

-- the type with this root
abbrev pub root : Root → model.Ty
root Nat = model.nat
root Bool = model.bool
root (Meta n) = model.meta n
root (Data d ts scope) = model.applied d (model.tys (map (λ t. instance (arguments scope.now) (ty t)) ts.now))
