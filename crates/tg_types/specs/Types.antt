-- The types of the program as those of the model.
use Rattle.std.specs.Prelude.{◌≡◌, ℕ, List, map}
use Rattle.std.proofs.Common.{ap, sym, ◌∙◌}
use Rattle.tg_model.specs.Types as model
use Rattle.tg_types.specs.declared.types.Ty.{Ty, fold-Ty}
use Rattle.tg_types.specs.declared.types.Ty.TheFolds.{fold-roll-Ty}
use Rattle.tg_types.specs.declared.types.Ty.TheOpen.{Ty-F}
use Rattle.tg_types.specs.declared.types.Ty.TheVariants.{Nat, Bool, Param, Meta, App, rolls-Nat, rolls-Bool, rolls-Param, rolls-Meta, rolls-App}

-- one level, with each argument already seen as a type of the model
abbrev pub ty_step : Ty-F model.Ty → model.Ty
ty_step Ty-F.Nat = model.nat
ty_step Ty-F.Bool = model.bool
ty_step (Ty-F.Param n) = model.parameter n
ty_step (Ty-F.Meta n) = model.meta n
ty_step (Ty-F.App d ts) = model.applied d (model.tys ts)

abbrev pub ty : Ty → model.Ty
ty = fold-Ty model.Ty ty_step

pub ty-Nat : ty Nat ≡ model.nat
ty-Nat = ap ty (sym rolls-Nat) ∙ fold-roll-Ty model.Ty ty_step _

pub ty-Bool : ty Bool ≡ model.bool
ty-Bool = ap ty (sym rolls-Bool) ∙ fold-roll-Ty model.Ty ty_step _

pub ty-Param : (n : ℕ) → ty (Param n) ≡ model.parameter n
ty-Param n = ap ty (sym (rolls-Param n)) ∙ fold-roll-Ty model.Ty ty_step _

pub ty-Meta : (n : ℕ) → ty (Meta n) ≡ model.meta n
ty-Meta n = ap ty (sym (rolls-Meta n)) ∙ fold-roll-Ty model.Ty ty_step _

pub ty-App : (d : ℕ) (ts : List Ty) → ty (App d ts) ≡ model.applied d (model.tys (map ty ts))
ty-App d ts = ap ty (sym (rolls-App d ts)) ∙ fold-roll-Ty model.Ty ty_step _

pub ruleset ty_laws = (ty-Nat, ty-Bool, ty-Param, ty-Meta, ty-App)

abbrev pub types : List Ty → model.Tys
types ts = model.tys (map ty ts)
