-- Equal types.
use Rattle.std.proofs.Common.{ℕ, ◌≡◌, List, sym, ◌∙◌, ap₂}
use Rattle.tg_model.specs.Types as model
use Rattle.tg_types.specs.declared.types.Ty.{Ty}
use Rattle.tg_types.specs.declared.types.Ty.TheVariants.{App}
use Rattle.tg_types.specs.Types.{ty, types, ty-App}

pub same_app : (d e : ℕ) (ts us : List Ty) → d ≡ e → types ts ≡ types us → ty (App d ts) ≡ ty (App e us)
same_app d e ts us p q = ty-App d ts ∙ ap₂ model.applied p q ∙ sym (ty-App e us)

pub ruleset same = (same_app)
