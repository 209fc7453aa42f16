-- How the logic stores what the kernel holds.
use Rattle.std.specs.Prelude.{◌≡◌}
use Rattle.std.proofs.Common.{ap, sym, ◌∙◌}
use base.Stored.{Coded}
use Rattle.tg_model.specs.Types.{Ty}
use Rattle.tg_types.specs.Code.{code_type, back_type, again_type}

abbrev pub coded_type : Coded Ty
coded_type = record { code = code_type; inj = λ t u same. sym (again_type t) ∙ ap back_type same ∙ again_type u }
