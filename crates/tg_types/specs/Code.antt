-- How the logic stores a type and an agreement: as a tree of numbers that gives it back.
use Rattle.std.specs.Prelude.{◌≡◌, refl}
use Rattle.std.proofs.Common.{ap, sym, ◌∙◌}
use base.Stored.{Gv, gnil, gnum, gcons, Coded}
use Rattle.tg_model.specs.Types.{Ty, Tys, nat, bool, parameter, meta, applied, none, more}
use Rattle.tg_types.specs.Substitutions.{Agreement}

abbrev mutual
  pub code_type : Ty → Gv
  code_type nat = gnil
  code_type bool = gnum 0
  code_type (parameter n) = gcons gnil (gnum n)
  code_type (meta n) = gcons (gnum 0) (gnum n)
  code_type (applied d ts) = gcons (gcons gnil (gnum d)) (code_types ts)

  pub code_types : Tys → Gv
  code_types none = gnil
  code_types (more t ts) = gcons (code_type t) (code_types ts)

abbrev mutual
  pub back_type : Gv → Ty
  back_type gnil = nat
  back_type (gnum n) = bool
  back_type (gcons gnil (gnum n)) = parameter n
  back_type (gcons (gnum k) (gnum n)) = meta n
  back_type (gcons (gcons a (gnum d)) ts) = applied d (back_types ts)
  back_type g = nat

  pub back_types : Gv → Tys
  back_types (gcons t ts) = more (back_type t) (back_types ts)
  back_types g = none

mutual
  pub again_type : (t : Ty) → back_type (code_type t) ≡ t
  again_type nat = refl
  again_type bool = refl
  again_type (parameter n) = refl
  again_type (meta n) = refl
  again_type (applied d ts) = ap (applied d) (again_types ts)

  pub again_types : (ts : Tys) → back_types (code_types ts) ≡ ts
  again_types none = refl
  again_types (more t ts) = λ i. more (again_type t i) (again_types ts i)

abbrev pub code_agreement : Agreement → Gv
code_agreement x = gcons (gnum x.variable) (code_type x.meaning)

abbrev pub back_agreement : Gv → Agreement
back_agreement (gcons (gnum v) t) = record { variable = v; meaning = back_type t }
back_agreement g = record { variable = 0; meaning = nat }

pub again_agreement : (x : Agreement) → back_agreement (code_agreement x) ≡ x
again_agreement x = λ i. record { variable = x.variable; meaning = again_type x.meaning i }

abbrev pub coded_agreement : Coded Agreement
coded_agreement = record { code = code_agreement; inj = λ x y same. sym (again_agreement x) ∙ ap back_agreement same ∙ again_agreement y }
