-- Instances of declared types, one level at a time.
use Rattle.std.proofs.Common.{ℕ, zero, suc, ◌≡◌, List, [], ◌∷◌, map, Some, None, refl, sym, ◌∙◌, ap}
use Rattle.std.specs.Prelude.{option_map, unwrap_or}
use Rattle.std.proofs.lemmas.Option.{slice_get-map}
use Rattle.tg_model.specs.Types as model
use Rattle.tg_model.specs.Theory.{instance, instances, numbered}
use Rattle.tg_types.specs.declared.types.Ty.{Ty}
use Rattle.tg_types.specs.declared.types.Ty.TheVariants.{Nat, Bool, Param, Meta, App}
use Rattle.tg_types.specs.Types.{ty, ty-Nat, ty-Bool, ty-Param, ty-Meta, ty-App}

instances_of : (us ts : List model.Ty) → model.tys (map (instance us) ts) ≡ instances us (model.tys ts)
instances_of us [] = refl
instances_of us (t ∷ ts) = ap (model.more (instance us t)) (instances_of us ts)

pub instance_nat : (us : List model.Ty) → ty Nat ≡ instance us (ty Nat)
instance_nat us = ty-Nat ∙ ap (instance us) (sym ty-Nat)

pub instance_bool : (us : List model.Ty) → ty Bool ≡ instance us (ty Bool)
instance_bool us = ty-Bool ∙ ap (instance us) (sym ty-Bool)

pub instance_meta : (us : List model.Ty) (n : ℕ) → ty (Meta n) ≡ instance us (ty (Meta n))
instance_meta us n = ty-Meta n ∙ ap (instance us) (sym (ty-Meta n))

numbered_ty : (us : List Ty) (n : ℕ) → numbered (map ty us) n ≡ option_map ty (numbered us n)
numbered_ty us zero = refl
numbered_ty us (suc n) = slice_get-map ty us n

pub instance_given : (us : List Ty) (n : ℕ) (u : Ty) → Some u ≡ numbered us n → ty u ≡ instance (map ty us) (ty (Param n))
instance_given us n u e =
    ap (λ o. unwrap_or (option_map ty o) model.nat) e ∙ ap (λ o. unwrap_or o model.nat) (sym (numbered_ty us n)) ∙ ap (instance (map ty us)) (sym (ty-Param n))

pub instance_absent : (us : List Ty) (n : ℕ) → None ≡ numbered us n → ty Nat ≡ instance (map ty us) (ty (Param n))
instance_absent us n e =
    ty-Nat ∙ ap (λ o. unwrap_or (option_map ty o) model.nat) e ∙ ap (λ o. unwrap_or o model.nat) (sym (numbered_ty us n)) ∙ ap (instance (map ty us)) (sym (ty-Param n))

pub instance_applied : (us : List model.Ty) (d : ℕ) (ts vs : List Ty) → map ty vs ≡ map (instance us) (map ty ts) → ty (App d vs) ≡ instance us (ty (App d ts))
instance_applied us d ts vs e =
    ty-App d vs ∙ ap (λ l. model.applied d (model.tys l)) e ∙ ap (model.applied d) (instances_of us (map ty ts)) ∙ ap (instance us) (sym (ty-App d ts))

pub ruleset instance_of = (instance_nat, instance_bool, instance_meta, instance_given, instance_absent, instance_applied)
