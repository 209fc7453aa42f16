-- An instance of an instance is an instance.
use Rattle.std.proofs.Common.{ℕ, zero, suc, ◌≡◌, List, [], ◌∷◌, map, Option, Some, None, refl, sym, ◌∙◌, ap}
use Rattle.std.specs.Prelude.{unwrap_or, option_map}
use Rattle.std.proofs.lemmas.Option.{slice_get-map}
use Rattle.tg_model.specs.Types as types
use Rattle.tg_model.specs.Types.{Ty, nat, bool, parameter, meta, applied, Tys, tys}
use Rattle.tg_model.specs.Theory.{numbered, instance, instances}

pub instances_tys : (us ts : List Ty) → instances us (tys ts) ≡ tys (map (instance us) ts)
instances_tys us [] = refl
instances_tys us (t ∷ ts) = ap (types.more (instance us t)) (instances_tys us ts)

given_or_nat : (vs : List Ty) (o : Option Ty) → instance vs (unwrap_or o nat) ≡ unwrap_or (option_map (instance vs) o) nat
given_or_nat vs None = refl
given_or_nat vs (Some t) = refl

pub numbered_map : (f : Ty → Ty) (us : List Ty) (n : ℕ) → option_map f (numbered us n) ≡ numbered (map f us) n
numbered_map f us zero = refl
numbered_map f us (suc n) = sym (slice_get-map f us n)

mutual
  pub composed : (vs us : List Ty) (t : Ty) → instance vs (instance us t) ≡ instance (map (instance vs) us) t
  composed vs us nat = refl
  composed vs us bool = refl
  composed vs us (parameter n) = given_or_nat vs (numbered us n) ∙ ap (λ o. unwrap_or o nat) (numbered_map (instance vs) us n)
  composed vs us (meta n) = refl
  composed vs us (applied d ts) = ap (applied d) (all_composed vs us ts)

  all_composed : (vs us : List Ty) (ts : Tys) → instances vs (instances us ts) ≡ instances (map (instance vs) us) ts
  all_composed vs us types.none = refl
  all_composed vs us (types.more t ts) = λ i. types.more (composed vs us t i) (all_composed vs us ts i)

pub list_composed : (vs us ts : List Ty) → map (instance vs) (map (instance us) ts) ≡ map (instance (map (instance vs) us)) ts
list_composed vs us [] = refl
list_composed vs us (t ∷ ts) = λ i. composed vs us t i ∷ list_composed vs us ts i
