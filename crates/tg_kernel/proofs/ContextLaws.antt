-- The last type of a context.
use Rattle.std.proofs.Common.{ℕ, zero, suc, ◌≡◌, ◌-◌, length, take, None, option_map, List, [], ◌∷◌, ◌++◌, map, Option, Some, refl, sym, ◌∙◌, ap}
use Rattle.std.proofs.lemmas.List.{map-append}
use Rattle.std.proofs.lemmas.List.{length-map}
use Rattle.tg_model.specs.Types.{Ty}
use Rattle.tg_types.specs.declared.types.Ty as declared
use Rattle.tg_types.specs.Types.{ty}
use Rattle.tg_calculus.specs.Sequent.{Context}
use Rattle.tg_calculus.specs.Draft.{with_first, without_last}

last_of : (G : Context) (T : Ty) → Some (G, T) ≡ without_last (G ++ T ∷ [])
last_of [] T = refl
last_of (U ∷ []) T = refl
last_of (U ∷ V ∷ G) T = ap (with_first U) (last_of (V ∷ G) T)

pub last_is : (all before : List declared.Ty) (last copy : declared.Ty) (G types : List Ty) → all ≡ before ++ last ∷ [] → copy ≡ last → types ≡ map ty before
    → map ty all ≡ G → Some (types, ty copy) ≡ without_last G
last_is all before last copy G types e c t g =
    (λ i. Some (t i, ty (c i))) ∙ last_of (map ty before) (ty last)
    ∙ ap without_last (sym (map-append ty before (last ∷ [])) ∙ ap (map ty) (sym e) ∙ g)

take_types : (n : ℕ) (ts : List declared.Ty) → map ty (take n ts) ≡ take n (map ty ts)
take_types zero ts = refl
take_types (suc n) [] = refl
take_types (suc n) (t ∷ ts) = ap (λ us. ty t ∷ us) (take_types n ts)

pub first_types : (ts : List declared.Ty) (by : ℕ) → map ty (take (length ts - by) ts) ≡ take (length (map ty ts) - by) (map ty ts)
first_types ts by = take_types (length ts - by) ts ∙ ap (λ n. take (n - by) (map ty ts)) (sym (length-map ts ty))

pub ruleset shorter = (first_types)
