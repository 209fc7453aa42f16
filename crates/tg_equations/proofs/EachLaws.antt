-- What holds of each item, one after another.
use Rattle.std.proofs.Common.{◌≡◌, ◌↔◌, true, false, List, [], ◌∷◌, refl, sym, subst}
use Rattle.tg_accept.specs.Checks.{Each}

module _ {A : Type 0} (P : A → Type 0) (xs : List A) where
  -- what is left decides
  abbrev pub Left : List A → Type 0
  Left ys = Each P ys ↔ Each P xs

  pub each_begin : Left xs
  each_begin = ((λ h. h), (λ h. h))

  pub each_next : (ys zs : List A) (x : A) → ys ≡ x ∷ zs → P x → Left ys → Left zs
  each_next ys zs x e p h = ((λ r. h.0 (subst (Each P) (sym e) (p, r))), (λ r. (subst (Each P) e (h.1 r)).1))

  pub each_stop : (ys zs : List A) (x : A) → ys ≡ x ∷ zs → (P x → ⊥) → Left ys → (false ≡ true) ↔ Each P xs
  each_stop ys zs x e p h = ((λ q. cc q), (λ r. absurd (p (subst (Each P) e (h.1 r)).0)))

  pub each_done : (ys : List A) → ys ≡ [] → Left ys → (true ≡ true) ↔ Each P xs
  each_done ys e h = ((λ q. h.0 (subst (Each P) (sym e) tt)), (λ r. refl))
