-- Laws of lists of types, as arguments of a datatype.
use Rattle.std.proofs.Common.{ℕ, ◌≡◌, ◌+◌, ◌<◌, ◌≤◌, suc, true, false, List, [], ◌∷◌, map, length, get_or, drop, nat_eq, inl, inr, if◌then◌else◌, refl, ap, sym, ◌∙◌, subst}
use Rattle.std.proofs.Math.Seq.{drop-cons}
use Rattle.std.proofs.Math.Numerals.{add-one}
use Rattle.std.proofs.lemmas.List.{drop_all}
use Rattle.std.proofs.lemmas.Bool.{eq-eqb}
use Rattle.std.proofs.lemmas.Bool.Decides.{eqb_tells}
use Rattle.tg_model.specs.Types as model
use Rattle.tg_model.specs.Types.{none}
use Rattle.tg_types.specs.declared.types.Ty.{Ty}
use Rattle.tg_types.specs.Types.{ty, types}
use Rattle.tg_types.specs.Substitutions.{all_at, holds, any_holds, Agreement, Substitution, only, put}
use Rattle.tg_types.specs.Walks.{inside, differ, meet_applied, count, Outcome, done, clash, occurs, Walk, Walks, walks_end, walks_next, walks_clash, walks_occurs}

pub count_types : (ts : List Ty) → count (types ts) ≡ length ts
count_types [] = refl
count_types (t ∷ ts) = ap suc (count_types ts)

pub types_from : (ts : List Ty) (i : ℕ) (d : Ty) → i < length ts → types (drop i ts) ≡ model.more (ty (get_or ts i d)) (types (drop (i + 1) ts))
types_from ts i d h = ap types (drop-cons ts i d h) ∙ ap (λ n. model.more (ty (get_or ts i d)) (types (drop n ts))) (sym (add-one i))

pub put_all_map : (x : Agreement) (ts : List model.Ty) → model.tys (map (put x) ts) ≡ all_at (only x) (model.tys ts)
put_all_map x [] = refl
put_all_map x (t ∷ ts) = ap (model.more (put x t)) (put_all_map x ts)

-- an argument that doesn't hold the open type is passed
pub holds_next : (v : ℕ) (ts : List Ty) (i : ℕ) (d : Ty) → i < length ts → holds v (ty (get_or ts i d)) ≡ false →
    any_holds v (types (drop (i + 1) ts)) ≡ any_holds v (types (drop i ts))
holds_next v ts i d h e = let k = types_from ts i d h in
    sym (ap (any_holds v) k ∙ ap (λ b. if b then true else any_holds v (types (drop (i + 1) ts))) e)

pub holds_here : (v : ℕ) (ts : List Ty) (i : ℕ) (d : Ty) → i < length ts → holds v (ty (get_or ts i d)) ≡ true →
    any_holds v (types (drop i ts)) ≡ true
holds_here v ts i d h e = let k = types_from ts i d h in
    ap (any_holds v) k ∙ ap (λ b. if b then true else any_holds v (types (drop (i + 1) ts))) e

-- the arguments from one place on, with what stands there
pub types_at : (ts : List Ty) (i : ℕ) (t : Ty) → i < length ts → t ≡ get_or ts i t → model.more (ty t) (types (drop (i + 1) ts)) ≡ types (drop i ts)
types_at ts i t h e = ap (λ u. model.more (ty u) (types (drop (i + 1) ts))) e ∙ sym (types_from ts i t h)

-- the walk of the arguments from one place on begins with that of the pair that stands there
module _ (s : Substitution) (ts us : List Ty) (i : ℕ) (t u : Ty)
    (h : i < length ts) (k : i < length us) (e : t ≡ get_or ts i t) (f : u ≡ get_or us i u) where
  begins : {r : Outcome} → Walks s (model.more (ty t) (types (drop (i + 1) ts))) (model.more (ty u) (types (drop (i + 1) us))) r →
      Walks s (types (drop i ts)) (types (drop i us)) r
  begins {r} w = subst (λ q. Walks s (types (drop i ts)) q r) (types_at us i u k f)
      (subst (λ p. Walks s p (model.more (ty u) (types (drop (i + 1) us))) r) (types_at ts i t h e) w)

  pub walks_from : {next : Substitution} {r : Outcome} → Walk s (ty t) (ty u) (done next) →
      Walks next (types (drop (i + 1) ts)) (types (drop (i + 1) us)) r → Walks s (types (drop i ts)) (types (drop i us)) r
  walks_from w rest = begins (walks_next w rest)

  pub clash_at : (c d : model.Ty) → Walk s (ty t) (ty u) (clash c d) → Walks s (types (drop i ts)) (types (drop i us)) (clash c d)
  clash_at c d w = begins (walks_clash w)

  pub occurs_at : (v : ℕ) (w : model.Ty) → Walk s (ty t) (ty u) (occurs v w) → Walks s (types (drop i ts)) (types (drop i us)) (occurs v w)
  occurs_at v w x = begins (walks_occurs x)

pub walks_done : (s : Substitution) (ts us : List Ty) (i : ℕ) → length ts ≤ i → length us ≤ i → Walks s (types (drop i ts)) (types (drop i us)) (done s)
walks_done s ts us i h k =
    subst (λ p. Walks s p (types (drop i us)) (done s)) (ap types (sym (drop_all i ts h))) (subst (λ q. Walks s none q (done s)) (ap types (sym (drop_all i us k))) walks_end)

as_counted : (ts us : List Ty) → nat_eq (count (types ts)) (count (types us)) ≡ nat_eq (length ts) (length us)
as_counted ts us = λ i. nat_eq (count_types ts i) (count_types us i)

pub met_inside : (d e : ℕ) (ts us : List Ty) → d ≡ e → length ts ≡ length us → inside (types ts) (types us) ≡ meet_applied d (types ts) e (types us)
met_inside d e ts us p q = let h : nat_eq d e ≡ true = eq-eqb d e p in
    let k : nat_eq (count (types ts)) (count (types us)) ≡ true = as_counted ts us ∙ eq-eqb (length ts) (length us) q in
    rw (h, k) refl

pub met_roots : (d e : ℕ) (ts us : List Ty) → ¬ (d ≡ e) → differ ≡ meet_applied d (types ts) e (types us)
met_roots d e ts us n = elim (eqb_tells d e) [ inl p ↦ absurd (n p.1) | inr p ↦ rw p.0 refl ]

pub met_lengths : (d e : ℕ) (ts us : List Ty) → ¬ (length ts ≡ length us) → differ ≡ meet_applied d (types ts) e (types us)
met_lengths d e ts us n = elim (eqb_tells d e) [
  | inl p ↦ elim (eqb_tells (length ts) (length us)) [ inl q ↦ absurd (n q.1) | inr q ↦ rw (p.0, as_counted ts us, q.0) refl ]
  | inr p ↦ rw p.0 refl
]

pub ruleset met_arguments = (met_inside, met_roots, met_lengths)
