-- Laws of substitutions and assignments.
use Rattle.std.proofs.Common.{ℕ, ◌≡◌, ◌+◌, ◌<◌, Bool, true, false, List, [], ◌∷◌, ◌++◌, nat_eq, if◌then◌else◌, refl, ap, sym, ◌∙◌, subst, length, get_or, take}
use Rattle.std.proofs.lemmas.Bool.{eqb-true, eq-eqb}
use Rattle.std.proofs.lemmas.List.{map_more, map-append}
use Rattle.tg_model.specs.Types.{Ty, Tys, nat, bool, parameter, meta, applied, none, more}
use Rattle.tg_types.specs.declared.substitutions.Agreement as declared
use Rattle.tg_types.specs.View.{agreement, substitution}
use Rattle.tg_types.specs.Substitutions.{Assignment, at, all_at, holds, any_holds, Agreement, Substitution, only, put, apply, given, Extends, IsWhole, IsFresh}

mutual
  pub at_same : (θ φ : Assignment) → ((v : ℕ) → θ v ≡ φ v) → (t : Ty) → at θ t ≡ at φ t
  at_same θ φ e nat = refl
  at_same θ φ e bool = refl
  at_same θ φ e (parameter n) = refl
  at_same θ φ e (meta n) = e n
  at_same θ φ e (applied d ts) = ap (applied d) (all_at_same θ φ e ts)

  pub all_at_same : (θ φ : Assignment) → ((v : ℕ) → θ v ≡ φ v) → (ts : Tys) → all_at θ ts ≡ all_at φ ts
  all_at_same θ φ e none = refl
  all_at_same θ φ e (more t ts) = λ i. more (at_same θ φ e t i) (all_at_same θ φ e ts i)

mutual
  pub at_at : (θ φ : Assignment) (t : Ty) → at θ (at φ t) ≡ at (λ v. at θ (φ v)) t
  at_at θ φ nat = refl
  at_at θ φ bool = refl
  at_at θ φ (parameter n) = refl
  at_at θ φ (meta n) = refl
  at_at θ φ (applied d ts) = ap (applied d) (all_at_at θ φ ts)

  pub all_at_at : (θ φ : Assignment) (ts : Tys) → all_at θ (all_at φ ts) ≡ all_at (λ v. at θ (φ v)) ts
  all_at_at θ φ none = refl
  all_at_at θ φ (more t ts) = λ i. more (at_at θ φ t i) (all_at_at θ φ ts i)

mutual
  pub at_meta : (t : Ty) → at meta t ≡ t
  at_meta nat = refl
  at_meta bool = refl
  at_meta (parameter n) = refl
  at_meta (meta n) = refl
  at_meta (applied d ts) = ap (applied d) (all_at_meta ts)

  pub all_at_meta : (ts : Tys) → all_at meta ts ≡ ts
  all_at_meta none = refl
  all_at_meta (more t ts) = λ i. more (at_meta t i) (all_at_meta ts i)

-- a substitution is what it gives for each open type
pub apply_at : (s : Substitution) (t : Ty) → apply s t ≡ at (given s) t
apply_at [] t = sym (at_meta t)
apply_at (x ∷ s) t = apply_at s (put x t) ∙ at_at (given s) (only x) t ∙ at_same _ _ (λ v. sym (apply_at s (only x v))) t

pub extends_all : {θ : Assignment} {s : Substitution} → Extends θ s → (t : Ty) → at θ (apply s t) ≡ at θ t
extends_all {θ} {s} e t = ap (at θ) (apply_at s t) ∙ at_at θ (given s) t ∙ at_same _ θ e.each t

pub whole_all : {s : Substitution} → IsWhole s → (t : Ty) → apply s (apply s t) ≡ apply s t
whole_all {s} w t = apply_at s (apply s t) ∙ extends_all w t ∙ sym (apply_at s t)

pub apply_end : (s : Substitution) (x : Agreement) (t : Ty) → apply (s ++ x ∷ []) t ≡ put x (apply s t)
apply_end [] x t = refl
apply_end (y ∷ s) x t = apply_end s x (put y t)

-- neither of two tests
neither : (p q : Bool) → (if p then true else q) ≡ false → (p ≡ false) × (q ≡ false)
neither true q e = absurd cc
neither false q e = (refl, e)

-- a type that doesn't hold the open type stays
mutual
  pub put_not : (x : Agreement) (t : Ty) → holds x.variable t ≡ false → put x t ≡ t
  put_not x nat e = refl
  put_not x bool e = refl
  put_not x (parameter n) e = refl
  put_not x (meta n) e = rw e refl
  put_not x (applied d ts) e = ap (applied d) (put_not_any x ts e)

  pub put_not_any : (x : Agreement) (ts : Tys) → any_holds x.variable ts ≡ false → all_at (only x) ts ≡ ts
  put_not_any x none e = refl
  put_not_any x (more t ts) e = let p = neither (holds x.variable t) (any_holds x.variable ts) e in
      λ i. more (put_not x t p.0 i) (put_not_any x ts p.1 i)

-- an assignment that gives both sides of an agreement one type doesn't see that it is put in
pub put_same : (θ : Assignment) (x : Agreement) → θ x.variable ≡ at θ x.meaning → (t : Ty) → at θ (put x t) ≡ at θ t
put_same θ x e t = at_at θ (only x) t ∙ at_same _ θ (λ v. go v (nat_eq v x.variable) refl) t where
  go : (v : ℕ) (b : Bool) → nat_eq v x.variable ≡ b → at θ (if b then x.meaning else meta v) ≡ θ v
  go v true h = sym e ∙ ap θ (sym (eqb-true v x.variable h))
  go v false h = refl

pub only_here : (x : Agreement) → only x x.variable ≡ x.meaning
only_here x = rw (eq-eqb x.variable x.variable refl) refl

pub bound_here : {s : Substitution} {x : Agreement} → IsFresh s x → given (s ++ x ∷ []) x.variable ≡ x.meaning
bound_here {s} {x} f = apply_end s x (meta x.variable) ∙ ap (put x) f.unset ∙ only_here x

pub bound_extends : {θ : Assignment} {s : Substitution} {x : Agreement} →
    IsFresh s x → Extends θ (s ++ x ∷ []) → Extends θ s × (θ x.variable ≡ at θ x.meaning)
bound_extends {θ} {s} {x} f e =
    let same : θ x.variable ≡ at θ x.meaning = sym (e.each x.variable) ∙ ap (at θ) (bound_here f) in
    let old : Extends θ s = record {
      each = λ v. sym (put_same θ x same (given s v)) ∙ ap (at θ) (sym (apply_end s x (meta v))) ∙ e.each v;
    } in (old, same)

pub extends_bound : {θ : Assignment} {s : Substitution} (x : Agreement) →
    Extends θ s → θ x.variable ≡ at θ x.meaning → Extends θ (s ++ x ∷ [])
extends_bound {θ} {s} x e same = record {
  each = λ v. ap (at θ) (apply_end s x (meta v)) ∙ put_same θ x same (given s v) ∙ e.each v;
}

pub whole_bound : {s : Substitution} {x : Agreement} → IsWhole s → IsFresh s x → IsWhole (s ++ x ∷ [])
whole_bound {s} {x} w f =
    let next : Substitution = s ++ x ∷ [] in
    let old : Extends (given next) s = record {
      each = λ v. sym (apply_at next (given s v)) ∙ apply_end s x (given s v) ∙ ap (put x) (whole_all w (meta v)) ∙ sym (apply_end s x (meta v));
    } in
    let same : at (given next) x.meaning ≡ x.meaning =
    sym (apply_at next x.meaning) ∙ apply_end s x x.meaning ∙ ap (put x) f.settled ∙ put_not x x.meaning f.apart in
    extends_bound x old (bound_here f ∙ sym same)

-- after one more agreement of the program
pub applied_next : (xs : List declared.Agreement) (i : ℕ) (x : declared.Agreement) (t : Ty) → i < length xs → x ≡ get_or xs i x →
    put (agreement x) (apply (substitution (take i xs)) t) ≡ apply (substitution (take (i + 1) xs)) t
applied_next xs i x t h e =
    sym (ap (λ s. apply s t) (map_more agreement xs i x h) ∙ apply_end (substitution (take i xs)) (agreement (get_or xs i x)) t
    ∙ ap (λ y. put (agreement y) (apply (substitution (take i xs)) t)) (sym e))

pub whole_pushed : (xs ys : List declared.Agreement) (s : Substitution) (x : declared.Agreement) (y : Agreement) →
    IsWhole (substitution xs) → substitution xs ≡ s → IsFresh s y → agreement x ≡ y → ys ≡ xs ++ x ∷ [] → IsWhole (substitution ys)
whole_pushed xs ys s x y w e f k p =
    subst IsWhole (sym (ap substitution p ∙ map-append agreement xs (x ∷ []) ∙ (λ i. e i ++ k i ∷ []))) (whole_bound (subst IsWhole e w) f)
