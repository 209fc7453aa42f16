-- A walk finds the most general unifier, or a pair that no assignment unifies.
use Rattle.std.proofs.Common.{ℕ, ◌≡◌, ◌+◌, ◌≤◌, suc, Bool, true, false, [], ◌∷◌, ◌++◌, nat_eq, if◌then◌else◌, refl, ap, sym, ◌∙◌, ◌⊎◌, inl, inr, subst, arith}
use Rattle.std.proofs.lemmas.Bool.{eqb-true, eq-eqb}
use Rattle.tg_model.specs.Types.{Ty, Tys, nat, bool, parameter, meta, applied, none, more}
use Rattle.tg_types.specs.Substitutions.{Assignment, at, all_at, holds, any_holds, Agreement, Substitution, apply, Extends, IsWhole, IsFresh}
use Rattle.tg_types.specs.Unifiers.{IsMostGeneral, HasNoUnifier}
use Rattle.tg_types.specs.Walks.{Meeting, agree, binds, loops, inside, differ, meet, count, Outcome, done, clash, occurs, Walk, walk_agree, walk_binds, walk_loops, walk_differ, walk_inside, Walks, walks_end, walks_next, walks_clash, walks_occurs}
use Rattle.tg_types.proofs.SubstitutionLaws.{extends_all, whole_all, whole_bound, bound_extends, extends_bound}

-- how many nodes a type has
abbrev mutual
  size : Ty → ℕ
  size nat = 1
  size bool = 1
  size (parameter n) = 1
  size (meta n) = 1
  size (applied d ts) = suc (sizes ts)

  sizes : Tys → ℕ
  sizes none = 0
  sizes (more t ts) = size t + sizes ts

either : (p q : Bool) → (if p then true else q) ≡ true → (p ≡ true) ⊎ (q ≡ true)
either true q e = inl refl
either false q e = inr e

-- a type is no smaller than what it holds
mutual
  held : (θ : Assignment) (v : ℕ) (t : Ty) → holds v t ≡ true → size (θ v) ≤ size (at θ t)
  held θ v nat e = absurd cc
  held θ v bool e = absurd cc
  held θ v (parameter n) e = absurd cc
  held θ v (meta n) e = let s : n ≡ v = eqb-true n v e in rw s (omega arith)
  held θ v (applied d ts) e = let s = held_within θ v ts e in omega arith

  held_within : (θ : Assignment) (v : ℕ) (ts : Tys) → any_holds v ts ≡ true → size (θ v) ≤ sizes (all_at θ ts)
  held_within θ v none e = absurd cc
  held_within θ v (more t ts) e = elim (either (holds v t) (any_holds v ts) e) [
    | inl p ↦ let s = held θ v t p in omega arith
    | inr p ↦ let s = held_within θ v ts p in omega arith
  ]

-- what two types that meet so have in common under every assignment
abbrev pub Means : Ty → Ty → Meeting → Type 0
Means a b agree = a ≡ b
Means a b (binds v u) = (holds v u ≡ false) × (((a ≡ meta v) × (b ≡ u)) ⊎ ((b ≡ meta v) × (a ≡ u)))
Means a b (loops v u) = (θ : Assignment) → ¬ (at θ a ≡ at θ b)
Means a b (inside ts us) = (d : ℕ) × (a ≡ applied d ts) × (b ≡ applied d us) × (count ts ≡ count us)
Means a b differ = (θ : Assignment) → ¬ (at θ a ≡ at θ b)

-- an open type that stands in a greater type
grows : (θ : Assignment) (v d : ℕ) (ts : Tys) → any_holds v ts ≡ true → ¬ (θ v ≡ applied d (all_at θ ts))
grows θ v d ts e same = let s = held_within θ v ts e in let k : size (θ v) ≡ suc (sizes (all_at θ ts)) = ap size same in omega arith

left_applied : (v d : ℕ) (ts : Tys) (b : Bool) → any_holds v ts ≡ b →
    Means (meta v) (applied d ts) (if b then loops v (applied d ts) else binds v (applied d ts))
left_applied v d ts true e = λ θ. grows θ v d ts e
left_applied v d ts false e = (e, inl (refl, refl))

right_applied : (v d : ℕ) (ts : Tys) (b : Bool) → any_holds v ts ≡ b →
    Means (applied d ts) (meta v) (if b then loops v (applied d ts) else binds v (applied d ts))
right_applied v d ts true e = λ θ same. grows θ v d ts e (sym same)
right_applied v d ts false e = (e, inr (refl, refl))

two_open : (v w : ℕ) (b : Bool) → nat_eq v w ≡ b → Means (meta v) (meta w) (if b then agree else binds v (meta w))
two_open v w true e = ap meta (eqb-true v w e)
two_open v w false e = (go (nat_eq w v) refl, inl (refl, refl)) where
  go : (b : Bool) → nat_eq w v ≡ b → nat_eq w v ≡ false
  go true h = let s : v ≡ w = sym (eqb-true w v h) in let k : nat_eq v w ≡ true = eq-eqb v w s in cc
  go false h = h

two_parameters : (m n : ℕ) (b : Bool) → nat_eq m n ≡ b → Means (parameter m) (parameter n) (if b then agree else differ)
two_parameters m n true e = ap parameter (eqb-true m n e)
two_parameters m n false e = λ θ same. let s : m ≡ n = cc in let k : nat_eq m n ≡ true = eq-eqb m n s in cc

as_many : (θ : Assignment) (ts us : Tys) → all_at θ ts ≡ all_at θ us → count ts ≡ count us
as_many θ none none e = refl
as_many θ none (more u us) e = absurd cc
as_many θ (more t ts) none e = absurd cc
as_many θ (more t ts) (more u us) e = ap suc (as_many θ ts us cc)

two_applied : (d : ℕ) (ts : Tys) (e : ℕ) (us : Tys) (p q : Bool) → nat_eq d e ≡ p → nat_eq (count ts) (count us) ≡ q →
    Means (applied d ts) (applied e us) (if p then (if q then inside ts us else differ) else differ)
two_applied d ts e us true true h k = (d, refl, ap (λ n. applied n us) (sym (eqb-true d e h)), eqb-true (count ts) (count us) k)
two_applied d ts e us true false h k =
    λ θ same. let s : count ts ≡ count us = as_many θ ts us cc in let f : nat_eq (count ts) (count us) ≡ true = eq-eqb _ _ s in cc
two_applied d ts e us false q h k = λ θ same. let s : d ≡ e = cc in let f : nat_eq d e ≡ true = eq-eqb d e s in cc

pub meets : (a b : Ty) → Means a b (meet a b)
meets (meta v) (meta w) = two_open v w (nat_eq v w) refl
meets (meta v) nat = (refl, inl (refl, refl))
meets (meta v) bool = (refl, inl (refl, refl))
meets (meta v) (parameter n) = (refl, inl (refl, refl))
meets (meta v) (applied d ts) = left_applied v d ts (any_holds v ts) refl
meets nat (meta w) = (refl, inr (refl, refl))
meets bool (meta w) = (refl, inr (refl, refl))
meets (parameter n) (meta w) = (refl, inr (refl, refl))
meets (applied d ts) (meta w) = right_applied w d ts (any_holds w ts) refl
meets nat nat = refl
meets bool bool = refl
meets (parameter m) (parameter n) = two_parameters m n (nat_eq m n) refl
meets (applied d ts) (applied e us) = two_applied d ts e us (nat_eq d e) (nat_eq (count ts) (count us)) refl refl
meets a b = λ θ same. cc

pub as_long : (a b : Ty) (ts us : Tys) → meet a b ≡ inside ts us → count ts ≡ count us
as_long a b ts us e = let m = subst (Means a b) e (meets a b) in m.3

-- the pair of one walk, or of the walk of two lists, unified by the assignments that extend the new substitution
pub record Solves (s : Substitution) (Same : Assignment → Type 0) (next : Substitution) : Type 0 where
  pub whole : IsWhole next
  pub sound : (θ : Assignment) → Extends θ next → Extends θ s × Same θ
  pub complete : (θ : Assignment) → Extends θ s → Same θ → Extends θ next

abbrev Ends : Substitution → (Assignment → Type 0) → Outcome → Type 0
Ends s Same (done next) = Solves s Same next
Ends s Same (clash c d) = (θ : Assignment) → Extends θ s → ¬ (Same θ)
Ends s Same (occurs v u) = (θ : Assignment) → Extends θ s → ¬ (Same θ)

abbrev Pair : Ty → Ty → Assignment → Type 0
Pair a b θ = at θ a ≡ at θ b

abbrev Lists : Tys → Tys → Assignment → Type 0
Lists ts us θ = all_at θ ts ≡ all_at θ us

-- an assignment that extends a substitution unifies a pair exactly where it unifies it with the substitution put in
put_in : {θ : Assignment} {s : Substitution} (a b : Ty) → Extends θ s → at θ a ≡ at θ b → at θ (apply s a) ≡ at θ (apply s b)
put_in a b e same = extends_all e a ∙ same ∙ sym (extends_all e b)

put_out : {θ : Assignment} {s : Substitution} (a b : Ty) → Extends θ s → at θ (apply s a) ≡ at θ (apply s b) → at θ a ≡ at θ b
put_out a b e same = sym (extends_all e a) ∙ same ∙ extends_all e b

agrees : {s : Substitution} (a b : Ty) → IsWhole s → apply s a ≡ apply s b → Solves s (Pair a b) s
agrees {s} a b w e = record {
  whole = w;
  sound = λ θ x. (x, put_out a b x (ap (at θ) e));
  complete = λ θ x same. x;
}

-- nothing is left to put into a type that was put in already
settled : {s : Substitution} (t : Ty) {u : Ty} → IsWhole s → apply s t ≡ u → apply s u ≡ u
settled {s} t {u} w e = ap (apply s) (sym e) ∙ whole_all w t ∙ e

-- the agreement of two types that meet may follow the agreements so far
pub fresh : {s : Substitution} (a b : Ty) {u : Ty} {v : ℕ} → IsWhole s → meet (apply s a) (apply s b) ≡ binds v u →
    IsFresh s (record { variable = v; meaning = u })
fresh {s} a b {u} {v} w e = let m = subst (Means (apply s a) (apply s b)) e (meets (apply s a) (apply s b)) in
    elim m.1 [
      | inl p ↦ record { unset = settled a w p.0; settled = settled b w p.1; apart = m.0 }
      | inr p ↦ record { unset = settled b w p.0; settled = settled a w p.1; apart = m.0 }
    ]

bound : {s : Substitution} (a b : Ty) {u : Ty} {v : ℕ} → IsWhole s → meet (apply s a) (apply s b) ≡ binds v u →
    Solves s (Pair a b) (s ++ (record { variable = v; meaning = u }) ∷ [])
bound {s} a b {u} {v} w e =
    let x : Agreement = record { variable = v; meaning = u } in
    let f : IsFresh s x = fresh a b w e in
    let m = subst (Means (apply s a) (apply s b)) e (meets (apply s a) (apply s b)) in
    elim m.1 [
      | inl p ↦ record {
        whole = whole_bound w f;
        sound = λ θ k. let h = bound_extends f k in (h.0, put_out a b h.0 (ap (at θ) p.0 ∙ h.1 ∙ ap (at θ) (sym p.1)));
        complete = λ θ k same. extends_bound x k (ap (at θ) (sym p.0) ∙ put_in a b k same ∙ ap (at θ) p.1);
      }
      | inr p ↦ record {
        whole = whole_bound w f;
        sound = λ θ k. let h = bound_extends f k in (h.0, put_out a b h.0 (ap (at θ) p.1 ∙ sym h.1 ∙ ap (at θ) (sym p.0)));
        complete = λ θ k same. extends_bound x k (ap (at θ) (sym p.0) ∙ sym (put_in a b k same) ∙ ap (at θ) p.1);
      }
    ]

-- two types with one datatype at their roots are unified as their arguments are
entered : (s : Substitution) (a b : Ty) (ts us : Tys) (r : Outcome) →
    Means (apply s a) (apply s b) (inside ts us) → Ends s (Lists ts us) r → Ends s (Pair a b) r
entered s a b ts us (done next) m h = record {
  whole = h.whole;
  sound = λ θ e. let k = h.sound θ e in (k.0, put_out a b k.0 (ap (at θ) m.1 ∙ ap (applied m.0) k.1 ∙ ap (at θ) (sym m.2)));
  complete = λ θ e same.
      let k : applied m.0 (all_at θ ts) ≡ applied m.0 (all_at θ us) = ap (at θ) (sym m.1) ∙ put_in a b e same ∙ ap (at θ) m.2 in
      h.complete θ e cc;
}
entered s a b ts us (clash c d) m h =
    λ θ e same.
    let k : applied m.0 (all_at θ ts) ≡ applied m.0 (all_at θ us) = ap (at θ) (sym m.1) ∙ put_in a b e same ∙ ap (at θ) m.2 in
    h θ e cc
entered s a b ts us (occurs v u) m h =
    λ θ e same.
    let k : applied m.0 (all_at θ ts) ≡ applied m.0 (all_at θ us) = ap (at θ) (sym m.1) ∙ put_in a b e same ∙ ap (at θ) m.2 in
    h θ e cc

-- one pair of arguments after the other
followed : {s next : Substitution} (t u : Ty) (ts us : Tys) (r : Outcome) →
    Solves s (Pair t u) next → Ends next (Lists ts us) r → Ends s (Lists (more t ts) (more u us)) r
followed t u ts us (done last) f h = record {
  whole = h.whole;
  sound = λ θ e. let k = h.sound θ e in let j = f.sound θ k.0 in (j.0, λ i. more (j.1 i) (k.1 i));
  complete = λ θ e same. h.complete θ (f.complete θ e cc) cc;
}
followed t u ts us (clash c d) f h = λ θ e same. h θ (f.complete θ e cc) cc
followed t u ts us (occurs v w) f h = λ θ e same. h θ (f.complete θ e cc) cc

mutual
  pub walk_law : {s : Substitution} {a b : Ty} {r : Outcome} → Walk s a b r → IsWhole s → Ends s (Pair a b) r
  walk_law {s} {a} {b} (walk_agree e) w = agrees a b w (subst (Means (apply s a) (apply s b)) e (meets (apply s a) (apply s b)))
  walk_law {s} {a} {b} (walk_binds e) w = bound a b w e
  walk_law {s} {a} {b} (walk_loops e) w =
      λ θ x same. subst (Means (apply s a) (apply s b)) e (meets (apply s a) (apply s b)) θ (put_in a b x same)
  walk_law {s} {a} {b} (walk_differ e c d) w =
      λ θ x same. subst (Means (apply s a) (apply s b)) e (meets (apply s a) (apply s b)) θ (put_in a b x same)
  walk_law {s} {a} {b} {r} (walk_inside ts us e h) w =
      entered s a b ts us r (subst (Means (apply s a) (apply s b)) e (meets (apply s a) (apply s b))) (walks_law h w)

  pub walks_law : {s : Substitution} {ts us : Tys} {r : Outcome} → Walks s ts us r → IsWhole s → Ends s (Lists ts us) r
  walks_law walks_end w = record { whole = w; sound = λ θ x. (x, refl); complete = λ θ x same. x }
  walks_law {r} (walks_next h k) w = let f = walk_law h w in followed _ _ _ _ r f (walks_law k f.whole)
  walks_law (walks_clash h) w = λ θ x same. walk_law h w θ x cc
  walks_law (walks_occurs h) w = λ θ x same. walk_law h w θ x cc

pub most_general : {s next : Substitution} {a b : Ty} → Walk s a b (done next) → IsWhole s → IsMostGeneral s a b next
most_general h w = let k = walk_law h w in let j = k.sound _ k.whole in record {
  whole = k.whole;
  extends = j.0;
  unifies = j.1;
  general = λ θ. (k.sound θ, λ p. k.complete θ p.0 p.1);
}

-- where a walk ends at a pair no assignment that extends the substitution unifies the types
pub none_clash : {s : Substitution} {a b c d : Ty} → Walk s a b (clash c d) → IsWhole s → HasNoUnifier s a b
none_clash h w = walk_law h w

pub none_occurs : {s : Substitution} {a b u : Ty} {v : ℕ} → Walk s a b (occurs v u) → IsWhole s → HasNoUnifier s a b
none_occurs h w = walk_law h w
