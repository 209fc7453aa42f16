-- Arguments can be walked as they stand, without the substitution put into them first: the walk puts it in at each pair.
use Rattle.std.proofs.Common.{ℕ, ◌≡◌, suc, true, [], ◌∷◌, ◌++◌, append_assoc, append-nil, nat_eq, refl, ap, sym, ◌∙◌}
use Rattle.std.proofs.lemmas.Bool.{eq-eqb}
use Rattle.tg_model.specs.Types.{Ty, Tys, applied, none, more}
use Rattle.tg_types.specs.Substitutions.{Assignment, at, all_at, Substitution, apply, put, given, IsWhole, Continues}
use Rattle.tg_types.specs.Walks.{meet, inside, meet_applied, count, Outcome, done, clash, occurs, Walk, walk_agree, walk_binds, walk_loops, walk_differ, walk_inside, Walks, walks_end, walks_next, walks_clash, walks_occurs}
use Rattle.tg_types.proofs.SubstitutionLaws.{apply_at, whole_all}
use Rattle.tg_types.proofs.WalkLaws.{Means}

-- a walk adds agreements
abbrev Goes : Substitution → Outcome → Type 0
Goes s (done next) = Continues s next
Goes s (clash a b) = Unit {0}
Goes s (occurs v u) = Unit {0}

goes_on : (s next : Substitution) (r : Outcome) → Continues s next → Goes next r → Goes s r
goes_on s next (done last) (m, e) (n, f) = (m ++ n, f ∙ ap (λ x. x ++ n) e ∙ append_assoc s m n)
goes_on s next (clash a b) p q = tt
goes_on s next (occurs v u) p q = tt

mutual
  walk_goes : {s : Substitution} {a b : Ty} {r : Outcome} → Walk s a b r → Goes s r
  walk_goes {s} (walk_agree e) = ([], sym (append-nil s))
  walk_goes (walk_binds {u} {v} e) = ((record { variable = v; meaning = u }) ∷ [], refl)
  walk_goes (walk_loops e) = tt
  walk_goes (walk_differ e c d) = tt
  walk_goes (walk_inside ts us e h) = walks_go h

  walks_go : {s : Substitution} {ts us : Tys} {r : Outcome} → Walks s ts us r → Goes s r
  walks_go {s} walks_end = ([], sym (append-nil s))
  walks_go {s} {r} (walks_next {next} w rest) = goes_on s next r (walk_goes w) (walks_go rest)
  walks_go (walks_clash w) = tt
  walks_go (walks_occurs w) = tt

-- the later substitution takes no notice of what the first one put in
abbrev Absorbs : Substitution → Substitution → Type 0
Absorbs first s = (t : Ty) → apply s (apply first t) ≡ apply s t

apply_append : (s m : Substitution) (t : Ty) → apply (s ++ m) t ≡ apply m (apply s t)
apply_append [] m t = refl
apply_append (x ∷ s) m t = apply_append s m (put x t)

absorbs_on : (first s next : Substitution) → Absorbs first s → Continues s next → Absorbs first next
absorbs_on first s next h (m, e) t =
    ap (λ x. apply x (apply first t)) e ∙ apply_append s m (apply first t) ∙ ap (apply m) (h t) ∙ sym (ap (λ x. apply x t) e ∙ apply_append s m t)

-- a walk looks at its types with the substitution put in, and at nothing else of them
walk_alike : {s : Substitution} {a b : Ty} {r : Outcome} (a' b' : Ty) → Walk s a b r → apply s a' ≡ apply s a → apply s b' ≡ apply s b → Walk s a' b' r
walk_alike a' b' (walk_agree e) p q = walk_agree ((λ i. meet (p i) (q i)) ∙ e)
walk_alike a' b' (walk_binds e) p q = walk_binds ((λ i. meet (p i) (q i)) ∙ e)
walk_alike a' b' (walk_loops e) p q = walk_loops ((λ i. meet (p i) (q i)) ∙ e)
walk_alike a' b' (walk_differ e c d) p q = walk_differ ((λ i. meet (p i) (q i)) ∙ e) (c ∙ sym p) (d ∙ sym q)
walk_alike a' b' (walk_inside ts us e h) p q = walk_inside ts us ((λ i. meet (p i) (q i)) ∙ e) h

module _ (first : Substitution) where
  same : (s : Substitution) → Absorbs first s → (t : Ty) → apply s (at (given first) t) ≡ apply s t
  same s h t = ap (apply s) (sym (apply_at first t)) ∙ h t

  walks_put : {s : Substitution} {ts us : Tys} {r : Outcome} → Absorbs first s → Walks s ts us r → Walks s (all_at (given first) ts) (all_at (given first) us) r
  walks_put h walks_end = walks_end
  walks_put {s} h (walks_next {next} {t} {u} w rest) =
      walks_next (walk_alike _ _ w (same s h t) (same s h u)) (walks_put (absorbs_on first s next h (walk_goes w)) rest)
  walks_put {s} h (walks_clash {t} {u} w) = walks_clash (walk_alike _ _ w (same s h t) (same s h u))
  walks_put {s} h (walks_occurs {t} {u} w) = walks_occurs (walk_alike _ _ w (same s h t) (same s h u))

count_at : (θ : Assignment) (ts : Tys) → count (all_at θ ts) ≡ count ts
count_at θ none = refl
count_at θ (more t ts) = ap suc (count_at θ ts)

met : (d : ℕ) (ts us : Tys) → count ts ≡ count us → meet_applied d ts d us ≡ inside ts us
met d ts us e = let h : nat_eq d d ≡ true = eq-eqb d d refl in let k : nat_eq (count ts) (count us) ≡ true = eq-eqb (count ts) (count us) e in rw (h, k) refl

entered : (s : Substitution) (a b : Ty) (ts us : Tys) (r : Outcome) → IsWhole s → Means a b (inside ts us) → Walks s ts us r → Walk s a b r
entered s a b ts us r w (d, p, q, n) h =
    let left : apply s a ≡ applied d (all_at (given s) ts) = ap (apply s) p ∙ apply_at s (applied d ts) in
    let right : apply s b ≡ applied d (all_at (given s) us) = ap (apply s) q ∙ apply_at s (applied d us) in
    walk_inside (all_at (given s) ts) (all_at (given s) us)
    ((λ i. meet (left i) (right i)) ∙ met d _ _ (count_at (given s) ts ∙ n ∙ sym (count_at (given s) us)))
    (walks_put s (whole_all w) h)

pub got_arguments : (s : Substitution) (d e : ℕ) (ts us : Tys) (r : Outcome) → IsWhole s → d ≡ e → count ts ≡ count us → Walks s ts us r
    → Walk s (applied d ts) (applied e us) r
got_arguments s d e ts us r w p n h = entered s (applied d ts) (applied e us) ts us r w (d, refl, ap (λ k. applied k us) (sym p), n) h
