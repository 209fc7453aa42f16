-- What going under binders leans on.
use Rattle.std.proofs.Common.{ℕ, suc, ◌≡◌, ◌+◌, ◌-◌, ◌<◌, ◌≤◌, Bool, true, false, ◌&&◌, nat_eq, List, [], ◌∷◌, ◌++◌, length, reverse, drop, map, refl, sym, ◌∙◌, ap, subst, arith, append_assoc}
use Rattle.std.specs.Prelude.{slice_get, Some}
use Rattle.std.proofs.lemmas.List.{reverse-append}
use Rattle.std.proofs.lemmas.Bool.Decides.{eqb_tells}
use Rattle.std.proofs.Common.{inl, inr}
use Rattle.tg_accept.specs.Meaning.{Scope, may_bind, may_bind_all}
use Rattle.tg_accept.specs.Raw as raw
use Rattle.tg_accept.specs.Raw.{level}
use Rattle.tg_grammar.specs.declared.terms.Binder.{Binder}
use Rattle.tg_term.proofs.PartLaws.{drop_at}
use Rattle.tg_infer.specs.View.{binder}
use Rattle.tg_infer.specs.declared.binders.Binders.{Binders}
use Rattle.tg_infer.specs.Binders.{binders, AreRight, HaveBound, HaveLeft}
use Rattle.tg_infer.specs.Entering.{Enters, EntersAll, HaveAllBound, AreLeft}

-- a level that may be bound is the next one
next_level : (S : Scope) (locs : List raw.Binder) (n : ℕ) → may_bind S locs (level n) ≡ true → suc (length locs) ≡ n
next_level S locs n e = go S.in_certificate e
  where
    go : (b : Bool) → (b && nat_eq n (suc (length locs))) ≡ true → suc (length locs) ≡ n
    go true e = elim (eqb_tells n (suc (length locs))) [ inl p ↦ sym p.1 | inr p ↦ (let q : false ≡ true = sym p.0 ∙ e in cc q) ]
    go false e = cc e

pub bound_level : (S : Scope) (old new : Binders) (n : ℕ) → may_bind S (binders old) (level n) ≡ true → HaveBound old new (level (suc (length (binders old))))
    → HaveBound old new (level n)
bound_level S old new n may h = subst (λ m. HaveBound old new (level m)) (next_level S (binders old) n may) h

-- some of the variables are bound, and the rest isn't yet
pub record AreEntering (S : Scope) (old now : Binders) (xs rest : List raw.Binder) : Type 0 where
  pub may : may_bind_all S (binders old) xs ≡ may_bind_all S (binders now) rest
  pub is : reverse rest ++ binders now ≡ reverse xs ++ binders old
  pub right : AreRight now

pub begin_entering : (S : Scope) (old : Binders) (xs : List raw.Binder) → AreRight old → AreEntering S old old xs xs
begin_entering S old xs h = record { may = refl; is = refl; right = h }

enter_next : (S : Scope) (old now new : Binders) (xs rest : List raw.Binder) (x : raw.Binder) → AreEntering S old now xs (x ∷ rest) → Enters S now new x true
    → AreEntering S old new xs rest
enter_next S old now new xs rest x h e = record {
  may = h.may ∙ ap (λ b. b && may_bind_all S (x ∷ binders now) rest) e.0 ∙ ap (λ l. may_bind_all S l rest) (sym e.1.is);
  is = ap (λ l. reverse rest ++ l) e.1.is ∙ sym (ap (λ l. l ++ binders now) (reverse-append (x ∷ []) rest) ∙ append_assoc (reverse rest) (x ∷ []) (binders now)) ∙ h.is;
  right = e.1.right;
}

rest_at : (xs : List Binder) (i : ℕ) (x : Binder) → slice_get xs i ≡ Some x → map binder (drop i xs) ≡ binder x ∷ map binder (drop (i + 1) xs)
rest_at xs i x e = ap (map binder) (drop_at xs i x e ∙ ap (λ n. x ∷ drop n xs) (let s : suc i ≡ i + 1 = omega arith in s))

pub enter_at : (S : Scope) (old now new : Binders) (xs : List Binder) (i : ℕ) (x : Binder) → slice_get xs i ≡ Some x
    → AreEntering S old now (map binder xs) (map binder (drop i xs)) → Enters S now new (binder x) true
    → AreEntering S old new (map binder xs) (map binder (drop (i + 1) xs))
enter_at S old now new xs i x at h e =
    enter_next S old now new (map binder xs) (map binder (drop (i + 1) xs)) (binder x) (subst (AreEntering S old now (map binder xs)) (rest_at xs i x at) h) e

pub stop_at : (S : Scope) (old now new : Binders) (xs : List Binder) (i : ℕ) (x : Binder) → slice_get xs i ≡ Some x
    → AreEntering S old now (map binder xs) (map binder (drop i xs)) → may_bind S (binders now) (binder x) ≡ false
    → may_bind_all S (binders old) (map binder xs) ≡ false
stop_at S old now new xs i x at h e =
    h.may ∙ ap (may_bind_all S (binders now)) (rest_at xs i x at) ∙ ap (λ b. b && may_bind_all S (binder x ∷ binders now) (map binder (drop (i + 1) xs))) e

pub end_entering : (S : Scope) (old now : Binders) (xs : List raw.Binder) → AreEntering S old now xs [] → EntersAll S old now xs true
end_entering S old now xs h = (h.may, (let r : HaveAllBound old now xs = record { is = h.is; right = h.right } in r))

pub ruleset entering = (bound_level, begin_entering, enter_at, stop_at, end_entering)

-- ---- back

pub record AreLeaving (old now : Binders) (count : ℕ) : Type 0 where
  pub is : drop (length (binders now) - count) (binders now) ≡ drop (length (binders old) - count) (binders old)
  pub enough : count ≤ length (binders now)
  pub right : AreRight now

pub begin_leaving : (old : Binders) (count : ℕ) → AreRight old → count ≤ length (binders old) → AreLeaving old old count
begin_leaving old count h e = record { is = refl; enough = e; right = h }

one_less : {A : Type 0} (xs : List A) (count : ℕ) → count < length xs
    → (drop (length (drop 1 xs) - count) (drop 1 xs) ≡ drop (length xs - count) xs) × (count ≤ length (drop 1 xs))
one_less [] count h = absurd (omega (arith, h))
one_less (x ∷ xs) count h =
    let s : suc (length xs) - count ≡ suc (length xs - count) = omega (arith, h) in
    (sym (ap (λ n. drop n (x ∷ xs)) s), omega (arith, h))

pub leave_next : (old now new : Binders) (count : ℕ) → AreLeaving old now count → count < length (binders now) → HaveLeft now new → AreLeaving old new count
leave_next old now new count h more e =
    let s = one_less (binders now) count more in
    record {
      is = ap (λ l. drop (length l - count) l) e.is ∙ s.0 ∙ h.is;
      enough = subst (λ l. count ≤ length l) (sym e.is) s.1;
      right = e.right;
    }

pub end_leaving : (old now : Binders) (count : ℕ) → AreLeaving old now count → length (binders now) ≤ count → AreLeft old now count
end_leaving old now count h e =
    let z : length (binders now) - count ≡ 0 = omega (arith, e) in
    record { is = ap (λ n. drop n (binders now)) (sym z) ∙ h.is; right = h.right }

pub ruleset leaving = (begin_leaving, leave_next, end_leaving)
