-- Closing keeps truth: the closed formula, within the values of the quantifiers, is true where the formula is at these values.
use Rattle.std.proofs.Common.{ℕ, zero, suc, ◌≡◌, ◌<◌, ◌≤◌, ◌+◌, ◌-◌, ◌⊎◌, inl, inr, Bool, true, false, ◌&&◌, List, [], ◌∷◌, ◌++◌, reverse, length, drop, Some, refl, sym, ◌∙◌, ap, subst, nat_lt, nat_le, if◌then◌else◌, arith, length-append, append_assoc}
use Rattle.std.specs.Prelude.{slice_get, unwrap_or, get_or}
use Rattle.std.proofs.lemmas.List.{length-reverse, get_or-reverse, reverse-append}
use Rattle.std.proofs.lemmas.Option.{slice_get-get_or}
use Rattle.std.proofs.lemmas.Bool.{ltb-true, ltb-false, leb-true, leb-false}
use Rattle.tg_model.specs.Tree.{Tree, bound, free}
use Rattle.tg_model.specs.Types.{Ty}
use Rattle.tg_model.specs.Value.{Value, wrong}
use Rattle.tg_model.specs.Formula.{Formula}
use Rattle.tg_model.specs.Theory.{Theory, numbered}
use Rattle.tg_model.specs.Typing.{AreTyped}
use Rattle.tg_model.specs.Table.{Table}
use Rattle.tg_model.specs.Denotation.{value_in, world}
use Rattle.tg_model.specs.Truth.{Holds}
use Rattle.tg_model.specs.Walk.{raised}
use Rattle.tg_model.specs.Closing.{bound_among, closed, for_all, for_some, HoldsAt, ClosureIsUniversal, ClosureIsExistential}
use Rattle.tg_model.proofs.Places.{get_left, get_past}
use Rattle.tg_model.proofs.Walks.{keeps_truth}

-- the values of `d` binders that were passed, and outside them two lists of values
record Within (outer outer' : List Value) (d : ℕ) (loc loc' : List Value) : Type 0 where
  inner : List Value
  count : length inner ≡ d
  here : loc ≡ inner ++ outer
  there : loc' ≡ inner ++ outer'

under : (outer outer' : List Value) (d : ℕ) (loc loc' vs : List Value) → Within outer outer' d loc loc'
    → Within outer outer' (d + length vs) (reverse vs ++ loc) (reverse vs ++ loc')
under outer outer' d loc loc' vs r =
    let m = length-reverse vs in let c = r.count in let a = length-append (reverse vs) r.inner in
    record {
      inner = reverse vs ++ r.inner;
      count = omega arith;
      here = ap (λ l. reverse vs ++ l) r.here ∙ sym (append_assoc (reverse vs) r.inner outer);
      there = ap (λ l. reverse vs ++ l) r.there ∙ sym (append_assoc (reverse vs) r.inner outer');
    }

abbrev at : List Value → ℕ → Value
at loc k = unwrap_or (slice_get loc k) wrong

pick : (f : Tree → Value) (b : Bool) (t u : Tree) (x : Value) → (b ≡ true → f t ≡ x) → (b ≡ false → f u ≡ x) → f (if b then t else u) ≡ x
pick f true t u x h g = h refl
pick f false t u x h g = g refl

both : (a b : Bool) → (a && b) ≡ true → (a ≡ true) × (b ≡ true)
both true b e = (refl, e)
both false b e = absurd cc

either : (a b : Bool) → (a && b) ≡ false → (a ≡ false) ⊎ (b ≡ false)
either true b e = inr e
either false b e = inl refl

reversed_at : (vs : List Value) (k : ℕ) → k < length vs → slice_get (reverse vs) (length vs - (k + 1)) ≡ slice_get vs k
reversed_at vs k h =
    let j : ℕ = length vs - (k + 1) in
    let low : j < length (reverse vs) = omega (arith, length-reverse vs) in
    let e : length vs - 1 - j ≡ k = omega arith in
    slice_get-get_or (reverse vs) j wrong low ∙ ap Some (get_or-reverse vs j wrong (omega arith) ∙ ap (λ i. get_or vs i wrong) e)
    ∙ sym (slice_get-get_or vs k wrong h)

get_dropped : (n : ℕ) (xs : List Value) (i : ℕ) → slice_get (drop n xs) i ≡ slice_get xs (n + i)
get_dropped zero xs i = ap (slice_get xs) (let e : i ≡ zero + i = omega arith in e)
get_dropped (suc n) [] i = refl
get_dropped (suc n) (x ∷ xs) i = get_dropped n xs i ∙ ap (slice_get (x ∷ xs)) (let e : suc (n + i) ≡ suc n + i = omega arith in e)

module _ (th : Theory) (tb : Table) (env vs outer : List Value) where
  abbrev n : ℕ
  n = length vs

  abbrev inner_env : List Value
  inner_env = vs ++ drop n env

  abbrev Reads : ℕ → List Value → List Value → Type 0
  Reads = Within outer (reverse vs ++ outer)

  outside : (d : ℕ) (loc loc' : List Value) → Reads d loc loc' → (k : ℕ) → d ≤ k → at loc' k ≡ at (reverse vs ++ outer) (k - d)
  outside d loc loc' r k h =
      let past : length r.inner ≤ k = let c = r.count in omega arith in
      ap (λ o. unwrap_or o wrong) (ap (λ l. slice_get l k) r.there ∙ get_past r.inner (reverse vs ++ outer) k past ∙ ap (λ m. slice_get (reverse vs ++ outer) (k - m)) r.count)

  bounds : (d : ℕ) (loc loc' : List Value) (k : ℕ) → Reads d loc loc'
      → value_in (world th tb) env loc' (raised n d k) ≡ value_in (world th tb) inner_env loc (bound k)
  bounds d loc loc' k r =
      pick (value_in (world th tb) env loc') (nat_lt k d) (bound k) (bound (k + n)) (at loc k)
      (λ e. let low : k < length r.inner = omega (arith, ltb-true k d e, r.count) in
      ap (λ o. unwrap_or o wrong) (ap (λ l. slice_get l k) r.there ∙ get_left r.inner (reverse vs ++ outer) k low ∙ sym (ap (λ l. slice_get l k) r.here ∙ get_left r.inner outer k low)))
      (λ e. let far : d ≤ k = ltb-false k d e in
      let past : length (reverse vs) ≤ k + n - d = omega (arith, length-reverse vs) in
      let beyond : length r.inner ≤ k = let c = r.count in omega arith in
      let same : k + n - d - length (reverse vs) ≡ k - length r.inner = omega (arith, length-reverse vs, r.count) in
      outside d loc loc' r (k + n) (omega arith)
      ∙ ap (λ o. unwrap_or o wrong) (get_past (reverse vs) outer (k + n - d) past ∙ ap (slice_get outer) same ∙ sym (ap (λ l. slice_get l k) r.here ∙ get_past r.inner outer k beyond)))

  named : (k : ℕ) → 0 < k → k ≤ n → at (reverse vs ++ outer) (n - k) ≡ unwrap_or (numbered inner_env k) wrong
  named zero h g = absurd (omega arith)
  named (suc m) h g =
      let low : n - suc m < length (reverse vs) = omega (arith, length-reverse vs) in
      let e : n - suc m ≡ n - (m + 1) = omega arith in
      ap (λ o. unwrap_or o wrong) (get_left (reverse vs) outer (n - suc m) low ∙ ap (slice_get (reverse vs)) e ∙ reversed_at vs m (omega arith)
      ∙ sym (get_left vs (drop n env) m (omega arith)))

  unnamed : (k : ℕ) → (k ≡ 0) ⊎ (n < k) → numbered env k ≡ numbered inner_env k
  unnamed zero h = refl
  unnamed (suc m) h =
      let past : n ≤ m = elim h [ inl e ↦ absurd (omega arith) | inr g ↦ omega arith ] in
      let e : n + (m - n) ≡ m = omega arith in
      sym (get_past vs (drop n env) m past ∙ get_dropped n env (m - n) ∙ ap (slice_get env) e)

  frees : (d : ℕ) (loc loc' : List Value) (k : ℕ) → Reads d loc loc'
      → value_in (world th tb) env loc' (bound_among n d k) ≡ value_in (world th tb) inner_env loc (free k)
  frees d loc loc' k r =
      pick (value_in (world th tb) env loc') (nat_lt 0 k && nat_le k n) (bound (d + (n - k))) (free k) (unwrap_or (numbered inner_env k) wrong)
      (λ e. let p = both (nat_lt 0 k) (nat_le k n) e in
      let same : d + (n - k) - d ≡ n - k = omega arith in
      outside d loc loc' r (d + (n - k)) (omega arith) ∙ ap (at (reverse vs ++ outer)) same ∙ named k (ltb-true 0 k p.0) (leb-true k n p.1))
      (λ e. ap (λ o. unwrap_or o wrong) (unnamed k (elim (either (nat_lt 0 k) (nat_le k n) e) [
        | inl p ↦ inl (let z = ltb-false 0 k p in omega arith)
        | inr p ↦ inr (leb-false k n p)
      ])))

  closed_holds : (f : Formula) → Holds th tb env (reverse vs ++ outer) (closed n f) ≡ Holds th tb inner_env outer f
  closed_holds f =
      keeps_truth th tb inner_env env (raised n) (bound_among n) Reads (under outer (reverse vs ++ outer)) bounds frees
      f 0 outer (reverse vs ++ outer) (record { inner = []; count = refl; here = refl; there = refl })

-- quantifiers one in another
innermost_last : (v : Value) (vs loc : List Value) → reverse (v ∷ vs) ++ loc ≡ reverse vs ++ v ∷ loc
innermost_last v vs loc = ap (λ l. l ++ loc) (reverse-append (v ∷ []) vs) ∙ append_assoc (reverse vs) (v ∷ []) loc

as_many : (th : Theory) (vs : List Value) (ts : List Ty) → AreTyped th vs ts → length vs ≡ length ts
as_many th [] [] h = refl
as_many th [] (t ∷ ts) h = absurd h
as_many th (v ∷ vs) [] h = absurd h
as_many th (v ∷ vs) (t ∷ ts) h = ap suc (as_many th vs ts h.1)

module _ (th : Theory) (tb : Table) (env : List Value) (f : Formula) where
  abbrev HoldsWithin : List Value → Type 0
  HoldsWithin loc = Holds th tb env loc f

  from_all : (ts : List Ty) (loc : List Value) → Holds th tb env loc (for_all ts f) → (vs : List Value) → AreTyped th vs ts → HoldsWithin (reverse vs ++ loc)
  from_all [] loc h [] t = h
  from_all [] loc h (v ∷ vs) t = absurd t
  from_all (u ∷ ts) loc h [] t = absurd t
  from_all (u ∷ ts) loc h (v ∷ vs) t = subst HoldsWithin (sym (innermost_last v vs loc)) (from_all ts (v ∷ loc) (h v t.0) vs t.1)

  to_all : (ts : List Ty) (loc : List Value) → ((vs : List Value) → AreTyped th vs ts → HoldsWithin (reverse vs ++ loc)) → Holds th tb env loc (for_all ts f)
  to_all [] loc h = h [] tt
  to_all (u ∷ ts) loc h = λ v t. to_all ts (v ∷ loc) (λ vs ts'. subst HoldsWithin (innermost_last v vs loc) (h (v ∷ vs) (t, ts')))

  from_some : (ts : List Ty) (loc : List Value) → Holds th tb env loc (for_some ts f) → (vs : List Value) × AreTyped th vs ts × HoldsWithin (reverse vs ++ loc)
  from_some [] loc h = ([], tt, h)
  from_some (u ∷ ts) loc (v, t, h) =
      let r = from_some ts (v ∷ loc) h in (v ∷ r.0, (t, r.1), subst HoldsWithin (sym (innermost_last v r.0 loc)) r.2)

  to_some : (ts : List Ty) (loc vs : List Value) → AreTyped th vs ts → HoldsWithin (reverse vs ++ loc) → Holds th tb env loc (for_some ts f)
  to_some [] loc [] t h = h
  to_some [] loc (v ∷ vs) t h = absurd t
  to_some (u ∷ ts) loc [] t h = absurd t
  to_some (u ∷ ts) loc (v ∷ vs) t h = (v, t.0, to_some ts (v ∷ loc) vs t.1 (subst HoldsWithin (innermost_last v vs loc) h))

-- the closed formula within the values, as the formula at them
same_truth : (th : Theory) (tb : Table) (env loc vs : List Value) (m : ℕ) (f : Formula) → length vs ≡ m
    → Holds th tb env (reverse vs ++ loc) (closed m f) ≡ HoldsAt th tb env loc vs f
same_truth th tb env loc vs m f e = ap (λ k. Holds th tb env (reverse vs ++ loc) (closed k f)) (sym e) ∙ closed_holds th tb env vs loc f

pub closure_is_universal : ClosureIsUniversal
closure_is_universal th tb env loc ts f = (
  λ h vs t. subst (λ (X : Type 0). X) (same_truth th tb env loc vs (length ts) f (as_many th vs ts t)) (from_all th tb env (closed (length ts) f) ts loc h vs t),
  λ h. to_all th tb env (closed (length ts) f) ts loc
      (λ vs t. subst (λ (X : Type 0). X) (sym (same_truth th tb env loc vs (length ts) f (as_many th vs ts t))) (h vs t)),
)

pub closure_is_existential : ClosureIsExistential
closure_is_existential th tb env loc ts f = (
  λ h. let r = from_some th tb env (closed (length ts) f) ts loc h in
      (r.0, r.1, subst (λ (X : Type 0). X) (same_truth th tb env loc r.0 (length ts) f (as_many th r.0 ts r.1)) r.2),
  λ p. to_some th tb env (closed (length ts) f) ts loc p.0 p.1
      (subst (λ (X : Type 0). X) (sym (same_truth th tb env loc p.0 (length ts) f (as_many th p.0 ts p.1))) p.2),
)
