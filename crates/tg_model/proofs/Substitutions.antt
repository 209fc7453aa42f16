-- Lifting, substitution, instantiation and abstraction keep values and truth.
use Rattle.std.proofs.Common.{ℕ, zero, suc, ◌≡◌, ◌≢◌, ◌<◌, ◌≤◌, ◌+◌, ◌-◌, Bool, true, false, List, [], ◌∷◌, ◌++◌, map, reverse, length, Option, Some, None, refl, sym, ◌∙◌, ap, subst, nat_eq, nat_lt, if◌then◌else◌, arith, length-append, append_assoc}
use Rattle.std.specs.Prelude.{slice_get, unwrap_or, option_map}
use Rattle.std.specs.Option.{option_map_or}
use Rattle.std.proofs.lemmas.List.{length-reverse, length-map}
use Rattle.std.proofs.lemmas.Option.{slice_get-map, slice_get_within}
use Rattle.std.proofs.lemmas.Bool.{ltb-true, ltb-false, eqb-true, eqb-false}
use Rattle.tg_model.specs.Tree.{Tree, bound, free, truth}
use Rattle.tg_model.specs.Value.{Value, wrong}
use Rattle.tg_model.specs.Formula.{Formula}
use Rattle.tg_model.specs.Theory.{Theory, numbered}
use Rattle.tg_model.specs.Table.{Table}
use Rattle.tg_model.specs.Denotation.{World, value_in, world}
use Rattle.tg_model.specs.Truth.{Holds}
use Rattle.tg_model.specs.Walk.{walk, raised, as_free, as_bound, lifted, given, substituted, filled, instantiated, bound_for, abstracted, substituted_formula, instantiated_formula, abstracted_formula}
use Rattle.tg_model.proofs.Places.{get_left, get_past, none_past, map-reverse}
use Rattle.tg_model.proofs.Walks.{keeps, keeps_truth}

-- the values of `d` binders that were passed, and outside them two lists of values
record Inside (outer outer' : List Value) (d : ℕ) (loc loc' : List Value) : Type 0 where
  inner : List Value
  count : length inner ≡ d
  here : loc ≡ inner ++ outer
  there : loc' ≡ inner ++ outer'

at_root : (outer outer' : List Value) → Inside outer outer' 0 outer outer'
at_root outer outer' = record { inner = []; count = refl; here = refl; there = refl }

under : (outer outer' : List Value) (d : ℕ) (loc loc' vs : List Value) → Inside outer outer' d loc loc'
    → Inside outer outer' (d + length vs) (reverse vs ++ loc) (reverse vs ++ loc')
under outer outer' d loc loc' vs r =
    let n : length (reverse vs ++ r.inner) ≡ d + length vs =
    length-append (reverse vs) r.inner ∙ (let m = length-reverse vs in let c = r.count in let e : length (reverse vs) + length r.inner ≡ d + length vs = omega arith in e) in
    record {
      inner = reverse vs ++ r.inner;
      count = n;
      here = ap (λ l. reverse vs ++ l) r.here ∙ sym (append_assoc (reverse vs) r.inner outer);
      there = ap (λ l. reverse vs ++ l) r.there ∙ sym (append_assoc (reverse vs) r.inner outer');
    }

abbrev at : List Value → ℕ → Value
at loc k = unwrap_or (slice_get loc k) wrong

-- a variable of a binder that was passed, and one beyond
inside : (outer outer' : List Value) (d : ℕ) (loc loc' : List Value) (r : Inside outer outer' d loc loc') (k : ℕ) → k < d → at loc' k ≡ at loc k
inside outer outer' d loc loc' r k h =
    let low : k < length r.inner = let c = r.count in omega arith in
    ap (λ o. unwrap_or o wrong) (ap (λ l. slice_get l k) r.there ∙ get_left r.inner outer' k low ∙ sym (ap (λ l. slice_get l k) r.here ∙ get_left r.inner outer k low))

beyond : (outer outer' : List Value) (d : ℕ) (loc loc' : List Value) (r : Inside outer outer' d loc loc') (k : ℕ) → d ≤ k → at loc k ≡ at outer (k - d)
beyond outer outer' d loc loc' r k h =
    let past : length r.inner ≤ k = let c = r.count in omega arith in
    ap (λ o. unwrap_or o wrong) (ap (λ l. slice_get l k) r.here ∙ get_past r.inner outer k past ∙ ap (λ n. slice_get outer (k - n)) r.count)

beyond' : (outer outer' : List Value) (d : ℕ) (loc loc' : List Value) (r : Inside outer outer' d loc loc') (k : ℕ) → d ≤ k → at loc' k ≡ at outer' (k - d)
beyond' outer outer' d loc loc' r k h =
    let past : length r.inner ≤ k = let c = r.count in omega arith in
    ap (λ o. unwrap_or o wrong) (ap (λ l. slice_get l k) r.there ∙ get_past r.inner outer' k past ∙ ap (λ n. slice_get outer' (k - n)) r.count)

pick : (f : Tree → Value) (b : Bool) (t u : Tree) (x : Value) → (b ≡ true → f t ≡ x) → (b ≡ false → f u ≡ x) → f (if b then t else u) ≡ x
pick f true t u x h g = h refl
pick f false t u x h g = g refl

module _ (w : World) (env : List Value) (between outer : List Value) where
  raised_keeps : (d : ℕ) (loc loc' : List Value) (k : ℕ) → Inside outer (between ++ outer) d loc loc'
      → value_in w env loc' (raised (length between) d k) ≡ at loc k
  raised_keeps d loc loc' k r =
      pick (value_in w env loc') (nat_lt k d) (bound k) (bound (k + length between)) (at loc k)
      (λ e. inside outer (between ++ outer) d loc loc' r k (ltb-true k d e))
      (λ e. let far : d ≤ k = ltb-false k d e in
      let past : length between ≤ k + length between - d = omega arith in
      let same : k + length between - d - length between ≡ k - d = omega arith in
      beyond' outer (between ++ outer) d loc loc' r (k + length between) (omega arith)
      ∙ ap (λ o. unwrap_or o wrong) (get_past between outer (k + length between - d) past)
      ∙ ap (at outer) same
      ∙ sym (beyond outer (between ++ outer) d loc loc' r k far))

  lift_keeps : (t : Tree) (d : ℕ) (loc loc' : List Value) → Inside outer (between ++ outer) d loc loc'
      → value_in w env loc' (walk (raised (length between)) as_free d t) ≡ value_in w env loc t
  lift_keeps = keeps w env env (raised (length between)) as_free (Inside outer (between ++ outer)) (under outer (between ++ outer))
      raised_keeps (λ d loc loc' n r. refl)

-- a term that is lifted over the binders whose values stand between
pub lifted_value : (w : World) (env : List Value) (between outer : List Value) (by : ℕ) → length between ≡ by → (t : Tree)
    → value_in w env (between ++ outer) (lifted by t) ≡ value_in w env outer t
lifted_value w env between outer by e t =
    subst (λ (n : ℕ). value_in w env (between ++ outer) (lifted n t) ≡ value_in w env outer t) e
    (lift_keeps w env between outer t 0 outer (between ++ outer) (at_root outer (between ++ outer)))

-- Substitution: a free variable has the value of its term outside the binders.
module _ (w : World) (env' : List Value) (us : List Tree) (outer : List Value) where
  abbrev given_values : List Value
  given_values = map (value_in w env' outer) us

  numbered_map : (n : ℕ) → numbered given_values n ≡ option_map (value_in w env' outer) (numbered us n)
  numbered_map zero = refl
  numbered_map (suc n) = slice_get-map (value_in w env' outer) us n

  lifted_option : (inner : List Value) (d : ℕ) → length inner ≡ d → (o : Option Tree)
      → value_in w env' (inner ++ outer) (option_map_or (lifted d) o (truth false)) ≡ unwrap_or (option_map (value_in w env' outer) o) wrong
  lifted_option inner d e None = refl
  lifted_option inner d e (Some u) = lifted_value w env' inner outer d e u

  given_keeps : (d : ℕ) (loc loc' : List Value) (n : ℕ) → Inside outer outer d loc loc'
      → value_in w env' loc' (given us d n) ≡ value_in w given_values loc (free n)
  given_keeps d loc loc' n r =
      ap (λ l. value_in w env' l (given us d n)) r.there ∙ lifted_option r.inner d r.count (numbered us n)
      ∙ ap (λ o. unwrap_or o wrong) (sym (numbered_map n))

  same_bound : (d : ℕ) (loc loc' : List Value) (k : ℕ) → Inside outer outer d loc loc' → value_in w env' loc' (as_bound d k) ≡ value_in w given_values loc (bound k)
  same_bound d loc loc' k r = ap (λ l. at l k) (r.there ∙ sym r.here)

  pub substituted_value : (t : Tree) → value_in w env' outer (substituted us t) ≡ value_in w given_values outer t
  substituted_value t = keeps w given_values env' as_bound (given us) (Inside outer outer) (under outer outer) same_bound given_keeps t 0 outer outer (at_root outer outer)

-- Instantiation: the loose bound variables of the body have the values of the terms, the last one innermost.
module _ (w : World) (env : List Value) (us : List Tree) (outer : List Value) where
  abbrev filled_values : List Value
  filled_values = reverse (map (value_in w env outer) us)

  filled_at : (k : ℕ) → slice_get filled_values k ≡ option_map (value_in w env outer) (slice_get (reverse us) k)
  filled_at k = ap (λ l. slice_get l k) (sym (map-reverse (value_in w env outer) us)) ∙ slice_get-map (value_in w env outer) (reverse us) k

  filled_count : length filled_values ≡ length us
  filled_count = length-reverse (map (value_in w env outer) us) ∙ length-map us (value_in w env outer)

  -- what stands for a variable beyond the binders that were passed
  beyond_filled : (inner : List Value) (d : ℕ) → length inner ≡ d → (k : ℕ) → d ≤ k → (o : Option Tree) → slice_get (reverse us) (k - d) ≡ o
      → value_in w env (inner ++ outer) (option_map_or (lifted d) o (bound (k - length us))) ≡ at (filled_values ++ outer) (k - d)
  beyond_filled inner d e k far (Some u) here =
      let within : k - d < length filled_values = omega (arith, slice_get_within (reverse us) (k - d) u here, length-reverse us, filled_count) in
      lifted_value w env inner outer d e u
      ∙ sym (ap (λ o. unwrap_or o wrong) (get_left filled_values outer (k - d) within ∙ filled_at (k - d) ∙ ap (option_map (value_in w env outer)) here))
  beyond_filled inner d e k far None here =
      let past : length us ≤ k - d = past_end here in
      let low : length inner ≤ k - length us = omega (arith, e) in
      let same : k - length us - length inner ≡ k - d - length filled_values = omega (arith, e, filled_count) in
      ap (λ o. unwrap_or o wrong)
      (get_past inner outer (k - length us) low ∙ ap (slice_get outer) same ∙ sym (get_past filled_values outer (k - d) (omega (arith, filled_count))))
    where
      past_end : slice_get (reverse us) (k - d) ≡ None → length us ≤ k - d
      past_end h = omega (arith, none_past (reverse us) (k - d) h, length-reverse us)

  filled_keeps : (d : ℕ) (loc loc' : List Value) (k : ℕ) → Inside (filled_values ++ outer) outer d loc loc'
      → value_in w env loc' (filled us d k) ≡ value_in w env loc (bound k)
  filled_keeps d loc loc' k r =
      pick (value_in w env loc') (nat_lt k d) (bound k) (option_map_or (lifted d) (slice_get (reverse us) (k - d)) (bound (k - length us))) (at loc k)
      (λ e. inside (filled_values ++ outer) outer d loc loc' r k (ltb-true k d e))
      (λ e. ap (λ l. value_in w env l (option_map_or (lifted d) (slice_get (reverse us) (k - d)) (bound (k - length us)))) r.there
      ∙ beyond_filled r.inner d r.count k (ltb-false k d e) (slice_get (reverse us) (k - d)) refl
      ∙ sym (beyond (filled_values ++ outer) outer d loc loc' r k (ltb-false k d e)))

  pub instantiated_value : (t : Tree) → value_in w env outer (instantiated us t) ≡ value_in w env (filled_values ++ outer) t
  instantiated_value t =
      keeps w env env (filled us) as_free (Inside (filled_values ++ outer) outer) (under (filled_values ++ outer) outer) filled_keeps (λ d loc loc' n r. refl)
      t 0 (filled_values ++ outer) outer (at_root (filled_values ++ outer) outer)

-- Abstraction: the innermost loose bound variable has the value of `?n`, and the other free variables have the values that they have.
module _ (w : World) (env env' : List Value) (n : ℕ) (v : Value) (outer : List Value)
    (here : numbered env n ≡ Some v) (others : (m : ℕ) → m ≢ n → numbered env' m ≡ numbered env m) where
  bound_keeps : (d : ℕ) (loc loc' : List Value) (k : ℕ) → Inside outer (v ∷ outer) d loc loc' → value_in w env' loc' (raised 1 d k) ≡ at loc k
  bound_keeps d loc loc' k r = raised_keeps w env' (v ∷ []) outer d loc loc' k r

  named_keeps : (d : ℕ) (loc loc' : List Value) (m : ℕ) → Inside outer (v ∷ outer) d loc loc'
      → value_in w env' loc' (bound_for n d m) ≡ value_in w env loc (free m)
  named_keeps d loc loc' m r =
      let same : d - d ≡ 0 = omega arith in
      pick (value_in w env' loc') (nat_eq m n) (bound d) (free m) (value_in w env loc (free m))
      (λ e. beyond' outer (v ∷ outer) d loc loc' r d (omega arith) ∙ ap (at (v ∷ outer)) same
      ∙ sym (ap (λ o. unwrap_or o wrong) (ap (numbered env) (eqb-true m n e) ∙ here)))
      (λ e. ap (λ o. unwrap_or o wrong) (others m (eqb-false m n e)))

  pub abstracted_value : (t : Tree) → value_in w env' (v ∷ outer) (abstracted n t) ≡ value_in w env outer t
  abstracted_value t =
      keeps w env env' (raised 1) (bound_for n) (Inside outer (v ∷ outer)) (under outer (v ∷ outer)) bound_keeps named_keeps
      t 0 outer (v ∷ outer) (at_root outer (v ∷ outer))

-- The same of formulas.
module _ (th : Theory) (tb : Table) (env outer : List Value) (us : List Tree) where
  abbrev read : Tree → Value
  read = value_in (world th tb) env outer

  pub substituted_truth : (f : Formula) → Holds th tb env outer (substituted_formula us f) ≡ Holds th tb (map read us) outer f
  substituted_truth f =
      keeps_truth th tb (map read us) env as_bound (given us) (Inside outer outer) (under outer outer)
      (same_bound (world th tb) env us outer) (given_keeps (world th tb) env us outer) f 0 outer outer (at_root outer outer)

  pub instantiated_truth : (f : Formula) → Holds th tb env outer (instantiated_formula us f) ≡ Holds th tb env (reverse (map read us) ++ outer) f
  instantiated_truth f =
      keeps_truth th tb env env (filled us) as_free (Inside (reverse (map read us) ++ outer) outer) (under (reverse (map read us) ++ outer) outer)
      (filled_keeps (world th tb) env us outer) (λ d loc loc' n r. refl) f 0 (reverse (map read us) ++ outer) outer (at_root (reverse (map read us) ++ outer) outer)

pub abstracted_truth : (th : Theory) (tb : Table) (env env' : List Value) (n : ℕ) (v : Value) (outer : List Value) → numbered env n ≡ Some v
    → ((m : ℕ) → m ≢ n → numbered env' m ≡ numbered env m) → (f : Formula)
    → Holds th tb env' (v ∷ outer) (abstracted_formula n f) ≡ Holds th tb env outer f
abstracted_truth th tb env env' n v outer here others f =
    keeps_truth th tb env env' (raised 1) (bound_for n) (Inside outer (v ∷ outer)) (under outer (v ∷ outer))
    (bound_keeps (world th tb) env env' n v outer here others) (named_keeps (world th tb) env env' n v outer here others)
    f 0 outer (v ∷ outer) (at_root outer (v ∷ outer))
