-- A call unfolds to the function's body: neither the number that bounds a recursion nor that of the functions below shows.
use Rattle.std.proofs.Common.{ℕ, zero, suc, ◌≡◌, ◌<◌, Bool, true, false, List, length, Option, Some, refl, ◌∙◌, ap, nat_eq, nat_lt, inl, inr, arith, if◌then◌else◌}
use Rattle.std.specs.Option.{option_map_or}
use Rattle.std.proofs.Math.Path.{fun_ext}
use Rattle.std.proofs.lemmas.Bool.{ltb-true}
use Rattle.std.proofs.lemmas.Bool.Decides.{eqb_tells}
use Rattle.tg_model.specs.Value.{Value, size, wrong}
use Rattle.tg_model.specs.Theory.{Theory, Function, numbered}
use Rattle.tg_model.specs.Table.{Table}
use Rattle.tg_model.specs.Denotation.{World, Recursion, with_calls, place_of, lower_calls, case_value, recursive_value, body_value, world_below}
use Rattle.tg_model.specs.Laws.{recursion, UnfoldsRecursion, UnfoldsCalls}
use Rattle.tg_model.proofs.Booleans.{if_true, if_false}

if_same : (x y z : Value) (b : Bool) → (b ≡ true → x ≡ y) → (if b then x else z) ≡ (if b then y else z)
if_same x y z true h = h refl
if_same x y z false h = refl

module _ (w : World) (r : Recursion) where
  -- the world in which a call at `vs` reads its body, its own calls being `own`
  abbrev within : (List Value → Value) → List Value → World
  within own vs = with_calls w (lower_calls r own w.calls vs)

  lower_same : (own own' : List Value → Value) (vs : List Value)
      → ((ws : List Value) → size (place_of ws r.place) < size (place_of vs r.place) → own ws ≡ own' ws)
      → case_value (within own vs) r vs ≡ case_value (within own' vs) r vs
  lower_same own own' vs h =
      let calls_same : lower_calls r own w.calls vs ≡ lower_calls r own' w.calls vs =
      fun_ext (λ f. fun_ext (λ ws. if_same _ _ _ (nat_eq f r.self) (λ _.
      if_same _ _ _ (nat_lt (size (place_of ws r.place)) (size (place_of vs r.place))) (λ e. h ws (ltb-true _ _ e))))) in
      ap (λ (c : ℕ → List Value → Value). case_value (with_calls w c) r vs) calls_same

  -- any two numbers above the size of the argument give one value
  enough : (n m : ℕ) (vs : List Value) → size (place_of vs r.place) < n → size (place_of vs r.place) < m
      → recursive_value w r n vs ≡ recursive_value w r m vs
  enough zero m vs h k = absurd (omega arith)
  enough (suc n) zero vs h k = absurd (omega arith)
  enough (suc n) (suc m) vs h k =
      lower_same (recursive_value w r n) (recursive_value w r m) vs
      (λ ws l. enough n m ws (omega arith) (omega arith))

  pub unfolded : (vs : List Value) → recursion w r vs ≡ case_value (within (recursion w r) vs) r vs
  unfolded vs =
      lower_same (recursive_value w r (size (place_of vs r.place))) (recursion w r) vs
      (λ ws l. enough (size (place_of vs r.place)) (suc (size (place_of ws r.place))) ws l (omega arith))

pub unfolds_recursion : UnfoldsRecursion
unfolds_recursion w r vs = unfolded w r vs

module _ (th : Theory) (tb : Table) (n : ℕ) (x : Function) (vs : List Value) (declared : numbered th.functions (suc n) ≡ Some x) where
  abbrev meant : Value
  meant = body_value (world_below th tb n) (suc n) x x.body vs

  abbrev at_top : ℕ → Option Function → Value
  at_top m o = option_map_or (λ (y : Function). body_value (world_below th tb m) (suc n) y y.body vs) o wrong

  calls_below : (m : ℕ) → n < m → (world_below th tb m).calls (suc n) vs ≡ meant
  calls_below zero h = absurd (omega arith)
  calls_below (suc m) h =
      elim (eqb_tells (suc n) (suc m)) [
        | inl p ↦ if_true (at_top m (numbered th.functions (suc n))) ((world_below th tb m).calls (suc n) vs) (nat_eq (suc n) (suc m)) p.0
            ∙ (ap (at_top m) declared ∙ ap (λ k. body_value (world_below th tb k) (suc n) x x.body vs) (let e : m ≡ n = omega (arith, p.1) in e))
        | inr p ↦ if_false (at_top m (numbered th.functions (suc n))) ((world_below th tb m).calls (suc n) vs) (nat_eq (suc n) (suc m)) p.0
            ∙ calls_below m (omega (arith, p.1))
      ]

pub unfolds_calls : UnfoldsCalls
unfolds_calls th tb n x vs h declared = calls_below th tb n x vs declared (length th.functions) h
