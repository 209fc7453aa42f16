-- A call of a declared function has its body's value in the world of all functions.
use Rattle.std.proofs.Common.{ℕ, zero, suc, ◌≡◌, ◌<◌, ◌≤◌, ◌+◌, List, [], ◌++◌, length, Option, Some, sym, ◌∙◌, ap, inl, inr, nat_eq, nat_lt, if◌then◌else◌, subst, arith}
use Rattle.std.specs.Prelude.{slice_get, unwrap_or, option_map}
use Rattle.std.specs.Option.{option_map_or}
use Rattle.std.proofs.lemmas.Bool.{eq-eqb, ne_eqb, lt-ltb}
use Rattle.std.proofs.lemmas.Bool.Decides.{eqb_tells}
use Rattle.std.proofs.lemmas.Option.{slice_get_within}
use Rattle.tg_model.specs.Tree.{Tree, Trees}
use Rattle.tg_model.specs.Value.{Value, wrong, size}
use Rattle.tg_model.specs.Theory.{Theory, Function, recursive, numbered, first_constructor}
use Rattle.tg_model.specs.Table.{Table}
use Rattle.tg_model.specs.Denotation.{World, Recursion, recursion_of, datatype_of_place, with_calls, value_in, values_in, opened, place_of, others, lower_calls, body_value, world_below, world}
use Rattle.tg_model.specs.TermTyping.{EachCall}
use Rattle.tg_model.specs.WellTyped.{IsLower}
use Rattle.tg_model.specs.Laws.{recursion}
use Rattle.tg_model.specs.CallLaws.{DefinitionsAreBodies, RecursionsAreBodies}
use Rattle.tg_model.proofs.Booleans.{if_true, if_false}
use Rattle.tg_model.proofs.Places.{get_right, get_within}
use Rattle.tg_model.proofs.Recursion.{unfolded, unfolds_calls}
use Rattle.tg_model.proofs.TheorySoundness.{world_first, world_answers, smaller, listed_value}
use Rattle.tg_model.proofs.Agreement.{each_put, agree}

module _ (th : Theory) (tb : Table) where
  -- a function has one value in each world above it
  pub settled_at : (n m f : ℕ) (vs : List Value) → f ≤ n → n ≤ m → (world_below th tb m).calls f vs ≡ (world_below th tb n).calls f vs
  settled_at n zero f vs h low = let e : 0 ≡ n = omega arith in ap (λ k. (world_below th tb k).calls f vs) e
  settled_at n (suc m) f vs h low =
      elim (eqb_tells n (suc m)) [
        | inl p ↦ ap (λ k. (world_below th tb k).calls f vs) (sym p.1)
        | inr p ↦ if_false _ ((world_below th tb m).calls f vs) (nat_eq f (suc m)) (ne_eqb f (suc m) (λ e. omega (arith, p.1)))
            ∙ settled_at n m f vs h (omega (arith, p.1))
      ]

  -- a term that calls functions up to `n` alone is read alike in the worlds from `n` on
  pub settled_value : (n : ℕ) (env loc : List Value) (t : Tree) → n ≤ length th.functions → EachCall (λ f ts. f < suc n) t
      → value_in (world_below th tb n) env loc t ≡ value_in (world th tb) env loc t
  settled_value n env loc t low each =
      agree (world_below th tb n) (world th tb) env (λ d. world_first th tb n d ∙ sym (world_first th tb (length th.functions) d))
      (λ f ts. f < suc n) (λ l f ts h. sym (settled_at n (length th.functions) f (values_in (world_below th tb n) env l ts) (omega arith) low))
      (λ ts. Unit {0}) (λ l ts h. world_answers th tb n _ ∙ sym (world_answers th tb (length th.functions) _)) t loc each (each_put (λ ts. Unit {0}) (λ ts. tt) t)

pub definitions_are_bodies : DefinitionsAreBodies
definitions_are_bodies th tb n x t vs is body each =
    let low : n < length th.functions = slice_get_within th.functions n x is in
    unfolds_calls th tb n x vs low is ∙ (ap (λ b. body_value (world_below th tb n) (suc n) x b vs) body
    ∙ settled_value th tb n vs [] t (omega arith) each)

module _ (th : Theory) (tb : Table) (n : ℕ) (x : Function) (place : ℕ) (cases : List Tree) (vs : List Value)
    (is : numbered th.functions (suc n) ≡ Some x) (body : x.body ≡ recursive place cases) where
  abbrev below : World
  below = world_below th tb n

  abbrev r : Recursion
  r = recursion_of (suc n) x place cases

  abbrev d : ℕ
  d = datatype_of_place x place

  low : n < length th.functions
  low = slice_get_within th.functions n x is

  -- a call of the function itself, in the world of all functions
  own_call : (ws : List Value) → (world th tb).calls (suc n) ws ≡ recursion below r ws
  own_call ws = unfolds_calls th tb n x ws low is ∙ ap (λ b. body_value below (suc n) x b ws) body

  -- the world in which the body is read at `vs`
  abbrev inner : World
  inner = with_calls below (lower_calls r (recursion below r) below.calls vs)

  abbrev at_case : ℕ × List Value → Value
  at_case p = option_map_or (λ t. value_in inner (others vs place ++ p.1) [] t) (slice_get cases p.0) wrong

  module _ (k : ℕ) (parts : List Value) (t : Tree)
      (is_opened : opened d (first_constructor th.datatypes d) (place_of vs place) ≡ Some (k, parts))
      (found : slice_get cases k ≡ Some t) (each : EachCall (IsLower (suc n) place (length (others vs place)) (length parts)) t) where
    abbrev env : List Value
    env = others vs place ++ parts

    lower_call : (loc : List Value) (f : ℕ) (ts : Trees) → IsLower (suc n) place (length (others vs place)) (length parts) f ts
        → inner.calls f (values_in inner env loc ts) ≡ (world th tb).calls f (values_in inner env loc ts)
    lower_call loc f ts (inl earlier) =
        let ws = values_in inner env loc ts in
        if_false _ (below.calls f ws) (nat_eq f (suc n)) (ne_eqb f (suc n) (λ e. omega arith))
        ∙ sym (settled_at th tb n (length th.functions) f ws (omega arith) (omega (arith, low)))
    lower_call loc f ts (inr (e, (i, within, variable))) =
        let ws = values_in inner env loc ts in
        let part = get_within parts i within in
        let swap : length (others vs place) + i ≡ i + length (others vs place) = omega arith in
        let there : slice_get env (length (others vs place) + i) ≡ Some part.0 =
        ap (slice_get env) swap ∙ (get_right (others vs place) parts i ∙ part.1) in
        let argument : place_of ws place ≡ part.0 =
        ap (λ (o : Option Value). unwrap_or o wrong) (listed_value inner env loc ts place ∙ ap (option_map (value_in inner env loc)) variable)
        ∙ ap (λ (o : Option Value). unwrap_or o wrong) there in
        let falls : size (place_of ws place) < size (place_of vs place) =
        subst (λ (v : Value). size v < size (place_of vs place)) (sym argument)
        (smaller d (first_constructor th.datatypes d) (place_of vs place) k parts is_opened i part.0 part.1) in
        if_true (if nat_lt (size (place_of ws place)) (size (place_of vs place)) then recursion below r ws else wrong) (below.calls f ws)
        (nat_eq f (suc n)) (eq-eqb f (suc n) e)
        ∙ (if_true (recursion below r ws) wrong (nat_lt (size (place_of ws place)) (size (place_of vs place))) (lt-ltb _ _ falls)
        ∙ (sym (own_call ws) ∙ ap (λ g. (world th tb).calls g ws) (sym e)))

    pub recursion_is_body : (world th tb).calls (suc n) vs ≡ value_in (world th tb) env [] t
    recursion_is_body =
        own_call vs ∙ (unfolded below r vs
        ∙ (ap (λ c. option_map_or at_case (opened d c (place_of vs place)) wrong) (world_first th tb n d)
        ∙ (ap (λ (o : Option (ℕ × List Value)). option_map_or at_case o wrong) is_opened
        ∙ (ap (λ (o : Option Tree). option_map_or (λ u. value_in inner env [] u) o wrong) found
        ∙ agree inner (world th tb) env (λ e. world_first th tb n e ∙ sym (world_first th tb (length th.functions) e))
        (IsLower (suc n) place (length (others vs place)) (length parts)) lower_call
        (λ ts. Unit {0}) (λ l ts h. world_answers th tb n _ ∙ sym (world_answers th tb (length th.functions) _)) t [] each (each_put (λ ts. Unit {0}) (λ ts. tt) t)))))

pub recursions_are_bodies : RecursionsAreBodies
recursions_are_bodies th tb n x place cases vs is body k parts t is_opened found each =
    recursion_is_body th tb n x place cases vs is body k parts t is_opened found each
