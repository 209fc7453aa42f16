-- What a term depends on in a table: nothing without program calls, and one answer where they all have the same inputs.
use Rattle.std.proofs.Common.{ℕ, zero, suc, ◌≡◌, Bool, false, List, [], ◌∷◌, ◌++◌, length, Option, Some, None, refl, sym, ◌∙◌, ap, nat_eq, nat_lt, if◌then◌else◌}
use Rattle.std.specs.Prelude.{slice_get}
use Rattle.std.specs.Option.{option_map_or}
use Rattle.tg_model.specs.Tree.{Tree}
use Rattle.tg_model.specs.Value.{Value, wrong, size}
use Rattle.tg_model.specs.Theory.{Theory, Function, Body, plain, recursive, numbered}
use Rattle.tg_model.specs.Table.{Table, answer_of}
use Rattle.tg_model.specs.Denotation.{World, Recursion, recursion_of, with_calls, value_in, values_in, opened, place_of, others, lower_calls, case_value, recursive_value, body_value, world_below, world, den}
use Rattle.tg_model.specs.Accepted.{IsAccepted, HaveNoCall, bodies}
use Rattle.tg_model.specs.Calls.{has_call}
use Rattle.tg_model.specs.CallLaws.{NeedsNoTable, NeedsOneAnswer}
use Rattle.tg_model.proofs.TheorySoundness.{world_first, world_answers}
use Rattle.tg_model.proofs.Agreement.{each_call, no_put, agree}

if_both : (b : Bool) (x x' y y' : Value) → x ≡ x' → y ≡ y' → (if b then x else y) ≡ (if b then x' else y')
if_both b x x' y y' p q = λ i. if b then p i else q i

-- two worlds with the same calls of functions, read by terms without program calls
module _ (w w' : World) (first : (d : ℕ) → w.first d ≡ w'.first d) (calls : (f : ℕ) (vs : List Value) → w.calls f vs ≡ w'.calls f vs) where
  read_alike : (env loc : List Value) (t : Tree) → has_call t ≡ false → value_in w env loc t ≡ value_in w' env loc t
  read_alike env loc t h =
      agree w w' env first (λ f ts. Unit {0}) (λ l f ts u. calls f (values_in w env l ts)) (λ ts. ⊥) (λ l ts u. absurd u) t loc
      (each_call (λ f ts. Unit {0}) (λ f ts. tt) t) (no_put (λ ts. ⊥) t h)

  cases_alike : (env : List Value) (cases : List Tree) (k : ℕ) → HaveNoCall cases
      → option_map_or (λ t. value_in w env [] t) (slice_get cases k) wrong ≡ option_map_or (λ t. value_in w' env [] t) (slice_get cases k) wrong
  cases_alike env [] k h = refl
  cases_alike env (t ∷ ts) zero h = read_alike env [] t h.0
  cases_alike env (t ∷ ts) (suc k) h = cases_alike env ts k h.1

  opened_alike : (r : Recursion) (vs : List Value) (o : Option (ℕ × List Value)) → HaveNoCall r.cases
      → option_map_or (λ (p : ℕ × List Value). option_map_or (λ t. value_in w (others vs r.place ++ p.1) [] t) (slice_get r.cases p.0) wrong) o wrong
      ≡ option_map_or (λ (p : ℕ × List Value). option_map_or (λ t. value_in w' (others vs r.place ++ p.1) [] t) (slice_get r.cases p.0) wrong) o wrong
  opened_alike r vs None h = refl
  opened_alike r vs (Some p) h = cases_alike (others vs r.place ++ p.1) r.cases p.0 h

  case_alike : (r : Recursion) (vs : List Value) → HaveNoCall r.cases → case_value w r vs ≡ case_value w' r vs
  case_alike r vs h =
      opened_alike r vs (opened r.datatype (w.first r.datatype) (place_of vs r.place)) h
      ∙ ap (λ c. option_map_or (λ (p : ℕ × List Value). option_map_or (λ t. value_in w' (others vs r.place ++ p.1) [] t) (slice_get r.cases p.0) wrong)
      (opened r.datatype c (place_of vs r.place)) wrong) (first r.datatype)

module _ (w w' : World) (first : (d : ℕ) → w.first d ≡ w'.first d) (calls : (f : ℕ) (vs : List Value) → w.calls f vs ≡ w'.calls f vs) where
  recursion_alike : (r : Recursion) → HaveNoCall r.cases → (m : ℕ) (vs : List Value) → recursive_value w r m vs ≡ recursive_value w' r m vs
  recursion_alike r h zero vs = refl
  recursion_alike r h (suc m) vs =
      case_alike (with_calls w (lower_calls r (recursive_value w r m) w.calls vs)) (with_calls w' (lower_calls r (recursive_value w' r m) w'.calls vs)) first
      (λ f ws. if_both (nat_eq f r.self) _ _ _ _
      (if_both (nat_lt (size (place_of ws r.place)) (size (place_of vs r.place))) _ _ _ _ (recursion_alike r h m ws) refl) (calls f ws)) r vs h

  body_alike : (self : ℕ) (x : Function) (b : Body) (vs : List Value) → HaveNoCall (bodies b) → body_value w self x b vs ≡ body_value w' self x b vs
  body_alike self x (plain t) vs h = read_alike w w' first calls vs [] t h.0
  body_alike self x (recursive place cases) vs h = recursion_alike (recursion_of self x place cases) h (suc (size (place_of vs place))) vs

module _ (th : Theory) (accepted : IsAccepted th) (tb tb' : Table) where
  same_first : (n d : ℕ) → (world_below th tb n).first d ≡ (world_below th tb' n).first d
  same_first n d = world_first th tb n d ∙ sym (world_first th tb' n d)

  declared_alike : (n : ℕ) → ((f : ℕ) (vs : List Value) → (world_below th tb n).calls f vs ≡ (world_below th tb' n).calls f vs)
      → (f : ℕ) (vs : List Value) (o : Option Function) → numbered th.functions f ≡ o
      → option_map_or (λ (x : Function). body_value (world_below th tb n) f x x.body vs) o wrong
      ≡ option_map_or (λ (x : Function). body_value (world_below th tb' n) f x x.body vs) o wrong
  declared_alike n calls f vs None is = refl
  declared_alike n calls f vs (Some x) is =
      body_alike (world_below th tb n) (world_below th tb' n) (same_first n) calls f x x.body vs ((accepted.functions f x is).no_call)

  calls_alike : (n f : ℕ) (vs : List Value) → (world_below th tb n).calls f vs ≡ (world_below th tb' n).calls f vs
  calls_alike zero f vs = refl
  calls_alike (suc n) f vs =
      if_both (nat_eq f (suc n)) _ _ _ _ (declared_alike n (calls_alike n) f vs (numbered th.functions f) refl) (calls_alike n f vs)

  no_table : (env loc : List Value) (t : Tree) → has_call t ≡ false → den th tb env loc t ≡ den th tb' env loc t
  no_table env loc t h =
      read_alike (world th tb) (world th tb') (same_first (length th.functions)) (calls_alike (length th.functions)) env loc t h

pub needs_no_table : NeedsNoTable
needs_no_table th accepted tb tb' env loc t h = no_table th accepted tb tb' env loc t h

pub needs_one_answer : NeedsOneAnswer
needs_one_answer th accepted tb tb' env loc t d each alike =
    let n = length th.functions in
    agree (world th tb) (world th tb') env (same_first th accepted tb tb' n) (λ f ts. Unit {0})
    (λ l f ts u. calls_alike th accepted tb tb' n f (values_in (world th tb) env l ts))
    (λ ts. (l : List Value) → values_in (world th tb) env l ts ≡ d)
    (λ l ts h. world_answers th tb n _ ∙ (ap (answer_of th tb) (h l) ∙ (alike ∙ (sym (ap (answer_of th tb') (h l)) ∙ sym (world_answers th tb' n _)))))
    t loc (each_call (λ f ts. Unit {0}) (λ f ts. tt) t) each
