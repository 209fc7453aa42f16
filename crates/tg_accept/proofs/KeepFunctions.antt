-- What a function without a fault is: its calls are lower.
use Rattle.std.proofs.Common.{ℕ, zero, suc, ◌≡◌, ◌<◌, ◌≤◌, ◌+◌, Bool, true, false, not, nat_eq, List, [], ◌∷◌, ◌++◌, reverse, length, Option, Some, None, refl, sym, ◌∙◌, ap, subst, inl, inr, arith, ◌-◌}
use Rattle.std.specs.Prelude.{slice_get, unwrap_or}
use Rattle.std.specs.Prelude.{nat_lt}
use Rattle.std.proofs.lemmas.Bool.{ltb-true}
use Rattle.std.specs.Option.{option_map_or}
use Rattle.std.specs.List.{list_any}
use Rattle.std.proofs.lemmas.Option.{slice_get_within}
use Rattle.std.proofs.lemmas.Bool.Decides.{eqb_tells}
use Rattle.tg_model.specs.Tree as tree
use Rattle.tg_model.specs.Tree.{Tree, Trees, Arms, bound, free, literal, truth, con, call, put, choice, case, bind, op, elements}
use Rattle.tg_model.specs.Types.{Ty}
use Rattle.tg_model.specs.Theory.{Theory, Function, numbered}
use Rattle.tg_model.specs.TermTyping.{Typing, Typings, ArmTypings, instanced, compound, branching, binding, none, more, arm, constructor_arguments, IsTyping, AreTypings, AreArmTypings, EachCall, EachCalls, EachCallOf}
use Rattle.tg_model.specs.WellTyped.{IsLower}
use Rattle.tg_model.specs.Calls.{has_call}
use Rattle.tg_model.specs.Accepted.{HaveNoCall}
use Rattle.tg_model.proofs.Booleans.{and_left, and_right, or_cases, or_left_false, or_right_false}
use Rattle.tg_accept.specs.Faults.{each_call, each_calls, each_call_of, is_smaller, is_lower_use}
use Rattle.tg_accept.proofs.KeepDatatypes.{not_true}

-- a typed term calls declared functions alone
module _ (th : Theory) (vars : List Ty) where
  abbrev pub IsDeclared : ℕ → Trees → Type 0
  IsDeclared f ts = (0 < f) × (f ≤ length th.functions)

  declared : (f : ℕ) (x : Function) → numbered th.functions f ≡ Some x → (0 < f) × (f ≤ length th.functions)
  declared zero x e = cc e
  declared (suc f) x e = let h = slice_get_within th.functions f x e in (omega arith, omega (arith, h))

  mutual
    pub calls_declared : (t : Tree) (d : Typing) (locs : List Ty) → IsTyping th vars locs t d → EachCall IsDeclared t
    calls_declared (bound k) d locs h = tt
    calls_declared (free n) d locs h = tt
    calls_declared (literal n) d locs h = tt
    calls_declared (truth b) d locs h = tt
    calls_declared (con c ts) (instanced us t ds) locs (o, is, n, q, args, each) = all_declared ts ds locs each
    calls_declared (call f ts) (instanced us t ds) locs (x, is, n, q, args, each) = (declared f x is, all_declared ts ds locs each)
    calls_declared (put ts) (compound t ds) locs (q, args, each) = all_declared ts ds locs each
    calls_declared (choice ts) (compound t ds) locs (args, each) = all_declared ts ds locs each
    calls_declared (op o ts) (compound t ds) locs (is, each) = all_declared ts ds locs each
    calls_declared (bind t body) (binding u v d e) locs (h, q, b, s) = (calls_declared t d locs h, calls_declared body e (u ∷ locs) b)
    calls_declared (case n t arms) (branching us u d ds) locs (is, e, h, each) =
        (calls_declared t d locs h, arms_declared arms (constructor_arguments th n us) ds u locs each)
    calls_declared t d locs h = absurd h

    all_declared : (ts : Trees) (ds : Typings) (locs : List Ty) → AreTypings th vars locs ts ds → EachCalls IsDeclared ts
    all_declared tree.none ds locs h = tt
    all_declared (tree.more t ts) none locs h = absurd h
    all_declared (tree.more t ts) (more d ds) locs h = (calls_declared t d locs h.0, all_declared ts ds locs h.1)

    arms_declared : (arms : Arms) (args : List (List Ty)) (ds : ArmTypings) (u : Ty) (locs : List Ty) → AreArmTypings th vars locs u arms args ds
        → EachCallOf IsDeclared arms
    arms_declared tree.end args ds u locs h = tt
    arms_declared (tree.arm n body arms) (ts ∷ rest) (arm us d ds) u locs (count, e, h, q, others) =
        (calls_declared body d (reverse ts ++ locs) h, arms_declared arms rest ds u locs others)
    arms_declared (tree.arm n body arms) args ds u locs h = absurd h

-- what each call passes, each call passes
module _ (P Q : ℕ → Trees → Type 0) (to : (f : ℕ) (ts : Trees) → P f ts → Q f ts) where
  mutual
    pub every_call : (t : Tree) → EachCall P t → EachCall Q t
    every_call (bound k) h = tt
    every_call (free n) h = tt
    every_call (literal n) h = tt
    every_call (truth b) h = tt
    every_call (con c ts) h = every_calls ts h
    every_call (call f ts) h = (to f ts h.0, every_calls ts h.1)
    every_call (put ts) h = every_calls ts h
    every_call (choice ts) h = every_calls ts h
    every_call (op o ts) h = every_calls ts h
    every_call (bind t body) h = (every_call t h.0, every_call body h.1)
    every_call (case n t arms) h = (every_call t h.0, every_call_of arms h.1)

    every_calls : (ts : Trees) → EachCalls P ts → EachCalls Q ts
    every_calls tree.none h = tt
    every_calls (tree.more t ts) h = (every_call t h.0, every_calls ts h.1)

    every_call_of : (arms : Arms) → EachCallOf P arms → EachCallOf Q arms
    every_call_of tree.end h = tt
    every_call_of (tree.arm n body arms) h = (every_call body h.0, every_call_of arms h.1)

-- a test that each call passes, beside what each call has
module _ (test : ℕ → Trees → Bool) (P : ℕ → Trees → Type 0) where
  abbrev pub Both : ℕ → Trees → Type 0
  Both f ts = P f ts × (test f ts ≡ true)

  mutual
    pub tested_calls : (t : Tree) → EachCall P t → each_call test t ≡ true → EachCall Both t
    tested_calls (bound k) h e = tt
    tested_calls (free n) h e = tt
    tested_calls (literal n) h e = tt
    tested_calls (truth b) h e = tt
    tested_calls (con c ts) h e = all_tested ts h e
    tested_calls (call f ts) h e =
        ((h.0, and_left (test f ts) (each_calls test ts) e), all_tested ts h.1 (and_right (test f ts) (each_calls test ts) e))
    tested_calls (put ts) h e = all_tested ts h e
    tested_calls (choice ts) h e = all_tested ts h e
    tested_calls (op o ts) h e = all_tested ts h e
    tested_calls (bind t body) h e =
        (tested_calls t h.0 (and_left (each_call test t) (each_call test body) e), tested_calls body h.1 (and_right (each_call test t) (each_call test body) e))
    tested_calls (case n t arms) h e =
        (tested_calls t h.0 (and_left (each_call test t) (each_call_of test arms) e), arms_tested arms h.1 (and_right (each_call test t) (each_call_of test arms) e))

    all_tested : (ts : Trees) → EachCalls P ts → each_calls test ts ≡ true → EachCalls Both ts
    all_tested tree.none h e = tt
    all_tested (tree.more t ts) h e =
        (tested_calls t h.0 (and_left (each_call test t) (each_calls test ts) e), all_tested ts h.1 (and_right (each_call test t) (each_calls test ts) e))

    arms_tested : (arms : Arms) → EachCallOf P arms → each_call_of test arms ≡ true → EachCallOf Both arms
    arms_tested tree.end h e = tt
    arms_tested (tree.arm n body arms) h e =
        (tested_calls body h.0 (and_left (each_call test body) (each_call_of test arms) e), arms_tested arms h.1 (and_right (each_call test body) (each_call_of test arms) e))

-- a variable that stands for a recursive argument is one of the constructor's
smaller : (start : ℕ) (flags : List Bool) (t : Tree) → is_smaller start flags t ≡ true
    → (i : ℕ) × (i < length flags) × (t ≡ free (suc (start + i)))
smaller start flags (free n) e = by (slice_get flags (n - (start + 1))) refl
  where
    after : start < n
    after = ltb-true start n (and_left (nat_lt start n) (unwrap_or (slice_get flags (n - (start + 1))) false) e)

    by : (o : Option Bool) → slice_get flags (n - (start + 1)) ≡ o → (i : ℕ) × (i < length flags) × (free n ≡ free (suc (start + i)))
    by None q =
        let x : false ≡ true = sym (ap (λ o. unwrap_or o false) q) ∙ and_right (nat_lt start n) (unwrap_or (slice_get flags (n - (start + 1))) false) e in cc x
    by (Some b) q =
        let low = after in
        (n - (start + 1), slice_get_within flags (n - (start + 1)) b q, ap free (let z : n ≡ suc (start + (n - (start + 1))) = omega (arith, low) in z))
smaller start flags t e = cc e

lower_here : (place start : ℕ) (flags : List Bool) (o : Option Tree) → option_map_or (is_smaller start flags) o false ≡ true
    → (i : ℕ) × (i < length flags) × (o ≡ Some (free (suc (start + i))))
lower_here place start flags None e = cc e
lower_here place start flags (Some t) e = let p = smaller start flags t e in (p.0, p.1, ap Some p.2)

pub lower_call : (self place start count : ℕ) (flags : List Bool) → length flags ≡ count → (f : ℕ) (ts : Trees) → f ≤ self
    → is_lower_use self place start flags f ts ≡ true → IsLower self place start count f ts
lower_call self place start count flags many f ts below e = elim (eqb_tells f self) [
  | inl p ↦
      let own : option_map_or (is_smaller start flags) (numbered (elements ts) place) false ≡ true = elim (or_cases (not (nat_eq f self)) (option_map_or (is_smaller start flags) (numbered (elements ts) place) false) e) [
        | inl q ↦ absurd (let x : true ≡ false = sym p.0 ∙ not_true (nat_eq f self) q in cc x)
        | inr q ↦ q
      ] in
      let found = lower_here place start flags (numbered (elements ts) place) own in
      inr (p.1, (found.0, subst (λ n. found.0 < n) many found.1, found.2))
  | inr p ↦ let far : ¬ (f ≡ self) = p.1 in inl (omega (arith, far, below))
]

pub no_calls : (ts : List Tree) → list_any has_call ts ≡ false → HaveNoCall ts
no_calls [] e = tt
no_calls (t ∷ ts) e = (or_left_false (has_call t) (list_any has_call ts) e, no_calls ts (or_right_false (has_call t) (list_any has_call ts) e))
