-- Where a function is typed and written as it should be, its body is shaped, and calls no program, exactly where its equations are
-- and don't.
use Rattle.std.proofs.Common.{ℕ, zero, suc, ◌≡◌, ◌≤◌, ◌+◌, Bool, true, false, List, [], ◌∷◌, ◌++◌, map, length, Some, None, refl, sym, ◌∙◌, ap, subst, arith}
use Rattle.std.specs.Prelude.{◌↔◌, slice_get, take, drop}
use Rattle.std.specs.Option.{option_map_or}
use Rattle.std.specs.List.{list_any}
use Rattle.tg_model.specs.Tree.{Trees}
use Rattle.tg_model.specs.Types.{Ty, tys}
use Rattle.tg_model.specs.Theory.{Theory, Function, plain, numbered, datatype_of}
use Rattle.tg_model.specs.Denotation.{others}
use Rattle.tg_model.specs.TermTyping.{IsDatatype, datatype_at}
use Rattle.tg_model.specs.WellTyped.{AreBefore}
use Rattle.tg_model.specs.Calls.{has_call}
use Rattle.tg_model.specs.Accepted.{bodies}
use Rattle.tg_model.proofs.Booleans.{and_left, and_right, or_left_false, or_right_false}
use Rattle.tg_accept.specs.Declared.{Declared, theory}
use Rattle.tg_accept.specs.Faults.{each_call, is_lower_use, recursive_arguments, are_cases_shaped, is_body_shaped}
use Rattle.tg_accept.specs.Resolved.{Head, Resolved, Resolveds, calls_program}
use Rattle.tg_accept.specs.Core.{core, cores, heads_of}
use Rattle.tg_accept.specs.Checks.{Each}
use Rattle.tg_accept.specs.Typings.{HasTyping}
use Rattle.tg_accept.specs.Equations.{Pattern, variable, matched, count_variables, opened, own_parameters, Equation, IsEquationTyping}
use Rattle.tg_accept.specs.Uses.{EachOwnUse}
use Rattle.tg_accept.specs.Functions.{Meant, IsTypable, place_in, is_for, count_for, side_for, first_side, datatype_at_place, body_of, whole_function, recursive_flags, IsRecursiveUse, IsEquationShaped, IsPrimrecWritten, IsDefinitionShaped, NamesNoProgram}
use Rattle.tg_accept.proofs.KeptTypes.{numbered_before}
use Rattle.tg_accept.proofs.CoreTypes.{heads_same}
use Rattle.tg_accept.proofs.LeftSides.{places_above, counted, opened_at, number_at, others_at}
use Rattle.tg_accept.proofs.FunctionMeanings.{IsRight, matching_of, two_of}
use Rattle.tg_accept.proofs.FitTerms.{IsFit, fit, head_among}
use Rattle.tg_accept.proofs.SameBranches.{same_itself}
use Rattle.tg_accept.proofs.SameCalls.{both_true, both_false, call_free, free_call, use_good, good_use}
use Rattle.tg_accept.proofs.FunctionShapes.{HasHead, by_heads, by_equations, AreFlags, flags_at, type_at, own_smaller, smaller_own, other_lower}

-- a left side has one head
one_head : (h k : Head) (ps : List Pattern) → is_for h ps ≡ true → is_for k ps ≡ true → h ≡ k
one_head h k [] e q = cc e
one_head h k (variable x ∷ ps) e q = one_head h k ps e q
one_head h k (matched j xs ∷ ps) e q = sym (heads_same j h e) ∙ heads_same j k q

module _ (D : Declared) (place start : ℕ) where
  abbrev th : Theory
  th = theory [] D

  abbrev self : ℕ
  self = suc (length D.functions)

  abbrev pub Test : Head → ℕ → Trees → Bool
  Test h = is_lower_use self place start (recursive_flags D h)

  other : (h : Head) (g : ℕ) (us : Trees) → g ≤ length D.functions → Test h g us ≡ true
  other h g us low = other_lower th self place start (recursive_flags D h) g us (λ e. omega (arith, low, e))

  use_of : (e : Equation) (h : Head) → is_for h e.patterns ≡ true → count_variables e.patterns ≡ start → (ts : Resolveds)
      → (Test h self (cores th self ts) ≡ true) ↔ IsRecursiveUse D place e ts
  use_of e h for_head count ts = (
    λ q.
        let s = own_smaller th self place start (recursive_flags D h) ts q in
        record {
          head = h;
          is_head = for_head;
          number = s.number;
          argument = s.argument;
          recursive = record { index = s.index; number = s.same ∙ ap (λ n. suc (n + s.index)) (sym count); recursive = s.recursive };
        },
    λ u.
        let same : u.head ≡ h = one_head u.head h e.patterns u.is_head for_head in
        smaller_own th self place start (recursive_flags D h) ts (record {
          number = u.number;
          argument = u.argument;
          index = u.recursive.index;
          same = u.recursive.number ∙ ap (λ n. suc (n + u.recursive.index)) count;
          recursive = subst (λ k. slice_get (recursive_flags D k) u.recursive.index ≡ Some true) same u.recursive.recursive;
        }),
  )

  -- what is known of an equation
  abbrev pub IsKnown : Equation → Type 0
  IsKnown e = IsFit th e.body × (count_variables e.patterns ≡ start)

  abbrev pub IsLowered : Head → Resolved → Type 0
  IsLowered h t = each_call (Test h) (core th self t) ≡ true

  abbrev pub UsesLower : Equation → Type 0
  UsesLower e = EachOwnUse (IsRecursiveUse D place e) e.body

  pub lowered : (e : Equation) (h : Head) → is_for h e.patterns ≡ true → IsKnown e × UsesLower e → IsLowered h e.body
  lowered e h for_head k =
      use_good th self (Test h) (IsRecursiveUse D place e) (other h) (use_of e h for_head k.0.1) e.body k.0.0 k.1

  pub uses_lower : (e : Equation) (h : Head) → is_for h e.patterns ≡ true → IsKnown e → IsLowered h e.body → UsesLower e
  uses_lower e h for_head k q = good_use th self (Test h) (IsRecursiveUse D place e) (other h) (use_of e h for_head k.1) e.body k.0 q

  pub cases_shaped : (es : List Equation) (hs : List Head) (ls : List (List Bool)) → AreFlags D hs ls → Each (λ h. IsLowered h (side_for es h)) hs
      → are_cases_shaped self place start (map (λ h. core th self (side_for es h)) hs) ls ≡ true
  cases_shaped es [] [] a q = refl
  cases_shaped es [] (l ∷ ls) a q = absurd a
  cases_shaped es (h ∷ hs) [] a q = absurd a
  cases_shaped es (h ∷ hs) (l ∷ ls) a q =
      both_true _ _ (subst (λ k. each_call (is_lower_use self place start k) (core th self (side_for es h)) ≡ true) a.0 q.0) (cases_shaped es hs ls a.1 q.1)

  pub shaped_cases : (es : List Equation) (hs : List Head) (ls : List (List Bool)) → AreFlags D hs ls
      → are_cases_shaped self place start (map (λ h. core th self (side_for es h)) hs) ls ≡ true → Each (λ h. IsLowered h (side_for es h)) hs
  shaped_cases es [] ls a q = tt
  shaped_cases es (h ∷ hs) [] a q = absurd a
  shaped_cases es (h ∷ hs) (l ∷ ls) a q = (
    subst (λ k. each_call (is_lower_use self place start k) (core th self (side_for es h)) ≡ true) (sym a.0) (and_left _ _ q),
    shaped_cases es hs ls a.1 (and_right _ _ q),
  )

-- ---- a primitive recursive function

each_mapped : {A : Type 0} (P Q : A → Type 0) → ((x : A) → P x → Q x) → (xs : List A) → Each P xs → Each Q xs
each_mapped P Q to [] p = tt
each_mapped P Q to (x ∷ xs) p = (to x p.0, each_mapped P Q to xs p.1)

module _ (D : Declared) (m : Meant) where
  abbrev f : Function
  f = m.signature

  -- the type that the patterns match
  record Matched (place : ℕ) : Type 0 where
    datatype : ℕ
    types : List Ty
    at : numbered f.arguments place ≡ Some (datatype_at datatype types)
    is : IsDatatype (theory [] D) datatype types

  type_matched : AreBefore (theory [] D) (suc (length D.datatypes)) f.parameters (tys f.arguments) → (place : ℕ) (e : Equation) → IsRight D m place e → Matched place
  type_matched made zero e right = absurd (let h = places_above 1 0 [] e.patterns right.1 in omega (arith, h))
  type_matched made (suc k) e right =
      let found = matching_of D m k e right in
      let b = numbered_before (theory [] D) (suc (length D.datatypes)) f.parameters f.arguments (suc k) found.type made found.at in
      let t = type_at D f.parameters found.type (b, tt) found.head found.arguments found.opens in
      record { datatype = t.0; types = t.1; at = found.at ∙ ap Some t.2; is = t.3 }

  known_at : (place d : ℕ) (us : List Ty) → numbered f.arguments place ≡ Some (datatype_at d us) → IsDatatype (theory [] D) d us → (e : Equation)
      → IsRight D m place e → HasHead (IsKnown D place (length (others f.arguments place))) (heads_of (theory [] D) d) e
  known_at zero d us at is e right = cc at
  known_at (suc k) d us at is e right =
      let found = matching_of D m k e right in
      let t = right.0.0 in
      let type : found.type ≡ datatype_at d us = (let q : Some found.type ≡ Some (datatype_at d us) = sym found.at ∙ at in cc q) in
      let opens : opened (theory [] D) found.head (datatype_at d us) ≡ Some found.arguments = subst (λ u. opened (theory [] D) found.head u ≡ Some found.arguments) type found.opens in
      let owned = opened_at (theory [] D) found.head d us found.arguments is opens in
      let among = head_among (theory [] D) us found.arguments found.head d owned in
      let fits = fit (theory [] D) (Some f) (own_parameters (Some f)) (t.is.0.0 ++ t.is.0.1) e.body t.typing [] t.is.2 right.0.1.cases.once in
      let rest : List Ty = take k f.arguments ++ drop (suc k) f.arguments in
      let first : length t.is.0.0 ≡ length rest = ap (λ (l : List Ty). length l) found.first in
      let count : length rest ≡ length (others f.arguments (suc k)) = ap (λ (l : List Ty). length l) (sym (others_at f.arguments k)) in
      (found.head, found.is_head found.head ∙ same_itself found.head, among, (fits, counted (theory [] D) e.patterns f.arguments t.is.0 t.is.1 ∙ (first ∙ count)))

  first_matched : AreBefore (theory [] D) (suc (length D.datatypes)) f.parameters (tys f.arguments) → (es : List Equation) (place : ℕ) → Each (IsRight D m place) es
      → Each (λ h. count_for h es ≡ 1) (heads_of (theory [] D) (datatype_at_place f place)) → place ≡ place_in es → Matched place
  first_matched made [] place r c e =
      let none = subst (λ p. Each (λ h. count_for h [] ≡ 1) (heads_of (theory [] D) (datatype_at_place f p))) e c in let q = none.0 in cc q
  first_matched made (e ∷ es) place r c q = type_matched made place e r.0

  no_call : (es : List Equation) (hs : List Head) → Each (λ h. has_call (core (theory [] D) (suc (length D.functions)) (side_for es h)) ≡ false) hs
      → list_any has_call (map (λ h. core (theory [] D) (suc (length D.functions)) (side_for es h)) hs) ≡ false
  no_call es [] q = refl
  no_call es (h ∷ hs) q = both_false _ _ q.0 (no_call es hs q.1)

  call_none : (es : List Equation) (hs : List Head) → list_any has_call (map (λ h. core (theory [] D) (suc (length D.functions)) (side_for es h)) hs) ≡ false
      → Each (λ h. has_call (core (theory [] D) (suc (length D.functions)) (side_for es h)) ≡ false) hs
  call_none es [] q = tt
  call_none es (h ∷ hs) q = (or_left_false _ _ q, call_none es hs (or_right_false _ _ q))

  -- what is known of the equations of one that is typed and written as it should be
  record Known : Type 0 where
    place : ℕ
    is_place : place ≡ place_in m.equations
    flags : List (List Bool)
    alike : AreFlags D (heads_of (theory [] D) (datatype_at_place f place)) flags
    shape : is_body_shaped D (whole_function D true m) (body_of D true m)
        ≡ are_cases_shaped (suc (length D.functions)) place (length (others f.arguments place))
        (map (λ h. core (theory [] D) (suc (length D.functions)) (side_for m.equations h)) (heads_of (theory [] D) (datatype_at_place f place))) flags
    heads : Each (HasHead (IsKnown D place (length (others f.arguments place))) (heads_of (theory [] D) (datatype_at_place f place))) m.equations

  known : IsTypable D true m → IsPrimrecWritten D m → Known
  known typable written =
      let place = place_in m.equations in
      let right = two_of _ _ m.equations (two_of _ _ m.equations typable.equations written.equations) written.one_place in
      let t = first_matched typable.types.1 m.equations place right written.covered refl in
      let number : datatype_at_place f place ≡ t.datatype = ap (λ o. option_map_or datatype_of o 0) t.at ∙ number_at t.datatype t.types in
      let ls = flags_at D t.datatype t.types t.is in
      let heads = each_mapped (IsRight D m place) (HasHead (IsKnown D place (length (others f.arguments place))) (heads_of (theory [] D) t.datatype))
      (known_at place t.datatype t.types t.at t.is) m.equations right in
      let Cases : List (List Bool) → Bool = are_cases_shaped (suc (length D.functions)) place (length (others f.arguments place))
      (map (λ h. core (theory [] D) (suc (length D.functions)) (side_for m.equations h)) (heads_of (theory [] D) (datatype_at_place f place))) in
      record {
        place = place;
        is_place = refl;
        flags = ls.0;
        alike = subst (λ n. AreFlags D (heads_of (theory [] D) n) ls.0) (sym number) ls.2;
        shape = ap (λ o. option_map_or (λ u. option_map_or Cases (recursive_arguments D.datatypes u) false) o false) t.at ∙ ap (λ o. option_map_or Cases o false) ls.1;
        heads = subst (λ n. Each (HasHead (IsKnown D place (length (others f.arguments place))) (heads_of (theory [] D) n)) m.equations) (sym number) heads;
      }

  covered_at : (k : Known) → IsPrimrecWritten D m → Each (λ h. count_for h m.equations ≡ 1) (heads_of (theory [] D) (datatype_at_place f k.place))
  covered_at k written = subst (λ p. Each (λ h. count_for h m.equations ≡ 1) (heads_of (theory [] D) (datatype_at_place f p))) (sym k.is_place) written.covered

  pub primrec_lower : IsTypable D true m → IsPrimrecWritten D m → is_body_shaped D (whole_function D true m) (body_of D true m) ≡ true
      → Each (λ e. EachOwnUse (IsRecursiveUse D (place_in m.equations) e) e.body) m.equations
  primrec_lower typable written e =
      let k = known typable written in
      let start = length (others f.arguments k.place) in
      let hs = heads_of (theory [] D) (datatype_at_place f k.place) in
      let cases = shaped_cases D k.place start m.equations hs k.flags k.alike (sym k.shape ∙ e) in
      let uses = by_equations (IsKnown D k.place start) (UsesLower D k.place start) (IsLowered D k.place start) (uses_lower D k.place start) m.equations hs cases
      (covered_at k written) k.heads in
      subst (λ p. Each (λ e. EachOwnUse (IsRecursiveUse D p e) e.body) m.equations) k.is_place uses

  pub lower_primrec : IsTypable D true m → IsPrimrecWritten D m → Each (λ e. EachOwnUse (IsRecursiveUse D (place_in m.equations) e) e.body) m.equations
      → is_body_shaped D (whole_function D true m) (body_of D true m) ≡ true
  lower_primrec typable written lower =
      let k = known typable written in
      let start = length (others f.arguments k.place) in
      let hs = heads_of (theory [] D) (datatype_at_place f k.place) in
      let uses = subst (λ p. Each (λ e. EachOwnUse (IsRecursiveUse D p e) e.body) m.equations) (sym k.is_place) lower in
      let all = two_of (IsKnown D k.place start) (UsesLower D k.place start) m.equations
      (each_mapped (HasHead (IsKnown D k.place start) hs) (IsKnown D k.place start) (λ e h. h.3) m.equations k.heads) uses in
      k.shape ∙ cases_shaped D k.place start m.equations hs k.flags k.alike
      (by_heads (IsKnown D k.place start) (UsesLower D k.place start) (IsLowered D k.place start) (lowered D k.place start) m.equations all hs (covered_at k written))

  abbrev IsFree : Head → Resolved → Type 0
  IsFree h t = has_call (core (theory [] D) (suc (length D.functions)) t) ≡ false

  abbrev NamesNone : Equation → Type 0
  NamesNone e = calls_program e.body ≡ false

  pub primrec_free : IsTypable D true m → IsPrimrecWritten D m → list_any has_call (bodies (body_of D true m)) ≡ false → NamesNoProgram m
  primrec_free typable written e =
      let k = known typable written in
      let K = IsKnown D k.place (length (others f.arguments k.place)) in
      let hs = heads_of (theory [] D) (datatype_at_place f k.place) in
      let here = subst (λ p. list_any has_call (map (λ h. core (theory [] D) (suc (length D.functions)) (side_for m.equations h)) (heads_of (theory [] D) (datatype_at_place f p))) ≡ false)
      (sym k.is_place) e in
      by_equations K NamesNone IsFree (λ e h for_head known q. free_call (theory [] D) (suc (length D.functions)) e.body known.0 q) m.equations hs
      (call_none m.equations hs here) (covered_at k written) k.heads

  pub free_primrec : IsTypable D true m → IsPrimrecWritten D m → NamesNoProgram m → list_any has_call (bodies (body_of D true m)) ≡ false
  free_primrec typable written none =
      let k = known typable written in
      let K = IsKnown D k.place (length (others f.arguments k.place)) in
      let hs = heads_of (theory [] D) (datatype_at_place f k.place) in
      let all = two_of K NamesNone m.equations (each_mapped (HasHead K hs) K (λ e h. h.3) m.equations k.heads) none in
      let here = no_call m.equations hs
      (by_heads K NamesNone IsFree (λ e h for_head q. call_free (theory [] D) (suc (length D.functions)) e.body q.1) m.equations all hs (covered_at k written)) in
      subst (λ p. list_any has_call (map (λ h. core (theory [] D) (suc (length D.functions)) (side_for m.equations h)) (heads_of (theory [] D) (datatype_at_place f p))) ≡ false)
      k.is_place here

  -- ---- a definition

  definition_none : (es : List Equation) → Each (λ e. HasTyping (IsEquationTyping (theory [] D) None f e)) es → Each (IsEquationShaped D f) es → length es ≡ 1
      → list_any has_call (bodies (plain (core (theory [] D) (suc (length D.functions)) (first_side es)))) ≡ false → Each NamesNone es
  definition_none [] t s n q = absurd (omega (arith, n))
  definition_none (e ∷ []) t s n q =
      let k = t.0 in
      let fits = fit (theory [] D) None [] (k.is.0.0 ++ k.is.0.1) e.body k.typing [] k.is.2 s.0.cases.once in
      (free_call (theory [] D) (suc (length D.functions)) e.body fits (or_left_false _ _ q), tt)
  definition_none (e ∷ (k ∷ es)) t s n q = cc n

  pub definition_free : IsTypable D false m → IsDefinitionShaped D m → list_any has_call (bodies (body_of D false m)) ≡ false → NamesNoProgram m
  definition_free typable shaped q = definition_none m.equations typable.equations shaped.equations shaped.one_equation q

  free_one : (es : List Equation) → length es ≡ 1 → Each NamesNone es
      → list_any has_call (bodies (plain (core (theory [] D) (suc (length D.functions)) (first_side es)))) ≡ false
  free_one [] n q = absurd (omega (arith, n))
  free_one (e ∷ es) n q = both_false _ _ (call_free (theory [] D) (suc (length D.functions)) e.body q.0) refl

  pub free_definition : IsDefinitionShaped D m → NamesNoProgram m → list_any has_call (bodies (body_of D false m)) ≡ false
  free_definition shaped q = free_one m.equations shaped.one_equation q
