-- A body is shaped, and calls no program, exactly where its equations are and don't.
use Rattle.std.proofs.Common.{ℕ, zero, suc, ◌≡◌, ◌<◌, ◌+◌, ◌-◌, Bool, true, false, not, nat_eq, List, [], ◌∷◌, map, length, Option, Some, None, refl, sym, ◌∙◌, ap, subst, inl, inr, if◌then◌else◌, arith}
use Rattle.std.specs.Prelude.{◌||◌, nat_lt, slice_get, option_map, unwrap_or}
use Rattle.std.specs.Option.{option_map_or}
use Rattle.std.proofs.lemmas.Bool.{ltb-true}
use Rattle.std.proofs.lemmas.Bool.Decides.{Decides-eqb, Decides-ltb}
use Rattle.std.proofs.lemmas.Option.{slice_get-map}
use Rattle.tg_model.specs.Tree as tree
use Rattle.tg_model.specs.Tree.{Tree, Trees, elements}
use Rattle.tg_model.specs.Types as types
use Rattle.tg_model.specs.Types.{Ty, Tys, nat, bool, parameter, meta, applied, tys}
use Rattle.tg_model.specs.Theory.{Theory, Datatype, Constructor, Owned, constructor_at, first_constructor, numbered, datatype_of}
use Rattle.tg_model.specs.TermTyping.{IsDatatype, datatype_at}
use Rattle.tg_model.specs.WellTyped.{AreBefore}
use Rattle.tg_model.specs.Accepted.{IsAmong}
use Rattle.tg_model.proofs.Booleans.{and_left, and_right}
use Rattle.tg_model.proofs.Inhabited.{constructor_number}
use Rattle.tg_accept.specs.Declared.{Declared, theory}
use Rattle.tg_accept.specs.Faults.{is_smaller, is_lower_use, recursive_arguments}
use Rattle.tg_accept.specs.Resolved as resolved
use Rattle.tg_accept.specs.Resolved.{Head, zero_head, successor_head, of, Resolved, Resolveds, calls_program}
use Rattle.tg_accept.specs.Core.{core, cores, heads_from, heads_of}
use Rattle.tg_accept.specs.Checks.{Each}
use Rattle.tg_accept.specs.Equations.{Equation, opened}
use Rattle.tg_accept.specs.Uses.{terms_in}
use Rattle.tg_accept.specs.Functions.{is_for, count_for, side_for, recursive_flags}
use Rattle.tg_accept.proofs.FunctionMeanings.{one_for}
use Rattle.tg_accept.proofs.SameCalls.{both_true}

-- ---- right sides by heads, and by equations

-- a head for which an equation is, among these, and what else is known of it
abbrev pub HasHead : (Equation → Type 0) → List Head → Equation → Type 0
HasHead K hs e = (h : Head) × (is_for h e.patterns ≡ true) × IsAmong h hs × K e

module _ (K R : Equation → Type 0) (Q : Head → Resolved → Type 0) where
  pub by_heads : ((e : Equation) (h : Head) → is_for h e.patterns ≡ true → K e × R e → Q h e.body) → (es : List Equation) → Each (λ e. K e × R e) es
      → (hs : List Head) → Each (λ h. count_for h es ≡ 1) hs → Each (λ h. Q h (side_for es h)) hs
  by_heads to es all [] one = tt
  by_heads to es all (h ∷ hs) one =
      let e = one_for (λ k. K k × R k) h es all one.0 in (subst (Q h) (sym e.3) (to e.0 h e.2 e.1), by_heads to es all hs one.1)

  -- an equation is the only one for its head
  counted_once : (h : Head) (e : Equation) (es : List Equation) → IsAmong e es → is_for h e.patterns ≡ true → ¬ (count_for h es ≡ 0)
  counted_once h e [] a f c = a
  counted_once h e (k ∷ es) (inl same) f c = by (is_for h k.patterns) (subst (λ (j : Equation). is_for h j.patterns ≡ true) same f) c
    where
      by : (b : Bool) → b ≡ true → (if b then suc (count_for h es) else count_for h es) ≡ 0 → ⊥
      by true q z = cc z
      by false q z = cc q
  counted_once h e (k ∷ es) (inr a) f c = by (is_for h k.patterns) c (counted_once h e es a f)
    where
      by : (b : Bool) → (if b then suc (count_for h es) else count_for h es) ≡ 0 → (count_for h es ≡ 0 → ⊥) → ⊥
      by true z rest = cc z
      by false z rest = rest z

  side_of : (h : Head) (e : Equation) (es : List Equation) → IsAmong e es → is_for h e.patterns ≡ true → count_for h es ≡ 1 → side_for es h ≡ e.body
  side_of h e [] a f c = absurd a
  side_of h e (k ∷ es) (inl same) f c = by (is_for h k.patterns) (subst (λ (j : Equation). is_for h j.patterns ≡ true) same f)
    where
      by : (b : Bool) → b ≡ true → (if b then k.body else side_for es h) ≡ e.body
      by true q = ap (λ (j : Equation). j.body) (sym same)
      by false q = cc q
  side_of h e (k ∷ es) (inr a) f c = by (is_for h k.patterns) c (counted_once h e es a f) (λ n. side_of h e es a f n)
    where
      by : (b : Bool) → (if b then suc (count_for h es) else count_for h es) ≡ 1 → (count_for h es ≡ 0 → ⊥) → (count_for h es ≡ 1 → side_for es h ≡ e.body)
          → (if b then k.body else side_for es h) ≡ e.body
      by true z some rest = absurd (some (omega (arith, z)))
      by false z some rest = rest z

  at_head : (es : List Equation) (hs : List Head) (h : Head) → IsAmong h hs → Each (λ h. Q h (side_for es h)) hs → Each (λ h. count_for h es ≡ 1) hs
      → Q h (side_for es h) × (count_for h es ≡ 1)
  at_head es [] h a q c = absurd a
  at_head es (k ∷ hs) h (inl e) q c = subst (λ j. Q j (side_for es j) × (count_for j es ≡ 1)) (sym e) (q.0, c.0)
  at_head es (k ∷ hs) h (inr a) q c = at_head es hs h a q.1 c.1

  each_back : ((e : Equation) (h : Head) → is_for h e.patterns ≡ true → K e → Q h e.body → R e) → (es : List Equation) (hs : List Head)
      → Each (λ h. Q h (side_for es h)) hs → Each (λ h. count_for h es ≡ 1) hs → (some : List Equation) → ((e : Equation) → IsAmong e some → IsAmong e es)
      → Each (HasHead K hs) some → Each R some
  each_back from es hs q c [] within has = tt
  each_back from es hs q c (e ∷ some) within has =
      let h = has.0.0 in
      let r = at_head es hs h has.0.2 q c in
      (from e h has.0.1 has.0.3 (subst (Q h) (side_of h e es (within e (inl refl)) has.0.1 r.1) r.0), each_back from es hs q c some (λ k a. within k (inr a)) has.1)

  pub by_equations : ((e : Equation) (h : Head) → is_for h e.patterns ≡ true → K e → Q h e.body → R e) → (es : List Equation) (hs : List Head)
      → Each (λ h. Q h (side_for es h)) hs → Each (λ h. count_for h es ≡ 1) hs → Each (HasHead K hs) es → Each R es
  by_equations from es hs q c has = each_back from es hs q c es (λ e a. a) has

-- ---- which arguments are recursive

abbrev owned : ℕ → Constructor → Owned
owned d k = record { datatype = d; constructor = k }

tys_elements : (ts : Tys) → tys (types.elements ts) ≡ ts
tys_elements types.none = refl
tys_elements (types.more t ts) = ap (λ l. types.more t l) (tys_elements ts)

abbrev flags_in : ℕ → Constructor → List Bool
flags_in d c = map (λ t. nat_eq (datatype_of t) d) c.arguments

module _ (D : Declared) where
  abbrev th : Theory
  th = theory [] D

  abbrev pub AreFlags : List Head → List (List Bool) → Type 0
  AreFlags [] [] = Unit {0}
  AreFlags (h ∷ hs) (l ∷ ls) = (recursive_flags D h ≡ l) × AreFlags hs ls
  AreFlags hs ls = ⊥

  flags_from : (d c : ℕ) (cs : List Constructor) → ((i : ℕ) (k : Constructor) → slice_get cs i ≡ Some k → constructor_at th (c + i) ≡ Some (owned d k))
      → AreFlags (heads_from c (length cs)) (map (flags_in d) cs)
  flags_from d c [] at = tt
  flags_from d c (k ∷ cs) at =
      let here : c ≡ c + 0 = omega arith in (
        ap (λ q. option_map_or (λ (o : Owned). map (λ t. nat_eq (datatype_of t) o.datatype) o.constructor.arguments) q []) (ap (constructor_at th) here ∙ at 0 k refl),
        flags_from d (suc c) cs (λ i l e. let next : suc c + i ≡ c + suc i = omega arith in ap (constructor_at th) next ∙ at (suc i) l e),
      )

  pub flags_at : (d : ℕ) (us : List Ty) → IsDatatype th d us
      → (ls : List (List Bool)) × (recursive_arguments D.datatypes (datatype_at d us) ≡ Some ls) × AreFlags (heads_of th d) ls
  flags_at zero us is = ([] ∷ (true ∷ []) ∷ [], refl, (refl, (refl, tt)))
  flags_at (suc d) us (x, is, count) =
      let all = flags_from (suc d) (first_constructor th.datatypes (suc d)) x.constructors (λ i k e. constructor_number th d x i k is e) in
      let known : recursive_arguments D.datatypes (datatype_at (suc d) us) ≡ Some (map (flags_in (suc d)) x.constructors) =
      ap (λ o. option_map_or (λ (y : Datatype). Some (map (flags_in (suc d)) y.constructors)) o None) is in
      (map (flags_in (suc d)) x.constructors, known, rw (is) all)

  -- a type that a constructor pattern matches
  pub type_at : (params : ℕ) (t : Ty) → AreBefore th (suc (length D.datatypes)) params (tys (t ∷ [])) → (h : Head) (us : List Ty) → opened th h t ≡ Some us
      → (d : ℕ) × (vs : List Ty) × (t ≡ datatype_at d vs) × IsDatatype th d vs
  type_at params nat b h us e = (0, [], refl, refl)
  type_at params bool b h us e = cc e
  type_at params (parameter n) b h us e = cc e
  type_at params (meta n) b h us e = cc e
  type_at params (applied zero ts) b h us e = cc e
  type_at params (applied (suc d) ts) b h us e =
      (suc d, types.elements ts, ap (applied (suc d)) (sym (tys_elements ts)), (b.0.0.1.0, b.0.0.1.1, b.0.0.1.2))

-- ---- the test of a use

-- the argument at the place is a variable that stands for a recursive argument
pub record IsSmaller (place start : ℕ) (flags : List Bool) (ts : Resolveds) : Type 0 where
  pub number : ℕ
  pub argument : numbered (terms_in ts) place ≡ Some (resolved.free number)
  pub index : ℕ
  pub same : number ≡ suc (start + index)
  pub recursive : slice_get flags index ≡ Some true

some_true : (o : Option Bool) → unwrap_or o false ≡ true → o ≡ Some true
some_true None e = cc e
some_true (Some b) e = ap Some e

module _ (th : Theory) (self place start : ℕ) (flags : List Bool) where
  terms_core : (ts : Resolveds) → elements (cores th self ts) ≡ map (core th self) (terms_in ts)
  terms_core resolved.none = refl
  terms_core (resolved.more t ts) = ap (λ l. core th self t ∷ l) (terms_core ts)

  numbered_core : (n : ℕ) (ts : Resolveds) → numbered (elements (cores th self ts)) n ≡ option_map (core th self) (numbered (terms_in ts) n)
  numbered_core zero ts = refl
  numbered_core (suc n) ts = ap (λ l. slice_get l n) (terms_core ts) ∙ slice_get-map (core th self) (terms_in ts) n

  variable_smaller : (n : ℕ) → is_smaller start flags (tree.free n) ≡ true → (i : ℕ) × (n ≡ suc (start + i)) × (slice_get flags i ≡ Some true)
  variable_smaller n e =
      let low : start < n = ltb-true start n (and_left (nat_lt start n) _ e) in
      (n - (start + 1), omega (arith, low), some_true _ (and_right (nat_lt start n) (unwrap_or (slice_get flags (n - (start + 1))) false) e))

  -- a term whose core term is a variable is that variable
  free_core : (t : Resolved) → is_smaller start flags (core th self t) ≡ true → (n : ℕ) × (t ≡ resolved.free n) × (is_smaller start flags (tree.free n) ≡ true)
  free_core (resolved.free n) e = (n, refl, e)
  free_core (resolved.bound k) e = cc e
  free_core (resolved.literal n) e = cc e
  free_core (resolved.truth b) e = cc e
  free_core (resolved.con c ts) e = cc e
  free_core (resolved.call f ts) e = cc e
  free_core (resolved.own ts) e = cc e
  free_core (resolved.misused ts) e = cc e
  free_core (resolved.put ts) e = cc e
  free_core (resolved.choice ts) e = cc e
  free_core (resolved.case n t bs) e = cc e
  free_core (resolved.bind t body) e = cc e
  free_core (resolved.op o ts) e = cc e

  own_not : not (nat_eq self self) ≡ false
  own_not = ap not ((Decides-eqb self self).1 refl)

  found : (ts : Resolveds) (o : Option Resolved) → numbered (terms_in ts) place ≡ o
      → option_map_or (is_smaller start flags) (option_map (core th self) o) false ≡ true → IsSmaller place start flags ts
  found ts None at e = cc e
  found ts (Some t) at e =
      let n = free_core t e in
      let i = variable_smaller n.0 n.2 in
      record { number = n.0; argument = at ∙ ap Some n.1; index = i.0; same = i.1; recursive = i.2 }

  pub own_smaller : (ts : Resolveds) → is_lower_use self place start flags self (cores th self ts) ≡ true → IsSmaller place start flags ts
  own_smaller ts e =
      let rest : (false || option_map_or (is_smaller start flags) (numbered (elements (cores th self ts)) place) false) ≡ true =
      subst (λ b. (b || option_map_or (is_smaller start flags) (numbered (elements (cores th self ts)) place) false) ≡ true) own_not e in
      found ts (numbered (terms_in ts) place) refl (subst (λ o. option_map_or (is_smaller start flags) o false ≡ true) (numbered_core place ts) rest)

  pub smaller_own : (ts : Resolveds) → IsSmaller place start flags ts → is_lower_use self place start flags self (cores th self ts) ≡ true
  smaller_own ts s =
      let n = s.number in
      let same = s.same in
      let low : nat_lt start n ≡ true = (Decides-ltb start n).1 (omega (arith, same)) in
      let index : n - (start + 1) ≡ s.index = omega (arith, same) in
      let flag : unwrap_or (slice_get flags (n - (start + 1))) false ≡ true = ap (λ i. unwrap_or (slice_get flags i) false) index ∙ ap (λ o. unwrap_or o false) s.recursive in
      let here : numbered (elements (cores th self ts)) place ≡ Some (tree.free n) = numbered_core place ts ∙ ap (option_map (core th self)) s.argument in
      let small : option_map_or (is_smaller start flags) (numbered (elements (cores th self ts)) place) false ≡ true =
      ap (λ o. option_map_or (is_smaller start flags) o false) here ∙ both_true _ _ low flag in
      subst (λ b. (b || option_map_or (is_smaller start flags) (numbered (elements (cores th self ts)) place) false) ≡ true) (sym own_not) small

  pub other_lower : (f : ℕ) (us : Trees) → ¬ (f ≡ self) → is_lower_use self place start flags f us ≡ true
  other_lower f us other = by (nat_eq f self) (Decides-eqb f self).0
    where
      by : (b : Bool) → (b ≡ true → f ≡ self) → (not b || option_map_or (is_smaller start flags) (numbered (elements us) place) false) ≡ true
      by true h = absurd (other (h refl))
      by false h = refl
