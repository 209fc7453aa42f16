-- Typings of equations and specifications, by those of their terms.
use Rattle.std.proofs.Common.{ℕ, zero, suc, ◌≡◌, Bool, true, false, nat_eq, List, [], ◌∷◌, ◌++◌, map, length, Option, Some, None, refl, sym, ◌∙◌, ap, subst, if◌then◌else◌}
use Rattle.std.specs.Prelude.{slice_get, option_map, option_and_then, unwrap_or}
use Rattle.tg_model.specs.Types as types
use Rattle.tg_model.specs.Types.{Ty, Tys, nat, bool, parameter, meta, applied, tys, elements}
use Rattle.tg_model.specs.Theory.{Theory, Function, Owned, constructor_at, instance, instances}
use Rattle.tg_model.specs.TermTyping.{Typing}
use Rattle.tg_accept.specs.Declared.{Declared, theory}
use Rattle.tg_accept.specs.Equations.{Pattern, variable, matched, Equation, left_types, opened, parts, own_parameters, IsEquationTyping}
use Rattle.tg_accept.specs.Functions.{self_of}
use Rattle.tg_accept.specs.Kept.{IsKept}
use Rattle.tg_accept.specs.Meant.{AreMade}
use Rattle.tg_accept.specs.Programs.{IsSpecificationTyping}
use Rattle.tg_accept.specs.Resolved as resolveds
use Rattle.tg_accept.specs.ResolvedTyping.{head_at, IsTypingOf}
use Rattle.tg_shared_types.specs.Growth.{IsDeclared, AreDeclared}
use Rattle.tg_types.specs.declared.types.Ty as declared
use Rattle.tg_types.specs.Types.{ty}
use Rattle.tg_typing.specs.Answers as answers
use Rattle.tg_typing.specs.Answers.{Counts, IsTypingAt}
use Rattle.tg_typing.specs.Contexts.{HasClosedTypes}
use Rattle.tg_typing.specs.KeptTypes.{IsOwnMade}
use Rattle.tg_typing.specs.declared.typings.Typings.{Typings}
use Rattle.tg_typing.specs.declared.typings.Typings.TheVariants as typings
use Rattle.tg_typing.proofs.ClosedTypes.{kept_types_are_closed}
use Rattle.tg_equations.specs.LeftSides.{together}
use Rattle.tg_equations.specs.Told.{AreTypings}
use Rattle.tg_equations.proofs.LeftLaws.{pair}

-- ---- an answer, for what means the same

pub told : (P Q : Typing → Type 0) → ((d : Typing) → P d → Q d) → ((d : Typing) → Q d → P d) → (n : Typings) → Counts P n → AreTypings Q n
told P Q to from typings.None h = λ q. h q.typing (from q.typing q.is)
told P Q to from typings.One h = record { typing = h.typing; is = to h.typing h.is; only = λ d q. h.only d (from d q) }
told P Q to from typings.Several h =
    record { typing = h.typing; other = h.other; is = to h.typing h.is; other_is = to h.other h.other_is; differ = h.differ }

-- ---- no open type is added

abbrev OnSome : {A : Type 0} → (A → Type 0) → Option A → Type 0
OnSome P None = Unit {0}
OnSome P (Some x) = P x

on_some : {A : Type 0} (P : A → Type 0) (o : Option A) (x : A) → o ≡ Some x → OnSome P o → P x
on_some P o x e h = subst (OnSome P) e h

declared_at : (us : List Ty) (k : ℕ) → AreDeclared (tys us) → IsDeclared (unwrap_or (slice_get us k) nat)
declared_at [] k h = tt
declared_at (u ∷ us) zero h = h.0
declared_at (u ∷ us) (suc k) h = declared_at us k h.1

module _ (us : List Ty) (given : AreDeclared (tys us)) where
  mutual
    instance_declared : (t : Ty) → IsDeclared t → IsDeclared (instance us t)
    instance_declared nat h = tt
    instance_declared bool h = tt
    instance_declared (parameter zero) h = tt
    instance_declared (parameter (suc n)) h = declared_at us n given
    instance_declared (meta n) h = h
    instance_declared (applied d ts) h = all_instances_declared ts h

    all_instances_declared : (ts : Tys) → AreDeclared ts → AreDeclared (instances us ts)
    all_instances_declared types.none h = tt
    all_instances_declared (types.more t ts) h = (instance_declared t h.0, all_instances_declared ts h.1)

  instances_declared : (ts : List Ty) → AreDeclared (tys ts) → AreDeclared (tys (map (instance us) ts))
  instances_declared [] h = tt
  instances_declared (t ∷ ts) h = (instance_declared t h.0, instances_declared ts h.1)

elements_declared : (ts : Tys) → AreDeclared ts → AreDeclared (tys (elements ts))
elements_declared types.none h = tt
elements_declared (types.more t ts) h = (h.0, elements_declared ts h.1)

parts_declared : (t : Ty) → IsDeclared t → OnSome (λ (p : ℕ × List Ty). AreDeclared (tys p.1)) (parts t)
parts_declared nat h = tt
parts_declared bool h = tt
parts_declared (parameter n) h = tt
parts_declared (meta n) h = tt
parts_declared (applied zero ts) h = tt
parts_declared (applied (suc d) ts) h = elements_declared ts h

module _ (th : Theory) (self : Option Function) (closed : HasClosedTypes th self) where
  head_declared : (us : List Ty) (h : resolveds.Head) → AreDeclared (tys us) → OnSome (λ (q : ℕ × List Ty). AreDeclared (tys q.1)) (head_at th us h)
  head_declared us resolveds.zero_head d = tt
  head_declared us resolveds.successor_head d = (tt, tt)
  head_declared us (resolveds.of c) d = go (constructor_at th c) refl
    where
      go : (o : Option Owned) → constructor_at th c ≡ o
          → OnSome (λ (q : ℕ × List Ty). AreDeclared (tys q.1)) (option_map (λ (x : Owned). pair x.datatype (map (instance us) x.constructor.arguments)) o)
      go None e = tt
      go (Some o) e = instances_declared us d o.constructor.arguments (closed.constructors c o e)

  opened_declared : (h : resolveds.Head) (t : Ty) → IsDeclared t → OnSome (λ us. AreDeclared (tys us)) (opened th h t)
  opened_declared h t d = go (parts t) (parts_declared t d)
    where
      go : (o : Option (ℕ × List Ty)) → OnSome (λ (p : ℕ × List Ty). AreDeclared (tys p.1)) o
          → OnSome (λ us. AreDeclared (tys us)) (option_and_then (λ (p : ℕ × List Ty). option_and_then (λ (q : ℕ × List Ty). if nat_eq q.0 p.0 then Some q.1 else None) (head_at th p.1 h)) o)
      go None x = tt
      go (Some p) x = by (head_at th p.1 h) (head_declared p.1 h x)
        where
          by : (o : Option (ℕ × List Ty)) → OnSome (λ (q : ℕ × List Ty). AreDeclared (tys q.1)) o
              → OnSome (λ us. AreDeclared (tys us)) (option_and_then (λ (q : ℕ × List Ty). if nat_eq q.0 p.0 then Some q.1 else None) o)
          by None y = tt
          by (Some q) y = choose (nat_eq q.0 p.0)
            where
              choose : (b : Bool) → OnSome (λ us. AreDeclared (tys us)) (if b then Some q.1 else None)
              choose true = y
              choose false = tt

  both_declared : (us vs : List Ty) → AreDeclared (tys us) → AreDeclared (tys vs) → AreDeclared (tys (us ++ vs))
  both_declared [] vs h k = k
  both_declared (u ∷ us) vs h k = (h.0, both_declared us vs h.1 k)

  abbrev Pair : List Ty × List Ty → Type 0
  Pair l = AreDeclared (tys l.0) × AreDeclared (tys l.1)

  left_declared : (ps : List Pattern) (ts : List Ty) → AreDeclared (tys ts) → OnSome Pair (left_types th ps ts)
  left_declared [] [] h = (tt, tt)
  left_declared [] (t ∷ ts) h = tt
  left_declared (variable x ∷ ps) [] h = tt
  left_declared (matched y xs ∷ ps) [] h = tt
  left_declared (variable x ∷ ps) (t ∷ ts) h = go (left_types th ps ts) (left_declared ps ts h.1)
    where
      go : (o : Option (List Ty × List Ty)) → OnSome Pair o → OnSome Pair (option_map (λ (l : List Ty × List Ty). pair (t ∷ l.0) l.1) o)
      go None d = tt
      go (Some l) d = ((h.0, d.0), d.1)
  left_declared (matched y xs ∷ ps) (t ∷ ts) h = go (left_declared ps ts h.1) (opened th y t) (opened_declared y t h.0)
    where
      go : OnSome Pair (left_types th ps ts) → (o : Option (List Ty)) → OnSome (λ us. AreDeclared (tys us)) o
          → OnSome Pair (option_and_then (λ us. if nat_eq (length xs) (length us) then option_map (λ (l : List Ty × List Ty). pair l.0 (us ++ l.1)) (left_types th ps ts) else None) o)
      go rest None d = tt
      go rest (Some us) d = by (nat_eq (length xs) (length us)) (left_types th ps ts) rest
        where
          by : (b : Bool) (o : Option (List Ty × List Ty)) → OnSome Pair o
              → OnSome Pair (if b then option_map (λ (l : List Ty × List Ty). pair l.0 (us ++ l.1)) o else None)
          by true None k = tt
          by true (Some l) k = (k.0, both_declared us l.1 d k.1)
          by false o k = tt

  pub together_declared : (ps : List Pattern) (ts vs : List Ty) → AreDeclared (tys ts) → Some vs ≡ together (left_types th ps ts) → AreDeclared (tys vs)
  together_declared ps ts vs h e = go (left_types th ps ts) (left_declared ps ts h) e
    where
      go : (o : Option (List Ty × List Ty)) → OnSome Pair o → Some vs ≡ together o → AreDeclared (tys vs)
      go None d q = cc q
      go (Some l) d q = subst (λ us. AreDeclared (tys us)) (let p : l.0 ++ l.1 ≡ vs = cc q in p) (both_declared l.0 l.1 d.0 d.1)

-- ---- equations

module _ (D : Declared) (is_recursive : Bool) (x : Function) (kept : IsKept D) (made : AreMade (theory [] D) x.parameters (x.answer ∷ x.arguments)) where
  pub own_closed : HasClosedTypes (theory [] D) (self_of is_recursive x)
  own_closed = kept_types_are_closed D (self_of is_recursive x) kept (by is_recursive)
    where
      by : (b : Bool) → IsOwnMade D (self_of b x)
      by true y e = subst (λ (z : Function). AreMade (theory [] D) z.parameters (z.answer ∷ z.arguments)) (let q : x ≡ y = cc e in q) made
      by false y e = cc e

  -- the function's own types
  types_closed : HasClosedTypes (theory [] D) (Some x)
  types_closed =
      kept_types_are_closed D (Some x) kept (λ y e. subst (λ (z : Function). AreMade (theory [] D) z.parameters (z.answer ∷ z.arguments)) (let q : x ≡ y = cc e in q) made)

  pub answer_declared : IsDeclared x.answer
  answer_declared = (types_closed.own x refl).1

  pub vars_declared : (ps : List Pattern) (vs : List Ty) → Some vs ≡ together (left_types (theory [] D) ps x.arguments) → AreDeclared (tys vs)
  vars_declared ps vs e = together_declared (theory [] D) (Some x) types_closed ps x.arguments vs (types_closed.own x refl).0 e

module _ (th : Theory) (self : Option Function) (x : Function) (e : Equation) where
  same_parameters : answers.own_parameters self ≡ own_parameters self
  same_parameters = by self
    where
      by : (o : Option Function) → answers.own_parameters o ≡ own_parameters o
      by None = refl
      by (Some f) = refl

  pub no_typing : None ≡ together (left_types th e.patterns x.arguments) → AreTypings (IsEquationTyping th self x e) typings.None
  no_typing q w = by (left_types th e.patterns x.arguments) q w.is.1
    where
      by : (o : Option (List Ty × List Ty)) → None ≡ together o → o ≡ Some w.is.0 → ⊥
      by None p r = cc r
      by (Some l) p r = cc p

  pub equation_told : (vars : List declared.Ty) (n : Typings) → Some (map ty vars) ≡ together (left_types th e.patterns x.arguments)
      → Counts (IsTypingAt th self vars [] e.body x.answer) n → AreTypings (IsEquationTyping th self x e) n
  equation_told vars n q h = by (left_types th e.patterns x.arguments) refl q
    where
      by : (o : Option (List Ty × List Ty)) → left_types th e.patterns x.arguments ≡ o → Some (map ty vars) ≡ together o → AreTypings (IsEquationTyping th self x e) n
      by None at p = cc p
      by (Some l) at p =
          let s : map ty vars ≡ l.0 ++ l.1 = cc p in
          told (IsTypingAt th self vars [] e.body x.answer) (IsEquationTyping th self x e)
          (λ d w. (
            l,
            at,
            subst (λ us. IsTypingOf th self (own_parameters self) us [] e.body d) s (subst (λ us. IsTypingOf th self us (map ty vars) [] e.body d) same_parameters w.0),
            w.1,
          ))
          (λ d w. (
            subst (λ us. IsTypingOf th self us (map ty vars) [] e.body d) (sym same_parameters)
                (subst (λ us. IsTypingOf th self (own_parameters self) us [] e.body d) (sym (s ∙ ap (λ (k : List Ty × List Ty). k.0 ++ k.1) (let r : l ≡ w.0 = cc (at, w.1) in r))) w.2),
            w.3,
          ))
          n h

-- ---- the specification

pub specification_told : (D : Declared) (vars : List declared.Ty) (t : resolveds.Resolved) (u : Ty) (n : Typings) → map ty vars ≡ (theory [] D).program.inputs → u ≡ bool
    → Counts (IsTypingAt (theory [] D) None vars [] t u) n → AreTypings (IsSpecificationTyping D t) n
specification_told D vars t u n s b h =
    told (IsTypingAt (theory [] D) None vars [] t u) (IsSpecificationTyping D t)
    (λ d w. (subst (λ us. IsTypingOf (theory [] D) None [] us [] t d) s w.0, w.1 ∙ b))
    (λ d w. (subst (λ us. IsTypingOf (theory [] D) None [] us [] t d) (sym s) w.0, w.1 ∙ sym b))
    n h

pub no_function : (D : Declared) → IsKept D → HasClosedTypes (theory [] D) None
no_function D kept = kept_types_are_closed D None kept (λ x e. cc e)
