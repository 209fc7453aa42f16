-- Going under quantifiers, and the types and terms there.
use Rattle.std.proofs.Common.{ℕ, zero, suc, ◌≡◌, ◌↔◌, ◌+◌, Bool, true, false, List, [], ◌∷◌, ◌++◌, length, map, take, drop, Option, Some, None, refl, sym, ◌∙◌, ap, subst, arith}
use Rattle.std.proofs.lemmas.List.{length-append, length-map, length-reverse, length-take-le, append-nil}
use Rattle.tg_model.specs.TermTyping.{type_of}
use Rattle.tg_model.specs.Theory.{Theory, IsClosed}
use Rattle.tg_model.specs.Tree.{Tree}
use Rattle.tg_model.specs.Types as model
use Rattle.tg_accept.specs.Core.{core}
use Rattle.tg_accept.specs.Declared.{Declared, theory}
use Rattle.tg_accept.specs.Kept.{names_of_types}
use Rattle.tg_accept.specs.Laws.{Widens}
use Rattle.tg_accept.specs.Meaning.{resolve, type_meant}
use Rattle.tg_accept.specs.Raw.{RawTerm, RawType, level}
use Rattle.tg_accept.specs.Resolved.{Resolved}
use Rattle.tg_accept.specs.ResolvedTyping.{IsTypingOf}
use Rattle.tg_accept.specs.Standing.{declared_in, certificate_scope, levels, IsAnswer, IsTermAt, IsTypeOf}
use Rattle.tg_accept.specs.Typings.{HasTyping}
use Rattle.tg_accept.proofs.KeptTypes.{closed_widened}
use Rattle.tg_infer.specs.Binders.{binders, HaveBound, HaveLeft}
use Rattle.tg_shared_types.specs.Growth.{IsDeclared, AreDeclared}
use Rattle.tg_theory.proofs.ClosedTypes.{closed_if, is_closed_yes, closed_declared}
use Rattle.tg_theory.proofs.FormedLaws.{declared_last}
use Rattle.tg_theory.specs.Typed.{is_closed}
use Rattle.tg_types.specs.declared.types.Ty.{Ty}
use Rattle.tg_types.specs.Types.{ty, types}
use Rattle.tg_standing.specs.declared.places.Place.{Place}
use Rattle.tg_standing.specs.declared.quantified.Under.{Under}
use Rattle.tg_standing.specs.Places.{IsPlace, IsLookedUp, Gives}
use Rattle.tg_standing.specs.Quantified.{IsUnder, Enters, Leaves, Stands, types_under}
use Rattle.tg_standing.proofs.PlaceLaws.{same_declared}

-- ---- going under one, and back

levels_length : (n : ℕ) → length (levels n) ≡ n
levels_length zero = refl
levels_length (suc n) = ap suc (levels_length n)

pub entered : (old new : Under) (t : Ty) → IsUnder old → IsDeclared (ty t) → HaveBound old.binders new.binders (level (suc (length (binders old.binders))))
    → new.types.items ≡ old.types.items ++ t ∷ [] → Enters old new t
entered old new t h closed b e = record {
  is = e;
  under = record {
    right = b.right;
    numbered =
        b.is ∙ (λ i. level (suc (length (h.numbered i))) ∷ h.numbered i)
        ∙ ap (λ n. level (suc n) ∷ levels (length old.types.items)) (levels_length (length old.types.items))
        ∙ ap levels (let s : suc (length old.types.items) ≡ length old.types.items + 1 = omega arith in s ∙ sym (length-append old.types.items (t ∷ [])))
        ∙ ap (λ l. levels (length l)) (sym e);
    declared = subst (λ l. AreDeclared (types l)) (sym e) (declared_last old.types.items t h.declared closed);
  };
}

declared_first : (ts : List Ty) (n : ℕ) → AreDeclared (types ts) → AreDeclared (types (take n ts))
declared_first ts zero h = tt
declared_first [] (suc n) h = tt
declared_first (t ∷ ts) (suc n) h = (h.0, declared_first ts n h.1)

pub left : (old new : Under) (n : ℕ) → IsUnder old → length old.types.items ≡ n + 1 → HaveLeft old.binders new.binders → new.types.items ≡ take n old.types.items
    → Leaves old new n
left old new n h one b e = record {
  is = e;
  under = record {
    right = b.right;
    numbered =
        b.is ∙ ap (drop 1) (h.numbered ∙ ap levels (one ∙ (let s : n + 1 ≡ suc n = omega arith in s)))
        ∙ ap levels (sym (length-take-le n old.types.items (omega (arith, one)))) ∙ ap (λ l. levels (length l)) (sym e);
    declared = subst (λ l. AreDeclared (types l)) (sym e) (declared_first old.types.items n h.declared);
  };
}

-- ---- closed types

module _ (p : Place) (h : IsPlace p) (t : RawType) where
  abbrev Of : model.Ty → Type 0
  Of u = IsTypeOf p.th.now t u

  meant : (names : List (List ℕ)) (o : Option model.Ty) → names ≡ names_of_types p.scope.now.declared.now → o ≡ type_meant [] names t
      → type_meant [] (names_of_types (declared_in p.th.now)) t ≡ o
  meant names o e f = sym (f ∙ ap (λ l. type_meant [] l t) (e ∙ ap names_of_types (same_declared p h)))

  same_closed : (x y : List ℕ) (D : Declared) → Widens (theory x D) (theory y D)
  same_closed x y D = record { more_datatypes = []; more_functions = []; datatypes = sym (append-nil D.datatypes); functions = sym (append-nil D.functions) }

  closed_there : (u : model.Ty) → IsClosed (theory [] (declared_in p.th.now)) u → IsClosed p.th.now u
  closed_there u c = closed_widened (theory [] (declared_in p.th.now)) (theory p.th.now.name (declared_in p.th.now)) (same_closed [] p.th.now.name (declared_in p.th.now)) u c

  closed_back : (u : model.Ty) → IsClosed p.th.now u → IsClosed (theory [] (declared_in p.th.now)) u
  closed_back u c = closed_widened (theory p.th.now.name (declared_in p.th.now)) (theory [] (declared_in p.th.now)) (same_closed p.th.now.name [] (declared_in p.th.now)) u c

  pub no_meaning : None ≡ type_meant [] p.scope.now.words.now.types t → IsAnswer Of None
  no_meaning e = λ u s. let q : None ≡ Some u = sym (meant p.scope.now.words.now.types None h.words.types e) ∙ s.0 in cc q

  module _ (u : model.Ty) (e : Some u ≡ type_meant [] p.scope.now.words.now.types t) where
    pub not_closed : is_closed (theory [] p.scope.now.declared.now) u ≡ false → IsAnswer Of None
    not_closed f = λ v s.
        let q : Some u ≡ Some v = sym (meant p.scope.now.words.now.types (Some u) h.words.types e) ∙ s.0 in
        let same : v ≡ u = cc q in
        let g : true ≡ false =
        sym (is_closed_yes (theory [] (declared_in p.th.now)) u (closed_back u (subst (IsClosed p.th.now) same s.1)))
        ∙ ap (λ D. is_closed (theory [] D) u) (sym (same_declared p h)) ∙ f in cc g

    pub closed_found : is_closed (theory [] p.scope.now.declared.now) u ≡ true → IsAnswer Of (Some u)
    closed_found f = (
      meant p.scope.now.words.now.types (Some u) h.words.types e,
      closed_there u (closed_if (theory [] (declared_in p.th.now)) u (ap (λ D. is_closed (theory [] D) u) (sym (same_declared p h)) ∙ f)),
    )

pub ruleset closing = (no_meaning, not_closed, closed_found)

pub type_declared : (th : Theory) (t : RawType) (u : model.Ty) → IsTypeOf th t u → IsDeclared u
type_declared th t u h = closed_declared th u h.1

-- ---- terms

module _ (th : Theory) (vars : List model.Ty) (a b : Under) (under : IsUnder a) (u : model.Ty) (t : RawTerm) where
  abbrev At : Tree → Type 0
  At x = IsTermAt th vars (types_under a) u t x

  abbrev Up : Option Resolved → Type 0
  Up o = Gives a.binders b.binders (IsLookedUp th (binders a.binders) t) o

  inside : levels (length (types_under a)) ≡ binders a.binders
  inside = ap levels (length-reverse (map ty a.types.items) ∙ length-map a.types.items ty) ∙ sym under.numbered

  pub no_word : Up None → Stands a b At None
  no_word h = λ x s. h s.resolved (record { is = subst (λ l. resolve (certificate_scope th) l t ≡ Some s.resolved) inside s.is; whole = s.right.whole; once = s.right.once })

  module _ (r : Resolved) (up : Up (Some r)) (answer : Bool) (typed : (answer ≡ true) ↔ HasTyping (λ d. IsTypingOf th None [] vars (types_under a) r d × (type_of d ≡ u))) where
    meant_here : resolve (certificate_scope th) (levels (length (types_under a))) t ≡ Some r
    meant_here = subst (λ l. resolve (certificate_scope th) l t ≡ Some r) (sym inside) up.0.is

    pub no_typing : answer ≡ false → Stands a b At None
    no_typing e = λ x s.
        let q : Some s.resolved ≡ Some r = sym s.is ∙ meant_here in
        let same : s.resolved ≡ r = cc q in
        let f : true ≡ false = sym (typed.1 (subst (λ v. HasTyping (λ d. IsTypingOf th None [] vars (types_under a) v d × (type_of d ≡ u))) same s.right.typed)) ∙ e in cc f

    pub some_term : answer ≡ true → (x : Tree) → x ≡ core th 0 r → b.types.items ≡ a.types.items → Stands a b At (Some x)
    some_term e x same kept = (
      record { resolved = r; is = meant_here; right = record { whole = up.0.whole; once = up.0.once; typed = typed.0 e }; same = same },
      record {
        is = kept;
        under = record {
          right = up.1.right;
          numbered = up.1.is ∙ under.numbered ∙ ap (λ l. levels (length l)) (sym kept);
          declared = subst (λ l. AreDeclared (types l)) (sym kept) under.declared;
        };
      },
    )

pub ruleset terms = (no_word, no_typing, some_term)
