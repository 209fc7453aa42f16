-- What is told of a term of a certificate. The theory's name doesn't matter.
use Rattle.std.proofs.Common.{ℕ, ◌≡◌, ◌↔◌, Bool, true, false, List, [], map, reverse, Option, Some, None, refl, sym, ◌∙◌, ap, subst}
use Rattle.std.proofs.lemmas.List.{append-nil}
use Rattle.tg_model.specs.TermTyping.{Typing, type_of}
use Rattle.tg_model.specs.Theory.{Theory}
use Rattle.tg_model.specs.Tree.{Tree}
use Rattle.tg_model.specs.Types.{Ty}
use Rattle.tg_accept.specs.Cases.{EachCaseIn, AreOnce}
use Rattle.tg_accept.specs.Core.{core, EachCaseWhole}
use Rattle.tg_accept.specs.Declared.{Declared, theory}
use Rattle.tg_accept.specs.Laws.{Widens}
use Rattle.tg_accept.specs.Meaning as meaning
use Rattle.tg_accept.specs.Meaning.{resolve}
use Rattle.tg_accept.specs.Raw.{RawTerm}
use Rattle.tg_accept.specs.Resolved.{Resolved}
use Rattle.tg_accept.specs.ResolvedTyping.{IsTypingOf}
use Rattle.tg_accept.specs.Standing.{declared_in, certificate_scope}
use Rattle.tg_accept.specs.Typings.{HasTyping}
use Rattle.tg_accept.proofs.Widening.{typings_widen}
use Rattle.tg_equations.proofs.NamedLaws.{core_named, whole_named}
use Rattle.tg_infer.specs.declared.binders.Binders.{Binders}
use Rattle.tg_infer.specs.Binders.{binders}
use Rattle.tg_infer.specs.Finding.{Finds}
use Rattle.tg_infer.specs.Scopes.{scope_of}
use Rattle.tg_theory.proofs.FormedLaws.{closed_types}
use Rattle.tg_theory.specs.Typed.{has_typing}
use Rattle.tg_types.specs.declared.types.Ty as program
use Rattle.tg_types.specs.Types.{ty}
use Rattle.tg_typing.specs.Answers.{Counts, IsTypingIn, IsTypingAt}
use Rattle.tg_typing.specs.Contexts.{HasClosedTypes}
use Rattle.tg_typing.specs.declared.typings.Typings.{Typings}
use Rattle.tg_typing.specs.declared.typings.Typings.TheVariants as typings
use Rattle.tg_standing.specs.declared.places.Place.{Place}
use Rattle.tg_standing.specs.Places.{IsPlace, IsLookedUp, Gives}

pub same_declared : (p : Place) → IsPlace p → p.scope.now.declared.now ≡ declared_in p.th.now
same_declared p h = ap (λ (S : meaning.Scope). S.declared) h.scope

pub closed_in : (p : Place) → IsPlace p → HasClosedTypes (theory [] p.scope.now.declared.now) None
closed_in p h = closed_types p.scope.now.declared.now h.kept

-- ---- the theory's name doesn't matter

module _ (x y : List ℕ) (D : Declared) where
  wide : Widens (theory x D) (theory y D)
  wide = record { more_datatypes = []; more_functions = []; datatypes = sym (append-nil D.datatypes); functions = sym (append-nil D.functions) }

  typing_named : (vars locs : List Ty) (t : Resolved) (d : Typing) → IsTypingOf (theory x D) None [] vars locs t d → IsTypingOf (theory y D) None [] vars locs t d
  typing_named vars locs t d h = typings_widen (theory x D) (theory y D) wide None [] vars locs t d (λ q. refl) h

module _ (th : Theory) where
  abbrev Unnamed : Theory
  Unnamed = theory [] (declared_in th)

  typing_there : (vars locs : List Ty) (t : Resolved) (d : Typing) → IsTypingOf Unnamed None [] vars locs t d → IsTypingOf th None [] vars locs t d
  typing_there vars locs t d h = typing_named [] th.name (declared_in th) vars locs t d h

  typing_back : (vars locs : List Ty) (t : Resolved) (d : Typing) → IsTypingOf th None [] vars locs t d → IsTypingOf Unnamed None [] vars locs t d
  typing_back vars locs t d h = typing_named th.name [] (declared_in th) vars locs t d h

  some_typing : (Is Of : Typing → Type 0) → ((d : Typing) → Is d → Of d) → ((d : Typing) → Of d → Is d) → (n : Typings) → Counts Is n → (has_typing n ≡ true) ↔ HasTyping Of
  some_typing Is Of there back typings.None h = ((λ e. cc e), (λ w. absurd (h w.typing (back w.typing w.is))))
  some_typing Is Of there back typings.One h = ((λ e. record { typing = h.typing; is = there h.typing h.is }), (λ w. refl))
  some_typing Is Of there back typings.Several h = ((λ e. record { typing = h.typing; is = there h.typing h.is }), (λ w. refl))

  told_here : (vars : List program.Ty) (t : Resolved) (n : Typings) → Counts (IsTypingIn Unnamed None vars t) n
      → (has_typing n ≡ true) ↔ HasTyping (IsTypingOf th None [] (map ty vars) [] t)
  told_here vars t n h = some_typing (IsTypingIn Unnamed None vars t) (IsTypingOf th None [] (map ty vars) [] t) (typing_there (map ty vars) [] t) (typing_back (map ty vars) [] t) n h

  told_at_here : (vars locs : List program.Ty) (t : Resolved) (u : Ty) (n : Typings) → Counts (IsTypingAt Unnamed None vars locs t u) n
      → (has_typing n ≡ true) ↔ HasTyping (λ d. IsTypingOf th None [] (map ty vars) (reverse (map ty locs)) t d × (type_of d ≡ u))
  told_at_here vars locs t u n h =
      some_typing (IsTypingAt Unnamed None vars locs t u) (λ d. IsTypingOf th None [] (map ty vars) (reverse (map ty locs)) t d × (type_of d ≡ u))
      (λ d w. (typing_there (map ty vars) (reverse (map ty locs)) t d w.0, w.1)) (λ d w. (typing_back (map ty vars) (reverse (map ty locs)) t d w.0, w.1)) n h

pub told : (p : Place) → IsPlace p → (t : Resolved) (n : Typings) (answer : Bool) → Counts (IsTypingIn (theory [] p.scope.now.declared.now) None p.vars.now t) n
    → answer ≡ has_typing n → (answer ≡ true) ↔ HasTyping (IsTypingOf p.th.now None [] (map ty p.vars.now) [] t)
told p h t n answer counts e =
    subst (λ b. (b ≡ true) ↔ HasTyping (IsTypingOf p.th.now None [] (map ty p.vars.now) [] t)) (sym e)
    (told_here p.th.now p.vars.now t n (subst (λ D. Counts (IsTypingIn (theory [] D) None p.vars.now t) n) (same_declared p h) counts))

pub told_at : (p : Place) → IsPlace p → (locs : List program.Ty) (t : Resolved) (u : Ty) (n : Typings) (answer : Bool)
    → Counts (IsTypingAt (theory [] p.scope.now.declared.now) None p.vars.now locs t u) n → answer ≡ has_typing n
    → (answer ≡ true) ↔ HasTyping (λ d. IsTypingOf p.th.now None [] (map ty p.vars.now) (reverse (map ty locs)) t d × (type_of d ≡ u))
told_at p h locs t u n answer counts e =
    subst (λ b. (b ≡ true) ↔ HasTyping (λ d. IsTypingOf p.th.now None [] (map ty p.vars.now) (reverse (map ty locs)) t d × (type_of d ≡ u))) (sym e)
    (told_at_here p.th.now p.vars.now locs t u n (subst (λ D. Counts (IsTypingAt (theory [] D) None p.vars.now locs t u) n) (same_declared p h) counts))

pub core_here : (p : Place) → IsPlace p → (t : Resolved) (r : Tree) → r ≡ core (theory [] p.scope.now.declared.now) 0 t → r ≡ core p.th.now 0 t
core_here p h t r e = e ∙ ap (λ D. core (theory [] D) 0 t) (same_declared p h) ∙ core_named [] p.th.now.name (declared_in p.th.now) 0 t

pub ruleset telling = (closed_in, told, told_at, core_here)

-- ---- words

module _ (p : Place) (h : IsPlace p) (a b : Binders) (t : RawTerm) where
  abbrev Meant : Option Resolved
  Meant = resolve (scope_of p.scope.now) (binders a) t

  same_meant : (o : Option Resolved) → o ≡ Meant → resolve (certificate_scope p.th.now) (binders a) t ≡ o
  same_meant o e = sym (e ∙ ap (λ S. resolve S (binders a) t) h.scope)

  pub not_found : Finds a b None Meant → Gives a b (IsLookedUp p.th.now (binders a) t) None
  not_found e = λ r w. let q : None ≡ Some r = sym (same_meant None e) ∙ w.is in cc q

  whole_there : (r : Resolved) → EachCaseWhole (theory [] p.scope.now.declared.now) r → EachCaseWhole p.th.now r
  whole_there r w = whole_named [] p.th.now.name (declared_in p.th.now) r (subst (λ D. EachCaseWhole (theory [] D) r) (same_declared p h) w)

  whole_back : (r : Resolved) → EachCaseWhole p.th.now r → EachCaseWhole (theory [] p.scope.now.declared.now) r
  whole_back r w = subst (λ D. EachCaseWhole (theory [] D) r) (sym (same_declared p h)) (whole_named p.th.now.name [] (declared_in p.th.now) r w)

  module _ (r : Resolved) (found : Finds a b (Some r) Meant) (answer : Bool) (right : (answer ≡ true) ↔ (EachCaseWhole (theory [] p.scope.now.declared.now) r × EachCaseIn AreOnce r)) where
    pub not_right : answer ≡ false → Gives a b (IsLookedUp p.th.now (binders a) t) None
    not_right e = λ s w.
        let q : Some r ≡ Some s = sym (same_meant (Some r) found.0) ∙ w.is in
        let same : s ≡ r = cc q in
        let f : true ≡ false = sym (right.1 (whole_back r (subst (λ u. EachCaseWhole p.th.now u) same w.whole), subst (λ u. EachCaseIn AreOnce u) same w.once)) ∙ e in cc f

    pub is_right : answer ≡ true → Gives a b (IsLookedUp p.th.now (binders a) t) (Some r)
    is_right e = (record { is = same_meant (Some r) found.0; whole = whole_there r (right.0 e).0; once = (right.0 e).1 }, found.1)

pub ruleset looking = (not_found, not_right, is_right)
