-- What a term of a certificate stands for.
use Rattle.std.proofs.Common.{◌≡◌, ◌↔◌, Bool, true, false, List, [], map, Option, Some, None, refl, sym, ◌∙◌, subst}
use Rattle.tg_model.specs.Theory.{Theory}
use Rattle.tg_model.specs.TermTyping.{type_of}
use Rattle.tg_model.specs.Tree.{Tree}
use Rattle.tg_accept.specs.Core.{core}
use Rattle.tg_accept.specs.Meaning.{resolve}
use Rattle.tg_accept.specs.Raw.{RawTerm}
use Rattle.tg_accept.specs.Resolved.{Resolved}
use Rattle.tg_accept.specs.ResolvedTyping.{IsTypingOf}
use Rattle.tg_accept.specs.Standing.{certificate_scope, IsAnswer, IsTermOf}
use Rattle.tg_accept.specs.Typings.{HasTyping}
use Rattle.tg_infer.specs.declared.binders.Binders.{Binders}
use Rattle.tg_infer.specs.Binders.{binders}
use Rattle.tg_theory.proofs.ClosedTypes.{are_declared_yes, all_declared_if}
use Rattle.tg_theory.specs.Typed.{are_declared}
use Rattle.tg_types.specs.declared.types.Ty.{Ty}
use Rattle.tg_types.specs.Types.{ty, types}
use Rattle.tg_standing.specs.Places.{IsLookedUp, Gives}
use Rattle.tg_standing.specs.Terms.{IsTermIn}

module _ (th : Theory) (vars : List Ty) (t : RawTerm) (a b : Binders) (outside : binders a ≡ []) where
  abbrev Of : Tree → Type 0
  Of x = IsTermOf th (map ty vars) t x

  abbrev Up : Option Resolved → Type 0
  Up o = Gives a b (IsLookedUp th (binders a) t) o

  pub no_word : Up None → IsAnswer Of None
  no_word h = λ x s.
      let e : resolve (certificate_scope th) (binders a) t ≡ Some s.1.resolved = subst (λ l. resolve (certificate_scope th) l t ≡ Some s.1.resolved) (sym outside) s.1.is in
      h s.1.resolved (record { is = e; whole = s.1.right.whole; once = s.1.right.once })

  module _ (r : Resolved) (up : Up (Some r)) (answer : Bool) (typed : (answer ≡ true) ↔ HasTyping (IsTypingOf th None [] (map ty vars) [] r)) where
    meant : resolve (certificate_scope th) [] t ≡ Some r
    meant = subst (λ l. resolve (certificate_scope th) l t ≡ Some r) outside up.0.is

    pub no_typing : answer ≡ false → IsAnswer Of None
    no_typing e = λ x s.
        let q : Some s.1.resolved ≡ Some r = sym s.1.is ∙ meant in
        let same : s.1.resolved ≡ r = cc q in
        let d = s.1.right.typed in
        let f : true ≡ false = sym (typed.1 (record { typing = d.typing; is = subst (λ u. IsTypingOf th None [] (map ty vars) [] u d.typing) same d.is.0 })) ∙ e in cc f

    pub some_term : answer ≡ true → (x : Tree) → x ≡ core th 0 r → IsAnswer Of (Some x)
    some_term e x same =
        let d = typed.0 e in (
          type_of d.typing,
          record {
            resolved = r;
            is = meant;
            right = record { whole = up.0.whole; once = up.0.once; typed = record { typing = d.typing; is = (d.is, refl) } };
            same = same;
          },
        )

pub ruleset terms = (no_word, no_typing, some_term)

-- ---- the types that are given

pub no_vars : (th : Theory) (vars : List Ty) (t : RawTerm) → are_declared (types vars) ≡ false → IsAnswer (IsTermIn th vars t) None
no_vars th vars t e = λ x s. let q : true ≡ false = sym (are_declared_yes (types vars) s.variables) ∙ e in cc q

pub answer_in : (th : Theory) (vars : List Ty) (t : RawTerm) (found : Option Tree) → are_declared (types vars) ≡ true → IsAnswer (IsTermOf th (map ty vars) t) found
    → IsAnswer (IsTermIn th vars t) found
answer_in th vars t (Some x) e h = record { variables = all_declared_if (types vars) e; stands = h }
answer_in th vars t None e h = λ x s. h x s.stands

pub ruleset answering = (no_vars, answer_in)
