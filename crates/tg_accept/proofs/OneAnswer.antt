-- One refusal, one theory, and never both.
use Rattle.std.proofs.Common.{suc, ◌≡◌, Bool, true, false, List, [], ◌∷◌, Option, Some, None, sym, ◌∙◌, inl, inr}
use Rattle.tg_model.specs.TermTyping.{Typing}
use Rattle.tg_accept.specs.Declared.{Declared}
use Rattle.tg_accept.specs.Raw.{RawEquation, datatype, primrec, definition, program, specification}
use Rattle.tg_accept.specs.Checks.{Kind, Check, First, Pass, AreSeparate, Where, Each, Any}
use Rattle.tg_accept.specs.Typings.{HasOneTyping, HasTwoTypings}
use Rattle.tg_accept.specs.Functions.{Meant, function_meant, HasOneTypingEach, HasTwoTypingsSomewhere}
use Rattle.tg_accept.specs.Programs.{specification_meant, IsSpecificationTyping}
use Rattle.tg_accept.specs.Theories.{checks_of, after, function_checks}
use Rattle.tg_accept.specs.TheoryLaws.{ChecksAreSeparate, OneRefusal, OneTheory, NotBoth}

no_first : (cs : List Check) (k : Kind) → AreSeparate cs → Pass cs → First cs k → ⊥
no_first [] k s p f = f
no_first (c ∷ cs) k s p (inl f) = s.0 p.0 f.0
no_first (c ∷ cs) k s p (inr f) = no_first cs k s.1 p.1 f.1

one_kind : (cs : List Check) (k l : Kind) → AreSeparate cs → First cs k → First cs l → k ≡ l
one_kind [] k l s f g = absurd f
one_kind (c ∷ cs) k l s (inl f) (inl g) = f.1 ∙ sym g.1
one_kind (c ∷ cs) k l s (inl f) (inr g) = absurd (s.0 g.0 f.0)
one_kind (c ∷ cs) k l s (inr f) (inl g) = absurd (s.0 f.0 g.0)
one_kind (c ∷ cs) k l s (inr f) (inr g) = one_kind cs k l s.1 f.1 g.1

-- ---- the checks are separate

not_two : (Is : Typing → Type 0) → HasOneTyping Is → HasTwoTypings Is → ⊥
not_two Is one two = two.differ (one.only two.typing two.is ∙ sym (one.only two.other two.other_is))

not_any : {A : Type 0} (P Q : A → Type 0) → ((x : A) → P x → Q x → ⊥) → (xs : List A) → Each P xs → Any Q xs → ⊥
not_any P Q apart [] each any = any
not_any P Q apart (x ∷ xs) each (inl q) = apart x each.0 q
not_any P Q apart (x ∷ xs) each (inr q) = not_any P Q apart xs each.1 q

not_where : {A : Type 0} (P Q : A → Type 0) → ((x : A) → P x → Q x → ⊥) → (o : Option A) → Where o P → Where o Q → ⊥
not_where P Q apart (Some m) p q = apart m p q
not_where P Q apart None p q = p

function_separate : (D : Declared) (is_recursive : Bool) (es : List RawEquation) (o : Option Meant) → AreSeparate (function_checks D is_recursive es o)
function_separate D r es o = (
  λ p q. q p,
  (
    λ p q. q p,
    (
      λ p q. q p,
      (
        not_where (HasOneTypingEach D r) (HasTwoTypingsSomewhere D r)
            (λ m p q. not_any _ _ (λ e x y. not_two _ x y) m.equations p q) o,
        (λ p q. q p, (λ p q. q p, tt)),
      ),
    ),
  ),
)

pub checks_are_separate : ChecksAreSeparate
checks_are_separate D (datatype x params cs) = (λ p q. q p, (λ p q. q p, (λ p q. q p, tt)))
checks_are_separate D (primrec x ts es) = function_separate D true es (function_meant D x true ts es)
checks_are_separate D (definition x ts es) = function_separate D false es (function_meant D x false ts es)
checks_are_separate D (program x ts) = (λ p q. q p, (λ p q. q p, (λ p q. q p, tt)))
checks_are_separate D (specification xs body) = (
  λ p q. q p,
  (
    λ p q. q p,
    (
      λ p q. q p,
      (
        λ p q. q p,
        (
          not_where (λ t. HasOneTyping (IsSpecificationTyping D t)) (λ t. HasTwoTypings (IsSpecificationTyping D t)) (λ t p q. not_two _ p q)
              (specification_meant D xs body),
          (λ p q. q p, (λ p q. q p, tt)),
        ),
      ),
    ),
  ),
)

-- ---- the laws

pub one_refusal : OneRefusal
one_refusal D n [] p q k l f g = (f.1 ∙ sym g.1, f.2 ∙ sym g.2)
one_refusal D n (x ∷ xs) p q k l (inl f) (inl g) = (f.1 ∙ sym g.1, one_kind (checks_of D x) k l (checks_are_separate D x) f.0 g.0)
one_refusal D n (x ∷ xs) p q k l (inl f) (inr g) = absurd (no_first (checks_of D x) k (checks_are_separate D x) g.0 f.0)
one_refusal D n (x ∷ xs) p q k l (inr f) (inl g) = absurd (no_first (checks_of D x) l (checks_are_separate D x) f.0 g.0)
one_refusal D n (x ∷ xs) p q k l (inr f) (inr g) = one_refusal (after D x) (suc n) xs p q k l f.1 g.1

pub one_theory : OneTheory
one_theory x D [] th other f g = f.1 ∙ sym g.1
one_theory x D (y ∷ ys) th other f g = one_theory x (after D y) ys th other f.1 g.1

pub not_both : NotBoth
not_both x D n [] th p k f g = g.0 f.0
not_both x D n (y ∷ ys) th p k f (inl g) = no_first (checks_of D y) k (checks_are_separate D y) f.0 g.0
not_both x D n (y ∷ ys) th p k f (inr g) = not_both x (after D y) (suc n) ys th p k f.1 g.1
