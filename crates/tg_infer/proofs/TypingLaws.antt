-- How many typings equations have.
use Rattle.std.proofs.Common.{ℕ, suc, ◌≡◌, ◌+◌, Bool, true, false, List, [], ◌∷◌, map, drop, Some, refl, sym, ◌∙◌, ap, subst, arith, inl, inr}
use Rattle.std.specs.Prelude.{slice_get}
use Rattle.tg_accept.specs.Checks.{Each, Any}
use Rattle.tg_accept.specs.Typings.{HasTyping, HasOneTyping, HasTwoTypings}
use Rattle.tg_model.specs.TermTyping.{Typing}
use Rattle.tg_equations.specs.Told.{AreTypings}
use Rattle.tg_term.proofs.PartLaws.{drop_at}
use Rattle.tg_typing.specs.declared.typings.Typings.{Typings}
use Rattle.tg_typing.specs.declared.typings.Typings.TheVariants as counts
use Rattle.tg_infer.specs.Functions.{HaveTypings}

-- the equations before the rest have typings, several where it says so
pub record AreCounted {A : Type 0} (Is : A → Typing → Type 0) (es rest : List A) (several : Bool) : Type 0 where
  pub typed : Each (λ e. HasTyping (Is e)) rest → Each (λ e. HasTyping (Is e)) es
  pub left : Each (λ e. HasTyping (Is e)) es → Each (λ e. HasTyping (Is e)) rest
  pub one : several ≡ false → Each (λ e. HasOneTyping (Is e)) rest → Each (λ e. HasOneTyping (Is e)) es
  pub two : several ≡ true → Any (λ e. HasTwoTypings (Is e)) es
  -- where one that is left has two, one has
  pub later : Any (λ e. HasTwoTypings (Is e)) rest → Any (λ e. HasTwoTypings (Is e)) es

pub begin_count : {A : Type 0} (Is : A → Typing → Type 0) (es : List A) → AreCounted Is es es false
begin_count Is es = record { typed = λ h. h; left = λ h. h; one = λ e h. h; two = λ e. cc e; later = λ h. h }

pub has_typing : (P : Typing → Type 0) → HasOneTyping P → HasTyping P
has_typing P h = record { typing = h.typing; is = h.is }

has_a_typing : (P : Typing → Type 0) → HasTwoTypings P → HasTyping P
has_a_typing P h = record { typing = h.typing; is = h.is }

pub one_more : {A : Type 0} (Is : A → Typing → Type 0) (es rest : List A) (e : A) (several : Bool) → AreCounted Is es (e ∷ rest) several → HasOneTyping (Is e)
    → AreCounted Is es rest several
one_more Is es rest e several h one = record {
  typed = λ t. h.typed (has_typing (Is e) one, t);
  left = λ t. (h.left t).1;
  one = λ f t. h.one f (one, t);
  two = h.two;
  later = λ t. h.later (inr t);
}

pub two_more : {A : Type 0} (Is : A → Typing → Type 0) (es rest : List A) (e : A) (several : Bool) → AreCounted Is es (e ∷ rest) several → HasTwoTypings (Is e)
    → AreCounted Is es rest true
two_more Is es rest e several h two = record {
  typed = λ t. h.typed (has_a_typing (Is e) two, t);
  left = λ t. (h.left t).1;
  one = λ f t. cc f;
  two = λ f. h.later (inl two);
  later = λ t. h.later (inr t);
}

pub none_at : {A : Type 0} (Is : A → Typing → Type 0) (es rest : List A) (e : A) (several : Bool) → AreCounted Is es (e ∷ rest) several → ¬ (HasTyping (Is e))
    → HaveTypings Is es counts.None
none_at Is es rest e several h none = λ t. none (h.left t).0

pub all_one : {A : Type 0} (Is : A → Typing → Type 0) (es : List A) → AreCounted Is es [] false → HaveTypings Is es counts.One
all_one Is es h = (h.typed tt, h.one refl tt)

pub some_two : {A : Type 0} (Is : A → Typing → Type 0) (es : List A) → AreCounted Is es [] true → HaveTypings Is es counts.Several
some_two Is es h = (h.typed tt, h.two refl)

pub rest_at : {A X : Type 0} (raw : A → X) (ts : List A) (i : ℕ) (t : A) → slice_get ts i ≡ Some t → map raw (drop i ts) ≡ raw t ∷ map raw (drop (i + 1) ts)
rest_at raw ts i t e = ap (map raw) (drop_at ts i t e ∙ ap (λ n. t ∷ drop n ts) (let s : suc i ≡ i + 1 = omega arith in s))

pub ruleset counting = (begin_count)

pub ruleset faults = (begin_count)
