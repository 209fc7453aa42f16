-- A function whose equations are typed, and written as they should be, is what the builder asks for.
use Rattle.std.proofs.Common.{ℕ, zero, suc, ◌≡◌, ◌+◌, Bool, true, false, List, [], ◌∷◌, ◌++◌, map, length, Option, Some, None, refl, sym, ◌∙◌, ap, subst, if◌then◌else◌, arith}
use Rattle.std.specs.Prelude.{slice_get, take, drop, unwrap_or}
use Rattle.std.proofs.lemmas.List.{append-nil}
use Rattle.std.specs.Option.{option_map_or}
use Rattle.tg_model.specs.Types.{Ty, bool}
use Rattle.tg_model.specs.Theory.{Theory, Function, Program, numbered, datatype_of}
use Rattle.tg_model.specs.TermTyping.{IsTyped, IsDatatype, datatype_at, constructor_arguments}
use Rattle.tg_model.specs.Denotation.{others}
use Rattle.tg_model.specs.Accepted.{UseThemselves, parameters_from}
use Rattle.tg_accept.specs.Declared.{Declared, no_program, theory, with_function}
use Rattle.tg_accept.specs.Meant.{IsBodyTyped, IsSpecificationMeant}
use Rattle.tg_accept.specs.Resolved.{Head}
use Rattle.tg_accept.specs.ResolvedTyping.{head_at, IsTypingOf}
use Rattle.tg_accept.specs.Core.{core, heads_of}
use Rattle.tg_accept.specs.Checks.{Each}
use Rattle.tg_accept.specs.Typings.{HasTyping}
use Rattle.tg_accept.specs.Equations.{Equation, opened, IsEquationTyping}
use Rattle.tg_accept.specs.Functions.{Meant, IsTypable, places, place_in, is_for, count_for, side_for, first_side, datatype_at_place, own_number, body_of, whole_function, IsEquationShaped, IsPrimrecWritten}
use Rattle.tg_accept.specs.Programs.{whole_specification}
use Rattle.tg_accept.specs.MeantLaws.{FunctionIsMeant, ProgramIsMeant, SpecificationIsMeant}
use Rattle.tg_accept.proofs.Aligned.{second, Aligned, aligned}
use Rattle.tg_accept.proofs.CoreTypes.{heads_same, plain_is_typed}
use Rattle.tg_accept.proofs.FunctionTypes.{IsUsed, used}
use Rattle.tg_accept.proofs.LeftSides.{Lefts, both, plain_left, Matching, matching_left, opened_at, number_at, others_at}

count_parameters : (n count : ℕ) → length (parameters_from n count) ≡ count
count_parameters n zero = refl
count_parameters n (suc count) = ap suc (count_parameters (suc n) count)

pub two_of : {A : Type 0} (P Q : A → Type 0) (xs : List A) → Each P xs → Each Q xs → Each (λ x. P x × Q x) xs
two_of P Q [] p q = tt
two_of P Q (x ∷ xs) p q = ((p.0, q.0), two_of P Q xs p.1 q.1)

-- the equation for a head, where there is one
pub one_for : (P : Equation → Type 0) (h : Head) (es : List Equation) → Each P es → count_for h es ≡ 1
    → (e : Equation) × P e × (is_for h e.patterns ≡ true) × (side_for es h ≡ e.body)
one_for P h [] all c = cc c
one_for P h (e ∷ es) all c = by (is_for h e.patterns) refl c (λ n. one_for P h es all.1 n)
  where
    by : (b : Bool) → is_for h e.patterns ≡ b → (if b then suc (count_for h es) else count_for h es) ≡ 1
        → (count_for h es ≡ 1 → (k : Equation) × P k × (is_for h k.patterns ≡ true) × (side_for es h ≡ k.body))
        → (k : Equation) × P k × (is_for h k.patterns ≡ true) × ((if b then e.body else side_for es h) ≡ k.body)
    by true q n rest = (e, all.0, q, refl)
    by false q n rest = rest n

some_same : {A : Type 0} (o : Option A) (x y : A) → o ≡ Some x → o ≡ Some y → x ≡ y
some_same o x y e h = let q : Some x ≡ Some y = sym e ∙ h in cc q

-- the types of the variables of a left side with one constructor pattern
variables_are : (ts vs us args : List Ty) (k : ℕ) → vs ≡ (take k ts ++ drop (suc k) ts) ++ us → us ≡ args → vs ≡ others ts (suc k) ++ args
variables_are ts vs us args k e h = e ∙ (ap (λ z. z ++ us) (sym (others_at ts k)) ∙ ap (λ z. others ts (suc k) ++ z) h)

-- the types of a constructor's arguments, where it is the one for a head of the datatype
arguments_are : (th : Theory) (h k : Head) (d : ℕ) (us ts args : List Ty) (t : Ty) → IsDatatype th d us → t ≡ datatype_at d us → opened th k t ≡ Some ts → k ≡ h
    → head_at th us h ≡ Some (d, args) → ts ≡ args
arguments_are th h k d us ts args t is type opens same head =
    let here : opened th k (datatype_at d us) ≡ Some ts = subst (λ u. opened th k u ≡ Some ts) type opens in
    let owned : head_at th us h ≡ Some (d, ts) = subst (λ j. head_at th us j ≡ Some (d, ts)) same (opened_at th k d us ts is here) in
    second (d, ts) (d, args) (sym owned ∙ head)

module _ (D : Declared) (m : Meant) where
  abbrev f : Function
  f = m.signature

  abbrev th : Theory
  th = theory [] D

  abbrev pub Typed : Equation → Type 0
  Typed e = HasTyping (IsEquationTyping th (Some f) f e)

  -- what is known of an equation with one constructor pattern
  abbrev pub IsRight : ℕ → Equation → Type 0
  IsRight place e = (Typed e × IsEquationShaped D f e) × (places e.patterns ≡ place ∷ [])

  abbrev self : ℕ
  self = own_number D

  abbrev ps : List Ty
  ps = parameters_from 1 f.parameters

  abbrev wide : Theory
  wide = theory [] (with_function D (whole_function D true m))

  pub matching_of : (k : ℕ) (e : Equation) (right : IsRight (suc k) e) → Matching th e.patterns f.arguments right.0.0.is.0 k
  matching_of k e right =
      let next : suc k ≡ 1 + k = omega arith in
      let at : places e.patterns ≡ (1 + k) ∷ [] = subst (λ n. places e.patterns ≡ n ∷ []) next right.1 in
      matching_left th 1 k e.patterns f.arguments right.0.0.is.0 at right.0.0.is.1

  -- the types of the variables in a case
  case_variables : (k : ℕ) (h : Head) (args : List Ty) (d : ℕ) (us : List Ty) → numbered f.arguments (suc k) ≡ Some (datatype_at d us) → IsDatatype th d us
      → (e : Equation) (l : Lefts) → Matching th e.patterns f.arguments l k → is_for h e.patterns ≡ true → head_at th us h ≡ Some (d, args)
      → both l ≡ others f.arguments (suc k) ++ args
  case_variables k h args d us at is e l found for_head head =
      let type : found.type ≡ datatype_at d us = some_same (slice_get f.arguments k) found.type (datatype_at d us) found.at at in
      let same : found.head ≡ h = heads_same found.head h (subst (λ b. b ≡ true) (found.is_head h) for_head) in
      let here : found.arguments ≡ args = arguments_are th h found.head d us found.arguments args found.type is type found.opens same head in
      variables_are f.arguments (both l) found.arguments args k found.types here

  case_typed : (place : ℕ) (h : Head) (args : List Ty) (d : ℕ) (us : List Ty) → numbered f.arguments place ≡ Some (datatype_at d us) → IsDatatype th d us
      → (e : Equation) → IsRight place e → is_for h e.patterns ≡ true → head_at th us h ≡ Some (d, args)
      → IsUsed wide self ps (others f.arguments place ++ args) [] (core th self e.body) f.answer
  case_typed zero h args d us at is e right for_head head = cc at
  case_typed (suc k) h args d us at is e right for_head head =
      let t = right.0.0 in
      let vars = case_variables k h args d us at is e t.is.0 (matching_of k e right) for_head head in
      let typing : IsTypingOf th (Some f) ps (others f.arguments (suc k) ++ args) [] e.body t.typing =
      subst (λ v. IsTypingOf th (Some f) ps v [] e.body t.typing) vars t.is.2 in
      let u = used D f (body_of D true m) ps (others f.arguments (suc k) ++ args) (count_parameters 1 f.parameters) e.body t.typing [] typing right.0.1.cases.whole in
      (u.0, u.1, u.2 ∙ t.is.3, u.3)

  cases_typed : (place : ℕ) (d : ℕ) (us : List Ty) → numbered f.arguments place ≡ Some (datatype_at d us) → IsDatatype th d us
      → Each (IsRight place) m.equations → (hs : List Head) (args : List (List Ty)) → Aligned th us d hs args → Each (λ h. count_for h m.equations ≡ 1) hs
      → UseThemselves wide self (whole_function D true m) place (map (λ h. core th self (side_for m.equations h)) hs) args
  cases_typed place d us at is all [] [] a c = tt
  cases_typed place d us at is all [] (ts ∷ args) a c = absurd a
  cases_typed place d us at is all (h ∷ hs) [] a c = absurd a
  cases_typed place d us at is all (h ∷ hs) (ts ∷ args) a c =
      let e = one_for (IsRight place) h m.equations all c.0 in
      let typed = case_typed place h ts d us at is e.0 e.1 e.2 a.0 in
      let here = subst (λ t. IsUsed wide self ps (others f.arguments place ++ ts) [] (core th self t) f.answer) (sym e.3) typed in
      (here, cases_typed place d us at is all hs args a.1 c.1)

  primrec_typed : IsTypable D true m → IsPrimrecWritten D m → IsBodyTyped D (whole_function D true m) (body_of D true m)
  primrec_typed typable written d us at is long =
      let place = place_in m.equations in
      let all = two_of _ _ m.equations (two_of _ _ m.equations typable.equations written.equations) written.one_place in
      let number : datatype_at_place f place ≡ d = ap (λ o. option_map_or datatype_of o 0) at ∙ number_at d us in
      let a = subst (λ n. Aligned th us d (heads_of th n) (constructor_arguments th d us)) (sym number) (aligned th d us is) in
      cases_typed place d us at is all (heads_of th (datatype_at_place f place)) (constructor_arguments th d us) a written.covered

  definition_typed : (es : List Equation) → Each (λ e. HasTyping (IsEquationTyping th None f e)) es → Each (IsEquationShaped D f) es → length es ≡ 1
      → Each (λ e. places e.patterns ≡ []) es → IsTyped th f.arguments [] (core th self (first_side es)) f.answer
  definition_typed [] t s n p = cc n
  definition_typed (e ∷ es) t s n p =
      let left = plain_left th 1 e.patterns f.arguments t.0.is.0 p.0 t.0.is.1 in
      let vars : both t.0.is.0 ≡ f.arguments = ap (λ z. z ++ t.0.is.0.1) left.0 ∙ (ap (λ z. f.arguments ++ z) left.1 ∙ append-nil f.arguments) in
      let typing = subst (λ v. IsTypingOf th None [] v [] e.body t.0.typing) vars t.0.is.2 in
      let u = plain_is_typed th self [] f.arguments e.body t.0.typing typing s.0.cases.whole in
      (u.0, u.1, u.2 ∙ t.0.is.3)

pub function_is_meant : FunctionIsMeant
function_is_meant D true m typable written = record { types = typable.types; body = primrec_typed D m typable written }
function_is_meant D false m typable written = record {
  types = typable.types;
  body = definition_typed D m m.equations typable.equations written.equations written.one_equation written.no_pattern;
}

pub program_is_meant : ProgramIsMeant
program_is_meant D params p made = record { params = params; types = made }

pub specification_is_meant : SpecificationIsMeant
specification_is_meant D xs t has shaped = by D.program refl
  where
    by : (o : Option Program) → D.program ≡ o → IsSpecificationMeant (theory [] D) o (whole_specification D t)
    by None e = tt
    by (Some p) e =
        let u = plain_is_typed (theory [] D) 0 [] (theory [] D).program.inputs t has.typing has.is.0 shaped.cases.whole in
        let same : (theory [] D).program ≡ p = ap (λ o. unwrap_or o no_program) e in
        subst (λ (q : Program). IsTyped (theory [] D) q.inputs [] (whole_specification D t) bool) same (u.0, u.1, u.2 ∙ has.is.1)
