-- Functions that can stand in as the program.
use Rattle.std.proofs.Common.{ℕ, zero, suc, ◌≡◌, ◌≤◌, ◌<◌, ◌⊎◌, inl, inr, List, [], ◌∷◌, ◌++◌, map, length, ◌+◌, ◌↔◌, Bool, true, false, Option, Some, None, MatchOption, refl, sym, ap, ◌∙◌, subst, arith}
use Rattle.std.specs.Bool.{Decides}
use Rattle.std.specs.Prelude.{slice_get}
use Rattle.tg_model.specs.Accepted.{IsAccepted, IsAmong, AreDistinct, constructor_names, variables_from}
use Rattle.tg_model.specs.Theory.{Theory, Function, numbered, instance, IsClosed, AreClosed}
use Rattle.tg_model.specs.Tree.{Tree, free, trees}
use Rattle.tg_model.specs.TermTyping as typing
use Rattle.tg_model.specs.TermTyping.{Typing, Typings, leaf, instanced, type_of, types_of, IsTyping, AreTypings, IsTyped}
use Rattle.tg_model.specs.Types.{Ty, tys}
use Rattle.tg_theory.specs.Typed.{IsTypedAt}
use Rattle.tg_theory.proofs.ClosedTypes.{closed_declared, all_closed_declared}
use Rattle.tg_types.specs.Types.{ty}
use Rattle.tg_types.specs.declared.types.Ty as declared
use Rattle.tg_cmd.specs.StandIn.{HasProgramType, IsNamed, StandsIn, call_of}

-- ---- one function has a name

distinct_behind : (xs ys : List (List ℕ)) → AreDistinct (xs ++ ys) → AreDistinct ys
distinct_behind [] ys h = h
distinct_behind (x ∷ xs) ys h = distinct_behind xs ys h.1

among_front : (x : List ℕ) (xs ys : List (List ℕ)) → IsAmong x xs → IsAmong x (xs ++ ys)
among_front x [] ys h = absurd h
among_front x (y ∷ xs) ys (inl e) = inl e
among_front x (y ∷ xs) ys (inr h) = inr (among_front x xs ys h)

pub distinct_front : (xs ys : List (List ℕ)) → AreDistinct (xs ++ ys) → AreDistinct xs
distinct_front [] ys h = tt
distinct_front (x ∷ xs) ys h = (λ a. h.0 (among_front x xs ys a), distinct_front xs ys h.1)

abbrev name_of : Function → List ℕ
name_of f = f.name

among_names : (fs : List Function) (n : ℕ) (f : Function) → slice_get fs n ≡ Some f → IsAmong f.name (map name_of fs)
among_names [] n f e = absurd cc
among_names (g ∷ fs) zero f e = let same : g ≡ f = cc e in inl (ap name_of (sym same))
among_names (g ∷ fs) (suc n) f e = inr (among_names fs n f e)

one_place : (fs : List Function) → AreDistinct (map name_of fs) → (m n : ℕ) (f g : Function) → slice_get fs m ≡ Some f → slice_get fs n ≡ Some g → f.name ≡ g.name → m ≡ n
one_place [] h m n f g d e same = absurd cc
one_place (x ∷ fs) h zero zero f g d e same = refl
one_place (x ∷ fs) h zero (suc n) f g d e same =
    let first : x ≡ f = cc d in
    absurd (h.0 (subst (λ k. IsAmong k (map name_of fs)) (sym same ∙ ap name_of (sym first)) (among_names fs n g e)))
one_place (x ∷ fs) h (suc m) zero f g d e same =
    let first : x ≡ g = cc e in
    absurd (h.0 (subst (λ k. IsAmong k (map name_of fs)) (same ∙ ap name_of (sym first)) (among_names fs m f d)))
one_place (x ∷ fs) h (suc m) (suc n) f g d e same = ap suc (one_place fs h.1 m n f g d e same)

one_number : (fs : List Function) → AreDistinct (map name_of fs) → (m n : ℕ) (f g : Function) → numbered fs m ≡ Some f → numbered fs n ≡ Some g → f.name ≡ g.name → m ≡ n
one_number fs h zero n f g d e same = absurd cc
one_number fs h (suc m) zero f g d e same = absurd cc
one_number fs h (suc m) (suc n) f g d e same = ap suc (one_place fs h m n f g d e same)

function_names : (th : Theory) → IsAccepted th → AreDistinct (map name_of th.functions)
function_names th accepted =
    distinct_front (map name_of th.functions) (th.program.name ∷ [])
    (distinct_behind (constructor_names th.datatypes) (map name_of th.functions ++ th.program.name ∷ []) accepted.names_differ)

pub one_named : (th : Theory) → IsAccepted th → (name : List ℕ) (m n : ℕ) (f g : Function) → IsNamed th name m f → IsNamed th name n g → m ≡ n
one_named th accepted name m n f g h k =
    one_number th.functions (function_names th accepted) m n f g h.at k.at (h.named ∙ sym k.named)

pub one_stand_in : (th : Theory) → IsAccepted th → (name : List ℕ) (m n : ℕ) → StandsIn th name m → StandsIn th name n → m ≡ n
one_stand_in th accepted name m n h k = one_named th accepted name m n h.function k.function h.named k.named

-- ---- a function has the program's type where its call at the inputs has the type of the answer

abbrev leaves : List Ty → Typings
leaves [] = typing.none
leaves (t ∷ ts) = typing.more (leaf t) (leaves ts)

types_of_leaves : (ts : List Ty) → types_of (leaves ts) ≡ ts
types_of_leaves [] = refl
types_of_leaves (t ∷ ts) = ap (λ us. t ∷ us) (types_of_leaves ts)

module _ (th : Theory) (vars : List Ty) where
  abbrev Agree : ℕ → List Ty → Type 0
  Agree k ts = (i : ℕ) → slice_get vars (k + i) ≡ slice_get ts i

  here : (k : ℕ) (t : Ty) (ts : List Ty) → Agree k (t ∷ ts) → numbered vars (suc k) ≡ Some t
  here k t ts agree = let z : k ≡ k + 0 = omega arith in ap (slice_get vars) z ∙ agree 0

  beyond : (k : ℕ) (t : Ty) (ts : List Ty) → Agree k (t ∷ ts) → Agree (suc k) ts
  beyond k t ts agree = λ i. let z : suc k + i ≡ k + suc i = omega arith in ap (slice_get vars) z ∙ agree (suc i)

  variables_typed : (k : ℕ) (ts : List Ty) → Agree k ts → AreTypings th vars [] (trees (variables_from (suc k) (length ts))) (leaves ts)
  variables_typed k [] agree = tt
  variables_typed k (t ∷ ts) agree = (here k t ts agree, variables_typed (suc k) ts (beyond k t ts agree))

  -- the typings of the variables have their types
  types_are : (k : ℕ) (ts : List Ty) → Agree k ts → (ds : Typings) → AreTypings th vars [] (trees (variables_from (suc k) (length ts))) ds → types_of ds ≡ ts
  types_are k [] agree typing.none h = refl
  types_are k [] agree (typing.more d ds) h = absurd h
  types_are k (t ∷ ts) agree typing.none h = absurd h
  types_are k (t ∷ ts) agree (typing.more (leaf u) ds) h =
      let same : u ≡ t = let e = sym h.0 ∙ here k t ts agree in cc e in
      λ i. same i ∷ types_are (suc k) ts (beyond k t ts agree) ds h.1 i
  types_are k (t ∷ ts) agree (typing.more (instanced us u es) ds) h = absurd h.0
  types_are k (t ∷ ts) agree (typing.more (typing.compound u es) ds) h = absurd h.0
  types_are k (t ∷ ts) agree (typing.more (typing.branching us u d arms) ds) h = absurd h.0
  types_are k (t ∷ ts) agree (typing.more (typing.binding u v d e) ds) h = absurd h.0

at_start : (ts : List Ty) (i : ℕ) → slice_get ts (0 + i) ≡ slice_get ts i
at_start ts i = let z : 0 + i ≡ i = omega arith in ap (slice_get ts) z

module _ (th : Theory) (n : ℕ) where
  abbrev pub Fits : Type 0
  Fits = (x : Function) × (numbered th.functions n ≡ Some x) × HasProgramType th x

  pub fits_where_typed : IsTyped th th.program.inputs [] (call_of th n) th.program.answer → Fits
  fits_where_typed (leaf t, h, e) = absurd h
  fits_where_typed (instanced us t ds, (x, at, each, answer, arguments, typed), e) = (
    x,
    at,
    record {
      types = us;
      each = each;
      inputs = sym arguments ∙ types_are th th.program.inputs 0 th.program.inputs (at_start th.program.inputs) ds typed;
      answer = sym answer ∙ e;
    },
  )
  fits_where_typed (typing.compound t ds, h, e) = absurd h
  fits_where_typed (typing.branching us t d arms, h, e) = absurd h
  fits_where_typed (typing.binding u t d f, h, e) = absurd h

  pub typed_where_fits : Fits → IsTyped th th.program.inputs [] (call_of th n) th.program.answer
  typed_where_fits (x, at, fits) = (
    instanced fits.types (instance fits.types x.answer) (leaves th.program.inputs),
    (x, at, fits.each, refl, types_of_leaves th.program.inputs ∙ sym fits.inputs, variables_typed th th.program.inputs 0 th.program.inputs (at_start th.program.inputs)),
    fits.answer,
  )

-- the test of its type
pub fits_exactly : (th : Theory) → IsAccepted th → (n : ℕ) (inputs : List declared.Ty) (answer : declared.Ty) (t : Tree) (yes : Bool) → map ty inputs ≡ th.program.inputs
    → ty answer ≡ th.program.answer → t ≡ call_of th n → (yes ≡ true) ↔ IsTypedAt th inputs t answer → (yes ≡ true) ↔ Fits th n
fits_exactly th ok n inputs answer t b i a e h = (
  λ y. fits_where_typed th n (subst (λ (x : Tree). IsTyped th th.program.inputs [] x th.program.answer) e
      (subst (λ (u : Ty). IsTyped th th.program.inputs [] t u) a (subst (λ (us : List Ty). IsTyped th us [] t (ty answer)) i (h.0 y).typed))),
  λ fits. h.1 (record {
    variables = all_closed_declared th (tys (map ty inputs)) (subst (λ (us : List Ty). AreClosed th (tys us)) (sym i) ok.well_typed.inputs);
    type = closed_declared th (ty answer) (subst (IsClosed th) (sym a) ok.well_typed.answer);
    typed = subst (λ (us : List Ty). IsTyped th us [] t (ty answer)) (sym i)
        (subst (λ (u : Ty). IsTyped th th.program.inputs [] t u) (sym a)
        (subst (λ (x : Tree). IsTyped th th.program.inputs [] x th.program.answer) (sym e) (typed_where_fits th n fits)));
  }),
)

-- one more variable
pub one_variable_more : (n k : ℕ) → variables_from n (suc k) ≡ variables_from n k ++ free (n + k) ∷ []
one_variable_more n zero = let z : n ≡ n + 0 = omega arith in ap (λ m. free m ∷ []) z
one_variable_more n (suc k) =
    let z : suc n + k ≡ n + suc k = omega arith in ap (λ ts. free n ∷ ts) (one_variable_more (suc n) k ∙ ap (λ m. variables_from (suc n) k ++ free m ∷ []) z)

-- ---- the search for a name

place_or_later : (n b : ℕ) → n ≤ b + 1 → (n ≤ b) ⊎ (n ≡ b + 1)
place_or_later zero b h = inl (omega arith)
place_or_later (suc n) zero h = inr (omega (arith, h))
place_or_later (suc n) (suc b) h = elim (place_or_later n b (omega (arith, h))) [
  | inl l ↦ inl (omega (arith, l))
  | inr e ↦ inr (omega (arith, e))
]

within : (fs : List Function) (n : ℕ) (f : Function) → slice_get fs n ≡ Some f → n < length fs
within [] n f e = absurd cc
within (g ∷ fs) zero f e = omega arith
within (g ∷ fs) (suc n) f e = omega (arith, within fs n f e)

place_within : (fs : List Function) (n : ℕ) (f : Function) → numbered fs n ≡ Some f → n ≤ length fs
place_within fs zero f e = absurd cc
place_within fs (suc n) f e = omega (arith, within fs n f e)

module _ (th : Theory) (name : List ℕ) where
  abbrev pub NoneUpTo : ℕ → Type 0
  NoneUpTo k = (n : ℕ) → n ≤ k → (f : Function) → IsNamed th name n f → ⊥

  pub none_first : NoneUpTo 0
  none_first zero low f h = let bad : None ≡ Some f = h.at in absurd cc
  none_first (suc n) low f h = absurd (omega (arith, low))

  pub none_next : (k : ℕ) (g : Function) (b : Bool) (other : List ℕ) → NoneUpTo k → numbered th.functions (k + 1) ≡ Some g → other ≡ g.name → b ≡ false
      → Decides b (other ≡ name) → NoneUpTo (k + 1)
  none_next k g b other none at e wrong decides n low f h = elim (place_or_later n k low) [
    | inl l ↦ none n l f h
    | inr m ↦
        let got : Some g ≡ Some f = sym at ∙ ap (numbered th.functions) (sym m) ∙ h.at in
        let same : g ≡ f = cc got in
        let bad : false ≡ true = sym wrong ∙ decides.1 (e ∙ ap name_of same ∙ h.named) in
        absurd cc
  ]

  pub none_at_all : (k : ℕ) → NoneUpTo k → length th.functions ≤ k → (n : ℕ) (f : Function) → IsNamed th name n f → ⊥
  none_at_all k none all n f h = none n (omega (arith, place_within th.functions n f h.at, all)) f h

-- ---- whether the function of the name stands in

pub stands : (th : Theory) → IsAccepted th → (name : List ℕ) (n : ℕ) → ((f : Function) × IsNamed th name n f) → Fits th n → StandsIn th name n
stands th ok name n (f, named) (x, at, fits) =
    let got : Some x ≡ Some f = sym at ∙ named.at in
    let same : x ≡ f = cc got in
    record { function = f; named = named; fits = subst (HasProgramType th) same fits }

pub none_stands : (th : Theory) → IsAccepted th → (name : List ℕ) (n : ℕ) → ((f : Function) × IsNamed th name n f) → (Fits th n → ⊥) → (m : ℕ) → StandsIn th name m → ⊥
none_stands th ok name n (f, named) unfit m h =
    let place = one_named th ok name m n h.function f h.named named in
    unfit (h.function, ap (numbered th.functions) (sym place) ∙ h.named.at, h.fits)

-- ---- what a search says where it has found something, and where it hasn't

pub if_found : (P : Type 0) (Q : ℕ → Type 0) (o : Option ℕ) (n : ℕ) → o ≡ Some n → MatchOption o P Q → Q n
if_found P Q o n e h = subst (λ (x : Option ℕ). MatchOption x P Q) e h

pub if_none : (P : Type 0) (Q : ℕ → Type 0) (o : Option ℕ) → o ≡ None → MatchOption o P Q → P
if_none P Q o e h = subst (λ (x : Option ℕ). MatchOption x P Q) e h
