-- In an accepted theory a name tells what it names.
use Rattle.std.proofs.Common.{◌≡◌, ℕ, zero, suc, List, [], ◌∷◌, ◌++◌, map, Option, Some, None, slice_get, inl, inr, refl, sym, ap, subst, ◌∙◌}
use Rattle.std.specs.Prelude.{IsSome, option_map}
use Rattle.std.specs.Option.{option_map_or}
use Rattle.std.proofs.lemmas.Option.{slice_get-map}
use Rattle.tg_model.specs.Theory.{Theory, Datatype, Constructor, Function, Owned, numbered, constructors_from, constructor_at}
use Rattle.tg_model.specs.Accepted.{IsAccepted, IsAmong, AreDistinct, constructor_names, type_names}
use Rattle.tg_report.specs.Names.{datatype_name, constructor_name, function_name, constructors_of, name_at}

abbrev Name : Type 0
Name = List ℕ

-- ---- lists without repeats

among_left : (x : Name) (xs ys : List Name) → IsAmong x xs → IsAmong x (xs ++ ys)
among_left x [] ys h = absurd h
among_left x (y ∷ xs) ys (inl e) = inl e
among_left x (y ∷ xs) ys (inr h) = inr (among_left x xs ys h)

among_right : (x : Name) (xs ys : List Name) → IsAmong x ys → IsAmong x (xs ++ ys)
among_right x [] ys h = h
among_right x (y ∷ xs) ys h = inr (among_right x xs ys h)

among_at : (x : Name) (xs : List Name) (i : ℕ) → slice_get xs i ≡ Some x → IsAmong x xs
among_at x [] i e = absurd cc
among_at x (y ∷ xs) zero e = inl cc
among_at x (y ∷ xs) (suc i) e = inr (among_at x xs i e)

apart : (x : Name) (xs ys : List Name) → AreDistinct (xs ++ ys) → IsAmong x xs → IsAmong x ys → ⊥
apart x [] ys d h k = h
apart x (y ∷ xs) ys d (inl e) k = d.0 (subst (λ z. IsAmong z (xs ++ ys)) e (among_right x xs ys k))
apart x (y ∷ xs) ys d (inr h) k = apart x xs ys d.1 h k

distinct_left : (xs ys : List Name) → AreDistinct (xs ++ ys) → AreDistinct xs
distinct_left [] ys d = tt
distinct_left (x ∷ xs) ys d = (λ h. d.0 (among_left x xs ys h), distinct_left xs ys d.1)

distinct_right : (xs ys : List Name) → AreDistinct (xs ++ ys) → AreDistinct ys
distinct_right [] ys d = d
distinct_right (x ∷ xs) ys d = distinct_right xs ys d.1

one_place : (xs : List Name) (i j : ℕ) (x : Name) → AreDistinct xs → slice_get xs i ≡ Some x → slice_get xs j ≡ Some x → i ≡ j
one_place [] i j x d e f = absurd cc
one_place (y ∷ xs) zero zero x d e f = refl
one_place (y ∷ xs) zero (suc j) x d e f = absurd (d.0 (let same : x ≡ y = cc in subst (λ z. IsAmong z xs) same (among_at x xs j f)))
one_place (y ∷ xs) (suc i) zero x d e f = absurd (d.0 (let same : x ≡ y = cc in subst (λ z. IsAmong z xs) same (among_at x xs i e)))
one_place (y ∷ xs) (suc i) (suc j) x d e f = ap suc (one_place xs i j x d.1 e f)

-- ---- datatypes

type_at : (xs : List Datatype) (i : ℕ) (x : Datatype) → slice_get xs i ≡ Some x → slice_get (map (λ (y : Datatype). y.name) xs) i ≡ Some x.name
type_at xs i x e = slice_get-map (λ (y : Datatype). y.name) xs i ∙ ap (option_map (λ (y : Datatype). y.name)) e

pub one_type : (th : Theory) (d e : ℕ) (x y : Datatype) → IsAccepted th → numbered th.datatypes d ≡ Some x → numbered th.datatypes e ≡ Some y
    → datatype_name th d ≡ datatype_name th e → d ≡ e
one_type th zero e x y a p q same = absurd cc
one_type th (suc i) zero x y a p q same = absurd cc
one_type th (suc i) (suc j) x y a p q same =
    let first : datatype_name th (suc i) ≡ x.name = ap (λ o. option_map_or (λ (z : Datatype). z.name) o []) p in
    let second : datatype_name th (suc j) ≡ y.name = ap (λ o. option_map_or (λ (z : Datatype). z.name) o []) q in
    let equal : y.name ≡ x.name = sym second ∙ sym same ∙ first in
    ap suc (one_place (type_names th) i j x.name a.types_differ (type_at th.datatypes i x p) (type_at th.datatypes j y q ∙ ap Some equal))

-- the datatypes of two first constructors with one name
among_own : (cs : List Constructor) → IsSome (slice_get cs 0) → IsAmong (name_at cs 0) (map (λ (c : Constructor). c.name) cs)
among_own [] s = absurd cc
among_own (c ∷ cs) s = inl refl

abbrev own : List Datatype → ℕ → List Constructor
own xs i = option_map_or (λ (x : Datatype). x.constructors) (slice_get xs i) []

among_all : (xs : List Datatype) (i : ℕ) → IsSome (slice_get (own xs i) 0) → IsAmong (name_at (own xs i) 0) (constructor_names xs)
among_all [] i s = absurd cc
among_all (x ∷ xs) zero s =
    among_left (name_at x.constructors 0) (map (λ (c : Constructor). c.name) x.constructors) (constructor_names xs) (among_own x.constructors s)
among_all (x ∷ xs) (suc i) s =
    among_right (name_at (own xs i) 0) (map (λ (c : Constructor). c.name) x.constructors) (constructor_names xs) (among_all xs i s)

one_owner : (xs : List Datatype) (i j : ℕ) → AreDistinct (constructor_names xs) → IsSome (slice_get (own xs i) 0) → IsSome (slice_get (own xs j) 0)
    → name_at (own xs i) 0 ≡ name_at (own xs j) 0 → i ≡ j
one_owner [] i j d s t e = absurd cc
one_owner (x ∷ xs) zero zero d s t e = refl
one_owner (x ∷ xs) zero (suc j) d s t e =
    absurd (apart (name_at (own xs j) 0) (map (λ (c : Constructor). c.name) x.constructors) (constructor_names xs) d
    (subst (λ z. IsAmong z (map (λ (c : Constructor). c.name) x.constructors)) e (among_own x.constructors s)) (among_all xs j t))
one_owner (x ∷ xs) (suc i) zero d s t e =
    absurd (apart (name_at (own xs i) 0) (map (λ (c : Constructor). c.name) x.constructors) (constructor_names xs) d
    (subst (λ z. IsAmong z (map (λ (c : Constructor). c.name) x.constructors)) (sym e) (among_own x.constructors t)) (among_all xs i s))
one_owner (x ∷ xs) (suc i) (suc j) d s t e =
    ap suc (one_owner xs i j (distinct_right (map (λ (c : Constructor). c.name) x.constructors) (constructor_names xs) d) s t e)

pub one_datatype : (th : Theory) (d e : ℕ) → IsAccepted th → IsSome (slice_get (constructors_of th (suc d)) 0)
    → IsSome (slice_get (constructors_of th (suc e)) 0)
    → name_at (constructors_of th (suc d)) 0 ≡ name_at (constructors_of th (suc e)) 0 → d ≡ e
one_datatype th d e a s t same = one_owner th.datatypes d e (distinct_left (constructor_names th.datatypes) _ a.names_differ) s t same

-- ---- constructors, functions and the program

abbrev owned : ℕ → Constructor → Owned
owned d c = record { datatype = d; constructor = c }

abbrev owned_name : Owned → Name
owned_name o = o.constructor.name

front_names : (d : ℕ) (cs : List Constructor) (os : List Owned) (ys : List Name) → map owned_name os ≡ ys
    → map owned_name (map (owned d) cs ++ os) ≡ map (λ (c : Constructor). c.name) cs ++ ys
front_names d [] os ys e = e
front_names d (c ∷ cs) os ys e = ap (λ zs. c.name ∷ zs) (front_names d cs os ys e)

names_are : (d : ℕ) (xs : List Datatype) → map owned_name (constructors_from d xs) ≡ constructor_names xs
names_are d [] = refl
names_are d (x ∷ xs) = front_names d x.constructors (constructors_from (suc d) xs) (constructor_names xs) (names_are (suc d) xs)

-- a name stands at the place of what it names
constructor_place : (th : Theory) (k : ℕ) → IsSome (constructor_at th (suc k))
    → slice_get (constructor_names th.datatypes) k ≡ Some (constructor_name th (suc k))
constructor_place th k s =
    ap (λ ns. slice_get ns k) (sym (names_are 1 th.datatypes)) ∙ slice_get-map owned_name (constructors_from 1 th.datatypes) k ∙ found (slice_get
    (constructors_from 1 th.datatypes) k) s
  where
    found : (o : Option Owned) → IsSome o → option_map owned_name o ≡ Some (option_map_or owned_name o [])
    found (Some o) s = refl
    found None s = absurd cc

abbrev function_names : Theory → List Name
function_names th = map (λ (x : Function). x.name) th.functions

function_place : (th : Theory) (k : ℕ) → IsSome (numbered th.functions (suc k)) → slice_get (function_names th) k ≡ Some (function_name th (suc k))
function_place th k s = slice_get-map (λ (x : Function). x.name) th.functions k ∙ found (slice_get th.functions k) s
  where
    found : (o : Option Function) → IsSome o → option_map (λ (x : Function). x.name) o ≡ Some (option_map_or (λ (x : Function). x.name) o [])
    found (Some o) s = refl
    found None s = absurd cc

abbrev others : Theory → List Name
others th = function_names th ++ th.program.name ∷ []

constructor_among : (th : Theory) (c : ℕ) → IsSome (constructor_at th c) → IsAmong (constructor_name th c) (constructor_names th.datatypes)
constructor_among th zero s = absurd cc
constructor_among th (suc k) s = among_at (constructor_name th (suc k)) (constructor_names th.datatypes) k (constructor_place th k s)

function_among : (th : Theory) (f : ℕ) → IsSome (numbered th.functions f) → IsAmong (function_name th f) (function_names th)
function_among th zero s = absurd cc
function_among th (suc k) s = among_at (function_name th (suc k)) (function_names th) k (function_place th k s)

pub one_constructor : (th : Theory) (c d : ℕ) → IsAccepted th → IsSome (constructor_at th c) → IsSome (constructor_at th d)
    → constructor_name th c ≡ constructor_name th d → c ≡ d
one_constructor th zero d a s t e = absurd cc
one_constructor th (suc c) zero a s t e = absurd cc
one_constructor th (suc c) (suc d) a s t e =
    ap suc (one_place (constructor_names th.datatypes) c d (constructor_name th (suc c)) (distinct_left (constructor_names th.datatypes)
    (others th) a.names_differ)
    (constructor_place th c s) (constructor_place th d t ∙ ap Some (sym e)))

pub one_function : (th : Theory) (f g : ℕ) → IsAccepted th → IsSome (numbered th.functions f) → IsSome (numbered th.functions g)
    → function_name th f ≡ function_name th g → f ≡ g
one_function th zero g a s t e = absurd cc
one_function th (suc f) zero a s t e = absurd cc
one_function th (suc f) (suc g) a s t e =
    ap suc (one_place (function_names th) f g (function_name th (suc f))
    (distinct_left (function_names th) (th.program.name ∷ []) (distinct_right (constructor_names th.datatypes) (others th) a.names_differ))
    (function_place th f s) (function_place th g t ∙ ap Some (sym e)))

pub constructor_or_function : (th : Theory) (c f : ℕ) → IsAccepted th → IsSome (constructor_at th c) → IsSome (numbered th.functions f)
    → constructor_name th c ≡ function_name th f → ⊥
constructor_or_function th c f a s t e =
    apart (function_name th f) (constructor_names th.datatypes) (others th) a.names_differ
    (subst (λ z. IsAmong z (constructor_names th.datatypes)) e (constructor_among th c s))
    (among_left (function_name th f) (function_names th) (th.program.name ∷ []) (function_among th f t))

pub constructor_or_program : (th : Theory) (c : ℕ) → IsAccepted th → IsSome (constructor_at th c) → constructor_name th c ≡ th.program.name → ⊥
constructor_or_program th c a s e =
    apart th.program.name (constructor_names th.datatypes) (others th) a.names_differ
    (subst (λ z. IsAmong z (constructor_names th.datatypes)) e (constructor_among th c s))
    (among_right th.program.name (function_names th) (th.program.name ∷ []) (inl refl))

pub function_or_program : (th : Theory) (f : ℕ) → IsAccepted th → IsSome (numbered th.functions f) → function_name th f ≡ th.program.name → ⊥
function_or_program th f a s e =
    apart th.program.name (function_names th) (th.program.name ∷ []) (distinct_right (constructor_names th.datatypes) (others th) a.names_differ)
    (subst (λ z. IsAmong z (function_names th)) e (function_among th f s)) (inl refl)
