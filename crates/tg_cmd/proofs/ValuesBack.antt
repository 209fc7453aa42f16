-- What is written for a value stands for the value.
use Rattle.std.proofs.Common.{ℕ, zero, suc, ◌≡◌, true, inl, inr, List, [], ◌∷◌, ◌++◌, map, Option, Some, None, refl, sym, ap, ◌∙◌, subst}
use Rattle.std.specs.Prelude.{slice_get, IsSome, option_map, option_and_then, if◌then◌else◌}
use Rattle.std.specs.Option.{option_map_or}
use Rattle.std.specs.Str.{bytes_eq}
use Rattle.std.proofs.lemmas.Bool.{eq-eqb, cases_Bool}
use Rattle.std.proofs.lemmas.List.{map-append}
use Rattle.std.proofs.lemmas.Option.{slice_get-map}
use Rattle.tg_model.specs.Accepted.{IsAmong, AreDistinct, constructor_names}
use Rattle.tg_model.specs.Theory.{Theory, Datatype, Constructor, Owned, constructors_from, constructor_at, instance}
use Rattle.tg_model.specs.Types.{Ty}
use Rattle.tg_model.specs.Typing.{HasType, HaveTypes}
use Rattle.tg_model.specs.Value as value
use Rattle.tg_model.specs.Value.{Value, Values, number, boolean, made}
use Rattle.tg_lex.proofs.Texts.{is_name}
use Rattle.tg_accept.specs.Meaning.{number_of, constructor_named}
use Rattle.tg_accept.specs.Standing.{declared_in, value_meant, values_meant}
use Rattle.tg_infer.specs.View.{raw_term, raw_terms, raw_term-Num, raw_term-Truth, raw_term-Use}
use Rattle.tg_report.specs.Names.{constructor_name}
use Rattle.tg_report.specs.RawValues.{raw_value, raw_values, IsNamed, AreNamed}
use Rattle.tg_eval.specs.Numbers.{IsSmall, AreSmall}

-- ---- a value of a type has names

module _ (th : Theory) where
  mutual
    pub value_named : (v : Value) (t : Ty) → HasType th v t → IsSmall v → IsNamed th v
    value_named (number n) t h s = s
    value_named (boolean b) t h s = tt
    value_named (made c vs) t (o, at, (us, e, h)) s =
        (subst IsSome (sym at) refl, values_named vs (map (instance us) o.constructor.arguments) h s)

    values_named : (vs : Values) (ts : List Ty) → HaveTypes th vs ts → AreSmall vs → AreNamed th vs
    values_named value.none ts h s = tt
    values_named (value.more v vs) [] h s = absurd h
    values_named (value.more v vs) (t ∷ ts) h s = (value_named v t h.0 s.0, values_named vs ts h.1 s.1)

-- ---- the number of a name among distinct names

bytes_itself : (x : List ℕ) → bytes_eq x x ≡ true
bytes_itself [] = refl
bytes_itself (b ∷ x) = rw (eq-eqb b b refl, bytes_itself x) refl

among_place : (xs : List (List ℕ)) (i : ℕ) (x : List ℕ) → slice_get xs i ≡ Some x → IsAmong x xs
among_place [] i x e = absurd cc
among_place (y ∷ xs) zero x e = let same : y ≡ x = cc in inl (sym same)
among_place (y ∷ xs) (suc i) x e = inr (among_place xs i x e)

number_at : (xs : List (List ℕ)) (i : ℕ) (x : List ℕ) → AreDistinct xs → slice_get xs i ≡ Some x → number_of x xs ≡ Some (suc i)
number_at [] i x h e = absurd cc
number_at (y ∷ xs) zero x h e =
    let same : y ≡ x = cc in
    ap (λ b. if b then Some 1 else option_map suc (number_of x xs)) (ap (bytes_eq x) same ∙ bytes_itself x)
number_at (y ∷ xs) (suc i) x h e = elim (cases_Bool (bytes_eq x y)) [
  | inl same ↦ absurd (h.0 (subst (λ z. IsAmong z xs) (is_name x y same) (among_place xs i x e)))
  | inr other ↦ ap (λ b. if b then Some 1 else option_map suc (number_of x xs)) other ∙ ap (option_map suc) (number_at xs i x h.1 e)
]

-- ---- constructors

abbrev own_name : Owned → List ℕ
own_name o = o.constructor.name

owned_names : (d : ℕ) (cs : List Constructor)
    → map own_name (map (λ (c : Constructor). let o : Owned = record { datatype = d; constructor = c } in o) cs) ≡ map
    (λ (c : Constructor). c.name) cs
owned_names d [] = refl
owned_names d (c ∷ cs) = ap (λ l. c.name ∷ l) (owned_names d cs)

names_of : (d : ℕ) (ds : List Datatype) → map own_name (constructors_from d ds) ≡ constructor_names ds
names_of d [] = refl
names_of d (x ∷ ds) =
    map-append own_name (map (λ (c : Constructor). let o : Owned =
    record { datatype = d; constructor = c } in o) x.constructors) (constructors_from (suc d) ds)
    ∙ (λ i. owned_names d x.constructors i ++ names_of (suc d) ds i)

constructor_number : (th : Theory) → AreDistinct (constructor_names th.datatypes) → (c : ℕ) → IsSome (constructor_at th c)
    → constructor_named (declared_in th) (constructor_name th c) ≡ Some c
constructor_number th distinct zero h = absurd (cc h)
constructor_number th distinct (suc i) h = by (slice_get (constructors_from 1 th.datatypes) i) refl h
  where
    by : (o : Option Owned) → slice_get (constructors_from 1 th.datatypes) i ≡ o → IsSome o
        → number_of (option_map_or own_name o []) (constructor_names th.datatypes) ≡ Some (suc i)
    by None e k = absurd (cc k)
    by (Some o) e k =
        number_at (constructor_names th.datatypes) i o.constructor.name distinct
        (ap (λ l. slice_get l i) (sym (names_of 1 th.datatypes)) ∙ slice_get-map own_name (constructors_from 1 th.datatypes) i ∙ ap
        (option_map own_name) e)

-- ---- values

module _ (th : Theory) (distinct : AreDistinct (constructor_names th.datatypes)) where
  mutual
    pub value_back : (v : Value) → IsNamed th v → value_meant (declared_in th) (raw_term (raw_value th v)) ≡ Some v
    value_back (number n) h = ap (value_meant (declared_in th)) (raw_term-Num n)
    value_back (boolean b) h = ap (value_meant (declared_in th)) (raw_term-Truth b)
    value_back (made c vs) h =
        ap (value_meant (declared_in th)) (raw_term-Use (constructor_name th c) (raw_values th vs))
        ∙ (λ i. option_and_then (λ k. option_map (made k) (values_back vs h.1 i)) (constructor_number th distinct c h.0 i))

    values_back : (vs : Values) → AreNamed th vs → values_meant (declared_in th) (raw_terms (raw_values th vs)) ≡ Some vs
    values_back value.none h = refl
    values_back (value.more v vs) h = λ i. option_and_then (λ w. option_map (value.more w) (values_back vs h.1 i)) (value_back v h.0 i)
