-- What the test of a value's type tells.
use Rattle.std.proofs.Common.{ℕ, suc, ◌≡◌, ◌↔◌, ◌+◌, Bool, true, false, ◌&&◌, nat_eq, List, [], ◌∷◌, map, length, drop, Option, Some, None, refl, sym, ◌∙◌, ap, inl, inr, add-one}
use Rattle.std.specs.Prelude.{slice_get}
use Rattle.std.specs.Option.{option_map_or}
use Rattle.std.proofs.lemmas.Bool.Decides.{eqb_tells}
use Rattle.tg_model.specs.Types as types
use Rattle.tg_model.specs.Types.{Ty, Tys, nat, bool, parameter, meta, applied, elements, tys}
use Rattle.tg_model.specs.Theory.{Theory, Datatype, Owned, constructors_from, numbered, instance}
use Rattle.tg_model.specs.Typing.{HasType, HaveTypes}
use Rattle.tg_model.specs.Value as sem
use Rattle.tg_model.specs.Value.{Value, Values, number, boolean, made}
use Rattle.tg_model.proofs.Booleans.{and_left, and_right, and_both}
use Rattle.tg_accept.specs.Declared.{Declared, theory}
use Rattle.tg_declarations.specs.View.{owned}
use Rattle.tg_declarations.specs.declared.definitions.ConDef.{ConDef}
use Rattle.tg_term.specs.Values.{value, values, value-Nat, value-Bool, value-Con}
use Rattle.tg_term.specs.declared.values.Value as program
use Rattle.tg_term.proofs.PartLaws.{drop_at}
use Rattle.tg_term.proofs.ValueLists.{values_from}
use Rattle.tg_types.specs.declared.types.Ty as declared
use Rattle.tg_types.specs.Types.{ty, ty-Nat, ty-Bool, ty-Param, ty-Meta, ty-App}
use Rattle.tg_standing.specs.TypesOfValues.{has_type, have_types, is_made}

elements_of : (us : List Ty) → elements (tys us) ≡ us
elements_of [] = refl
elements_of (u ∷ us) = ap (λ l. u ∷ l) (elements_of us)

tys_of : (ts : Tys) → tys (elements ts) ≡ ts
tys_of types.none = refl
tys_of (types.more t ts) = ap (types.more t) (tys_of ts)

equal : (m n : ℕ) → nat_eq m n ≡ true → m ≡ n
equal m n e = elim (eqb_tells m n) [ inl p ↦ p.1 | inr p ↦ (let q : true ≡ false = sym e ∙ p.0 in cc q) ]

same : (n : ℕ) → nat_eq n n ≡ true
same n = elim (eqb_tells n n) [ inl p ↦ p.0 | inr p ↦ absurd (p.1 refl) ]

-- ---- the test tells

module _ (th : Theory) where
  abbrev Fits : Values → ℕ → Tys → Owned → Bool
  Fits vs d ts o = nat_eq o.datatype d && have_types th.datatypes vs (map (instance (elements ts)) o.constructor.arguments)

  mutual
    typed_if : (v : Value) (t : Ty) → has_type th.datatypes v t ≡ true → HasType th v t
    typed_if (number n) nat e = refl
    typed_if (boolean b) bool e = refl
    typed_if (made c vs) (applied d ts) e = by (numbered (constructors_from 1 th.datatypes) c) refl e (λ us f. all_typed_if vs us f)
      where
        by : (o : Option Owned) → numbered (constructors_from 1 th.datatypes) c ≡ o → option_map_or (Fits vs d ts) o false ≡ true
            → ((us : List Ty) → have_types th.datatypes vs us ≡ true → HaveTypes th vs us) → HasType th (made c vs) (applied d ts)
        by None p f have = cc f
        by (Some o) p f have =
            let here = nat_eq o.datatype d in
            let rest = have_types th.datatypes vs (map (instance (elements ts)) o.constructor.arguments) in (
              o,
              p,
              (
                elements ts,
                (λ i. applied (sym (equal o.datatype d (and_left here rest f)) i) (sym (tys_of ts) i)),
                have (map (instance (elements ts)) o.constructor.arguments) (and_right here rest f),
              ),
            )
    typed_if v t e = cc e

    all_typed_if : (vs : Values) (ts : List Ty) → have_types th.datatypes vs ts ≡ true → HaveTypes th vs ts
    all_typed_if sem.none [] e = tt
    all_typed_if (sem.more v vs) (t ∷ ts) e =
        (typed_if v t (and_left (has_type th.datatypes v t) (have_types th.datatypes vs ts) e), all_typed_if vs ts (and_right (has_type th.datatypes v t) (have_types th.datatypes vs ts) e))
    all_typed_if vs ts e = cc e

  mutual
    typed_yes : (v : Value) (t : Ty) → HasType th v t → has_type th.datatypes v t ≡ true
    typed_yes (number n) t h = ap (has_type th.datatypes (number n)) h
    typed_yes (boolean b) t h = ap (has_type th.datatypes (boolean b)) h
    typed_yes (made c vs) t (o, at, (us, e, h)) =
        ap (has_type th.datatypes (made c vs)) e
        ∙ ap (λ p. option_map_or (Fits vs o.datatype (tys us)) p false) at
        ∙ and_both (nat_eq o.datatype o.datatype) (have_types th.datatypes vs (map (instance (elements (tys us))) o.constructor.arguments)) (same o.datatype)
        (ap (λ l. have_types th.datatypes vs (map (instance l) o.constructor.arguments)) (elements_of us) ∙ all_typed_yes vs (map (instance us) o.constructor.arguments) h)

    all_typed_yes : (vs : Values) (ts : List Ty) → HaveTypes th vs ts → have_types th.datatypes vs ts ≡ true
    all_typed_yes sem.none [] h = refl
    all_typed_yes sem.none (t ∷ ts) h = absurd h
    all_typed_yes (sem.more v vs) [] h = absurd h
    all_typed_yes (sem.more v vs) (t ∷ ts) h =
        and_both (has_type th.datatypes v t) (have_types th.datatypes vs ts) (typed_yes v t h.0) (all_typed_yes vs ts h.1)

pub test_tells : (x : List ℕ) (D : Declared) (th : Theory) (v : Value) (t : Ty) (answer : Bool) → theory x D ≡ th → answer ≡ has_type D.datatypes v t
    → (answer ≡ true) ↔ HasType th v t
test_tells x D th v t answer same e =
    let s : answer ≡ has_type th.datatypes v t = e ∙ ap (λ (w : Theory). has_type w.datatypes v t) same in
    ((λ f. typed_if th v t (sym s ∙ f)), (λ h. s ∙ typed_yes th v t h))

pub ruleset telling = (test_tells)

-- ---- one level

pub made_at : (ds : List Datatype) (c : ℕ) (vs : List program.Value) (d : ℕ) (us : List declared.Ty)
    → is_made ds c (values vs) d (map ty us) ≡ has_type ds (made c (values vs)) (applied d (tys (map ty us)))
made_at ds c vs d us =
    ap (λ l. option_map_or (λ (o : Owned). nat_eq o.datatype d && have_types ds (values vs) (map (instance l) o.constructor.arguments)) (numbered (constructors_from 1 ds) c) false)
    (sym (elements_of (map ty us)))

pub made_of : (ds : List Datatype) (c : ℕ) (vs : Values) (d : ℕ) (us : List Ty) (def : ConDef) → Some (owned d def) ≡ numbered (constructors_from 1 ds) c
    → have_types ds vs (map (instance us) (map ty def.args)) ≡ is_made ds c vs d us
made_of ds c vs d us def at =
    ap (λ b. b && have_types ds vs (map (instance us) (map ty def.args))) (sym (same d))
    ∙ ap (λ p. option_map_or (λ (o : Owned). nat_eq o.datatype d && have_types ds vs (map (instance us) o.constructor.arguments)) p false) at

pub made_of_other : (ds : List Datatype) (c : ℕ) (vs : Values) (d e : ℕ) (us : List Ty) (def : ConDef) → Some (owned e def) ≡ numbered (constructors_from 1 ds) c
    → ¬ (e ≡ d) → false ≡ is_made ds c vs d us
made_of_other ds c vs d e us def at differ =
    ap (λ b. b && have_types ds vs (map (instance us) (map ty def.args))) (sym (other e d differ))
    ∙ ap (λ p. option_map_or (λ (o : Owned). nat_eq o.datatype d && have_types ds vs (map (instance us) o.constructor.arguments)) p false) at
  where
    other : (m n : ℕ) → ¬ (m ≡ n) → nat_eq m n ≡ false
    other m n h = elim (eqb_tells m n) [ inl p ↦ absurd (h p.1) | inr p ↦ p.0 ]

pub made_of_none : (ds : List Datatype) (c : ℕ) (vs : Values) (d : ℕ) (us : List Ty) → None ≡ numbered (constructors_from 1 ds) c → false ≡ is_made ds c vs d us
made_of_none ds c vs d us at =
    ap (λ p. option_map_or (λ (o : Owned). nat_eq o.datatype d && have_types ds vs (map (instance us) o.constructor.arguments)) p false) at

-- ---- lists

abbrev pub At : List declared.Ty → List declared.Ty → List Ty
At us ts = map (instance (map ty us)) (map ty ts)

and_false : (b : Bool) → false ≡ (b && false)
and_false true = refl
and_false false = refl

pub other_lengths : (ds : List Datatype) (vs : List program.Value) (us ts : List declared.Ty) → ¬ (length vs ≡ length ts) → false ≡ have_types ds (values vs) (At us ts)
other_lengths ds [] us [] h = absurd (h refl)
other_lengths ds [] us (t ∷ ts) h = refl
other_lengths ds (v ∷ vs) us [] h = refl
other_lengths ds (v ∷ vs) us (t ∷ ts) h =
    and_false (has_type ds (value v) (instance (map ty us) (ty t)))
    ∙ ap (λ b. has_type ds (value v) (instance (map ty us) (ty t)) && b) (other_lengths ds vs us ts (λ e. h (ap suc e)))

pub typed_from : (ds : List Datatype) (vs : List program.Value) (us ts : List declared.Ty) (i : ℕ) (v : program.Value) (t : declared.Ty) → slice_get vs i ≡ Some v → slice_get ts i ≡ Some t
    → have_types ds (values (drop i vs)) (At us (drop i ts))
    ≡ (has_type ds (value v) (instance (map ty us) (ty t)) && have_types ds (values (drop (i + 1) vs)) (At us (drop (i + 1) ts)))
typed_from ds vs us ts i v t e f = λ j.
    have_types ds (values_from vs i v e j) (At us ((drop_at ts i t f ∙ ap (λ n. t ∷ drop n ts) (sym (add-one i))) j))

pub ruleset typing = (value-Nat, value-Bool, value-Con, ty-Nat, ty-Bool, ty-Param, ty-Meta, ty-App, made_at, made_of, made_of_other, made_of_none)
