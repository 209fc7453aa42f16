-- What types are made of.
use Rattle.std.proofs.Common.{ℕ, zero, suc, ◌≡◌, ◌+◌, ◌<◌, ◌≤◌, ◌↔◌, Bool, true, false, ◌&&◌, nat_eq, nat_lt, List, [], ◌∷◌, ◌++◌, length, map, Option, Some, None, refl, sym, ◌∙◌, ap, subst, inl, inr, arith}
use Rattle.std.specs.Prelude.{slice_get, option_map}
use Rattle.std.specs.Option.{option_map_or}
use Rattle.std.proofs.lemmas.Bool.{lt-ltb, ltb-true}
use Rattle.std.proofs.lemmas.Bool.Decides.{eqb_tells}
use Rattle.std.proofs.lemmas.Option.{slice_get-map}
use Rattle.tg_accept.specs.Declared.{Declared, theory, with_datatype}
use Rattle.std.specs.List.{list_all}
use Rattle.std.proofs.lemmas.List.{map-append}
use Rattle.tg_accept.specs.Meant.{AreMade, AreConstructorsMade, IsDatatypeMeant}
use Rattle.tg_declarations.specs.declared.definitions.ConDef.{ConDef}
use Rattle.tg_declarations.specs.View.{constructor}
use Rattle.tg_declarations.specs.View.{datatype}
use Rattle.tg_declarations.specs.declared.definitions.DataDef.{DataDef}
use Rattle.tg_model.specs.Theory.{Theory, Datatype, numbered}
use Rattle.tg_model.specs.Types as types
use Rattle.tg_model.specs.Types.{Tys, nat, bool, parameter, meta, applied, elements, tys}
use Rattle.tg_model.specs.WellTyped.{IsBefore, AreBefore}
use Rattle.tg_types.specs.declared.types.Ty.{Ty}
use Rattle.tg_types.specs.declared.types.Ty.TheVariants.{App}
use Rattle.tg_types.specs.Types.{ty, types as model_types, ty-Nat, ty-Bool, ty-Param, ty-Meta, ty-App}
use Rattle.tg_infer.specs.Made.{counts, is_made, are_made}

-- ---- how many arguments are taken

numbered_map : {A B : Type 0} (f : A → B) (xs : List A) (n : ℕ) → numbered (map f xs) n ≡ option_map f (numbered xs n)
numbered_map f xs zero = refl
numbered_map f xs (suc n) = slice_get-map f xs n

-- in the list with one more
front : {A : Type 0} (xs : List A) (x y : A) (n : ℕ) → numbered xs n ≡ Some y → numbered (xs ++ x ∷ []) n ≡ Some y
front xs x y zero e = e
front xs x y (suc n) e = go xs n e
  where
    go : (xs : List _) (n : ℕ) → slice_get xs n ≡ Some y → slice_get (xs ++ x ∷ []) n ≡ Some y
    go [] n e = cc e
    go (z ∷ xs) zero e = e
    go (z ∷ xs) (suc n) e = go xs n e

last : {A : Type 0} (xs : List A) (x : A) → numbered (xs ++ x ∷ []) (suc (length xs)) ≡ Some x
last [] x = refl
last (z ∷ xs) x = last xs x

past : {A : Type 0} (xs : List A) (x : A) (n : ℕ) → numbered xs n ≡ None → ¬ (n ≡ suc (length xs)) → numbered (xs ++ x ∷ []) n ≡ None
past xs x zero e h = refl
past xs x (suc n) e h = go xs n e (λ p. h (ap suc p))
  where
    go : (xs : List _) (n : ℕ) → slice_get xs n ≡ None → ¬ (n ≡ length xs) → slice_get (xs ++ x ∷ []) n ≡ None
    go [] zero e h = absurd (h refl)
    go [] (suc n) e h = refl
    go (z ∷ xs) zero e h = cc e
    go (z ∷ xs) (suc n) e h = go xs n e (λ p. h (ap suc p))

pub taken_declared : (D : Declared) (own : Option ℕ) (d : ℕ) (x : DataDef) → Some (datatype x) ≡ numbered D.datatypes d → Some x.params ≡ numbered (counts D own) d
taken_declared D own d x e = go own
  where
    is : numbered (map (λ (y : Datatype). y.parameters) D.datatypes) d ≡ Some x.params
    is = numbered_map (λ (y : Datatype). y.parameters) D.datatypes d ∙ ap (option_map (λ (y : Datatype). y.parameters)) (sym e)

    go : (own : Option ℕ) → Some x.params ≡ numbered (counts D own) d
    go None = sym is
    go (Some n) = sym (front (map (λ (y : Datatype). y.parameters) D.datatypes) n x.params d is)

length_of : (xs : List Datatype) → length (map (λ (y : Datatype). y.parameters) xs) ≡ length xs
length_of [] = refl
length_of (x ∷ xs) = ap suc (length_of xs)

none_declared : (D : Declared) (d : ℕ) → None ≡ numbered D.datatypes d → numbered (map (λ (y : Datatype). y.parameters) D.datatypes) d ≡ None
none_declared D d e = numbered_map (λ (y : Datatype). y.parameters) D.datatypes d ∙ ap (option_map (λ (y : Datatype). y.parameters)) (sym e)

pub taken_own : (D : Declared) (own : Option ℕ) (d : ℕ) → None ≡ numbered D.datatypes d → d ≡ length D.datatypes + 1 → own ≡ numbered (counts D own) d
taken_own D None d e f = sym (none_declared D d e)
taken_own D (Some n) d e f =
    let s : d ≡ suc (length (map (λ (y : Datatype). y.parameters) D.datatypes)) = (let l = length_of D.datatypes in omega (arith, f, l)) in
    sym (ap (numbered (map (λ (y : Datatype). y.parameters) D.datatypes ++ n ∷ [])) s ∙ last (map (λ (y : Datatype). y.parameters) D.datatypes) n)

pub none_taken : (D : Declared) (own : Option ℕ) (d : ℕ) → None ≡ numbered D.datatypes d → ¬ (d ≡ length D.datatypes + 1) → None ≡ numbered (counts D own) d
none_taken D None d e h = sym (none_declared D d e)
none_taken D (Some n) d e h =
    sym (past (map (λ (y : Datatype). y.parameters) D.datatypes) n d (none_declared D d e) (λ p. h (let l = length_of D.datatypes in omega (arith, p, l))))

pub ruleset taking = (taken_declared, taken_own, none_taken)

as_many : (ts : List Ty) → length (elements (model_types ts)) ≡ length ts
as_many [] = refl
as_many (t ∷ ts) = ap suc (as_many ts)

pub app_made : (cs : List ℕ) (params d : ℕ) (ts : List Ty)
    → (option_map_or (λ n. nat_eq (length ts) n) (numbered cs d) false && are_made cs params (model_types ts)) ≡ is_made cs params (ty (App d ts))
app_made cs params d ts =
    sym (ap (is_made cs params) (ty-App d ts) ∙ ap (λ m. option_map_or (λ n. nat_eq m n) (numbered cs d) false && are_made cs params (model_types ts)) (as_many ts))

pub app_taken : (cs : List ℕ) (params d : ℕ) (ts : List Ty) (b c : Bool) → b ≡ option_map_or (λ n. nat_eq (length ts) n) (numbered cs d) false → b ≡ true
    → c ≡ are_made cs params (model_types ts) → c ≡ is_made cs params (ty (App d ts))
app_taken cs params d ts b c e f g = g ∙ ap (λ a. a && are_made cs params (model_types ts)) (sym f ∙ e) ∙ app_made cs params d ts

pub app_untaken : (cs : List ℕ) (params d : ℕ) (ts : List Ty) (b : Bool) → b ≡ option_map_or (λ n. nat_eq (length ts) n) (numbered cs d) false → b ≡ false
    → b ≡ is_made cs params (ty (App d ts))
app_untaken cs params d ts b e f = f ∙ ap (λ a. a && are_made cs params (model_types ts)) (sym f ∙ e) ∙ app_made cs params d ts

pub ruleset making = (ty-Nat, ty-Bool, ty-Param, ty-Meta, app_taken, app_untaken)

-- ---- what the test tells

abbrev pub arities : List Datatype → List ℕ
arities xs = map (λ (y : Datatype). y.parameters) xs

both : (a b : Bool) → (a && b) ≡ true → (a ≡ true) × (b ≡ true)
both true b e = (refl, e)
both false b e = cc e

joined : (a b : Bool) → a ≡ true → b ≡ true → (a && b) ≡ true
joined a b e f = ap (λ c. c && b) e ∙ f

inside : {A : Type 0} (xs : List A) (n : ℕ) (x : A) → numbered xs n ≡ Some x → n < suc (length xs)
inside xs zero x e = cc e
inside xs (suc n) x e = (let h = go xs n e in omega (arith, h))
  where
    go : (xs : List _) (n : ℕ) → slice_get xs n ≡ Some x → n < length xs
    go [] n e = cc e
    go (y ∷ xs) zero e = omega arith
    go (y ∷ xs) (suc n) e = let h = go xs n e in omega (arith, h)

equal : (m n : ℕ) → nat_eq m n ≡ true → m ≡ n
equal m n q = elim (eqb_tells m n) [ inl p ↦ p.1 | inr p ↦ (let r : false ≡ true = sym p.0 ∙ q in cc r) ]

module _ (th : Theory) (params : ℕ) where
  arity : (d : ℕ) (us : List types.Ty) → option_map_or (λ n. nat_eq (length us) n) (numbered (arities th.datatypes) d) false ≡ true
      → (d < suc (length th.datatypes)) × ((x : Datatype) × (numbered th.datatypes d ≡ Some x) × (length us ≡ x.parameters))
  arity d us e = go (numbered th.datatypes d) refl
    where
      go : (o : Option Datatype) → numbered th.datatypes d ≡ o → (d < suc (length th.datatypes)) × ((x : Datatype) × (numbered th.datatypes d ≡ Some x) × (length us ≡ x.parameters))
      go None f =
          let q : false ≡ true = sym (ap (λ o. option_map_or (λ n. nat_eq (length us) n) o false) (numbered_map (λ (y : Datatype). y.parameters) th.datatypes d ∙ ap (option_map (λ (y : Datatype). y.parameters)) f)) ∙ e in
          cc q
      go (Some x) f =
          let q : nat_eq (length us) x.parameters ≡ true = sym (ap (λ o. option_map_or (λ n. nat_eq (length us) n) o false) (numbered_map (λ (y : Datatype). y.parameters) th.datatypes d ∙ ap (option_map (λ (y : Datatype). y.parameters)) f)) ∙ e in
          (inside th.datatypes d x f, (x, f, equal (length us) x.parameters q))

  has_arity : (d : ℕ) (us : List types.Ty) (x : Datatype) → numbered th.datatypes d ≡ Some x → length us ≡ x.parameters
      → option_map_or (λ n. nat_eq (length us) n) (numbered (arities th.datatypes) d) false ≡ true
  has_arity d us x f e =
      ap (λ o. option_map_or (λ n. nat_eq (length us) n) o false) (numbered_map (λ (y : Datatype). y.parameters) th.datatypes d ∙ ap (option_map (λ (y : Datatype). y.parameters)) f)
      ∙ elim (eqb_tells (length us) x.parameters) [ inl p ↦ p.0 | inr p ↦ absurd (p.1 e) ]

  mutual
    to : (t : types.Ty) → is_made (arities th.datatypes) params t ≡ true → IsBefore th (suc (length th.datatypes)) params t
    to nat e = tt
    to bool e = tt
    to (parameter n) e =
        let p = both (nat_lt 0 n) (nat_lt n (params + 1)) e in
        (ltb-true 0 n p.0, (let h = ltb-true n (params + 1) p.1 in omega (arith, h)))
    to (meta n) e = cc e
    to (applied d ts) e =
        let p = both (option_map_or (λ n. nat_eq (length (elements ts)) n) (numbered (arities th.datatypes) d) false) (are_made (arities th.datatypes) params ts) e in
        (arity d (elements ts) p.0, all_to ts p.1)

    all_to : (ts : Tys) → are_made (arities th.datatypes) params ts ≡ true → AreBefore th (suc (length th.datatypes)) params ts
    all_to types.none e = tt
    all_to (types.more t ts) e =
        let p = both (is_made (arities th.datatypes) params t) (are_made (arities th.datatypes) params ts) e in
        (to t p.0, all_to ts p.1)

  mutual
    back : (t : types.Ty) → IsBefore th (suc (length th.datatypes)) params t → is_made (arities th.datatypes) params t ≡ true
    back nat h = refl
    back bool h = refl
    back (parameter n) h = joined (nat_lt 0 n) (nat_lt n (params + 1)) (lt-ltb 0 n h.0) (lt-ltb n (params + 1) (let p = h.1 in omega (arith, p)))
    back (meta n) h = absurd h
    back (applied d ts) h =
        joined (option_map_or (λ n. nat_eq (length (elements ts)) n) (numbered (arities th.datatypes) d) false) (are_made (arities th.datatypes) params ts)
        (has_arity d (elements ts) h.0.1.0 h.0.1.1 h.0.1.2) (all_back ts h.1)

    all_back : (ts : Tys) → AreBefore th (suc (length th.datatypes)) params ts → are_made (arities th.datatypes) params ts ≡ true
    all_back types.none h = refl
    all_back (types.more t ts) h = joined (is_made (arities th.datatypes) params t) (are_made (arities th.datatypes) params ts) (back t h.0) (all_back ts h.1)

pub made_tells : (D : Declared) (params : ℕ) (ts : List types.Ty) → (are_made (counts D None) params (tys ts) ≡ true) ↔ AreMade (theory [] D) params ts
made_tells D params ts = (all_to (theory [] D) params (tys ts), all_back (theory [] D) params (tys ts))

-- one more datatype
more_counts : (D : Declared) (m : Datatype) → counts D (Some m.parameters) ≡ arities (with_datatype D m).datatypes
more_counts D m = sym (map-append (λ (y : Datatype). y.parameters) D.datatypes (m ∷ []))

abbrev pub ConstructorsMade : Declared → ℕ → List ConDef → Bool
ConstructorsMade D params cons = list_all (λ ts. are_made (counts D (Some params)) params (model_types ts)) (map (λ (c : ConDef). c.args) cons)

module _ (D : Declared) (m : Datatype) where
  constructors_made : (cs : List ConDef) → ConstructorsMade D m.parameters cs ≡ true
      → AreConstructorsMade (theory [] (with_datatype D m)) m.parameters (map constructor cs)
  constructors_made [] e = tt
  constructors_made (c ∷ cs) e =
      let p = both (are_made (counts D (Some m.parameters)) m.parameters (model_types c.args)) (ConstructorsMade D m.parameters cs) e in (
        all_to (theory [] (with_datatype D m)) m.parameters (model_types c.args)
            (subst (λ l. are_made l m.parameters (model_types c.args) ≡ true) (more_counts D m) p.0),
        constructors_made cs p.1,
      )

  constructors_back : (cs : List ConDef) → AreConstructorsMade (theory [] (with_datatype D m)) m.parameters (map constructor cs)
      → ConstructorsMade D m.parameters cs ≡ true
  constructors_back [] h = refl
  constructors_back (c ∷ cs) h =
      joined (are_made (counts D (Some m.parameters)) m.parameters (model_types c.args)) (ConstructorsMade D m.parameters cs)
      (subst (λ l. are_made l m.parameters (model_types c.args) ≡ true) (sym (more_counts D m))
      (all_back (theory [] (with_datatype D m)) m.parameters (model_types c.args) h.0))
      (constructors_back cs h.1)

pub datatype_tells : (D : Declared) (def : DataDef) → (ConstructorsMade D def.params def.cons ≡ true) ↔ IsDatatypeMeant D (datatype def)
datatype_tells D def = (constructors_made D (datatype def) def.cons, constructors_back D (datatype def) def.cons)

pub signature_tells : (D : Declared) (params : ℕ) (ts : List Ty) (t : Ty)
    → ((is_made (counts D None) params (ty t) && are_made (counts D None) params (model_types ts)) ≡ true) ↔ AreMade (theory [] D) params (ty t ∷ map ty ts)
signature_tells D params ts t = made_tells D params (ty t ∷ map ty ts)

pub ruleset telling = (datatype_tells)
