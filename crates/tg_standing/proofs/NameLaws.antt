-- The names of a theory, which are distinct.
use Rattle.std.proofs.Common.{ℕ, zero, suc, ◌≡◌, ◌+◌, ◌<◌, ◌||◌, Bool, true, false, not, List, [], ◌∷◌, ◌++◌, length, map, take, drop, Option, Some, None, refl, sym, ◌∙◌, ap, subst, inl, inr, if◌then◌else◌, append_assoc, arith}
use Rattle.std.specs.Prelude.{slice_get, IsSome}
use Rattle.std.specs.Str.{bytes_eq}
use Rattle.std.proofs.lemmas.Slice.Eq.{bytes_eq-Decides}
use Rattle.std.proofs.lemmas.List.{append-nil, map-append, take-append-drop}
use Rattle.tg_model.specs.Theory.{Theory, Datatype, Constructor, Function, numbered}
use Rattle.tg_model.specs.Accepted.{IsAmong, AreDistinct, IsAccepted, constructor_names, type_names, value_names}
use Rattle.tg_accept.specs.Faults.{is_taken}
use Rattle.tg_accept.proofs.Names.{among_left, among_right}
use Rattle.tg_declarations.specs.declared.definitions.ConDef.{ConDef}
use Rattle.tg_declarations.specs.declared.definitions.DataDef.{DataDef}
use Rattle.tg_declarations.specs.View.{constructor, datatype}
use Rattle.tg_term.proofs.PartLaws.{take_at}

abbrev pub Name : Type 0
Name = List ℕ

-- ---- names that stand once

distinct_left : (xs ys : List Name) → AreDistinct (xs ++ ys) → AreDistinct xs
distinct_left [] ys d = record {}
distinct_left (x ∷ xs) ys d = ((λ p. d.0 (among_left x xs ys p)), distinct_left xs ys d.1)

distinct_right : (xs ys : List Name) → AreDistinct (xs ++ ys) → AreDistinct ys
distinct_right [] ys d = d
distinct_right (x ∷ xs) ys d = distinct_right xs ys d.1

-- the last one isn't among those before it
fresh : (xs : List Name) (x : Name) → AreDistinct (xs ++ x ∷ []) → is_taken x xs ≡ false
fresh [] x d = refl
fresh (y ∷ xs) x d = ap (λ b. b || is_taken x xs) (differ (bytes_eq x y) refl) ∙ fresh xs x d.1
  where
    differ : (b : Bool) → bytes_eq x y ≡ b → bytes_eq x y ≡ false
    differ false e = e
    differ true e = absurd (d.0 (among_right y xs (x ∷ []) (inl (sym ((bytes_eq-Decides x y).0 e)))))

pub last_added : (xs new : List Name) (x : Name) (free : Bool) → AreDistinct (xs ++ x ∷ []) → free ≡ not (is_taken x xs)
    → new ≡ (if free then xs ++ x ∷ [] else xs) → new ≡ xs ++ x ∷ []
last_added xs new x free d f e = e ∙ ap (λ b. if b then xs ++ x ∷ [] else xs) (f ∙ ap not (fresh xs x d))

pub ruleset adding = (last_added)

-- ---- one after another

next : (i : ℕ) → suc i ≡ i + 1
next i = omega arith

-- the names of the first ones, and that of the next
pub one_more : {A : Type 0} (name : A → Name) (xs : List A) (i : ℕ) (x : A) → slice_get xs i ≡ Some x
    → map name (take i xs) ++ name x ∷ [] ≡ map name (take (i + 1) xs)
one_more name xs i x e = sym (map-append name (take i xs) (x ∷ [])) ∙ ap (map name) (sym (take_at xs i x e) ∙ ap (λ n. take n xs) (next i))

pub stay_distinct : {A : Type 0} (name : A → Name) (xs : List A) (i : ℕ) (x : A) → slice_get xs i ≡ Some x → AreDistinct (map name xs)
    → AreDistinct (map name (take i xs) ++ name x ∷ [])
stay_distinct name xs i x e d =
    subst AreDistinct (sym (one_more name xs i x e))
    (distinct_left (map name (take (i + 1) xs)) (map name (drop (i + 1) xs))
    (subst AreDistinct (ap (map name) (sym (take-append-drop (i + 1) xs)) ∙ map-append name (take (i + 1) xs) (drop (i + 1) xs)) d))

pub at_number : {A : Type 0} (xs : List A) (i : ℕ) (x : A) → numbered xs (i + 1) ≡ Some x → slice_get xs i ≡ Some x
at_number xs i x e = ap (numbered xs) (next i) ∙ e

pub there_is : {A : Type 0} (xs : List A) (i : ℕ) → i < length xs → IsSome (numbered xs (i + 1))
there_is {A = A} xs i l = subst (λ n. IsSome (numbered xs n)) (next i) (go xs i l)
  where
    go : (ys : List A) (k : ℕ) → k < length ys → IsSome (slice_get ys k)
    go [] k h = absurd (omega (arith, h))
    go (y ∷ ys) zero h = refl
    go (y ∷ ys) (suc k) h = go ys k (omega (arith, h))

pub ruleset naming = (there_is)

-- ---- the three lists of names

pub functions_differ : (th : Theory) → IsAccepted th → AreDistinct (map (λ (f : Function). f.name) th.functions)
functions_differ th a =
    distinct_left (map (λ (f : Function). f.name) th.functions) (th.program.name ∷ []) (distinct_right (constructor_names th.datatypes) _ a.names_differ)

pub constructors_differ : (th : Theory) → IsAccepted th → AreDistinct (constructor_names th.datatypes)
constructors_differ th a = distinct_left (constructor_names th.datatypes) _ a.names_differ

names_appended : (xs ys : List Datatype) → constructor_names (xs ++ ys) ≡ constructor_names xs ++ constructor_names ys
names_appended [] ys = refl
names_appended (x ∷ xs) ys =
    ap (λ l. map (λ (c : Constructor). c.name) x.constructors ++ l) (names_appended xs ys)
    ∙ sym (append_assoc (map (λ (c : Constructor). c.name) x.constructors) (constructor_names xs) (constructor_names ys))

-- the names of a datatype's constructors
of_cons : (cs : List ConDef) → map (λ (c : Constructor). c.name) (map constructor cs) ≡ map (λ (c : ConDef). c.name) cs
of_cons [] = refl
of_cons (c ∷ cs) = ap (λ l. c.name ∷ l) (of_cons cs)

pub datatype_more : (ds : List Datatype) (i : ℕ) (def : DataDef) → slice_get ds i ≡ Some (datatype def)
    → constructor_names (take i ds) ++ map (λ (c : ConDef). c.name) def.cons ≡ constructor_names (take (i + 1) ds)
datatype_more ds i def e =
    ap (λ l. constructor_names (take i ds) ++ l) (sym (of_cons def.cons) ∙ sym (append-nil _)) ∙ sym (names_appended (take i ds) (datatype def ∷ []))
    ∙ ap constructor_names (sym (take_at ds i (datatype def) e) ∙ ap (λ n. take n ds) (next i))

pub constructors_stay : (ds : List Datatype) (i : ℕ) (def : DataDef) → slice_get ds i ≡ Some (datatype def) → AreDistinct (constructor_names ds)
    → AreDistinct (constructor_names (take i ds) ++ map (λ (c : ConDef). c.name) def.cons)
constructors_stay ds i def e d =
    subst AreDistinct (sym (datatype_more ds i def e))
    (distinct_left (constructor_names (take (i + 1) ds)) (constructor_names (drop (i + 1) ds))
    (subst AreDistinct (ap constructor_names (sym (take-append-drop (i + 1) ds)) ∙ names_appended (take (i + 1) ds) (drop (i + 1) ds)) d))

-- ---- behind names that are there

pub list_more : (old : List Name) (cs : List ConDef) (i : ℕ) (c : ConDef) → slice_get cs i ≡ Some c
    → (old ++ map (λ (c : ConDef). c.name) (take i cs)) ++ c.name ∷ [] ≡ old ++ map (λ (c : ConDef). c.name) (take (i + 1) cs)
list_more old cs i c e = append_assoc old (map (λ (c : ConDef). c.name) (take i cs)) (c.name ∷ []) ∙ ap (λ l. old ++ l) (one_more (λ (c : ConDef). c.name) cs i c e)

pub list_stays : (old : List Name) (cs : List ConDef) (i : ℕ) (c : ConDef) → slice_get cs i ≡ Some c → AreDistinct (old ++ map (λ (c : ConDef). c.name) cs)
    → AreDistinct ((old ++ map (λ (c : ConDef). c.name) (take i cs)) ++ c.name ∷ [])
list_stays old cs i c e d =
    let first = map (λ (c : ConDef). c.name) (take (i + 1) cs) in
    let rest = map (λ (c : ConDef). c.name) (drop (i + 1) cs) in
    let parts : map (λ (c : ConDef). c.name) cs ≡ first ++ rest =
    ap (map (λ (c : ConDef). c.name)) (sym (take-append-drop (i + 1) cs)) ∙ map-append (λ (c : ConDef). c.name) (take (i + 1) cs) (drop (i + 1) cs) in
    subst AreDistinct (sym (list_more old cs i c e))
    (distinct_left (old ++ first) rest (subst AreDistinct (ap (λ l. old ++ l) parts ∙ sym (append_assoc old first rest)) d))
