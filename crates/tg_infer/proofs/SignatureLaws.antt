-- The types of declarations.
use Rattle.std.proofs.Common.{ℕ, suc, ◌≡◌, ◌+◌, Bool, true, false, ◌||◌, List, [], ◌∷◌, ◌++◌, length, map, drop, Option, Some, None, refl, sym, ◌∙◌, ap, subst, arith, if◌then◌else◌}
use Rattle.std.specs.Prelude.{option_map, option_and_then, slice_get}
use Rattle.std.specs.Str.{bytes_eq}
use Rattle.std.proofs.lemmas.List.{map-append}
use Rattle.tg_accept.specs.Faults.{is_taken}
use Rattle.tg_accept.specs.Functions.{behind, split_last}
use Rattle.tg_accept.specs.Meaning.{number_of, each_meant, type_meant, all_types_meant, type_variables, variables_from, variables_in, all_variables_in}
use Rattle.tg_accept.specs.Raw as raw
use Rattle.tg_grammar.specs.declared.types.RawTy.{RawTy}
use Rattle.tg_model.specs.Types as model
use Rattle.tg_model.specs.Types.{Tys, tys, elements}
use Rattle.tg_term.proofs.PartLaws.{drop_at}
use Rattle.tg_types.specs.declared.types.Ty.{Ty}
use Rattle.tg_types.specs.Types.{ty, types}
use Rattle.tg_infer.specs.Signatures.{types_meant, signature_meant, seen_signature}
use Rattle.tg_infer.specs.View.{listed_types, raw_type, raw_types, raw_type-Nat, raw_type-Bool, raw_type-Var, raw_type-Word}

abbrev pub Names : Type 0
Names = List (List ℕ)

-- ---- lists of types

elements_of : (ts : List model.Ty) → elements (tys ts) ≡ ts
elements_of [] = refl
elements_of (t ∷ ts) = ap (λ l. t ∷ l) (elements_of ts)

each_type : (params names : Names) (ts : List raw.RawType) → option_map elements (all_types_meant params names (listed_types ts)) ≡ each_meant (type_meant params names) ts
each_type params names [] = refl
each_type params names (t ∷ ts) =
    go (type_meant params names t) (all_types_meant params names (listed_types ts))
    ∙ ap (λ o. option_and_then (λ y. option_map (λ ys. y ∷ ys) o) (type_meant params names t)) (each_type params names ts)
  where
    go : (o : Option model.Ty) (r : Option Tys)
        → option_map elements (option_and_then (λ u. option_map (model.more u) r) o)
        ≡ option_and_then (λ y. option_map (λ ys. y ∷ ys) (option_map elements r)) o
    go None r = refl
    go (Some u) None = refl
    go (Some u) (Some us) = refl

pub each_found : (params names : Names) (ts : List RawTy) (us : List Ty) → Some (types us) ≡ all_types_meant params names (raw_types ts)
    → Some (map ty us) ≡ each_meant (type_meant params names) (map raw_type ts)
each_found params names ts us h = ap Some (sym (elements_of (map ty us))) ∙ ap (option_map elements) h ∙ each_type params names (map raw_type ts)

pub each_not_found : (params names : Names) (ts : List RawTy) → None ≡ all_types_meant params names (raw_types ts)
    → None ≡ each_meant (type_meant params names) (map raw_type ts)
each_not_found params names ts h = ap (option_map elements) h ∙ each_type params names (map raw_type ts)

-- ---- the last one

split_more : {A : Type 0} (xs : List A) (x : A) → split_last (xs ++ x ∷ []) ≡ Some (xs, x)
split_more [] x = refl
split_more (y ∷ xs) x = ap (λ o. Some (behind y o)) (split_more xs x)

pub signature_found : (params names : Names) (ts : List RawTy) (all us : List Ty) (u : Ty) → params ≡ type_variables (map raw_type ts)
    → Some (types all) ≡ all_types_meant params names (raw_types ts) → all ≡ us ++ u ∷ []
    → Some (let p : ℕ × (List model.Ty × model.Ty) = (length params, (map ty us, ty u)) in p) ≡ signature_meant names (map raw_type ts)
signature_found params names ts all us u e h more =
    let m : map ty all ≡ map ty us ++ ty u ∷ [] = ap (map ty) more ∙ map-append ty us (u ∷ []) in
    let f : Some (map ty us ++ ty u ∷ []) ≡ each_meant (type_meant (type_variables (map raw_type ts)) names) (map raw_type ts) =
    ap Some (sym m) ∙ each_found params names ts all h ∙ ap (λ ps. each_meant (type_meant ps names) (map raw_type ts)) e in
    ap (λ n. Some (let p : ℕ × (List model.Ty × model.Ty) = (n, (map ty us, ty u)) in p)) (ap length e)
    ∙ ap (option_map (λ p. (length (type_variables (map raw_type ts)), p))) (sym (split_more (map ty us) (ty u)) ∙ ap (option_and_then split_last) f)

pub no_types_found : (params names : Names) (ts : List RawTy) → params ≡ type_variables (map raw_type ts) → None ≡ all_types_meant params names (raw_types ts)
    → None ≡ signature_meant names (map raw_type ts)
no_types_found params names ts e h =
    ap (λ o. option_map (λ p. (length (type_variables (map raw_type ts)), p)) (option_and_then split_last o))
    (each_not_found params names ts h ∙ ap (λ ps. each_meant (type_meant ps names) (map raw_type ts)) e)

pub none_of_none : (params names : Names) (ts : List RawTy) (all : List Ty) → params ≡ type_variables (map raw_type ts)
    → Some (types all) ≡ all_types_meant params names (raw_types ts) → all ≡ [] → None ≡ signature_meant names (map raw_type ts)
none_of_none params names ts all e h none =
    ap (λ l. option_map (λ p. (length (type_variables (map raw_type ts)), p)) (split_last l)) (sym (ap (map ty) none))
    ∙ ap (λ o. option_map (λ p. (length (type_variables (map raw_type ts)), p)) (option_and_then split_last o))
    (each_found params names ts all h ∙ ap (λ ps. each_meant (type_meant ps names) (map raw_type ts)) e)

pub ruleset signatures = (signature_found, no_types_found, none_of_none)

-- ---- type variables

pub from_list : (xs : Names) (ts : List raw.RawType) → all_variables_in xs (listed_types ts) ≡ variables_from xs ts
from_list xs [] = refl
from_list xs (t ∷ ts) = from_list (variables_in xs t) ts

pub type_variables_of : (ts : List RawTy) → all_variables_in [] (raw_types ts) ≡ type_variables (map raw_type ts)
type_variables_of ts = from_list [] (map raw_type ts)

is_numbered : (x : List ℕ) (xs : Names) (n : ℕ) → Some n ≡ number_of x xs → is_taken x xs ≡ true
is_numbered x [] n e = cc e
is_numbered x (y ∷ ys) n e = go (bytes_eq x y) refl (number_of x ys) refl (λ m h. is_numbered x ys m h)
  where
    go : (b : Bool) → bytes_eq x y ≡ b → (o : Option ℕ) → number_of x ys ≡ o → ((m : ℕ) → Some m ≡ number_of x ys → is_taken x ys ≡ true)
        → (bytes_eq x y || is_taken x ys) ≡ true
    go true f o g r = ap (λ b. b || is_taken x ys) f
    go false f (Some m) g r = ap (λ b. b || is_taken x ys) f ∙ r m (sym g)
    go false f None g r = let q : Some n ≡ None = e ∙ (λ i. if f i then Some 1 else option_map suc (g i)) in cc q

pub known_variable : (xs : Names) (x : List ℕ) (n : ℕ) → Some n ≡ number_of x xs → xs ≡ (if is_taken x xs then xs else xs ++ x ∷ [])
known_variable xs x n e = ap (λ b. if b then xs else xs ++ x ∷ []) (sym (is_numbered x xs n e))

isnt_numbered : (x : List ℕ) (xs : Names) → None ≡ number_of x xs → is_taken x xs ≡ false
isnt_numbered x [] e = refl
isnt_numbered x (y ∷ ys) e = go (bytes_eq x y) refl (number_of x ys) refl (λ h. isnt_numbered x ys h)
  where
    go : (b : Bool) → bytes_eq x y ≡ b → (o : Option ℕ) → number_of x ys ≡ o → (None ≡ number_of x ys → is_taken x ys ≡ false)
        → (bytes_eq x y || is_taken x ys) ≡ false
    go true f o g r = let q : None ≡ Some 1 = e ∙ ap (λ b. if b then Some 1 else option_map suc (number_of x ys)) f in cc q
    go false f None g r = ap (λ b. b || is_taken x ys) f ∙ r (sym g)
    go false f (Some m) g r = let q : None ≡ Some (suc m) = e ∙ (λ i. if f i then Some 1 else option_map suc (g i)) in cc q

pub new_variable : (xs : Names) (x : List ℕ) → None ≡ number_of x xs → xs ++ x ∷ [] ≡ (if is_taken x xs then xs else xs ++ x ∷ [])
new_variable xs x e = ap (λ b. if b then xs else xs ++ x ∷ []) (sym (isnt_numbered x xs e))

pub variables_next : (all now new : Names) (ts : List RawTy) (i : ℕ) (t : RawTy) → slice_get ts i ≡ Some t
    → all_variables_in now (raw_types (drop i ts)) ≡ all → new ≡ variables_in now (raw_type t) → all_variables_in new (raw_types (drop (i + 1) ts)) ≡ all
variables_next all now new ts i t at h e =
    ap (λ l. all_variables_in l (raw_types (drop (i + 1) ts))) e
    ∙ sym (ap (λ l. all_variables_in now (raw_types l)) (drop_at ts i t at ∙ ap (λ n. t ∷ drop n ts) (let s : suc i ≡ i + 1 = omega arith in s))) ∙ h

pub ruleset collecting = (raw_type-Nat, raw_type-Bool, raw_type-Var, raw_type-Word, known_variable, new_variable)

pub ruleset variables = (type_variables_of)
