-- The types of a left side's variables, where there is no constructor pattern and where there is one.
use Rattle.std.proofs.Common.{ℕ, zero, suc, ◌≡◌, ◌≤◌, ◌+◌, ◌-◌, Bool, true, false, nat_eq, List, [], ◌∷◌, ◌++◌, length, Option, Some, None, refl, sym, ◌∙◌, ap, if◌then◌else◌, arith}
use Rattle.std.specs.Prelude.{slice_get, option_map, option_and_then, take, drop}
use Rattle.std.proofs.lemmas.List.{append-nil}
use Rattle.std.proofs.lemmas.Bool.{eqb-true}
use Rattle.tg_model.specs.Types.{Ty}
use Rattle.tg_model.specs.Theory.{Theory, datatype_of}
use Rattle.tg_model.specs.TermTyping.{IsDatatype, datatype_at}
use Rattle.tg_model.specs.Denotation.{others}
use Rattle.tg_accept.specs.Resolved.{Head}
use Rattle.tg_accept.specs.ResolvedTyping.{head_at}
use Rattle.tg_accept.specs.Core.{same_head}
use Rattle.tg_accept.specs.Equations.{Pattern, variable, matched, count_variables, parts, opened, left_types}
use Rattle.tg_accept.specs.Functions.{places_from, is_for}
use Rattle.tg_accept.proofs.KeptTypes.{elements_tys}

abbrev pub Lefts : Type 0
Lefts = List Ty × List Ty

abbrev pub both : Lefts → List Ty
both l = l.0 ++ l.1

-- an item before the types of the variables
abbrev before : Ty → Lefts → Lefts
before t l = (t ∷ l.0, l.1)

-- and further ones of a constructor
abbrev behind : List Ty → Lefts → Lefts
behind us l = (l.0, us ++ l.1)

pub mapped : {A B : Type 0} (f : A → B) (o : Option A) (y : B) → option_map f o ≡ Some y → (x : A) × (o ≡ Some x) × (f x ≡ y)
mapped f None y e = cc e
mapped f (Some x) y e = (x, refl, (let q : f x ≡ y = cc e in q))

pub then_some : {A B : Type 0} (f : A → Option B) (o : Option A) (y : B) → option_and_then f o ≡ Some y → (x : A) × (o ≡ Some x) × (f x ≡ Some y)
then_some f None y e = cc e
then_some f (Some x) y e = (x, refl, e)

pub if_some : {A : Type 0} (b : Bool) (o : Option A) (y : A) → (if b then o else None) ≡ Some y → (b ≡ true) × (o ≡ Some y)
if_some true o y e = (refl, e)
if_some false o y e = cc e

-- constructor patterns stand at the places from the first on
pub places_above : (n p : ℕ) (rest : List ℕ) (ps : List Pattern) → places_from n ps ≡ p ∷ rest → n ≤ p
places_above n p rest [] e = cc e
places_above n p rest (variable x ∷ ps) e = let h = places_above (suc n) p rest ps e in omega (arith, h)
places_above n p rest (matched h xs ∷ ps) e = let q : n ≡ p = cc e in omega (arith, q)

module _ (th : Theory) where
  pub plain_left : (n : ℕ) (ps : List Pattern) (ts : List Ty) (l : Lefts) → places_from n ps ≡ [] → left_types th ps ts ≡ Some l → (l.0 ≡ ts) × (l.1 ≡ [])
  plain_left n [] [] l e h = let q : ([], []) ≡ l = cc h in (ap (λ (k : Lefts). k.0) (sym q), ap (λ (k : Lefts). k.1) (sym q))
  plain_left n [] (t ∷ ts) l e h = cc h
  plain_left n (variable x ∷ ps) [] l e h = cc h
  plain_left n (variable x ∷ ps) (t ∷ ts) l e h =
      let m = mapped (before t) (left_types th ps ts) l h in
      let r = plain_left (suc n) ps ts m.0 e m.1 in
      (ap (λ (k : Lefts). k.0) (sym m.2) ∙ ap (λ k. t ∷ k) r.0, ap (λ (k : Lefts). k.1) (sym m.2) ∙ r.1)
  plain_left n (matched h xs ∷ ps) ts l e q = cc e

  -- what a left side with one constructor pattern tells; the place is counted from 0
  pub record Matching (ps : List Pattern) (ts : List Ty) (l : Lefts) (k : ℕ) : Type 0 where
    pub type : Ty
    pub head : Head
    pub arguments : List Ty
    pub at : slice_get ts k ≡ Some type
    pub opens : opened th head type ≡ Some arguments
    pub is_head : (h : Head) → is_for h ps ≡ same_head head h
    pub types : both l ≡ (take k ts ++ drop (suc k) ts) ++ arguments
    pub first : l.0 ≡ take k ts ++ drop (suc k) ts

  here : (n : ℕ) (h : Head) (xs : List (List ℕ)) (ps : List Pattern) (t : Ty) (ts : List Ty) (l : Lefts) → places_from (suc n) ps ≡ []
      → left_types th (matched h xs ∷ ps) (t ∷ ts) ≡ Some l → Matching (matched h xs ∷ ps) (t ∷ ts) l 0
  here n h xs ps t ts l e q =
      let o = then_some _ (opened th h t) l q in
      let c = if_some (nat_eq (length xs) (length o.0)) (option_map (behind o.0) (left_types th ps ts)) l o.2 in
      let m = mapped (behind o.0) (left_types th ps ts) l c.1 in
      let r = plain_left (suc n) ps ts m.0 e m.1 in
      record {
        type = t;
        head = h;
        arguments = o.0;
        at = refl;
        opens = o.1;
        is_head = λ k. refl;
        types = ap both (sym m.2) ∙ (ap (λ (k : List Ty). k ++ (o.0 ++ m.0.1)) r.0 ∙ (ap (λ (k : List Ty). ts ++ (o.0 ++ k)) r.1 ∙ ap (λ (k : List Ty). ts ++ k) (append-nil o.0)));
        first = ap (λ (k : Lefts). k.0) (sym m.2) ∙ r.0;
      }

  further : (n : ℕ) (x : List ℕ) (ps : List Pattern) (t : Ty) (ts : List Ty) (l m : Lefts) (k : ℕ) → before t m ≡ l → Matching ps ts m k
      → Matching (variable x ∷ ps) (t ∷ ts) l (suc k)
  further n x ps t ts l m k e r = record {
    type = r.type;
    head = r.head;
    arguments = r.arguments;
    at = r.at;
    opens = r.opens;
    is_head = r.is_head;
    types = ap both (sym e) ∙ ap (λ (z : List Ty). t ∷ z) r.types;
    first = ap (λ (k : Lefts). k.0) (sym e) ∙ ap (λ (z : List Ty). t ∷ z) r.first;
  }

  pub matching_left : (n k : ℕ) (ps : List Pattern) (ts : List Ty) (l : Lefts) → places_from n ps ≡ (n + k) ∷ [] → left_types th ps ts ≡ Some l
      → Matching ps ts l k
  matching_left n k [] ts l e q = cc e
  matching_left n k (variable x ∷ ps) [] l e q = cc q
  matching_left n k (matched h xs ∷ ps) [] l e q = cc q
  matching_left n zero (matched h xs ∷ ps) (t ∷ ts) l e q =
      let rest : places_from (suc n) ps ≡ [] = (let r : n ∷ places_from (suc n) ps ≡ (n + 0) ∷ [] = e in cc r) in
      here n h xs ps t ts l rest q
  matching_left n (suc k) (matched h xs ∷ ps) (t ∷ ts) l e q = let r : n ≡ n + suc k = cc e in absurd (omega (arith, r))
  matching_left n zero (variable x ∷ ps) (t ∷ ts) l e q = let h = places_above (suc n) (n + 0) [] ps e in absurd (omega (arith, h))
  matching_left n (suc k) (variable x ∷ ps) (t ∷ ts) l e q =
      let m = mapped (before t) (left_types th ps ts) l q in
      let same : n + suc k ≡ suc n + k = omega arith in
      further n x ps t ts l m.0 k m.2 (matching_left (suc n) k ps ts m.0 (e ∙ ap (λ p. p ∷ []) same) m.1)

  -- as many types come first as patterns are variables
  pub counted : (ps : List Pattern) (ts : List Ty) (l : Lefts) → left_types th ps ts ≡ Some l → count_variables ps ≡ length l.0
  counted [] [] l e = let q : ([], []) ≡ l = cc e in ap (λ (k : Lefts). length k.0) q
  counted [] (t ∷ ts) l e = cc e
  counted (variable x ∷ ps) [] l e = cc e
  counted (matched h xs ∷ ps) [] l e = cc e
  counted (variable x ∷ ps) (t ∷ ts) l e =
      let m = mapped (before t) (left_types th ps ts) l e in ap suc (counted ps ts m.0 m.1) ∙ ap (λ (k : Lefts). length k.0) m.2
  counted (matched h xs ∷ ps) (t ∷ ts) l e =
      let o = then_some _ (opened th h t) l e in
      let c = if_some (nat_eq (length xs) (length o.0)) (option_map (behind o.0) (left_types th ps ts)) l o.2 in
      let m = mapped (behind o.0) (left_types th ps ts) l c.1 in
      counted ps ts m.0 m.1 ∙ ap (λ (k : Lefts). length k.0) m.2

  abbrev pair : ℕ → List Ty → ℕ × List Ty
  pair d us = (d, us)

  parts_at : (d : ℕ) (us : List Ty) → IsDatatype th d us → parts (datatype_at d us) ≡ Some (pair d us)
  parts_at zero us is = ap (λ (l : List Ty). Some (pair 0 l)) (sym is)
  parts_at (suc d) us is = ap (λ (l : List Ty). Some (pair (suc d) l)) (elements_tys us)

  -- a constructor whose result is a datatype at some types belongs to it
  pub opened_at : (h : Head) (d : ℕ) (us ts : List Ty) → IsDatatype th d us → opened th h (datatype_at d us) ≡ Some ts → head_at th us h ≡ Some (pair d ts)
  opened_at h d us ts is e =
      let a = then_some _ (parts (datatype_at d us)) ts e in
      let same : pair d us ≡ a.0 = (let q : Some (pair d us) ≡ Some a.0 = sym (parts_at d us is) ∙ a.1 in cc q) in
      let b = then_some _ (head_at th a.0.1 h) ts a.2 in
      let c = if_some (nat_eq b.0.0 a.0.0) (Some b.0.1) ts b.2 in
      let number : b.0.0 ≡ d = eqb-true b.0.0 a.0.0 c.0 ∙ ap (λ (p : ℕ × List Ty). p.0) (sym same) in
      let args : b.0.1 ≡ ts = (let q : Some b.0.1 ≡ Some ts = c.1 in cc q) in
      ap (λ (p : ℕ × List Ty). head_at th p.1 h) same ∙ (b.1 ∙ (ap (λ k. Some (pair k b.0.1)) number ∙ ap (λ l. Some (pair d l)) args))

pub number_at : (d : ℕ) (us : List Ty) → datatype_of (datatype_at d us) ≡ d
number_at zero us = refl
number_at (suc d) us = refl

-- the other arguments, where the place is counted from 1
pub others_at : (ts : List Ty) (k : ℕ) → others ts (suc k) ≡ take k ts ++ drop (suc k) ts
others_at ts k = let e : suc k - 1 ≡ k = omega arith in ap (λ n. take n ts ++ drop (suc k) ts) e
