-- Constructors are numbered through all datatypes: a constructor's number tells its datatype and its place there.
use Rattle.std.proofs.Common.{ℕ, zero, suc, ◌≡◌, ◌<◌, ◌≤◌, ◌+◌, ◌-◌, ◌⊎◌, List, [], ◌∷◌, ◌++◌, map, length, Option, Some, None, refl, sym, ◌∙◌, ap, inl, inr, arith}
use Rattle.std.specs.Prelude.{slice_get, option_map}
use Rattle.std.proofs.lemmas.Option.{slice_get-map}
use Rattle.std.proofs.lemmas.List.{length-map}
use Rattle.tg_model.specs.Theory.{Theory, Datatype, Constructor, Owned, constructors_from, constructor_at, constructors_before, first_constructor}
use Rattle.tg_model.proofs.Places.{get_left, get_past}

-- what a place in the list of all constructors, from 0, tells
pub record Placed (e : ℕ) (ds : List Datatype) (k : ℕ) (o : Owned) : Type 0 where
  pub place : ℕ
  pub datatype : Datatype
  pub number : o.datatype ≡ e + place
  pub is : slice_get ds place ≡ Some datatype
  pub after : constructors_before place ds ≤ k
  pub constructor : slice_get datatype.constructors (k - constructors_before place ds) ≡ Some o.constructor

abbrev owned : ℕ → Constructor → Owned
owned e c = record { datatype = e; constructor = c }

mapped_some : (e : ℕ) (p : Option Constructor) (o : Owned) → option_map (owned e) p ≡ Some o → (o.datatype ≡ e) × (p ≡ Some o.constructor)
mapped_some e None o h = cc
mapped_some e (Some c) o h =
    let q : owned e c ≡ o = cc h in (sym (ap (λ (x : Owned). x.datatype) q), ap (λ (x : Owned). Some x.constructor) q)

cases_less : (m n : ℕ) → (m < n) ⊎ (n ≤ m)
cases_less m zero = inr (omega arith)
cases_less zero (suc n) = inl (omega arith)
cases_less (suc m) (suc n) = elim (cases_less m n) [ inl h ↦ inl (omega arith) | inr h ↦ inr (omega arith) ]

here : (e : ℕ) (x : Datatype) (ds : List Datatype) (rest : List Owned) (k : ℕ) (o : Owned) → slice_get (map (owned e) x.constructors ++ rest) k ≡ Some o
    → k < length x.constructors → Placed e (x ∷ ds) k o
here e x ds rest k o h low =
    let within : k < length (map (owned e) x.constructors) = omega (arith, length-map x.constructors (owned e)) in
    let found = mapped_some e (slice_get x.constructors k) o
    (sym (slice_get-map (owned e) x.constructors k) ∙ (sym (get_left (map (owned e) x.constructors) rest k within) ∙ h)) in
    let first : k - 0 ≡ k = omega arith in
    let zeroth : e ≡ e + 0 = omega arith in
    record { place = 0; datatype = x; number = found.0 ∙ zeroth; is = refl; after = omega arith; constructor = ap (slice_get x.constructors) first ∙ found.1 }

later : (e : ℕ) (x : Datatype) (ds : List Datatype) (k : ℕ) (o : Owned) → length x.constructors ≤ k
    → Placed (suc e) ds (k - length x.constructors) o → Placed e (x ∷ ds) k o
later e x ds k o far p =
    let number : o.datatype ≡ e + suc p.place = omega (arith, p.number) in
    let same : k - (length x.constructors + constructors_before p.place ds) ≡ k - length x.constructors - constructors_before p.place ds = omega arith in
    record {
      place = suc p.place;
      datatype = p.datatype;
      number = number;
      is = p.is;
      after = omega (arith, p.after);
      constructor = ap (slice_get p.datatype.constructors) same ∙ p.constructor;
    }

past : (e : ℕ) (x : Datatype) (rest : List Owned) (k : ℕ) (o : Owned) → slice_get (map (owned e) x.constructors ++ rest) k ≡ Some o
    → length x.constructors ≤ k → slice_get rest (k - length x.constructors) ≡ Some o
past e x rest k o h far =
    let count = length-map x.constructors (owned e) in
    ap (λ n. slice_get rest (k - n)) (sym count) ∙ (sym (get_past (map (owned e) x.constructors) rest k (omega (arith, count))) ∙ h)

pub placed : (e : ℕ) (ds : List Datatype) (k : ℕ) (o : Owned) → slice_get (constructors_from e ds) k ≡ Some o → Placed e ds k o
placed e [] k o h = cc
placed e (x ∷ ds) k o h =
    elim (cases_less k (length x.constructors)) [
      | inl low ↦ here e x ds (constructors_from (suc e) ds) k o h low
      | inr far ↦ later e x ds k o far (placed (suc e) ds (k - length x.constructors) o (past e x (constructors_from (suc e) ds) k o h far))
    ]

-- of a constructor's number: its datatype has a number above 0, and its place there is counted from the datatype's first
pub record Numbered (th : Theory) (c : ℕ) (o : Owned) : Type 0 where
  pub place : ℕ
  pub datatype : Datatype
  pub number : o.datatype ≡ suc place
  pub is : slice_get th.datatypes place ≡ Some datatype
  pub after : first_constructor th.datatypes (suc place) ≤ c
  pub constructor : slice_get datatype.constructors (c - first_constructor th.datatypes (suc place)) ≡ Some o.constructor

pub numbered_constructor : (th : Theory) (c : ℕ) (o : Owned) → constructor_at th c ≡ Some o → Numbered th c o
numbered_constructor th zero o h = cc
numbered_constructor th (suc k) o h =
    let p = placed 1 th.datatypes k o h in
    let number : o.datatype ≡ suc p.place = omega (arith, p.number) in
    let same : suc k - (1 + constructors_before p.place th.datatypes) ≡ k - constructors_before p.place th.datatypes = omega arith in
    record {
      place = p.place;
      datatype = p.datatype;
      number = number;
      is = p.is;
      after = omega (arith, p.after);
      constructor = ap (slice_get p.datatype.constructors) same ∙ p.constructor;
    }
