-- The number of the row that has a name.
use Rattle.std.proofs.Common.{ℕ, zero, suc, ◌≡◌, ◌↔◌, ◌⊎◌, inl, inr, Bool, true, false, List, [], ◌∷◌, Option, Some, None, refl, sym, ◌∙◌, ap, subst}
use Rattle.std.specs.Prelude.{slice_get}
use Rattle.std.specs.Str.{bytes_eq}
use Rattle.std.proofs.lemmas.Slice.Eq.{bytes_eq-Decides}
use Rattle.tg_accept.specs.Standing.{IsAnswer}
use Rattle.tg_tables.specs.Lists.{schema_list}
use Rattle.tg_tables.specs.Rows.{Entry, names}
use Rattle.tg_cert.specs.Lines.{Optional, IsRowOf, number_in}

abbrev IsAt : List Entry → List ℕ → ℕ → Type 0
IsAt es x j = slice_get (names es) j ≡ Some x

abbrev HasCode : List Entry → ℕ → ℕ → Type 0
HasCode es j k = (e : Entry) × (slice_get es j ≡ Some e) × (e.code ≡ k)

-- the name has a place and the number there, or neither
abbrev Stands : List Entry → List ℕ → Type 0
Stands es x = ((j : ℕ) × (k : ℕ) × IsAt es x j × HasCode es j k × (number_in es x ≡ Some k)) ⊎ ((number_in es x ≡ None) × ((j : ℕ) → ¬ IsAt es x j))

here : (e : Entry) (es : List Entry) (x : List ℕ) → bytes_eq e.name x ≡ true → Stands (e ∷ es) x
here e es x same = inl (0, e.code, ap Some ((bytes_eq-Decides e.name x).0 same), (e, refl, refl), rw same refl)

further : (e : Entry) (es : List Entry) (x : List ℕ) → bytes_eq e.name x ≡ false → Stands es x → Stands (e ∷ es) x
further e es x other (inl (j, k, at, code, is)) = inl (suc j, k, at, code, rw other is)
further e es x other (inr (none, nowhere)) = inr (rw other none, not_here)
  where
    not_here : (j : ℕ) → ¬ IsAt (e ∷ es) x j
    not_here zero at =
        let name : e.name ≡ x = cc in
        let wrong : true ≡ false = sym ((bytes_eq-Decides e.name x).1 name) ∙ other in absurd cc
    not_here (suc j) at = nowhere j at

by_name : (e : Entry) (es : List Entry) (x : List ℕ) (b : Bool) → bytes_eq e.name x ≡ b → Stands es x → Stands (e ∷ es) x
by_name e es x true is rest = here e es x is
by_name e es x false is rest = further e es x is rest

stands : (es : List Entry) (x : List ℕ) → Stands es x
stands [] x = inr (refl, λ j at. cc at)
stands (e ∷ es) x = by_name e es x (bytes_eq e.name x) refl (stands es x)

module _ (es : List Entry) (x : List ℕ) (found : Option ℕ) (finds : (i : ℕ) → (found ≡ Some i) ↔ (slice_get (names es) i ≡ Some x)) where
  at_place : (p : ℕ) (e : Entry) → found ≡ Some p → slice_get es p ≡ Some e → number_in es x ≡ Some e.code
  at_place p e is at = go (stands es x)
    where
      go : Stands es x → number_in es x ≡ Some e.code
      go (inl (j, k, there, (d, first, code), number)) =
          let q : Some p ≡ Some j = sym is ∙ (finds j).1 there in
          let same : p ≡ j = cc q in
          let r : Some e ≡ Some d = sym at ∙ ap (slice_get es) same ∙ first in
          let equal : e ≡ d = cc r in
          number ∙ ap Some (sym code ∙ ap (λ (y : Entry). y.code) (sym equal))
      go (inr (none, nowhere)) = absurd (nowhere p ((finds p).0 is))

  no_place : found ≡ None → number_in es x ≡ None
  no_place is = go (stands es x)
    where
      go : Stands es x → number_in es x ≡ None
      go (inl (j, k, there, code, number)) = let wrong : Some j ≡ None = sym ((finds j).1 there) ∙ is in absurd cc
      go (inr (none, nowhere)) = none

pub no_name : (o : Option (List ℕ)) → o ≡ None → IsAnswer (Optional IsRowOf o) (Some None)
no_name o e = subst (λ (x : Option (List ℕ)). Optional IsRowOf x None) (sym e) tt

module _ (es : List Entry) (list : es ≡ schema_list) (o : Option (List ℕ)) (x : List ℕ) (named : o ≡ Some x) (found : Option ℕ)
    (finds : (i : ℕ) → (found ≡ Some i) ↔ (slice_get (names es) i ≡ Some x)) where
  pub row_found : (p : ℕ) (e : Entry) → found ≡ Some p → slice_get es p ≡ Some e → IsAnswer (Optional IsRowOf o) (Some (Some e.code))
  row_found p e is at =
      subst (λ (y : Option (List ℕ)). Optional IsRowOf y (Some e.code)) (sym named)
      (subst (λ (l : List Entry). number_in l x ≡ Some e.code) list (at_place es x found finds p e is at))

  pub row_none : found ≡ None → IsAnswer (Optional IsRowOf o) None
  row_none is y h = none y (subst (λ (z : Option (List ℕ)). Optional IsRowOf z y) named h)
    where
      none : (y : Option ℕ) → ¬ (Optional IsRowOf (Some x) y)
      none None p = absurd p
      none (Some k) p =
          let q : Some k ≡ None = sym p ∙ ap (λ (l : List Entry). number_in l x) (sym list) ∙ no_place es x found finds is in cc q

pub ruleset naming = (no_name, row_found, row_none)
