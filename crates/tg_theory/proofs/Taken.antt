-- Names that are taken, one after another.
use Rattle.std.proofs.Common.{ℕ, suc, ◌≡◌, ◌+◌, Bool, true, false, not, ◌||◌, List, [], ◌∷◌, ◌++◌, take, drop, Some, refl, sym, ◌∙◌, ap, subst, if◌then◌else◌, arith, append_assoc}
use Rattle.std.specs.Prelude.{slice_get}
use Rattle.std.proofs.lemmas.List.{map-append, take-append-drop}
use Rattle.std.specs.Str.{bytes_eq}
use Rattle.tg_accept.specs.Faults.{is_taken, first_taken}
use Rattle.tg_term.proofs.PartLaws.{drop_at, take_at}
use Rattle.tg_declarations.specs.declared.definitions.ConDef.{ConDef}
use Rattle.tg_theory.specs.Names.{HaveSameNames}
use Rattle.tg_theory.specs.Taking.{constructor_names}

abbrev pub Name : Type 0
Name = List ℕ

or_assoc : (a b c : Bool) → ((a || b) || c) ≡ (a || (b || c))
or_assoc true b c = refl
or_assoc false b c = refl

or_swap : (a b c : Bool) → (a || (b || c)) ≡ (b || (a || c))
or_swap true true c = refl
or_swap true false c = refl
or_swap false b c = refl

or_last : (a b : Bool) → (a || (b || false)) ≡ (b || a)
or_last true true = refl
or_last true false = refl
or_last false true = refl
or_last false false = refl

pub taken_append : (x : Name) (ys zs : List Name) → is_taken x (ys ++ zs) ≡ (is_taken x ys || is_taken x zs)
taken_append x [] zs = refl
taken_append x (y ∷ ys) zs = ap (λ b. bytes_eq x y || b) (taken_append x ys zs) ∙ sym (or_assoc (bytes_eq x y) (is_taken x ys) (is_taken x zs))

-- one name more at the end
pub taken_last : (x y : Name) (ys : List Name) → is_taken x (ys ++ y ∷ []) ≡ (bytes_eq x y || is_taken x ys)
taken_last x y ys = taken_append x ys (y ∷ []) ∙ or_last (is_taken x ys) (bytes_eq x y)

-- which name is the first that is taken depends on which names are taken alone
pub first_same : (ys zs xs : List Name) → HaveSameNames ys zs → first_taken ys xs ≡ first_taken zs xs
first_same ys zs [] h = refl
first_same ys zs (x ∷ xs) h =
    ap (λ b. if b then Some x else first_taken (x ∷ ys) xs) (h x)
    ∙ ap (λ o. if is_taken x zs then Some x else o) (first_same (x ∷ ys) (x ∷ zs) xs (λ w. ap (λ b. bytes_eq w x || b) (h w)))

-- The names of `first` were free and are taken now, those of `rest` are still to be.
pub record HasTaken (old first rest now : List Name) : Type 0 where
  pub taken : now ≡ old ++ first
  pub left : first_taken old (first ++ rest) ≡ first_taken now rest

pub begin_taking : (old rest : List Name) → HasTaken old [] rest old
begin_taking old rest = record { taken = nil old; left = refl }
  where
    nil : (xs : List Name) → xs ≡ xs ++ []
    nil [] = refl
    nil (x ∷ xs) = ap (λ l. x ∷ l) (nil xs)

pub next_free : (now rest : List Name) (x : Name) → is_taken x now ≡ false → first_taken now (x ∷ rest) ≡ first_taken (now ++ x ∷ []) rest
next_free now rest x e =
    ap (λ b. if b then Some x else first_taken (x ∷ now) rest) e
    ∙ first_same (x ∷ now) (now ++ x ∷ []) rest (λ w. sym (taken_last w x now))

pub next_taken : (now rest : List Name) (x : Name) → is_taken x now ≡ true → first_taken now (x ∷ rest) ≡ Some x
next_taken now rest x e = ap (λ b. if b then Some x else first_taken (x ∷ now) rest) e

pub take_next : (old first rest now now' : List Name) (x : Name) → HasTaken old first (x ∷ rest) now → is_taken x now ≡ false → now' ≡ now ++ x ∷ []
    → HasTaken old (first ++ x ∷ []) rest now'
take_next old first rest now now' x h e g = record {
  taken = g ∙ ap (λ l. l ++ x ∷ []) h.taken ∙ append_assoc old first (x ∷ []);
  left =
      ap (first_taken old) (append_assoc first (x ∷ []) rest) ∙ h.left ∙ next_free now rest x e ∙ ap (λ l. first_taken l rest) (sym g);
}

pub taken_here : (old first rest now : List Name) (x : Name) → HasTaken old first (x ∷ rest) now → is_taken x now ≡ true
    → first_taken old (first ++ x ∷ rest) ≡ Some x
taken_here old first rest now x h e = h.left ∙ next_taken now rest x e

pub not_true : (b : Bool) → not b ≡ true → b ≡ false
not_true true e = cc e
not_true false e = refl

pub not_false : (b : Bool) → not b ≡ false → b ≡ true
not_false true e = refl
not_false false e = cc e

pub ruleset taking = (begin_taking, take_next, taken_here, not_true, not_false)

-- ---- the names of constructors

next : (i : ℕ) → suc i ≡ i + 1
next i = omega arith

pub next_names : (old : List Name) (cs : List ConDef) (i : ℕ) (c : ConDef) (now now' : List Name) → slice_get cs i ≡ Some c
    → HasTaken old (constructor_names (take i cs)) (constructor_names (drop i cs)) now → is_taken c.name now ≡ false → now' ≡ now ++ c.name ∷ []
    → HasTaken old (constructor_names (take (i + 1) cs)) (constructor_names (drop (i + 1) cs)) now'
next_names old cs i c now now' at h free e =
    let left : constructor_names (drop i cs) ≡ c.name ∷ constructor_names (drop (i + 1) cs) = drops cs i at in
    let front : constructor_names (take i cs) ++ c.name ∷ [] ≡ constructor_names (take (i + 1) cs) = takes cs i at in
    subst (λ l. HasTaken old l (constructor_names (drop (i + 1) cs)) now') front
    (take_next old (constructor_names (take i cs)) (constructor_names (drop (i + 1) cs)) now now' c.name
    (subst (λ l. HasTaken old (constructor_names (take i cs)) l now) left h) free e)
  where
    drops : (xs : List ConDef) (k : ℕ) → slice_get xs k ≡ Some c → constructor_names (drop k xs) ≡ c.name ∷ constructor_names (drop (k + 1) xs)
    drops xs k p = ap constructor_names (drop_at xs k c p ∙ ap (λ n. c ∷ drop n xs) (next k))

    takes : (xs : List ConDef) (k : ℕ) → slice_get xs k ≡ Some c → constructor_names (take k xs) ++ c.name ∷ [] ≡ constructor_names (take (k + 1) xs)
    takes xs k p = sym (map-append (λ (d : ConDef). d.name) (take k xs) (c ∷ [])) ∙ ap constructor_names (sym (take_at xs k c p) ∙ ap (λ n. take n xs) (next k))

pub all_names : (old : List Name) (cs : List ConDef) (i : ℕ) (c : ConDef) (now : List Name) → slice_get cs i ≡ Some c
    → HasTaken old (constructor_names (take i cs)) (constructor_names (drop i cs)) now → is_taken c.name now ≡ true
    → first_taken old (constructor_names cs) ≡ Some c.name
all_names old cs i c now at h e =
    let left : constructor_names (drop i cs) ≡ c.name ∷ constructor_names (drop (i + 1) cs) = ap constructor_names (drop_at cs i c at ∙ ap (λ n. c ∷ drop n cs) (next i)) in
    let whole : constructor_names cs ≡ constructor_names (take i cs) ++ constructor_names (drop i cs) =
    ap constructor_names (sym (take-append-drop i cs)) ∙ map-append (λ (d : ConDef). d.name) (take i cs) (drop i cs) in
    ap (first_taken old) (whole ∙ ap (λ l. constructor_names (take i cs) ++ l) left)
    ∙ taken_here old (constructor_names (take i cs)) (constructor_names (drop (i + 1) cs)) now c.name
    (subst (λ l. HasTaken old (constructor_names (take i cs)) l now) left h) e
