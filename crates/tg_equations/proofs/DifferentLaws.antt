-- Items that differ, and how that is decided.
use Rattle.std.proofs.Common.{ℕ, suc, ◌≡◌, ◌+◌, ◌↔◌, ◌⊎◌, Bool, true, false, not, ◌&&◌, ◌||◌, List, [], ◌∷◌, ◌++◌, take, drop, Some, refl, sym, ◌∙◌, ap, subst, inl, inr, arith}
use Rattle.std.specs.Prelude.{slice_get}
use Rattle.std.specs.List.{list_any}
use Rattle.std.specs.Str.{bytes_eq}
use Rattle.std.proofs.lemmas.List.{take-append-drop, append-nil, append_assoc}
use Rattle.std.proofs.lemmas.List.Folds.{list_any-append}
use Rattle.std.proofs.lemmas.Slice.Eq.{bytes_eq-Decides}
use Rattle.tg_model.specs.Accepted.{IsAmong, AreDistinct}
use Rattle.tg_model.proofs.Booleans.{or_left, or_right, and_left, and_right}
use Rattle.tg_accept.specs.Faults.{is_taken}
use Rattle.tg_term.proofs.PartLaws.{take_at}
use Rattle.tg_accept.specs.Equations.{Pattern, variable, matched, left_names}
use Rattle.tg_equations.specs.Checked.{are_different, names_in, Takes}

or_false : (b : Bool) → (b || false) ≡ b
or_false true = refl
or_false false = refl

pub any_last : {A : Type 0} (is : A → Bool) (xs : List A) (x : A) → list_any is (xs ++ x ∷ []) ≡ (list_any is xs || is x)
any_last is xs x = list_any-append is xs (x ∷ []) ∙ ap (λ b. list_any is xs || b) (or_false (is x))

-- one more item at the end
pub different_last : {A : Type 0} (same : A → A → Bool) (xs : List A) (y : A)
    → are_different same (xs ++ y ∷ []) ≡ (are_different same xs && not (list_any (λ x. same y x) xs))
different_last same [] y = refl
different_last same (x ∷ xs) y =
    go (list_any (λ z. same z x) xs) (are_different same xs) (same y x) (list_any (λ z. same y z) xs) _ (different_last same xs y) _ (any_last (λ z. same z x) xs y)
  where
    go : (a d s b r : Bool) → r ≡ (d && not b) → (q : Bool) → q ≡ (a || s) → (not q && r) ≡ ((not a && d) && not (s || b))
    go a d s b r e q f = (λ i. not (f i) && e i) ∙ by a d s b
      where
        by : (a d s b : Bool) → (not (a || s) && (d && not b)) ≡ ((not a && d) && not (s || b))
        by true d s b = refl
        by false true true b = refl
        by false false true b = refl
        by false d false b = refl

-- what repeats goes on to repeat
pub repeats_on : {A : Type 0} (same : A → A → Bool) (xs ys : List A) → are_different same xs ≡ false → are_different same (xs ++ ys) ≡ false
repeats_on same [] ys e = cc e
repeats_on same (x ∷ xs) ys e =
    go (list_any (λ z. same z x) xs) (list_any (λ z. same z x) ys) (are_different same xs) (are_different same (xs ++ ys)) e (repeats_on same xs ys) _ (list_any-append (λ z. same z x) xs ys)
  where
    go : (a b d r : Bool) → (not a && d) ≡ false → (d ≡ false → r ≡ false) → (q : Bool) → q ≡ (a || b) → (not q && r) ≡ false
    go true b d r e h q f = ap (λ p. not p && r) f
    go false b d r e h q f = ap (λ p. not q && p) (h e) ∙ and_false (not q)
      where
        and_false : (p : Bool) → (p && false) ≡ false
        and_false true = refl
        and_false false = refl

pub different_next : {A : Type 0} (same : A → A → Bool) (xs : List A) (i : ℕ) (x : A) → slice_get xs i ≡ Some x → are_different same (take i xs) ≡ true
    → list_any (λ y. same x y) (take i xs) ≡ false → are_different same (take (i + 1) xs) ≡ true
different_next same xs i x at d e =
    let k : i + 1 ≡ suc i = omega arith in
    ap (λ n. are_different same (take n xs)) k ∙ ap (are_different same) (take_at xs i x at) ∙ different_last same (take i xs) x ∙ (λ j. d j && not (e j))

pub different_not : {A : Type 0} (same : A → A → Bool) (xs : List A) (i : ℕ) (x : A) → slice_get xs i ≡ Some x
    → list_any (λ y. same x y) (take i xs) ≡ true → are_different same xs ≡ false
different_not same xs i x at e =
    let last : are_different same (take i xs ++ x ∷ []) ≡ false = different_last same (take i xs) x ∙ ap (λ b. are_different same (take i xs) && not b) e ∙ and_false (are_different same (take i xs)) in
    ap (are_different same) (sym (take-append-drop (suc i) xs))
    ∙ repeats_on same (take (suc i) xs) (drop (suc i) xs) (ap (are_different same) (take_at xs i x at) ∙ last)
  where
    and_false : (p : Bool) → (p && false) ≡ false
    and_false true = refl
    and_false false = refl

-- ---- what is decided

-- equality as it is tested
abbrev pub Decides : {A : Type 0} → (A → A → Bool) → Type 0
Decides {A = A} same = ((x y : A) → same x y ≡ true → x ≡ y) × ((x y : A) → x ≡ y → same x y ≡ true)

any_among : {A : Type 0} (same : A → A → Bool) → Decides same → (x : A) (ys : List A) → IsAmong x ys → list_any (λ y. same y x) ys ≡ true
any_among same d x [] h = absurd h
any_among same d x (y ∷ ys) (inl e) = or_left (same y x) (list_any (λ z. same z x) ys) (d.1 y x (sym e))
any_among same d x (y ∷ ys) (inr h) = or_right (same y x) (list_any (λ z. same z x) ys) (any_among same d x ys h)

among_any : {A : Type 0} (same : A → A → Bool) → Decides same → (x : A) (ys : List A) → list_any (λ y. same y x) ys ≡ true → IsAmong x ys
among_any same d x [] e = cc e
among_any {A = A} same d x (y ∷ ys) e = go (same y x) refl e (λ p. among_any same d x ys p)
  where
    go : (b : Bool) → same y x ≡ b → (b || list_any (λ z. same z x) ys) ≡ true → (list_any (λ z. same z x) ys ≡ true → IsAmong x ys) → (x ≡ y) ⊎ IsAmong x ys
    go true p e rest = inl (sym (d.0 y x p))
    go false p e rest = inr (rest e)

not_true : (b : Bool) → not b ≡ true → b ≡ false
not_true true e = cc e
not_true false e = refl

to_not : (b : Bool) → ¬ (b ≡ true) → not b ≡ true
to_not true e = absurd (e refl)
to_not false e = refl

both : (a b : Bool) → a ≡ true → b ≡ true → (a && b) ≡ true
both a b e f = λ i. e i && f i

pub distinct_from : {A : Type 0} (same : A → A → Bool) → Decides same → (xs : List A) → are_different same xs ≡ true → AreDistinct xs
distinct_from same d [] e = tt
distinct_from same d (x ∷ xs) e =
    let first : list_any (λ y. same y x) xs ≡ false = not_true (list_any (λ y. same y x) xs) (and_left (not (list_any (λ y. same y x) xs)) (are_different same xs) e) in (
      (λ h. let q : true ≡ false = sym (any_among same d x xs h) ∙ first in cc q),
      distinct_from same d xs (and_right (not (list_any (λ y. same y x) xs)) (are_different same xs) e),
    )

pub different_from : {A : Type 0} (same : A → A → Bool) → Decides same → (xs : List A) → AreDistinct xs → are_different same xs ≡ true
different_from same d [] h = refl
different_from same d (x ∷ xs) h =
    both (not (list_any (λ y. same y x) xs)) (are_different same xs) (to_not (list_any (λ y. same y x) xs) (λ p. h.0 (among_any same d x xs p))) (different_from same d xs h.1)

pub names_decided : Decides bytes_eq
names_decided = ((λ x y e. (bytes_eq-Decides x y).0 e), (λ x y e. (bytes_eq-Decides x y).1 e))

pub names_distinct : (b : Bool) (xs : List (List ℕ)) → b ≡ are_different bytes_eq xs → (b ≡ true) ↔ AreDistinct xs
names_distinct b xs e = ((λ p. distinct_from bytes_eq names_decided xs (sym e ∙ p)), (λ h. e ∙ different_from bytes_eq names_decided xs h))

-- ---- names that are taken

pub take_free : (old new : List (List ℕ)) (x : List ℕ) → is_taken x old ≡ false → new ≡ old ++ x ∷ [] → Takes old new (x ∷ []) true
take_free old new x f e = (e, (λ d. ap (are_different bytes_eq) e ∙ different_last bytes_eq old x ∙ (λ i. d i && not (f i))))

pub take_taken : (old new : List (List ℕ)) (x : List ℕ) → is_taken x old ≡ true → Takes old new (x ∷ []) false
take_taken old new x f = different_last bytes_eq old x ∙ ap (λ b. are_different bytes_eq old && not b) f ∙ and_none (are_different bytes_eq old)
  where
    and_none : (p : Bool) → (p && false) ≡ false
    and_none true = refl
    and_none false = refl

pub take_begin : (old : List (List ℕ)) → Takes old old [] true
take_begin old = (sym (append-nil old), (λ d. d))

pub take_next : (old mid new xs ys : List (List ℕ)) → Takes old mid xs true → Takes mid new ys true → Takes old new (xs ++ ys) true
take_next old mid new xs ys h k = (k.0 ∙ ap (λ l. l ++ ys) h.0 ∙ append_assoc old xs ys, (λ d. k.1 (h.1 d)))

pub take_stop : (old mid new xs ys : List (List ℕ)) → Takes old mid xs true → Takes mid new ys false → Takes old new (xs ++ ys) false
take_stop old mid new xs ys h k = ap (are_different bytes_eq) (sym (append_assoc old xs ys) ∙ ap (λ l. l ++ ys) (sym h.0)) ∙ k

pub take_over : (old new xs ys : List (List ℕ)) → Takes old new xs false → Takes old new (xs ++ ys) false
take_over old new xs ys h = ap (are_different bytes_eq) (sym (append_assoc old xs ys)) ∙ repeats_on bytes_eq (old ++ xs) ys h

pub taken_different : (old new xs : List (List ℕ)) (b : Bool) → old ≡ [] → Takes old new xs b → b ≡ are_different bytes_eq xs
taken_different old new xs true e h = sym (ap (are_different bytes_eq) (ap (λ l. l ++ xs) (sym e) ∙ sym h.0) ∙ h.1 (ap (are_different bytes_eq) e))
taken_different old new xs false e h = sym (ap (are_different bytes_eq) (ap (λ l. l ++ xs) (sym e)) ∙ h)

pub ruleset taking = (take_free, take_taken, take_begin, taken_different)

-- ---- names in a list, and on a left side

pub names_next : (old mid new xs : List (List ℕ)) (i : ℕ) (x : List ℕ) → slice_get xs i ≡ Some x → Takes old mid (take i xs) true → Takes mid new (x ∷ []) true
    → Takes old new (take (i + 1) xs) true
names_next old mid new xs i x at h k =
    let n : i + 1 ≡ suc i = omega arith in
    subst (λ l. Takes old new l true) (sym (ap (λ m. take m xs) n ∙ take_at xs i x at)) (take_next old mid new (take i xs) (x ∷ []) h k)

pub names_stop : (old mid new xs : List (List ℕ)) (i : ℕ) (x : List ℕ) → slice_get xs i ≡ Some x → Takes old mid (take i xs) true → Takes mid new (x ∷ []) false
    → Takes old new xs false
names_stop old mid new xs i x at h k =
    subst (λ l. Takes old new l false) (ap (λ l. l ++ drop (suc i) xs) (sym (take_at xs i x at)) ∙ take-append-drop (suc i) xs)
    (take_over old new (take i xs ++ x ∷ []) (drop (suc i) xs) (take_stop old mid new (take i xs) (x ∷ []) h k))

left_one : (p : Pattern) (ps : List Pattern) → left_names (p ∷ ps) ≡ names_in p ++ left_names ps
left_one (variable x) ps = refl
left_one (matched h xs) ps = refl

left_append : (ps qs : List Pattern) → left_names (ps ++ qs) ≡ left_names ps ++ left_names qs
left_append [] qs = refl
left_append (p ∷ ps) qs =
    left_one p (ps ++ qs) ∙ ap (λ l. names_in p ++ l) (left_append ps qs) ∙ sym (append_assoc (names_in p) (left_names ps) (left_names qs))
    ∙ ap (λ l. l ++ left_names qs) (sym (left_one p ps))

left_last : (ps : List Pattern) (i : ℕ) (p : Pattern) → slice_get ps i ≡ Some p → left_names (take (suc i) ps) ≡ left_names (take i ps) ++ names_in p
left_last ps i p at =
    ap left_names (take_at ps i p at) ∙ left_append (take i ps) (p ∷ []) ∙ ap (λ l. left_names (take i ps) ++ l) (left_one p [] ∙ append-nil (names_in p))

pub left_next : (old mid new : List (List ℕ)) (ps : List Pattern) (i : ℕ) (p : Pattern) → slice_get ps i ≡ Some p → Takes old mid (left_names (take i ps)) true
    → Takes mid new (names_in p) true → Takes old new (left_names (take (i + 1) ps)) true
left_next old mid new ps i p at h k =
    let n : i + 1 ≡ suc i = omega arith in
    subst (λ l. Takes old new l true) (sym (ap (λ m. left_names (take m ps)) n ∙ left_last ps i p at)) (take_next old mid new (left_names (take i ps)) (names_in p) h k)

pub left_stop : (old mid new : List (List ℕ)) (ps : List Pattern) (i : ℕ) (p : Pattern) → slice_get ps i ≡ Some p → Takes old mid (left_names (take i ps)) true
    → Takes mid new (names_in p) false → Takes old new (left_names ps) false
left_stop old mid new ps i p at h k =
    subst (λ l. Takes old new l false)
    (ap (λ l. l ++ left_names (drop (suc i) ps)) (sym (left_last ps i p at)) ∙ sym (left_append (take (suc i) ps) (drop (suc i) ps)) ∙ ap left_names (take-append-drop (suc i) ps))
    (take_over old new (left_names (take i ps) ++ names_in p) (left_names (drop (suc i) ps)) (take_stop old mid new (left_names (take i ps)) (names_in p) h k))
