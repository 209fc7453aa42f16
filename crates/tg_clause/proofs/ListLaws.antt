-- Lists of literals and clauses that grow.
use Rattle.std.proofs.Common.{ℕ, zero, suc, ◌≡◌, ◌+◌, Bool, true, false, not, List, [], ◌∷◌, ◌++◌, map, take, Some, refl, ap, sym, ◌∙◌, add-one}
use Rattle.std.specs.Prelude.{slice_get, cond}
use Rattle.std.specs.List.{filter}
use Rattle.std.proofs.lemmas.List.{map-append, append_assoc}
use Rattle.std.proofs.lemmas.Grind.{flat_map-append}
use Rattle.tg_clause.specs.declared.literals.Literal.{Literal}
use Rattle.tg_clause.specs.declared.literals.Clause as declared
use Rattle.tg_clause.specs.Answers.{literals}
use Rattle.tg_clause.specs.Clauses.{Clause, said, has, joined, product, is_tautology}

take_suc : {A : Type 0} (ls : List A) (i : ℕ) (x : A) → slice_get ls i ≡ Some x → take (suc i) ls ≡ take i ls ++ x ∷ []
take_suc [] i x e = cc e
take_suc (l ∷ ls) zero x e = let p : l ≡ x = cc e in ap (λ y. y ∷ []) p
take_suc (l ∷ ls) (suc i) x e = ap (λ rest. l ∷ rest) (take_suc ls i x e)

pub take_next : {A : Type 0} (ls : List A) (i : ℕ) (x : A) → slice_get ls i ≡ Some x → take (i + 1) ls ≡ take i ls ++ x ∷ []
take_next ls i x e = ap (λ n. take n ls) (add-one i) ∙ take_suc ls i x e

pub literal_next : (ls : List Literal) (i : ℕ) (m : Literal) (us vs ws : List Literal) → slice_get ls i ≡ Some m → vs ≡ us ++ take i ls
    → ws ≡ vs ++ said m.positive m.atom ∷ [] → ws ≡ us ++ take (i + 1) ls
literal_next ls i m us vs ws e v w =
    w ∙ ap (λ l. l ++ m ∷ []) v ∙ append_assoc us (take i ls) (m ∷ []) ∙ ap (λ l. us ++ l) (sym (take_next ls i m e))

by_test : {A : Type 0} (b : Bool) (x : A) (l m n : List A) → l ≡ m ++ n → cond b (x ∷ l) l ≡ cond b (x ∷ m) m ++ n
by_test true x l m n e = ap (λ l. x ∷ l) e
by_test false x l m n e = e

pub filter_append : {A : Type 0} (p : A → Bool) (xs ys : List A) → filter p (xs ++ ys) ≡ filter p xs ++ filter p ys
filter_append p [] ys = refl
filter_append p (x ∷ xs) ys = by_test (p x) x (filter p (xs ++ ys)) (filter p xs) (filter p ys) (filter_append p xs ys)

pub filter_next : {A : Type 0} (p : A → Bool) (ls : List A) (i : ℕ) (x : A) → slice_get ls i ≡ Some x
    → filter p (take (i + 1) ls) ≡ filter p (take i ls) ++ cond (p x) (x ∷ []) []
filter_next p ls i x e = ap (filter p) (take_next ls i x e) ∙ filter_append p (take i ls) (x ∷ [])

pub append_none : {A : Type 0} (xs : List A) → xs ≡ xs ++ []
append_none [] = refl
append_none (x ∷ xs) = ap (λ l. x ∷ l) (append_none xs)

abbrev is_new : Clause → Literal → Bool
is_new c l = not (has c l)

pub new_next : (c ls : List Literal) (i : ℕ) (m : Literal) (us vs ws : List Literal) → slice_get ls i ≡ Some m → vs ≡ us ++ filter (is_new c) (take i ls)
    → has c m ≡ false → ws ≡ vs ++ said m.positive m.atom ∷ [] → ws ≡ us ++ filter (is_new c) (take (i + 1) ls)
new_next c ls i m us vs ws e v h w =
    w ∙ ap (λ l. l ++ m ∷ []) v ∙ append_assoc us (filter (is_new c) (take i ls)) (m ∷ [])
    ∙ ap (λ l. us ++ l) (sym (filter_next (is_new c) ls i m e ∙ ap (λ b. filter (is_new c) (take i ls) ++ cond (not b) (m ∷ []) []) h))

pub old_next : (c ls : List Literal) (i : ℕ) (m : Literal) (us vs : List Literal) → slice_get ls i ≡ Some m → vs ≡ us ++ filter (is_new c) (take i ls)
    → has c m ≡ true → vs ≡ us ++ filter (is_new c) (take (i + 1) ls)
old_next c ls i m us vs e v h =
    v ∙ ap (λ l. us ++ l)
    (append_none (filter (is_new c) (take i ls))
    ∙ sym (filter_next (is_new c) ls i m e ∙ ap (λ b. filter (is_new c) (take i ls) ++ cond (not b) (m ∷ []) []) h))

pub joined_next : (c : Clause) (ds : List declared.Clause) (i : ℕ) (d e : declared.Clause) (us : List Clause) (vs ws : List declared.Clause)
    → slice_get ds i ≡ Some d → map literals vs ≡ us ++ map (joined c) (map literals (take i ds)) → literals e ≡ joined c (literals d)
    → ws ≡ vs ++ e ∷ [] → map literals ws ≡ us ++ map (joined c) (map literals (take (i + 1) ds))
joined_next c ds i d e us vs ws at v j w =
    let first = map (joined c) (map literals (take i ds)) in
    let more : map (joined c) (map literals (take (i + 1) ds)) ≡ first ++ literals e ∷ [] =
    ap (λ l. map (joined c) (map literals l)) (take_next ds i d at)
    ∙ ap (map (joined c)) (map-append literals (take i ds) (d ∷ [])) ∙ map-append (joined c) (map literals (take i ds)) (literals d ∷ [])
    ∙ ap (λ x. first ++ x ∷ []) (sym j) in
    ap (map literals) w ∙ map-append literals vs (e ∷ []) ∙ ap (λ l. l ++ literals e ∷ []) v
    ∙ append_assoc us first (literals e ∷ []) ∙ ap (λ l. us ++ l) (sym more)

pub product_next : (cs : List declared.Clause) (i : ℕ) (c : declared.Clause) (ds vs ws : List Clause) → slice_get cs i ≡ Some c
    → vs ≡ product (map literals (take i cs)) ds → ws ≡ vs ++ map (joined (literals c)) ds → ws ≡ product (map literals (take (i + 1) cs)) ds
product_next cs i c ds vs ws at v w =
    let more : product (map literals (take (i + 1) cs)) ds ≡ product (map literals (take i cs)) ds ++ map (joined (literals c)) ds =
    ap (λ l. product (map literals l) ds) (take_next cs i c at)
    ∙ ap (λ l. product l ds) (map-append literals (take i cs) (c ∷ []))
    ∙ flat_map-append (λ x. map (joined x) ds) (map literals (take i cs)) (literals c ∷ [])
    ∙ ap (λ l. product (map literals (take i cs)) ds ++ l) (sym (append_none (map (joined (literals c)) ds))) in
    w ∙ ap (λ l. l ++ map (joined (literals c)) ds) v ∙ sym more

pub ruleset appending = (literal_next, new_next, old_next, joined_next, product_next)

abbrev is_informative : Clause → Bool
is_informative c = not (is_tautology c)

informative_next : (cs : List declared.Clause) (i : ℕ) (c : declared.Clause) → slice_get cs i ≡ Some c
    → filter is_informative (map literals (take (i + 1) cs)) ≡ filter is_informative (map literals (take i cs)) ++ cond (is_informative (literals c)) (literals c ∷ []) []
informative_next cs i c at =
    ap (λ l. filter is_informative (map literals l)) (take_next cs i c at)
    ∙ ap (filter is_informative) (map-append literals (take i cs) (c ∷ []))
    ∙ filter_append is_informative (map literals (take i cs)) (literals c ∷ [])

pub kept_next : (cs : List declared.Clause) (i : ℕ) (c e : declared.Clause) (vs ws : List declared.Clause) → slice_get cs i ≡ Some c
    → map literals vs ≡ filter is_informative (map literals (take i cs)) → is_tautology (literals c) ≡ false → literals e ≡ literals c
    → ws ≡ vs ++ e ∷ [] → map literals ws ≡ filter is_informative (map literals (take (i + 1) cs))
kept_next cs i c e vs ws at v h same w =
    ap (map literals) w ∙ map-append literals vs (e ∷ []) ∙ (λ j. v j ++ same j ∷ [])
    ∙ sym (informative_next cs i c at ∙ ap (λ b. filter is_informative (map literals (take i cs)) ++ cond (not b) (literals c ∷ []) []) h)

pub left_next : (cs : List declared.Clause) (i : ℕ) (c : declared.Clause) (vs : List declared.Clause) → slice_get cs i ≡ Some c
    → map literals vs ≡ filter is_informative (map literals (take i cs)) → is_tautology (literals c) ≡ true
    → map literals vs ≡ filter is_informative (map literals (take (i + 1) cs))
left_next cs i c vs at v h =
    v ∙ append_none (filter is_informative (map literals (take i cs)))
    ∙ sym (informative_next cs i c at ∙ ap (λ b. filter is_informative (map literals (take i cs)) ++ cond (not b) (literals c ∷ []) []) h)

pub ruleset keeping = (kept_next, left_next)

pub item_next : {A : Type 0} (ls : List A) (i : ℕ) (x y : A) (vs ws : List A) → slice_get ls i ≡ Some x → vs ≡ take i ls → y ≡ x → ws ≡ vs ++ y ∷ []
    → ws ≡ take (i + 1) ls
item_next ls i x y vs ws at v same w = w ∙ (λ j. v j ++ same j ∷ []) ∙ sym (take_next ls i x at)

pub ruleset copying = (item_next)
