-- Numbers of literals in a table.
use Rattle.std.proofs.Common.{ℕ, zero, suc, ◌≡◌, ◌+◌, ◌<◌, ◌||◌, ◌&&◌, Bool, true, false, not, List, [], ◌∷◌, ◌++◌, map, take, drop, length, Some, refl, ap, sym, ◌∙◌, add-one, arith, subst, nat_eq}
use Rattle.std.specs.Prelude.{slice_get, if◌then◌else◌, option_map}
use Rattle.std.specs.List.{list_any}
use Rattle.std.proofs.lemmas.Bool.{ne_eqb, eq-eqb}
use Rattle.std.proofs.lemmas.List.{map-append, take-map}
use Rattle.std.proofs.lemmas.List.Folds.{list_any-append}
use Rattle.std.proofs.lemmas.Option.{slice_get-map, slice_get_past}
use Rattle.std.specs.declared.alloc.Global.{Global}
use Rattle.std.specs.declared.vec.Vec.{Vec}
use Rattle.tg_term.proofs.PartLaws.{drop_at}
use Rattle.tg_clause.specs.declared.literals.Literal.{Literal}
use Rattle.tg_clause.specs.declared.literals.Clause as declared
use Rattle.tg_clause.specs.Answers.{literals}
use Rattle.tg_clause.specs.Clauses.{Clause, said, has, same_literal}
use Rattle.tg_clause.specs.Minimal as minimal
use Rattle.tg_clause.specs.Numbers.{first_at, row_of, rows_of, HasAdded, AreKnown, AreAllKnown, is_part, is_proper_part, is_same_set, superfluous_by, is_superfluous, row_items}
use Rattle.tg_clause.proofs.LiteralLaws.{same_is, same_self}
use Rattle.tg_clause.proofs.ListLaws.{take_next}

or_left : (a b : Bool) → a ≡ true → (a || b) ≡ true
or_left true b e = refl
or_left false b e = cc e

or_right : (a b : Bool) → b ≡ true → (a || b) ≡ true
or_right true b e = refl
or_right false b e = e

-- ---- what the table knows

abbrev Keeps : List Literal → List Literal → Type 0
Keeps old new = (l : Literal) → has old l ≡ true → has new l ≡ true

known_more : (old new : List Literal) (c : Clause) → Keeps old new → AreKnown old c → AreKnown new c
known_more old new [] k h = tt
known_more old new (l ∷ ls) k h = (k l h.0, known_more old new ls k h.1)

all_known_more : (old new : List Literal) (cs : List Clause) → Keeps old new → AreAllKnown old cs → AreAllKnown new cs
all_known_more old new [] k h = tt
all_known_more old new (c ∷ cs) k h = (known_more old new c k h.0, all_known_more old new cs k h.1)

known_last : (table : List Literal) (c : Clause) (l : Literal) → AreKnown table c → has table l ≡ true → AreKnown table (c ++ l ∷ [])
known_last table [] l h e = (e, tt)
known_last table (m ∷ ms) l h e = (h.0, known_last table ms l h.1 e)

all_known_last : (table : List Literal) (cs : List Clause) (c : Clause) → AreAllKnown table cs → AreKnown table c → AreAllKnown table (cs ++ c ∷ [])
all_known_last table [] c h e = (e, tt)
all_known_last table (d ∷ ds) c h e = (h.0, all_known_last table ds c h.1 e)

pub newly_added : (t ws : List Literal) (m : Literal) → ws ≡ t ++ said m.positive m.atom ∷ [] → HasAdded t ws (m ∷ [])
newly_added t ws m w =
    let last : has (t ++ m ∷ []) m ≡ true =
    list_any-append (same_literal m) t (m ∷ []) ∙ or_right (has t m) (has (m ∷ []) m) (or_left (same_literal m m) false (same_self m)) in
    subst (λ x. HasAdded t x (m ∷ [])) (sym w)
    (record {
      known = (last, tt);
      keeps = λ l h. list_any-append (same_literal l) t (m ∷ []) ∙ or_left (has t l) (has (m ∷ []) l) h;
    })

pub there_already : (t : List Literal) (m : Literal) → has t m ≡ true → HasAdded t t (m ∷ [])
there_already t m e = record { known = (e, tt); keeps = λ l h. h }

pub ruleset one_added = (newly_added, there_already)

pub nothing_added : (old : List Literal) → HasAdded old old []
nothing_added old = record { known = tt; keeps = λ l h. h }

pub added_next : (old t ws : List Literal) (c : Clause) (i : ℕ) (m : Literal) → slice_get c i ≡ Some m → HasAdded old t (take i c)
    → HasAdded t ws (m ∷ []) → HasAdded old ws (take (i + 1) c)
added_next old t ws c i m at h w =
    record {
      known = subst (AreKnown ws) (sym (take_next c i m at)) (known_last ws (take i c) m (known_more t ws (take i c) w.keeps h.known) w.known.0);
      keeps = λ l e. w.keeps l (h.keeps l e);
    }

pub ruleset adding = (nothing_added, added_next)

pub known_next : (old new : List Literal) (cs : List declared.Clause) (i : ℕ) (c : declared.Clause) → slice_get cs i ≡ Some c
    → AreAllKnown old (map literals (take i cs)) → HasAdded old new (literals c) → AreAllKnown new (map literals (take (i + 1) cs))
known_next old new cs i c at h k =
    subst (AreAllKnown new) (sym (ap (map literals) (take_next cs i c at) ∙ map-append literals (take i cs) (c ∷ [])))
    (all_known_last new (map literals (take i cs)) (literals c) (all_known_more old new (map literals (take i cs)) k.keeps h) k.known)

pub none_known : (table : List Literal) → AreAllKnown table []
none_known table = tt

pub ruleset knowing = (known_next, none_known)

-- ---- finding

first_here : (ms : List Literal) (l m : Literal) → same_literal l m ≡ true → first_at (m ∷ ms) l ≡ 0
first_here ms l m e = ap (λ b. if b then 0 else suc (first_at ms l)) e

first_later : (ms : List Literal) (l m : Literal) → same_literal l m ≡ false → first_at (m ∷ ms) l ≡ suc (first_at ms l)
first_later ms l m e = ap (λ b. if b then 0 else suc (first_at ms l)) e

pub found_here : (table : List Literal) (l : Literal) (i : ℕ) (m : Literal) → slice_get table i ≡ Some m → same_literal l m ≡ true
    → first_at table l ≡ i + first_at (drop i table) l → i ≡ first_at table l
found_here table l i m at e h =
    let z : first_at (drop i table) l ≡ 0 = ap (λ t. first_at t l) (drop_at table i m at) ∙ first_here (drop (suc i) table) l m e in
    omega (arith, h, z)

pub found_later : (table : List Literal) (l : Literal) (i : ℕ) (m : Literal) → slice_get table i ≡ Some m → same_literal l m ≡ false
    → first_at table l ≡ i + first_at (drop i table) l → first_at table l ≡ (i + 1) + first_at (drop (i + 1) table) l
found_later table l i m at e h =
    let z : first_at (drop i table) l ≡ suc (first_at (drop (i + 1) table) l) =
    ap (λ t. first_at t l) (drop_at table i m at) ∙ first_later (drop (suc i) table) l m e
    ∙ ap (λ n. suc (first_at (drop n table) l)) (sym (add-one i)) in
    omega (arith, h, z)

pub not_found : (table : List Literal) (l : Literal) → first_at table l ≡ length table + first_at [] l → length table ≡ first_at table l
not_found table l h = omega (arith, h)

pub ruleset finding = (found_here, found_later, not_found)

pub row_next : (table : List Literal) (c : Clause) (i : ℕ) (m : Literal) (n : ℕ) (vs ws : List ℕ) → slice_get c i ≡ Some m → vs ≡ row_of table (take i c)
    → n ≡ first_at table m → ws ≡ vs ++ n ∷ [] → ws ≡ row_of table (take (i + 1) c)
row_next table c i m n vs ws at v e w =
    w ∙ (λ j. v j ++ e j ∷ []) ∙ sym (ap (row_of table) (take_next c i m at) ∙ map-append (first_at table) (take i c) (m ∷ []))

pub rows_next : (table : List Literal) (cs : List declared.Clause) (i : ℕ) (c : declared.Clause) (row : Vec ℕ Global) (vs ws : List (Vec ℕ Global))
    → slice_get cs i ≡ Some c → map row_items vs ≡ rows_of table (map literals (take i cs)) → row.items ≡ row_of table (literals c) → ws ≡ vs ++ row ∷ []
    → map row_items ws ≡ rows_of table (map literals (take (i + 1) cs))
rows_next table cs i c row vs ws at v e w =
    ap (map row_items) w ∙ map-append row_items vs (row ∷ []) ∙ (λ j. v j ++ e j ∷ [])
    ∙ sym (ap (λ l. rows_of table (map literals l)) (take_next cs i c at) ∙ ap (rows_of table) (map-append literals (take i cs) (c ∷ []))
    ∙ map-append (row_of table) (map literals (take i cs)) (literals c ∷ []))

pub ruleset numbering = (row_next, rows_next)

-- ---- comparing

pub rows_from : (rows : List (Vec ℕ Global)) (i : ℕ) (d : Vec ℕ Global) → slice_get rows i ≡ Some d
    → map row_items (drop i rows) ≡ d.items ∷ map row_items (drop (i + 1) rows)
rows_from rows i d at = ap (map row_items) (drop_at rows i d at ∙ ap (λ n. d ∷ drop n rows) (sym (add-one i)))

pub ruleset comparing = (rows_from)

pub part_decides : (rows : List (Vec ℕ Global)) (i : ℕ) (c : List ℕ) → list_any (λ d. is_proper_part d c) (map row_items rows) ≡ true
    → true ≡ superfluous_by (map row_items rows) i (Some c)
part_decides rows i c e = sym (ap (λ b. b || list_any (λ d. is_same_set d c) (take i (map row_items rows))) e)

pub set_decides : (rows : List (Vec ℕ Global)) (i : ℕ) (c : List ℕ) → list_any (λ d. is_proper_part d c) (map row_items rows) ≡ false
    → list_any (λ d. is_same_set d c) (map row_items (take i rows)) ≡ superfluous_by (map row_items rows) i (Some c)
set_decides rows i c e =
    ap (list_any (λ d. is_same_set d c)) (sym (take-map row_items i rows))
    ∙ sym (ap (λ b. b || list_any (λ d. is_same_set d c) (take i (map row_items rows))) e)

pub at_place : (rows : List (Vec ℕ Global)) (i : ℕ) (c : Vec ℕ Global) → slice_get rows i ≡ Some c
    → superfluous_by (map row_items rows) i (Some c.items) ≡ is_superfluous (map row_items rows) i
at_place rows i c at = sym (ap (superfluous_by (map row_items rows) i) (slice_get-map row_items rows i ∙ ap (option_map row_items) at))

pub past : (rows : List (Vec ℕ Global)) (i : ℕ) → ¬ (i < length rows) → false ≡ is_superfluous (map row_items rows) i
past rows i h =
    sym (ap (superfluous_by (map row_items rows) i) (slice_get-map row_items rows i ∙ ap (option_map row_items) (slice_get_past rows i (omega (arith, h)))))

pub ruleset placing = (part_decides, set_decides, at_place, past)

-- ---- numbers tell literals apart

-- by what is known of both at the first literal of the table
first_by : (x : Literal) (xs : List Literal) (l m : Literal) (a b : Bool) → (has xs l ≡ true → first_at xs l ≡ first_at xs m → l ≡ m)
    → has (x ∷ xs) l ≡ true → first_at (x ∷ xs) l ≡ first_at (x ∷ xs) m → same_literal l x ≡ a → same_literal m x ≡ b → l ≡ m
first_by x xs l m true true below h e p q = same_is l x p ∙ sym (same_is m x q)
first_by x xs l m true false below h e p q =
    let f : 0 ≡ suc (first_at xs m) = sym (first_here xs l x p) ∙ e ∙ first_later xs m x q in absurd (omega (arith, f))
first_by x xs l m false true below h e p q =
    let f : suc (first_at xs l) ≡ 0 = sym (first_later xs l x p) ∙ e ∙ first_here xs m x q in absurd (omega (arith, f))
first_by x xs l m false false below h e p q =
    let f : suc (first_at xs l) ≡ suc (first_at xs m) = sym (first_later xs l x p) ∙ e ∙ first_later xs m x q in
    below (ap (λ b. b || has xs l) (sym p) ∙ h) (omega (arith, f))

first_same : (table : List Literal) (l m : Literal) → has table l ≡ true → first_at table l ≡ first_at table m → l ≡ m
first_same [] l m h e = cc h
first_same (x ∷ xs) l m h e =
    first_by x xs l m (same_literal l x) (same_literal m x) (λ k f. first_same xs l m k f) h e refl refl

numbers_tell : (table : List Literal) (l m : Literal) → has table l ≡ true → nat_eq (first_at table l) (first_at table m) ≡ same_literal l m
numbers_tell table l m h = by (same_literal l m) refl
  where
    by : (a : Bool) → same_literal l m ≡ a → nat_eq (first_at table l) (first_at table m) ≡ a
    by true p = eq-eqb (first_at table l) (first_at table m) (ap (first_at table) (same_is l m p))
    by false p =
        ne_eqb (first_at table l) (first_at table m)
        (λ e. let t : true ≡ false = sym (same_self l) ∙ ap (same_literal l) (first_same table l m h e) ∙ p in cc t)

holds_has : (table : List Literal) (c : Clause) (l : Literal) → has table l ≡ true → list_any (nat_eq (first_at table l)) (row_of table c) ≡ has c l
holds_has table [] l h = refl
holds_has table (m ∷ ms) l h = λ i. numbers_tell table l m h i || holds_has table ms l h i

part_is : (table : List Literal) (d c : Clause) → AreKnown table d → is_part (row_of table d) (row_of table c) ≡ minimal.is_part d c
part_is table [] c h = refl
part_is table (l ∷ ls) c h = λ i. holds_has table c l h.0 i && part_is table ls c h.1 i

proper_is : (table : List Literal) (d c : Clause) → AreKnown table d → AreKnown table c
    → is_proper_part (row_of table d) (row_of table c) ≡ minimal.is_proper_part d c
proper_is table d c h k = λ i. part_is table d c h i && not (part_is table c d k i)

same_set_is : (table : List Literal) (d c : Clause) → AreKnown table d → AreKnown table c
    → is_same_set (row_of table d) (row_of table c) ≡ minimal.is_same_set d c
same_set_is table d c h k = λ i. part_is table d c h i && part_is table c d k i

some_proper : (table : List Literal) (all : List Clause) (c : Clause) → AreAllKnown table all → AreKnown table c
    → list_any (λ d. is_proper_part d (row_of table c)) (rows_of table all) ≡ list_any (λ d. minimal.is_proper_part d c) all
some_proper table [] c h k = refl
some_proper table (d ∷ ds) c h k = λ i. proper_is table d c h.0 k i || some_proper table ds c h.1 k i

some_same : (table : List Literal) (all : List Clause) (c : Clause) → AreAllKnown table all → AreKnown table c
    → list_any (λ d. is_same_set d (row_of table c)) (rows_of table all) ≡ list_any (λ d. minimal.is_same_set d c) all
some_same table [] c h k = refl
some_same table (d ∷ ds) c h k = λ i. same_set_is table d c h.0 k i || some_same table ds c h.1 k i

known_at : (table : List Literal) (all : List Clause) (i : ℕ) (c : Clause) → AreAllKnown table all → slice_get all i ≡ Some c → AreKnown table c
known_at table [] i c h e = cc e
known_at table (d ∷ ds) zero c h e = let p : d ≡ c = cc e in subst (AreKnown table) p h.0
known_at table (d ∷ ds) (suc i) c h e = known_at table ds i c h.1 e

known_front : (table : List Literal) (all : List Clause) (i : ℕ) → AreAllKnown table all → AreAllKnown table (take i all)
known_front table [] zero h = tt
known_front table [] (suc i) h = tt
known_front table (d ∷ ds) zero h = tt
known_front table (d ∷ ds) (suc i) h = (h.0, known_front table ds i h.1)

pub superfluous_same : (table : List Literal) (all : List Clause) (i : ℕ) (c : Clause) → AreAllKnown table all → slice_get all i ≡ Some c
    → is_superfluous (rows_of table all) i ≡ minimal.is_superfluous all (take i all) c
superfluous_same table all i c h e =
    let k : AreKnown table c = known_at table all i c h e in
    ap (superfluous_by (rows_of table all) i) (slice_get-map (row_of table) all i ∙ ap (option_map (row_of table)) e)
    ∙ (λ j. some_proper table all c h k j
    || ((ap (list_any (λ d. is_same_set d (row_of table c))) (take-map (row_of table) i all)) ∙ some_same table (take i all) c (known_front table all i h) k) j)
