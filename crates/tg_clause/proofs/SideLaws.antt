-- Lists of clauses and their lengths, and the sides that operators make of their operands'.
use Rattle.std.proofs.Common.{ℕ, ◌≡◌, ◌+◌, ◌*◌, ◌<◌, ◌≤◌, ◌&&◌, Bool, true, false, not, List, [], ◌∷◌, ◌++◌, length, map, refl, ap, sym, ◌∙◌, arith, subst, le-leb, zero-mul, suc-mul}
use Rattle.std.specs.Prelude.{nat_le}
use Rattle.std.proofs.lemmas.Bool.{lt-leb}
use Rattle.std.specs.List.{filter}
use Rattle.std.proofs.lemmas.List.{length-append, length-map, map-append}
use Rattle.tg_clause.specs.declared.literals.Clause as declared
use Rattle.tg_clause.specs.declared.sides.Sides as code
use Rattle.tg_clause.specs.declared.sides.Asked.TheVariants.{Positive}
use Rattle.tg_clause.specs.declared.errors.ClauseErr.{ClauseErr}
use Rattle.tg_clause.specs.declared.errors.ClauseErr.TheVariants.{Clauses, Memory}
use Rattle.tg_clause.specs.Answers.{literals, side_of, sides_of, asked, both_fit, IsExcess}
use Rattle.tg_clause.specs.Clauses.{Clause, Side, Sides, made, beside, times, product, joined, is_tautology}

-- whether a list fits
few : (m n : ℕ) → m ≤ n → (nat_le m n && true) ≡ true
few m n h = ap (λ b. b && true) (le-leb m n h)

many : (m n : ℕ) → n < m → (nat_le m n && true) ≡ false
many m n h = ap (λ b. b && true) (lt-leb m n h)

one_list : (xs : List Clause) (cs : List declared.Clause) → xs ≡ map literals cs → length cs ≤ 4096 → made xs true ≡ side_of cs
one_list xs cs e h =
    let n : length xs ≡ length cs = ap length e ∙ length-map cs literals in
    λ i. record { list = e i; fits = few (length xs) 4096 (subst (λ k. k ≤ 4096) (sym n) h) i }

long_list : (xs : List Clause) (n : ℕ) → length xs ≡ n → 4096 < n → (made xs true).fits ≡ false
long_list xs n e h = many (length xs) 4096 (subst (λ k. 4096 < k) (sym e) h)

pub besides : (cs ds all : List declared.Clause) → all ≡ cs ++ ds → length cs + length ds ≤ 4096 → beside (side_of cs) (side_of ds) ≡ side_of all
besides cs ds all e h =
    one_list (map literals cs ++ map literals ds) all (sym (map-append literals cs ds) ∙ ap (map literals) (sym e))
    (subst (λ k. k ≤ 4096) (sym (ap length e ∙ length-append cs ds)) h)

pub too_many_besides : (cs ds : List declared.Clause) → 4096 < length cs + length ds → (beside (side_of cs) (side_of ds)).fits ≡ false
too_many_besides cs ds h =
    long_list (map literals cs ++ map literals ds) (length cs + length ds)
    (length-append (map literals cs) (map literals ds) ∙ (λ i. length-map cs literals i + length-map ds literals i)) h

product_length : (cs ds : List Clause) → length (product cs ds) ≡ length cs * length ds
product_length [] ds = sym (zero-mul (length ds))
product_length (c ∷ cs) ds =
    length-append (map (joined c) ds) (product cs ds) ∙ (λ i. length-map ds (joined c) i + product_length cs ds i)
    ∙ (let e = suc-mul (length cs) (length ds) in omega (arith, e))

lengths : (cs ds : List declared.Clause) → length (product (map literals cs) (map literals ds)) ≡ length cs * length ds
lengths cs ds = product_length (map literals cs) (map literals ds) ∙ (λ i. length-map cs literals i * length-map ds literals i)

pub products : (cs ds all : List declared.Clause) → map literals all ≡ product (map literals cs) (map literals ds) → length cs * length ds ≤ 4096
    → times (side_of cs) (side_of ds) ≡ side_of all
products cs ds all e h =
    one_list (product (map literals cs) (map literals ds)) all (sym e)
    (subst (λ k. k ≤ 4096) (sym (sym (length-map all literals) ∙ ap length e ∙ lengths cs ds)) h)

pub too_many_products : (cs ds : List declared.Clause) → 4096 < length cs * length ds → (times (side_of cs) (side_of ds)).fits ≡ false
too_many_products cs ds h = long_list (product (map literals cs) (map literals ds)) (length cs * length ds) (lengths cs ds) h

pub ruleset lists = (besides, too_many_besides, products, too_many_products)

-- what doesn't fit in a part doesn't fit in the whole
excess_by : (e : ClauseErr) (a b : Bool) → (a ≡ false → b ≡ false) → IsExcess a e → IsExcess b e
excess_by Clauses a b f h = f h
excess_by Memory a b f h = tt

false_left : (a b : Bool) → a ≡ false → (a && b) ≡ false
false_left true b h = cc h
false_left false b h = refl

false_right : (a b : Bool) → b ≡ false → (a && b) ≡ false
false_right true b h = h
false_right false b h = refl

pub excess_left : (e : ClauseErr) (a b : Bool) → IsExcess a e → IsExcess (a && b) e
excess_left e a b h = excess_by e a (a && b) (false_left a b) h

pub excess_right : (e : ClauseErr) (a b : Bool) → IsExcess b e → IsExcess (a && b) e
excess_right e a b h = excess_by e b (a && b) (false_right a b) h

pub excess_of : (e : ClauseErr) (s t : Side) → s ≡ t → IsExcess t.fits e → IsExcess s.fits e
excess_of e s t p h = subst (λ (x : Side). IsExcess x.fits e) (sym p) h

pub paired : (p n : Side) (s : code.Sides) → p ≡ side_of s.positive.items → n ≡ side_of s.negative.items
    → record { positive = p; negative = n } ≡ sides_of s
paired p n s e f = λ i. record { positive = e i; negative = f i }

pub excess_in_left : (e : ClauseErr) (l a b : Bool) → IsExcess a e → IsExcess (l && (a && b)) e
excess_in_left e l a b h = excess_right e l (a && b) (excess_left e a b h)

pub excess_in_right : (e : ClauseErr) (l a b : Bool) → IsExcess b e → IsExcess (l && (a && b)) e
excess_in_right e l a b h = excess_right e l (a && b) (excess_right e a b h)

pub besides_of : (x y z : Side) (cs ds : List declared.Clause) → x ≡ side_of cs → y ≡ side_of ds → beside (side_of cs) (side_of ds) ≡ z → beside x y ≡ z
besides_of x y z cs ds e f h = (λ i. beside (e i) (f i)) ∙ h

pub excess_besides : (e : ClauseErr) (x y : Side) (cs ds : List declared.Clause) → x ≡ side_of cs → y ≡ side_of ds
    → IsExcess (beside (side_of cs) (side_of ds)).fits e → IsExcess (beside x y).fits e
excess_besides e x y cs ds p q h = subst (λ (s : Side). IsExcess s.fits e) (λ i. beside (sym p i) (sym q i)) h

pub ruleset combining = (excess_left, excess_right)

pub ruleset walking = (excess_left, excess_right)

-- the clauses of the term alone
pub form_of : (t : Sides) (s : code.Sides) (kept : List Clause) → asked Positive t ≡ sides_of s → kept ≡ filter (λ c. not (is_tautology c)) (map literals s.positive.items)
    → kept ≡ filter (λ c. not (is_tautology c)) t.positive.list
form_of t s kept e h = h ∙ ap (λ (x : Sides). filter (λ c. not (is_tautology c)) x.positive.list) (sym e)

pub form_fits : (t : Sides) (s : code.Sides) → asked Positive t ≡ sides_of s → t.positive.fits ≡ true
form_fits t s e = ap (λ (x : Sides). x.positive.fits) e

pub form_excess : (e : ClauseErr) (t : Sides) → IsExcess (both_fit (asked Positive t)) e → IsExcess t.positive.fits e
form_excess e t h = excess_by e (t.positive.fits && true) t.positive.fits (and_true t.positive.fits) h
  where
    and_true : (b : Bool) → (b && true) ≡ false → b ≡ false
    and_true true h = h
    and_true false h = refl

pub ruleset forms = (form_of, form_fits, form_excess)
