-- The terms of shapes with their variables numbered on.
use Rattle.std.proofs.Common.{ℕ, zero, suc, ◌≡◌, ◌<◌, ◌≤◌, ◌+◌, List, [], ◌∷◌, ◌++◌, map, length, Some, All, refl, sym, ◌∙◌, ap, ap₂, arith, length-append}
use Rattle.std.specs.Prelude.{slice_get}
use Rattle.std.specs.Option.{option_map_or}
use Rattle.std.proofs.lemmas.List.{length-map}
use Rattle.std.proofs.lemmas.List.Elements.{All-head, All-tail}
use Rattle.tg_model.specs.Accepted.{variables_from}
use Rattle.tg_model.specs.Tree as tree
use Rattle.tg_model.specs.Tree.{Tree, free, truth, con}
use Rattle.std.specs.Prelude.{false}
use Rattle.tg_model.specs.Walk.{walk, walk_all, as_bound, given, lifted, substituted}
use Rattle.tg_types.specs.Types.{ty}
use Rattle.tg_split.specs.declared.numbering.Part as code
use Rattle.tg_split.specs.Shapes.{Shape, Shapes, hole, node, none, more}
use Rattle.tg_split.specs.Patterns.{holes, all_holes, term_from, terms_from}
use Rattle.tg_split.specs.Listing.{part, part_of, AreBehind}

pub one_more_variable : (n count : ℕ) → variables_from n (suc count) ≡ variables_from n count ++ free (n + count) ∷ []
one_more_variable n zero = ap (λ m. free m ∷ []) (let e : n ≡ n + 0 = omega arith in e)
one_more_variable n (suc count) =
    ap (λ l. free n ∷ l) (one_more_variable (suc n) count ∙ ap (λ m. variables_from (suc n) count ++ free m ∷ []) (let e : suc n + count ≡ n + suc count = omega arith in e))

variable_there : (n count j : ℕ) → j < count → slice_get (variables_from n count) j ≡ Some (free (n + j))
variable_there n zero j h = absurd (omega (arith, h))
variable_there n (suc count) zero h = ap (λ m. Some (free m)) (let e : n ≡ n + 0 = omega arith in e)
variable_there n (suc count) (suc j) h =
    variable_there (suc n) count j (omega (arith, h)) ∙ ap (λ m. Some (free m)) (let e : suc n + j ≡ n + suc j = omega arith in e)

-- a shape's term at variables from `n` on in place of those from `?1` on
module _ (n count : ℕ) where
  mutual
    numbered_on : (s : Shape) (j : ℕ) → j + length (holes s) ≤ count
        → walk as_bound (given (variables_from n count)) 0 (term_from (suc j) s) ≡ term_from (n + j) s
    numbered_on (hole t) j h = ap (λ o. option_map_or (lifted 0) o (truth false)) (variable_there n count j (omega (arith, h)))
    numbered_on (node c ss) j h = ap (con c) (all_numbered_on ss j h)

    all_numbered_on : (ss : Shapes) (j : ℕ) → j + length (all_holes ss) ≤ count
        → walk_all as_bound (given (variables_from n count)) 0 (terms_from (suc j) ss) ≡ terms_from (n + j) ss
    all_numbered_on none j h = refl
    all_numbered_on (more s ss) j h =
        let sum = length-append (holes s) (all_holes ss) in
        let k : ℕ = length (holes s) in
        ap₂ tree.more (numbered_on s j (omega (arith, h, sum)))
        (ap (λ m. walk_all as_bound (given (variables_from n count)) 0 (terms_from m ss)) (let e : suc j + k ≡ suc (j + k) = omega arith in e)
        ∙ all_numbered_on ss (j + k) (omega (arith, h, sum))
        ∙ ap (λ m. terms_from m ss) (let e : n + (j + k) ≡ n + j + k = omega arith in e))

HasFew : ℕ → code.Part → Type 0
HasFew count p = length p.vars ≤ count

same_term : (p : code.Part) (s : Shape) → part p ≡ part_of s → p.term ≡ term_from 1 s
same_term p s e = ap (λ q. q.0) e

same_count : (p : code.Part) (s : Shape) → part p ≡ part_of s → length (holes s) ≡ length p.vars
same_count p s e = ap (λ q. length q.1) (sym e) ∙ length-map p.vars ty

first_part : (p : code.Part) (s : Shape) (ps : List code.Part) (ss : List Shape) → map part (p ∷ ps) ≡ map part_of (s ∷ ss) → part p ≡ part_of s
first_part p s ps ss e = cc e

other_parts : (p : code.Part) (s : Shape) (ps : List code.Part) (ss : List Shape) → map part (p ∷ ps) ≡ map part_of (s ∷ ss) → map part ps ≡ map part_of ss
other_parts p s ps ss e = cc e

put_in_place : (n count : ℕ) (ps : List code.Part) (ss : List Shape) → All (λ (p : code.Part). length p.vars ≤ count) ps → map part ps ≡ map part_of ss
    → map (λ (p : code.Part). substituted (variables_from n count) p.term) ps ≡ map (term_from n) ss
put_in_place n count [] [] few e = refl
put_in_place n count [] (s ∷ ss) few e = cc e
put_in_place n count (p ∷ ps) [] few e = cc e
put_in_place n count (p ∷ ps) (s ∷ ss) few e =
    let P : code.Part → Type 0 = λ q. length q.vars ≤ count in
    let this = first_part p s ps ss e in
    let low : length p.vars ≤ count = All-head P p ps few in
    let size = same_count p s this in
    ap₂ (λ (t : Tree) l. t ∷ l)
    (ap (substituted (variables_from n count)) (same_term p s this) ∙ numbered_on n count s 0 (omega (arith, low, size)) ∙ ap (λ m. term_from m s) (let z : n + 0 ≡ n = omega arith in z))
    (put_in_place n count ps ss (All-tail P p ps few) (other_parts p s ps ss e))

pub behind_some : (vars count : ℕ) (ps : List code.Part) (ts : List Tree) → All (λ (p : code.Part). length p.vars ≤ count) ps
    → ts ≡ map (λ (p : code.Part). substituted (variables_from (1 + vars) count) p.term) ps → AreBehind ps vars ts
behind_some vars count ps ts few e ss same = e ∙ put_in_place (1 + vars) count ps ss few same

pub behind_none : (vars : ℕ) (ps : List code.Part) (ts : List Tree) → vars ≡ 0 → ts ≡ map (λ (p : code.Part). p.term) ps → AreBehind ps vars ts
behind_none vars ps ts zero_vars e ss same =
    e ∙ terms_as_they_are ps ss same ∙ ap (λ n. map (term_from n) ss) (let o : 1 ≡ 1 + vars = omega (arith, zero_vars) in o)
  where
    terms_as_they_are : (ps : List code.Part) (ss : List Shape) → map part ps ≡ map part_of ss → map (λ (p : code.Part). p.term) ps ≡ map (term_from 1) ss
    terms_as_they_are [] [] e = refl
    terms_as_they_are [] (s ∷ ss) e = cc e
    terms_as_they_are (p ∷ ps) [] e = cc e
    terms_as_they_are (p ∷ ps) (s ∷ ss) e =
        ap₂ (λ (t : Tree) l. t ∷ l) (same_term p s (first_part p s ps ss e)) (terms_as_they_are ps ss (other_parts p s ps ss e))

pub ruleset numbering = (one_more_variable, behind_some, behind_none)
