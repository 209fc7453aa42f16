-- The place of a name among names that rise.
use Rattle.std.proofs.Common.{◌≡◌, ℕ, zero, suc, ◌+◌, ◌-◌, ◌<◌, ◌≤◌, ◌↔◌, Bool, true, false, ◌&&◌, List, [], ◌∷◌, length, map, get_or, slice_get, Option, Some, None, refl, sym, ap, subst, ◌∙◌, inl, inr, arith, add-one}
use Rattle.std.proofs.lemmas.Bool.{cases_eq, cases_lt}
use Rattle.std.proofs.lemmas.Cmp.{tied_itself}
use Rattle.std.proofs.lemmas.List.{get_or-map, length-map}
use Rattle.std.proofs.lemmas.Map.Lookups.{exact_bytes}
use Rattle.std.proofs.lemmas.Option.{slice_get-get_or, slice_get_within, get_or_from_slice_get}
use Rattle.std.specs.Cmp.{IsTotalOrder}
use Rattle.std.specs.Cmp.Lexicographic.{slice_cmp, nat_list_cmp_total}
use Rattle.std.specs.Ordering.{nat_cmp, is_lt, ordering_reverse}
use Rattle.std.specs.Prelude.{IsTrue}
use Rattle.std.specs.declared.cmp.Ordering.{Ordering}
use Rattle.std.specs.declared.cmp.Ordering.TheVariants.{Less, Equal, Greater}
use Rattle.tg_tables.specs.declared.row.Row.{Row}
use Rattle.tg_tables.specs.Rows.{Below, Rises, rises, FailsToRise, names, entries_of}

abbrev order : List ℕ → List ℕ → Ordering
order = slice_cmp nat_cmp

laws : IsTotalOrder order
laws = nat_list_cmp_total

-- the test is the fact
is_less : (o : Ordering) → is_lt o ≡ true → o ≡ Less
is_less Less e = refl
is_less Equal e = absurd cc
is_less Greater e = absurd cc

both : (a b : Bool) → a && b ≡ true → (a ≡ true) × (b ≡ true)
both true b e = (refl, e)
both false b e = absurd cc

risen : (ns : List (List ℕ)) → rises ns ≡ true → (k : ℕ) (d : List ℕ) → suc k < length ns → Below (get_or ns k d) (get_or ns (suc k) d)
risen [] e k d within = absurd (omega arith)
risen (x ∷ []) e k d within = absurd (omega arith)
risen (x ∷ y ∷ rest) e zero d within = is_less _ (both (is_lt (order x y)) (rises (y ∷ rest)) e).0
risen (x ∷ y ∷ rest) e (suc k) d within = risen (y ∷ rest) (both (is_lt (order x y)) (rises (y ∷ rest)) e).1 k d (omega arith)

pub Rises_from_test : (ns : List (List ℕ)) → IsTrue (rises ns) → Rises ns
Rises_from_test ns test k d within = subst (λ n. Below (get_or ns k d) (get_or ns n d)) (sym (add-one k)) (risen ns test k d (omega arith))

-- a name is below each later one
far : (ns : List (List ℕ)) → Rises ns → (d : List ℕ) (i j : ℕ) → i < j → j < length ns → Below (get_or ns i d) (get_or ns j d)
far ns rises d i zero lt within = absurd (omega arith)
far ns rises d i (suc j) lt within =
    let next : Below (get_or ns j d) (get_or ns (suc j) d) = subst (λ k. Below (get_or ns j d) (get_or ns k d)) (add-one j) (rises j d (omega arith)) in
    elim (cases_eq i j) [
      | inl e ↦ subst (λ k. Below (get_or ns k d) (get_or ns (suc j) d)) (sym e) next
      | inr ne ↦ laws.trans (get_or ns i d) (get_or ns j d) (get_or ns (suc j) d) (far ns rises d i j (omega arith) (omega arith)) next
    ]

itself : (name : List ℕ) → Below name name → ⊥
itself name e = let tied : order name name ≡ Equal = tied_itself laws name in cc

-- so a name stands at one place
one_place : (ns : List (List ℕ)) → Rises ns → (name : List ℕ) (i j : ℕ) → slice_get ns i ≡ Some name → slice_get ns j ≡ Some name → i ≡ j
one_place ns rises name i j at_i at_j =
    let i-is : get_or ns i name ≡ name = get_or_from_slice_get ns i name name at_i in
    let j-is : get_or ns j name ≡ name = get_or_from_slice_get ns j name name at_j in
    let i-in = slice_get_within ns i name at_i in
    let j-in = slice_get_within ns j name at_j in
    elim (cases_eq i j) [
      | inl e ↦ e
      | inr ne ↦ elim (cases_lt i j) [
        | inl lt ↦ absurd (itself name (subst (λ x. Below x name) i-is (subst (λ y. Below (get_or ns i name) y) j-is (far ns rises name i j lt j-in))))
        | inr le ↦ absurd (itself name (subst (λ x. Below x name) j-is (subst (λ y. Below (get_or ns j name) y) i-is (far ns rises name j i (omega arith) i-in))))
      ]
    ]

-- the names up to one that is too low are too low, and from one that is too high on they are too high
lows : (ns : List (List ℕ)) (name : List ℕ) (m : ℕ) → Rises ns → m < length ns → order (get_or ns m []) name ≡ Less
    → (k : ℕ) → k < m + 1 → order (get_or ns k []) name ≡ Less
lows ns name m up within low k lt =
    elim (cases_eq k m) [
      | inl e ↦ subst (λ n. order (get_or ns n []) name ≡ Less) (sym e) low
      | inr ne ↦ laws.trans (get_or ns k []) (get_or ns m []) name (far ns up [] k m (omega arith) within) low
    ]

turned : (o p : Ordering) → o ≡ ordering_reverse p → p ≡ Greater → o ≡ Less
turned o p e f = e ∙ ap ordering_reverse f

back : (o p : Ordering) → o ≡ ordering_reverse p → p ≡ Less → o ≡ Greater
back o p e f = e ∙ ap ordering_reverse f

highs : (ns : List (List ℕ)) (name : List ℕ) (m : ℕ) → Rises ns → order (get_or ns m []) name ≡ Greater
    → (k : ℕ) → m ≤ k → k < length ns → order (get_or ns k []) name ≡ Greater
highs ns name m up high k le within =
    let before : order name (get_or ns m []) ≡ Less = turned _ (order (get_or ns m []) name) (laws.antisymm name (get_or ns m [])) high in
    elim (cases_eq m k) [
      | inl e ↦ subst (λ n. order (get_or ns n []) name ≡ Greater) e high
      | inr ne ↦ back (order (get_or ns k []) name) (order name (get_or ns k [])) (laws.antisymm (get_or ns k []) name)
          (laws.trans name (get_or ns m []) (get_or ns k []) before (far ns up [] m k (omega arith) within))
    ]

-- where the name can stand: between `low` and `high`
pub record Within (ns : List (List ℕ)) (name : List ℕ) (low high : ℕ) : Type 0 where
  pub range : high ≤ length ns
  pub lower : (k : ℕ) → k < low → order (get_or ns k []) name ≡ Less
  pub upper : (k : ℕ) → high ≤ k → k < length ns → order (get_or ns k []) name ≡ Greater

found_at : (ns : List (List ℕ)) (name : List ℕ) (k : ℕ) → Rises ns → k < length ns → order (get_or ns k []) name ≡ Equal
    → (i : ℕ) → (Some k ≡ Some i) ↔ (slice_get ns i ≡ Some name)
found_at ns name k up within tied i =
    let at_k : slice_get ns k ≡ Some name = slice_get-get_or ns k [] within ∙ ap Some (exact_bytes _ _ tied) in
    ((λ e. let same : k ≡ i = cc in subst (λ n. slice_get ns n ≡ Some name) same at_k), (λ at_i. ap Some (one_place ns up name k i at_k at_i)))

neither : (o : Ordering) → o ≡ Less → o ≡ Equal → ⊥
neither o e f = cc

nor : (o : Ordering) → o ≡ Greater → o ≡ Equal → ⊥
nor o e f = cc

abbrev nowhere_found : Option ℕ
nowhere_found = None

none_found : (ns : List (List ℕ)) (name : List ℕ) (low high : ℕ) → Within ns name low high → high ≤ low → (i : ℕ) → (nowhere_found ≡ Some i) ↔ (slice_get ns i ≡ Some name)
none_found ns name low high in_range empty i = (
  (λ e. absurd cc),
  (λ at_i.
      let i-in = slice_get_within ns i name at_i in
      let tied : order (get_or ns i []) name ≡ Equal = subst (λ n. order n name ≡ Equal) (sym (get_or_from_slice_get ns i name [] at_i)) (tied_itself laws name) in
      elim (cases_lt i low) [
        | inl lt ↦ absurd (neither _ (in_range.lower i lt) tied)
        | inr le ↦ absurd (nor _ (in_range.upper i (omega arith) i-in) tied)
      ]),
)

-- ---- at rows

name_of : Row → List ℕ
name_of row = row.name.now

pub names-entries : (rows : List Row) → names (entries_of rows) ≡ map (λ row. row.name.now) rows
names-entries [] = refl
names-entries (row ∷ rows) = ap (λ ns. row.name.now ∷ ns) (names-entries rows)

-- `name` is read from row `i`
pub name_at : (rows : List Row) (i : ℕ) (row : Row) (d : List ℕ) → i < length rows → get_or (names (entries_of rows)) i d ≡ (get_or rows i row).name.now
name_at rows i row d within = ap (λ ns. get_or ns i d) (names-entries rows) ∙ get_or-map (λ row. row.name.now) rows i row d within

pub length-names : (rows : List Row) → length (names (entries_of rows)) ≡ length rows
length-names rows = ap length (names-entries rows) ∙ length-map rows (λ row. row.name.now)

-- one name more rises
pub rises_more : (ns : List (List ℕ)) (i : ℕ) → 1 ≤ i → ((k : ℕ) (d : List ℕ) → k + 1 < i → Below (get_or ns k d) (get_or ns (k + 1) d))
    → ((d : List ℕ) → Below (get_or ns (i - 1) d) (get_or ns i d)) → (k : ℕ) (d : List ℕ) → k + 1 < i + 1 → Below (get_or ns k d) (get_or ns (k + 1) d)
rises_more ns i low before here k d within =
    elim (cases_lt (k + 1) i) [
      | inl lt ↦ before k d lt
      | inr le ↦
          let this : i - 1 ≡ k = omega arith in
          let next : i ≡ k + 1 = omega arith in
          subst (λ n. Below (get_or ns k d) (get_or ns n d)) next (subst (λ m. Below (get_or ns m d) (get_or ns i d)) this (here d))
    ]

-- names that don't rise at `i`
fails_at : (ns : List (List ℕ)) (i : ℕ) → 1 ≤ i → i < length ns → ((d : List ℕ) → ¬ Below (get_or ns (i - 1) d) (get_or ns i d)) → FailsToRise ns
fails_at ns i low within here =
    let next : i ≡ i - 1 + 1 = omega arith in
    (i - 1, omega arith, λ d. subst (λ n. ¬ Below (get_or ns (i - 1) d) (get_or ns n d)) next (here d))

-- the same at rows, where a read past the end would give this one
abbrev nowhere : Row
nowhere = record { name = record { ref_ptr = (0, 0); now = [] }; code = 0 }

pub rows_rise : (rows : List Row) (i : ℕ) (b : Bool) → 1 ≤ i → i < length rows
    → ((k : ℕ) (d : List ℕ) → k + 1 < i → Below (get_or (names (entries_of rows)) k d) (get_or (names (entries_of rows)) (k + 1) d))
    → b ≡ true → (IsTrue b → Below (get_or rows (i - 1) nowhere).name.now (get_or rows i nowhere).name.now)
    → (k : ℕ) (d : List ℕ) → k + 1 < i + 1 → Below (get_or (names (entries_of rows)) k d) (get_or (names (entries_of rows)) (k + 1) d)
rows_rise rows i b low within before e told =
    rises_more (names (entries_of rows)) i low before (λ d.
    subst (λ n. Below n (get_or (names (entries_of rows)) i d)) (sym (name_at rows (i - 1) nowhere d (omega arith)))
    (subst (λ n. Below (get_or rows (i - 1) nowhere).name.now n) (sym (name_at rows i nowhere d within)) (told e)))

different : (b : Bool) → b ≡ false → b ≡ true → ⊥
different b e f = cc

pub rows_fail : (rows : List Row) (i : ℕ) (b : Bool) → 1 ≤ i → i < length rows → b ≡ false
    → (Below (get_or rows (i - 1) nowhere).name.now (get_or rows i nowhere).name.now → IsTrue b) → FailsToRise (names (entries_of rows))
rows_fail rows i b low within e told =
    fails_at (names (entries_of rows)) i low (omega (arith, length-names rows)) (λ d below. absurd (different b e (told (subst (λ n. Below n (get_or rows i nowhere).name.now) (name_at rows (i - 1) nowhere d (omega arith))
    (subst (λ n. Below (get_or (names (entries_of rows)) (i - 1) d) n) (name_at rows i nowhere d within) below)))))

-- the steps of the search at rows
module _ (rows : List Row) (name : List ℕ) (up : Rises (names (entries_of rows))) (low high m : ℕ) where
  abbrev at_m : Ordering
  at_m = order (get_or rows m nowhere).name.now name

  as_name : (o : Ordering) → m < length rows → at_m ≡ o → order (get_or (names (entries_of rows)) m []) name ≡ o
  as_name o within e = ap (λ n. order n name) (name_at rows m nowhere [] within) ∙ e

  pub goes_up : Within (names (entries_of rows)) name low high → m < high → at_m ≡ Less → Within (names (entries_of rows)) name (m + 1) high
  goes_up known lt e = record {
    range = known.range;
    lower = lows (names (entries_of rows)) name m up (omega (arith, known.range)) (as_name Less (omega (arith, known.range, length-names rows)) e);
    upper = known.upper;
  }

  pub goes_down : Within (names (entries_of rows)) name low high → m < high → at_m ≡ Greater → Within (names (entries_of rows)) name low m
  goes_down known lt e = record {
    range = omega (arith, known.range);
    lower = known.lower;
    upper = highs (names (entries_of rows)) name m up (as_name Greater (omega (arith, known.range, length-names rows)) e);
  }

  pub is_there : Within (names (entries_of rows)) name low high → m < high → at_m ≡ Equal → (i : ℕ) → (Some m ≡ Some i) ↔ (slice_get (names (entries_of rows)) i ≡ Some name)
  is_there known lt e = found_at (names (entries_of rows)) name m up (omega (arith, known.range)) (as_name Equal (omega (arith, known.range, length-names rows)) e)

pub is_nowhere : (ns : List (List ℕ)) (name : List ℕ) (low high : ℕ) → Within ns name low high → high ≤ low → (i : ℕ) → (nowhere_found ≡ Some i) ↔ (slice_get ns i ≡ Some name)
is_nowhere = none_found

pub at_first : (rows : List Row) (name : List ℕ) → Within (names (entries_of rows)) name 0 (length rows)
at_first rows name = record {
  range = omega (arith, length-names rows);
  lower = λ k lt. absurd (omega arith);
  upper = λ k le lt. absurd (omega (arith, length-names rows));
}
