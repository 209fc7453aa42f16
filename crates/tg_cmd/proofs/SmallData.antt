-- The numbers of data are small, for the settings of a command.
use Rattle.std.proofs.Common.{ℕ, zero, suc, ◌≡◌, ◌+◌, ◌<◌, ◌≤◌, ◌^◌, ◌%◌, Bool, true, false, cond, nat_eq, nat_le, List, [], ◌∷◌, map, length, Option, Some, None, refl, sym, ap, subst, arith, All}
use Rattle.std.specs.List.{find, flat_map, range_with_len}
use Rattle.std.specs.Prelude.{slice_get, unwrap_or}
use Rattle.std.proofs.lemmas.List.Elements.{All-cons, All-nil, All-map, All-weaker, All-head, All-tail, All-append, All-filter}
use Rattle.std.proofs.Math.Nat.{pow-le-pow_right}
use Rattle.std.proofs.lemmas.Nat.{mod_below}
use Rattle.tg_model.specs.Theory.{Theory}
use Rattle.tg_model.specs.Denotation.{place_of}
use Rattle.tg_model.specs.Tree.{Tree}
use Rattle.tg_model.specs.Types.{Ty}
use Rattle.tg_model.specs.Value.{Value, number, boolean, made}
use Rattle.rand_pcg.specs.Lcg.{Lcg}
use Rattle.tg_eval.specs.Reading.{IsSimple, leaf_of}
use Rattle.tg_hyps.specs.Written.{term_of}
use Rattle.tg_solver.specs.Numbers.{as_values, last_number, reaching, greatest, assignments, in_order, most_number}
use Rattle.tg_solver.specs.Draws.{draw, after_draw, draws_from, draws, word, after_word, generator}
use Rattle.tg_solver.specs.Candidates.{candidates, satisfies, truths_of, first_candidate}
use Rattle.tg_types.specs.declared.options.Settings.{Settings}
use Rattle.tg_cmd.specs.declared.options.Chosen.{Chosen}
use Rattle.tg_cmd.specs.declared.options.Setting.TheVariants.{Depth, Bound, Seed, Tries, Width}
use Rattle.tg_cmd.specs.Options.{Choice, IsChoice, chosen, all_chosen, nothing_chosen, ReadsOptions}

-- ---- the settings of a command

pub record AreInRange (s : Settings) : Type 0 where
  pub depth : 1 ≤ s.depth
  pub bound : s.bound ≤ 20000
  pub width : s.width ≤ 32

abbrev AtLeast : ℕ → Option ℕ → Type 0
AtLeast k None = Unit {0}
AtLeast k (Some n) = k ≤ n

abbrev AtMost : ℕ → Option ℕ → Type 0
AtMost k None = Unit {0}
AtMost k (Some n) = n ≤ k

record IsKept (c : Chosen) : Type 0 where
  depth : AtLeast 1 c.depth
  bound : AtMost 20000 c.bound
  width : AtMost 32 c.width

one_kept : (c : Chosen) (x : Choice) → IsChoice x → IsKept c → IsKept (chosen c x.0 x.1)
one_kept c (Depth, n) h k = record { depth = h.0; bound = k.bound; width = k.width }
one_kept c (Bound, n) h k = record { depth = k.depth; bound = h.1; width = k.width }
one_kept c (Seed, n) h k = record { depth = k.depth; bound = k.bound; width = k.width }
one_kept c (Tries, n) h k = record { depth = k.depth; bound = k.bound; width = k.width }
one_kept c (Width, n) h k = record { depth = k.depth; bound = k.bound; width = h.1 }

all_kept : (xs : List Choice) (c : Chosen) → All IsChoice xs → IsKept c → IsKept (all_chosen c xs)
all_kept [] c h k = k
all_kept (x ∷ xs) c h k = all_kept xs (chosen c x.0 x.1) (All-tail IsChoice x xs h) (one_kept c x (All-head IsChoice x xs h) k)

or_least : (k d : ℕ) (o : Option ℕ) → k ≤ d → AtLeast k o → k ≤ unwrap_or o d
or_least k d None e h = e
or_least k d (Some n) e h = h

or_most : (k d : ℕ) (o : Option ℕ) → d ≤ k → AtMost k o → unwrap_or o d ≤ k
or_most k d None e h = e
or_most k d (Some n) e h = h

pub settings_in_range : (words : List (List ℕ)) (s : Settings) → ReadsOptions words s → AreInRange s
settings_in_range words s (choices, allowed, once, e, f) =
    let c = all_chosen nothing_chosen choices in
    let k = all_kept choices nothing_chosen allowed (record { depth = tt; bound = tt; width = tt }) in
    subst AreInRange (sym f) (record {
      depth = or_least 1 3 c.depth (omega arith) k.depth;
      bound = or_most 20000 8 c.bound (omega arith) k.bound;
      width = or_most 32 16 c.width (omega arith) k.width;
    })

-- ---- candidates

abbrev pub AreSimpleValues : List Value → Type 0
AreSimpleValues [] = Unit {0}
AreSimpleValues (v ∷ vs) = IsSimple v × AreSimpleValues vs

abbrev AreLow : ℕ → List ℕ → Type 0
AreLow b [] = Unit {0}
AreLow b (n ∷ ns) = (n ≤ b) × AreLow b ns

all_of : {X Y : Type 0} (Q : X → Type 0) (P : Y → Type 0) (f : X → List Y) → ((x : X) → Q x → All P (f x)) → (xs : List X) → All Q xs → All P (flat_map f xs)
all_of Q P f h [] a = All-nil P
all_of Q P f h (x ∷ xs) a = All-append P (f x) (flat_map f xs) (h x (All-head Q x xs a)) (all_of Q P f h xs (All-tail Q x xs a))

range_low : (a n b : ℕ) → a + n ≤ b + 1 → All (λ k. k ≤ b) (range_with_len a n)
range_low a zero b h = All-nil (λ k. k ≤ b)
range_low a (suc n) b h = All-cons (λ k. k ≤ b) a (range_with_len (a + 1) n) (omega (arith, h)) (range_low (a + 1) n b (omega (arith, h)))

last_low : (g : ℕ) (truth : Bool) → 0 + (last_number g truth + 1) ≤ g + 1 + 1
last_low g true = omega arith
last_low g false = omega arith

assignments_low : (g : ℕ) (truths : List Bool) → All (AreLow (g + 1)) (assignments g truths)
assignments_low g [] = All-cons (AreLow (g + 1)) [] [] tt (All-nil (AreLow (g + 1)))
assignments_low g (t ∷ truths) =
    all_of (λ n. n ≤ g + 1) (AreLow (g + 1)) (λ n. map (λ ns. n ∷ ns) (assignments g truths))
    (λ n low. All-map (AreLow (g + 1)) (λ ns. n ∷ ns) (assignments g truths)
    (All-weaker (AreLow (g + 1)) (λ ns. AreLow (g + 1) (n ∷ ns)) (λ ns h. (low, h)) (assignments g truths) (assignments_low g truths)))
    (range_with_len 0 (last_number g t + 1)) (range_low 0 (last_number g t + 1) (g + 1) (last_low g t))

values_simple : (truths : List Bool) (ns : List ℕ) (b : ℕ) → b < 18446744073709551616 → AreLow b ns → AreSimpleValues (as_values truths ns)
values_simple [] ns b low h = tt
values_simple (t ∷ truths) [] b low h = tt
values_simple (true ∷ truths) (n ∷ ns) b low h = (tt, values_simple truths ns b low h.1)
values_simple (false ∷ truths) (n ∷ ns) b low h = (omega (arith, low, h.0), values_simple truths ns b low h.1)

order_simple : (m : ℕ) (truths : List Bool) → m ≤ 20000 → All AreSimpleValues (in_order m truths)
order_simple m truths low =
    all_of (λ g. g ≤ m) AreSimpleValues (λ g. map (as_values truths) (reaching g truths))
    (λ g small. All-map AreSimpleValues (as_values truths) (reaching g truths)
    (All-filter (λ ns. nat_eq (greatest ns) g) (λ ns. AreSimpleValues (as_values truths ns)) (assignments g truths)
    (All-weaker (AreLow (g + 1)) (λ ns. AreSimpleValues (as_values truths ns)) (λ ns h. values_simple truths ns (g + 1) (omega (arith, low, small)) h)
    (assignments g truths) (assignments_low g truths)))) (range_with_len 0 (m + 1)) (range_low 0 (m + 1) m (omega arith))

below_power : (width w : ℕ) → width ≤ 32 → w % 2 ^ width < 18446744073709551616
below_power width w low =
    let big : 2 ^ width ≤ 2 ^ 32 = pow-le-pow_right (let one : 1 ≤ 2 = omega arith in one) low in
    let one : 1 ≤ 2 = omega arith in
    let none : 0 ≤ width = omega arith in
    let some : 2 ^ 0 ≤ 2 ^ width = pow-le-pow_right one none in
    let below : w % 2 ^ width < 2 ^ width = mod_below w (2 ^ width) (omega (arith, some)) in
    omega (arith, big, below)

draw_simple : (width : ℕ) → width ≤ 32 → (truths : List Bool) (g : Lcg) → AreSimpleValues (draw width truths g)
draw_simple width low [] g = tt
draw_simple width low (true ∷ truths) g = (tt, draw_simple width low truths (after_word g))
draw_simple width low (false ∷ truths) g = (below_power width (word g) low, draw_simple width low truths (after_word g))

draws_simple : (tries width : ℕ) → width ≤ 32 → (truths : List Bool) (g : Lcg) → All AreSimpleValues (draws_from tries width truths g)
draws_simple zero width low truths g = All-nil AreSimpleValues
draws_simple (suc tries) width low truths g =
    All-cons AreSimpleValues (draw width truths g) (draws_from tries width truths (after_draw truths g)) (draw_simple width low truths g)
    (draws_simple tries width low truths (after_draw truths g))

all_draws_simple : (tries width : ℕ) → width ≤ 32 → (truths : List Bool) (g : Lcg) → All AreSimpleValues (draws tries width truths g)
all_draws_simple tries width low [] g = All-nil AreSimpleValues
all_draws_simple tries width low (t ∷ truths) g = draws_simple tries width low (t ∷ truths) g

most_low : (count bound : ℕ) → most_number count bound ≤ bound
most_low count zero = omega arith
most_low count (suc bound) = by (nat_le ((suc bound + 1) ^ count) 20000) (most_low count bound)
  where
    by : (b : Bool) → most_number count bound ≤ bound → cond b (suc bound) (most_number count bound) ≤ suc bound
    by true h = omega arith
    by false h = omega (arith, h)

found_is : {X : Type 0} (p : X → Bool) (P : X → Type 0) (xs : List X) (x : X) → All P xs → find p xs ≡ Some x → P x
found_is p P [] x all e = absurd cc
found_is p P (y ∷ ys) x all e = by (p y) e (found_is p P ys x (All-tail P y ys all))
  where
    by : (b : Bool) → cond b (Some y) (find p ys) ≡ Some x → (find p ys ≡ Some x → P x) → P x
    by true e rest = let same : y ≡ x = cc in subst P same (All-head P y ys all)
    by false e rest = rest e

pub data_simple : (th : Theory) (ts : List Ty) (constraints : List Tree) (s : Settings) (index : ℕ) (vs : List Value) → AreInRange s
    → first_candidate th ts constraints s index ≡ Some vs → AreSimpleValues vs
data_simple th ts constraints s index vs range e =
    let most = most_number (length (truths_of ts)) s.bound in
    let bound = most_low (length (truths_of ts)) s.bound in
    let in_range = range.bound in
    found_is (satisfies th constraints) AreSimpleValues (candidates (truths_of ts) s index) vs
    (All-append AreSimpleValues (in_order most (truths_of ts)) (draws s.tries s.width (truths_of ts) (generator s.seed index))
    (order_simple most (truths_of ts) (omega (arith, bound, in_range)))
    (all_draws_simple s.tries s.width range.width (truths_of ts) (generator s.seed index))) e

-- ---- in the place of variables

got_simple : (vs : List Value) → AreSimpleValues vs → (i : ℕ) → IsSimple (unwrap_or (slice_get vs i) (boolean false))
got_simple [] h i = tt
got_simple (v ∷ vs) h zero = h.0
got_simple (v ∷ vs) h (suc i) = got_simple vs h.1 i

pub place_simple : (vs : List Value) → AreSimpleValues vs → (m : ℕ) → IsSimple (place_of vs m)
place_simple vs h zero = tt
place_simple vs h (suc m) = got_simple vs h m

pub leaves_are : (vs : List Value) → AreSimpleValues vs → map leaf_of vs ≡ map term_of vs
leaves_are [] h = refl
leaves_are (number n ∷ vs) h = ap (λ ts. term_of (number n) ∷ ts) (leaves_are vs h.1)
leaves_are (boolean b ∷ vs) h = ap (λ ts. term_of (boolean b) ∷ ts) (leaves_are vs h.1)
leaves_are (made c us ∷ vs) h = absurd h.0
