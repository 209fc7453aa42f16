-- What a walk over a pattern notes are the values at which the pattern gives the inputs, where there are such values.
use Rattle.std.proofs.Common.{ℕ, zero, suc, ◌≡◌, ◌<◌, ◌≤◌, ◌+◌, ◌⊎◌, inl, inr, Bool, true, false, ◌||◌, List, [], ◌∷◌, ◌++◌, map, length, take, drop, append-nil, Option, Some, None, refl, ap, sym, ◌∙◌, subst, arith, add-one}
use Rattle.std.specs.Prelude.{slice_get, slice_set, option_map, unwrap_or}
use Rattle.std.proofs.lemmas.Option.{same_Some, none-some}
use Rattle.std.proofs.lemmas.Bool.{eqb-true}
use Rattle.std.proofs.lemmas.List.{map-append, length-map, drop_all, take_all}
use Rattle.tg_model.proofs.SameValue.{decides_equality}
use Rattle.tg_term.proofs.PartLaws.{take_at}
use Rattle.tg_term.proofs.ListHeights.{height_at}
use Rattle.tg_model.specs.Tree as model
use Rattle.tg_model.specs.Tree.{Tree, Trees, bound, free, literal, truth, con, call, put, choice, case, bind, op, trees}
use Rattle.tg_model.specs.Value as sem
use Rattle.tg_model.specs.Value.{Value, Values, number, boolean, made, values, wrong}
use Rattle.tg_model.specs.Filling.{filled_term, fill, stands, stands_among, HaveVariables, IsMatch}
use Rattle.std.specs.Borrow.{Bor}
use Rattle.tg_term.specs.Values.{value}
use Rattle.tg_term.specs.declared.values.Value as declared
use Rattle.tg_term.specs.Matching.{held, unknown, noted, collected, collected_all, all_of}

abbrev Slots : Type 0
Slots = List (Option Value)

-- what is set is so in the list of values
abbrev Fits : Slots → List Value → Type 0
Fits s vs = (n : ℕ) (w : Value) → slice_get s n ≡ Some (Some w) → slice_get vs n ≡ Some w

abbrev IsSet : Slots → ℕ → Type 0
IsSet s n = (w : Value) × (slice_get s n ≡ Some (Some w))

set_length : (s : Slots) (k : ℕ) (x : Option Value) → length (slice_set s k x) ≡ length s
set_length [] k x = refl
set_length (y ∷ s) zero x = refl
set_length (y ∷ s) (suc k) x = ap suc (set_length s k x)

get_set : (s : Slots) (k m : ℕ) (x y : Option Value) → slice_get (slice_set s k x) m ≡ Some y
    → ((m ≡ k) × (k < length s) × (x ≡ y)) ⊎ (slice_get s m ≡ Some y)
get_set [] k m x y e = absurd (none-some y e)
get_set (z ∷ s) zero zero x y e = inl (refl, omega arith, same_Some x y e)
get_set (z ∷ s) zero (suc m) x y e = inr e
get_set (z ∷ s) (suc k) zero x y e = inr e
get_set (z ∷ s) (suc k) (suc m) x y e = elim (get_set s k m x y e) [
  | inl p ↦ inl (ap suc p.0, (let h = p.1 in omega arith), p.2)
  | inr q ↦ inr q
]

set_here : (s : Slots) (k : ℕ) (x : Option Value) → k < length s → slice_get (slice_set s k x) k ≡ Some x
set_here [] k x h = absurd (omega arith)
set_here (y ∷ s) zero x h = refl
set_here (y ∷ s) (suc k) x h = set_here s k x (omega arith)

set_stays : (s : Slots) (k : ℕ) (v : Value) (n : ℕ) → IsSet s n → IsSet (slice_set s k (Some v)) n
set_stays [] k v n (w, e) = (w, e)
set_stays (y ∷ s) zero v zero (w, e) = (v, refl)
set_stays (y ∷ s) zero v (suc n) (w, e) = (w, e)
set_stays (y ∷ s) (suc k) v zero (w, e) = (w, e)
set_stays (y ∷ s) (suc k) v (suc n) (w, e) = set_stays s k v n (w, e)

got : (vs : List Value) (k : ℕ) (v : Value) → k < length vs → unwrap_or (slice_get vs k) wrong ≡ v → slice_get vs k ≡ Some v
got [] k v h e = absurd (omega arith)
got (w ∷ vs) zero v h e = ap Some e
got (w ∷ vs) (suc k) v h e = got vs k v (omega arith) e

noted_length : (s : Slots) (n : ℕ) (v : Value) → length (noted s n v) ≡ length s
noted_length s zero v = refl
noted_length s (suc k) v = set_length s k (Some v)

noted_fits : (vs : List Value) (s : Slots) (n : ℕ) (v : Value) → length s ≡ length vs → filled_term vs (free n) ≡ v → Fits s vs → Fits (noted s n v) vs
noted_fits vs s zero v len e h = h
noted_fits vs s (suc k) v len e h = λ m w g. elim (get_set s k m (Some v) (Some w) g) [
  | inl p ↦ ap (slice_get vs) p.0 ∙ got vs k v (let q = p.1 in omega arith) e ∙ p.2
  | inr q ↦ h m w q
]

made_arguments : (c d : ℕ) (vs ws : Values) → made c vs ≡ made d ws → vs ≡ ws
made_arguments c d vs ws e = cc

module _ (vs : List Value) where
  mutual
    length_kept : (t : Tree) (v : Value) (s : Slots) → length (collected t v s) ≡ length s
    length_kept (bound k) v s = refl
    length_kept (free n) v s = noted_length s n v
    length_kept (literal m) v s = refl
    length_kept (truth b) v s = refl
    length_kept (con c ts) (number m) s = refl
    length_kept (con c ts) (boolean b) s = refl
    length_kept (con c ts) (made d ws) s = all_length_kept ts ws s
    length_kept (call f ts) v s = refl
    length_kept (put ts) v s = refl
    length_kept (choice ts) v s = refl
    length_kept (case d t arms) v s = refl
    length_kept (bind t body) v s = refl
    length_kept (op o ts) v s = refl

    all_length_kept : (ts : Trees) (ws : Values) (s : Slots) → length (collected_all ts ws s) ≡ length s
    all_length_kept model.none ws s = refl
    all_length_kept (model.more t ts) sem.none s = refl
    all_length_kept (model.more t ts) (sem.more w ws) s = all_length_kept ts ws (collected t w s) ∙ length_kept t w s

  mutual
    fits : (t : Tree) (v : Value) (s : Slots) → length s ≡ length vs → filled_term vs t ≡ v → Fits s vs → Fits (collected t v s) vs
    fits (bound k) v s len e h = h
    fits (free n) v s len e h = noted_fits vs s n v len e h
    fits (literal m) v s len e h = h
    fits (truth b) v s len e h = h
    fits (con c ts) (number m) s len e h = h
    fits (con c ts) (boolean b) s len e h = h
    fits (con c ts) (made d ws) s len e h = all_fit ts ws s len (made_arguments c d _ ws e) h
    fits (call f ts) v s len e h = h
    fits (put ts) v s len e h = h
    fits (choice ts) v s len e h = h
    fits (case d t arms) v s len e h = h
    fits (bind t body) v s len e h = h
    fits (op o ts) v s len e h = h

    all_fit : (ts : Trees) (ws : Values) (s : Slots) → length s ≡ length vs → values (fill vs ts) ≡ ws → Fits s vs → Fits (collected_all ts ws s) vs
    all_fit model.none ws s len e h = h
    all_fit (model.more t ts) sem.none s len e h = h
    all_fit (model.more t ts) (sem.more w ws) s len e h =
        let first : filled_term vs t ≡ w = cc in let rest : values (fill vs ts) ≡ ws = cc in
        all_fit ts ws (collected t w s) (length_kept t w s ∙ len) rest (fits t w s len first h)

  mutual
    stays : (t : Tree) (v : Value) (s : Slots) (n : ℕ) → IsSet s n → IsSet (collected t v s) n
    stays (bound k) v s n h = h
    stays (free zero) v s n h = h
    stays (free (suc k)) v s n h = set_stays s k v n h
    stays (literal m) v s n h = h
    stays (truth b) v s n h = h
    stays (con c ts) (number m) s n h = h
    stays (con c ts) (boolean b) s n h = h
    stays (con c ts) (made d ws) s n h = all_stay ts ws s n h
    stays (call f ts) v s n h = h
    stays (put ts) v s n h = h
    stays (choice ts) v s n h = h
    stays (case d t arms) v s n h = h
    stays (bind t body) v s n h = h
    stays (op o ts) v s n h = h

    all_stay : (ts : Trees) (ws : Values) (s : Slots) (n : ℕ) → IsSet s n → IsSet (collected_all ts ws s) n
    all_stay model.none ws s n h = h
    all_stay (model.more t ts) sem.none s n h = h
    all_stay (model.more t ts) (sem.more w ws) s n h = all_stay ts ws (collected t w s) n (stays t w s n h)

  -- a value that the pattern gives is noted
  set_by : (s : Slots) (m n : ℕ) (v : Value) → m ≡ suc n → n < length s → IsSet (noted s m v) n
  set_by s m n v e h = subst (λ (k : ℕ). IsSet (noted s k v) n) (sym e) (v, set_here s n (Some v) h)

  first_or : (a b : Bool) → (a || b) ≡ true → (a ≡ true) ⊎ (b ≡ true)
  first_or true b e = inl refl
  first_or false b e = inr e

  mutual
    found : (t : Tree) (v : Value) (s : Slots) (n : ℕ) → n < length s → filled_term vs t ≡ v → stands (suc n) t ≡ true → IsSet (collected t v s) n
    found (free m) v s n low e u = set_by s m n v (eqb-true m (suc n) u) low
    found (con c ts) (number m) s n low e u = absurd cc
    found (con c ts) (boolean b) s n low e u = absurd cc
    found (con c ts) (made d ws) s n low e u = all_found ts ws s n low (made_arguments c d _ ws e) u
    found t v s n low e u = absurd cc

    all_found : (ts : Trees) (ws : Values) (s : Slots) (n : ℕ) → n < length s → values (fill vs ts) ≡ ws → stands_among (suc n) ts ≡ true
        → IsSet (collected_all ts ws s) n
    all_found model.none ws s n low e u = absurd cc
    all_found (model.more t ts) sem.none s n low e u = absurd cc
    all_found (model.more t ts) (sem.more w ws) s n low e u =
        let first : filled_term vs t ≡ w = cc in let rest : values (fill vs ts) ≡ ws = cc in
        elim (first_or (stands (suc n) t) (stands_among (suc n) ts) u) [
          | inl here ↦ all_stay ts ws (collected t w s) n (found t w s n low first here)
          | inr later ↦ all_found ts ws (collected t w s) n (let k = length_kept t w s in omega arith) rest later
        ]

-- where all is set, it is the one list that fits
all_set : (s : Slots) (vs : List Value) → length s ≡ length vs → Fits s vs → ((n : ℕ) → n < length s → IsSet s n) → all_of s ≡ Some vs
all_set [] [] len h k = refl
all_set [] (v ∷ vs) len h k = absurd (omega arith)
all_set (x ∷ s) [] len h k = absurd (omega arith)
all_set (None ∷ s) (v ∷ vs) len h k = let p = k 0 (omega arith) in absurd (none-some p.0 (same_Some _ _ p.1))
all_set (Some w ∷ s) (v ∷ vs) len h k =
    let rest : all_of s ≡ Some vs = all_set s vs (omega arith) (λ n u e. h (suc n) u e) (λ n low. k (suc n) (omega arith)) in
    let here : w ≡ v = sym (same_Some v w (h 0 w refl)) in
    ap (option_map (λ us. w ∷ us)) rest ∙ ap (λ u. Some (u ∷ vs)) here

all_length : (s : Slots) (vs : List Value) → all_of s ≡ Some vs → length vs ≡ length s
all_length [] vs e = ap length (sym (same_Some [] vs e))
all_length (None ∷ s) vs e = absurd (none-some vs e)
all_length (Some w ∷ s) vs e = go (all_of s) (all_length s) e where
  go : (o : Option (List Value)) → ((us : List Value) → o ≡ Some us → length us ≡ length s) → option_map (λ us. w ∷ us) o ≡ Some vs → length vs ≡ suc (length s)
  go None h e' = absurd (none-some vs e')
  go (Some us) h e' = ap length (sym (same_Some (w ∷ us) vs e')) ∙ ap suc (h us refl)

unknown_length : (n : ℕ) → length (unknown n) ≡ n
unknown_length zero = refl
unknown_length (suc n) = ap suc (unknown_length n)

unknown_fits : (n : ℕ) (vs : List Value) → Fits (unknown n) vs
unknown_fits zero vs k w e = absurd (none-some _ e)
unknown_fits (suc n) vs zero w e = absurd (none-some w (same_Some _ _ e))
unknown_fits (suc n) [] (suc k) w e = unknown_fits n [] k w e
unknown_fits (suc n) (v ∷ vs) (suc k) w e = unknown_fits n vs k w e

module _ (n : ℕ) (ts : Trees) (inputs : List Value) (each : HaveVariables n ts) where
  abbrev noticed : Slots
  noticed = collected_all ts (values inputs) (unknown n)

  only_one : (vs : List Value) → length vs ≡ n → fill vs ts ≡ inputs → all_of noticed ≡ Some vs
  only_one vs len e =
      let as_many : length (unknown n) ≡ length vs = unknown_length n ∙ sym len in
      let given : values (fill vs ts) ≡ values inputs = ap values e in
      let count : length noticed ≡ length (unknown n) = all_length_kept vs ts (values inputs) (unknown n) in
      all_set noticed vs (count ∙ as_many) (all_fit vs ts (values inputs) (unknown n) as_many given (unknown_fits n vs))
      (λ k low. let m = unknown_length n in all_found vs ts (values inputs) (unknown n) k (omega arith) given (each (suc k) (omega arith) (omega arith)))

  pub no_match : all_of noticed ≡ None → IsMatch n ts inputs None
  no_match e = λ vs len f. none-some vs (sym e ∙ only_one vs len f)

  pub no_fill : (ws : List Value) → all_of noticed ≡ Some ws → ¬ (fill ws ts ≡ inputs) → IsMatch n ts inputs None
  no_fill ws e other = λ vs len f. let same : ws ≡ vs = same_Some ws vs (sym e ∙ only_one vs len f) in other (ap (λ us. fill us ts) same ∙ f)

  pub match : (ws : List Value) → all_of noticed ≡ Some ws → fill ws ts ≡ inputs → IsMatch n ts inputs (Some ws)
  match ws e f = (
    all_length noticed ws e ∙ all_length_kept ws ts (values inputs) (unknown n) ∙ unknown_length n,
    f,
    λ vs len g. same_Some vs ws (sym (only_one vs len g) ∙ e),
  )

pub unknown_more : (n : ℕ) → unknown n ++ None ∷ [] ≡ unknown (n + 1)
unknown_more n = go n ∙ ap unknown (sym (add-one n)) where
  go : (k : ℕ) → unknown k ++ None ∷ [] ≡ unknown (suc k)
  go zero = refl
  go (suc k) = ap (λ s. None ∷ s) (go k)

-- what is noted of a variable, as the program notes it
pub noted_past : (s : Slots) (n : ℕ) (v : Value) → length s < n → noted s n v ≡ s
noted_past s zero v h = absurd (omega arith)
noted_past s (suc k) v h = go s k (omega arith) where
  go : (s : Slots) (k : ℕ) → length s ≤ k → slice_set s k (Some v) ≡ s
  go [] k h = refl
  go (x ∷ s) zero h = absurd (omega arith)
  go (x ∷ s) (suc k) h = ap (λ l. x ∷ l) (go s k (omega arith))

pub held_set : (s : List (Option (Bor declared.Value))) (k : ℕ) (b : Bor declared.Value) → map held (slice_set s k (Some b)) ≡ slice_set (map held s) k (Some (value b.now))
held_set [] k b = refl
held_set (x ∷ s) zero b = refl
held_set (x ∷ s) (suc k) b = ap (λ l. held x ∷ l) (held_set s k b)

-- the values that were found so far
all_end : (s : Slots) (v : Value) → all_of (s ++ Some v ∷ []) ≡ option_map (λ vs. vs ++ v ∷ []) (all_of s)
all_end [] v = refl
all_end (None ∷ s) v = refl
all_end (Some w ∷ s) v = ap (option_map (λ vs. w ∷ vs)) (all_end s v) ∙ go (all_of s) where
  go : (o : Option (List Value)) → option_map (λ vs. w ∷ vs) (option_map (λ vs. vs ++ v ∷ []) o) ≡ option_map (λ vs. vs ++ v ∷ []) (option_map (λ vs. w ∷ vs) o)
  go None = refl
  go (Some vs) = refl

pub taken_more : (s : List (Option (Bor declared.Value))) (i : ℕ) (b : Bor declared.Value) (us ws : List declared.Value) (w : declared.Value)
    → slice_get s i ≡ Some (Some b) → ws ≡ us ++ w ∷ [] → w ≡ b.now → Some (map value us) ≡ all_of (map held (take i s))
    → Some (map value ws) ≡ all_of (map held (take (i + 1) s))
taken_more s i b us ws w e f g h =
    ap (λ l. Some (map value l)) f ∙ ap Some (map-append value us (w ∷ [])) ∙ ap (λ x. Some (map value us ++ value x ∷ [])) g
    ∙ ap (option_map (λ vs. vs ++ value b.now ∷ [])) h
    ∙ sym (ap (λ l. all_of (map held l)) (ap (λ n. take n s) (add-one i) ∙ take_at s i (Some b) e) ∙ ap all_of (map-append held (take i s) (Some b ∷ []))
    ∙ all_end (map held (take i s)) (value b.now))

pub none_taken : (s : List (Option (Bor declared.Value))) (i : ℕ) → slice_get s i ≡ Some None → None ≡ all_of (map held s)
none_taken [] i e = absurd (none-some _ e)
none_taken (x ∷ s) zero e = ap (λ o. all_of (held o ∷ map held s)) (sym (same_Some x None e))
none_taken (None ∷ s) (suc i) e = refl
none_taken (Some b ∷ s) (suc i) e = ap (option_map (λ vs. value b.now ∷ vs)) (none_taken s i e)

pub ruleset collecting = (held_set, noted_past, height_at)

-- what the program notes, from how it holds it
pub noticed_is : (terms terms' : List Tree) (ins : Values) (n m len : ℕ) (old items new r : List (Option (Bor declared.Value))) → terms' ≡ terms
    → map held new ≡ collected_all (trees terms') ins (map held old) → old ≡ items → map held items ≡ unknown m → m ≡ n → length old ≡ len
    → r ≡ take len (new ++ drop (length new) items) → all_of (map held r) ≡ all_of (collected_all (trees terms) ins (unknown n))
noticed_is terms terms' ins n m len old items new r a b c d e f g =
    let as_many : length new ≡ length old =
    sym (length-map new held) ∙ ap length b ∙ all_length_kept [] (trees terms') ins (map held old) ∙ length-map old held in
    let none : drop (length new) items ≡ [] = drop_all (length new) items (let k = ap length c in omega arith) in
    let same : r ≡ new = g ∙ ap (λ l. take len (new ++ l)) none ∙ ap (take len) (append-nil new) ∙ take_all len new (omega arith) in
    ap (λ l. all_of (map held l)) same ∙ ap all_of (b ∙ (λ i. collected_all (trees (a i)) ins (map held (c i))) ∙ ap (collected_all (trees terms) ins) (d ∙ ap unknown e))

elements_values : (vs : List Value) → sem.elements (values vs) ≡ vs
elements_values [] = refl
elements_values (v ∷ vs) = ap (λ l. v ∷ l) (elements_values vs)

pub equal_values : (vs ws : List Value) → sem.same_values (values vs) (values ws) ≡ true → vs ≡ ws
equal_values vs ws e =
    sym (elements_values vs) ∙ ap sem.elements (made_arguments 0 0 (values vs) (values ws) ((decides_equality (made 0 (values vs)) (made 0 (values ws))).0 e))
    ∙ elements_values ws

pub other_values : (vs ws : List Value) → sem.same_values (values vs) (values ws) ≡ false → ¬ (vs ≡ ws)
other_values vs ws e same =
    let yes : sem.same_values (values vs) (values ws) ≡ true = (decides_equality (made 0 (values vs)) (made 0 (values ws))).1 (ap (λ l. made 0 (values l)) same) in
    let clash : false ≡ true = sym e ∙ yes in cc
