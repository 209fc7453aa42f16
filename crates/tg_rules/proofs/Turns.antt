-- The turns are enough: more of them change nothing, and they don't run out. So a part is read as its rule says.
use Rattle.std.proofs.Common.{◌≡◌, ◌⊎◌, ℕ, zero, suc, ◌+◌, ◌*◌, ◌<◌, ◌≤◌, Bool, true, false, not, ◌||◌, nat_lt, Some, None, List, [], ◌∷◌, ◌++◌, length, inl, inr, refl, sym, ap, ◌∙◌, if◌then◌else◌, arith, length-append}
use Rattle.std.proofs.lemmas.Bool.{and_parts, and_from, or_right, or_cases, not-true, ltb-true}
use Rattle.tg_rules.specs.Rule.{Rule, tok, nt, seq, alt, opt, act, has}
use Rattle.tg_rules.specs.Texts.{Is, Reads}
use Rattle.tg_rules.specs.Foresight.{Foresight, rank_limit, empty_of, first_of, agrees, below}
use Rattle.tg_rules.specs.Reader.{Read, ok, err, out, mapped, followed, turns, starts, token_at, read_in, read_within, read}
use Rattle.tg_rules.proofs.NextToken.{clash}
use Rattle.tg_rules.proofs.Firsts.{IsForeseen, empty_text, foreseen}
use Rattle.tg_rules.proofs.Sound.{sound, sound_within, ok_or_out, err_or_out}

module _ {T : Type 0} where
  -- two readings of one text agree, and are no giving up
  abbrev pub Agree : {A : Type 0} → Read T A → Read T A → Type 0
  Agree x y = (x ≡ y) × (x ≡ out → ⊥)

  mapped_agree : {A B : Type 0} (make : A → B) (x y : Read T A) → Agree x y → Agree (mapped make x) (mapped make y)
  mapped_agree make (ok a r) y (e, goes) = (ap (mapped make) e, λ o. ok_or_out (ok (make a) r) (make a) r refl o)
  mapped_agree make (err r) y (e, goes) = (ap (mapped make) e, λ o. err_or_out (mapped make (err r)) r refl o)
  mapped_agree make out y (e, goes) = absurd (goes refl)

  followed_agree : {A B : Type 0} (x y : Read T A) (next next' : List T → Read T B) → Agree x y
      → ((a : A) (rest : List T) → x ≡ ok a rest → Agree (next rest) (next' rest)) → Agree (followed x next) (followed y next')
  followed_agree {A} {B} (ok a r) y next next' (e, goes) later =
      let last = mapped_agree {B = A × B} (λ b. (a, b)) (next r) (next' r) (later a r refl) in
      (last.0 ∙ ap (λ z. followed z next') e, last.1)
  followed_agree (err r) y next next' (e, goes) later = (ap (λ z. followed z next') e, λ o. err_or_out (followed (err r) next) r refl o)
  followed_agree out y next next' (e, goes) later = absurd (goes refl)

  chosen_agree : {A : Type 0} (b : Bool) (x x' y y' : Read T A) → Agree x x' → Agree y y' → Agree (if b then x else y) (if b then x' else y')
  chosen_agree true x x' y y' p q = p
  chosen_agree false x x' y y' p q = q

  token_agrees : (kind : T → ℕ) (ks : List ℕ) (ts : List T) → Agree (token_at kind ks ts) (token_at kind ks ts)
  token_agrees kind ks [] = (refl, λ o. err_or_out (token_at kind ks []) [] refl o)
  token_agrees kind ks (t ∷ ts) =
      chosen_agree (has ks (kind t)) (ok t ts) (ok t ts) (err (t ∷ ts)) (err (t ∷ ts)) (refl, λ o. ok_or_out (ok t ts) t ts refl o)
      (refl, λ (o : err (t ∷ ts) ≡ out). err_or_out {A = T} (err (t ∷ ts)) (t ∷ ts) refl o)

-- on texts of at most `size` tokens, where the parts at the front have ranks below `r`
module _ {T : Type 0} (kind : T → ℕ) {N : Type 0} {Value : N → Type 0} (f : Foresight N) (R : (n : N) → Value n → List T → Type 0) (seen : IsForeseen kind f R)
    (call call' : (n : N) → List T → Read T (Value n))
    (sound_call : (n : N) (ts : List T) (v : Value n) (rest : List T) → call n ts ≡ ok v rest → (p : List T) × R n v p × (ts ≡ p ++ rest)) where
  abbrev pub AgreeBelow : ℕ → ℕ → Type 0
  AgreeBelow size r = (n : N) (ts : List T) → (length ts < size) ⊎ ((length ts ≤ size) × (f.rank n < r)) → Agree (call n ts) (call' n ts)

  -- what is left is no longer, and shorter where a token must have been read
  left_is_less : {A : Type 0} (g : Rule T N Value A) (ts rest : List T) (a : A) → read_in kind f call g ts ≡ ok a rest → length rest ≤ length ts
  left_is_less g ts rest a e =
      let (p, h, same) = sound kind f R call sound_call g ts a rest e in
      let n : length ts ≡ length p + length rest = ap length same ∙ length-append p rest in
      omega (arith, n)

  not_nil : {A : Type 0} (g : Rule T N Value A) (a : A) (p : List T) → Is kind R g a p → empty_of f g ≡ false → 1 ≤ length p
  not_nil g a [] h full = absurd (clash (empty_of f g) (empty_text kind f R seen g a h) full)
  not_nil g a (t ∷ p) h full = omega arith

  left_is_shorter : {A : Type 0} (g : Rule T N Value A) (ts rest : List T) (a : A) → read_in kind f call g ts ≡ ok a rest → empty_of f g ≡ false → length rest < length ts
  left_is_shorter g ts rest a e full =
      let (p, h, same) = sound kind f R call sound_call g ts a rest e in
      let n : length ts ≡ length p + length rest = ap length same ∙ length-append p rest in
      let m = not_nil g a p h full in
      omega (arith, n, m)

  -- shorter texts, where any rank may stand in front
  any_rank : (size r : ℕ) → AgreeBelow size r → (small : ℕ) → small < size → (s : ℕ) → AgreeBelow small s
  any_rank size r h small less s n ts (inl a) = h n ts (inl (omega (arith, a, less)))
  any_rank size r h small less s n ts (inr b) = h n ts (inl (omega (arith, b.0, less)))

  no_more : (size r : ℕ) → AgreeBelow size r → (small : ℕ) → small ≤ size → AgreeBelow small r
  no_more size r h small less n ts (inl a) = h n ts (inl (omega (arith, a, less)))
  no_more size r h small less n ts (inr b) = h n ts (inr (omega (arith, b.0, less), b.1))

module _ {T : Type 0} (kind : T → ℕ) {N : Type 0} {Value : N → Type 0} (f : Foresight N) (R : (n : N) → Value n → List T → Type 0) (seen : IsForeseen kind f R)
    (call call' : (n : N) → List T → Read T (Value n))
    (sound_call : (n : N) (ts : List T) (v : Value n) (rest : List T) → call n ts ≡ ok v rest → (p : List T) × R n v p × (ts ≡ p ++ rest))
    (ranks : (n : N) → nat_lt (f.rank n) rank_limit ≡ true) where
  below_limit : {A : Type 0} (g : Rule T N Value A) → below f rank_limit g ≡ true
  below_limit (tok k ks) = refl
  below_limit (nt n) = ranks n
  below_limit (seq g h) = and_from (below f rank_limit g) (not (empty_of f g) || below f rank_limit h) (below_limit g) (or_right (not (empty_of f g)) (below f rank_limit h) (below_limit h))
  below_limit (alt g h) = and_from (below f rank_limit g) (below f rank_limit h) (below_limit g) (below_limit h)
  below_limit (opt g) = below_limit g
  below_limit (act make g) = below_limit g

  pub read_agrees : {A : Type 0} (g : Rule T N Value A) (size r : ℕ) → below f r g ≡ true → AgreeBelow kind f R seen call call' sound_call size r
      → (ts : List T) → length ts ≤ size → Agree (read_in kind f call g ts) (read_in kind f call' g ts)
  read_agrees (tok k ks) size r low same ts fit = token_agrees kind (k ∷ ks) ts
  read_agrees (nt n) size r low same ts fit = same n ts (inr (fit, ltb-true (f.rank n) r low))
  read_agrees (seq g h) size r low same ts fit =
      let (low1, low2) = and_parts (below f r g) (not (empty_of f g) || below f r h) low in
      followed_agree (read_in kind f call g ts) (read_in kind f call' g ts) (read_in kind f call h) (read_in kind f call' h) (read_agrees g size r low1 same ts fit)
      (λ a rest e. elim (or_cases (not (empty_of f g)) (below f r h) low2) [
        | inl full ↦
            let less = left_is_shorter kind f R seen call call' sound_call g ts rest a e (not-true (empty_of f g) full) in
            read_agrees h (length rest) rank_limit (below_limit h) (any_rank kind f R seen call call' sound_call size r same (length rest) (omega (arith, less, fit)) rank_limit) rest (omega arith)
        | inr low3 ↦
            let less = left_is_less kind f R seen call call' sound_call g ts rest a e in
            read_agrees h (length rest) r low3 (no_more kind f R seen call call' sound_call size r same (length rest) (omega (arith, less, fit))) rest (omega arith)
      ])
  read_agrees (alt g h) size r low same ts fit =
      let (low1, low2) = and_parts (below f r g) (below f r h) low in
      chosen_agree (starts kind (first_of f g) ts) (read_in kind f call g ts) (read_in kind f call' g ts) (read_in kind f call h ts) (read_in kind f call' h ts)
      (read_agrees g size r low1 same ts fit) (read_agrees h size r low2 same ts fit)
  read_agrees (opt g) size r low same ts fit =
      chosen_agree (starts kind (first_of f g) ts) (mapped Some (read_in kind f call g ts)) (mapped Some (read_in kind f call' g ts)) (ok None ts) (ok None ts)
      (mapped_agree Some (read_in kind f call g ts) (read_in kind f call' g ts) (read_agrees g size r low same ts fit)) (refl, λ o. ok_or_out (ok None ts) None ts refl o)
  read_agrees (act make g) size r low same ts fit = mapped_agree make (read_in kind f call g ts) (read_in kind f call' g ts) (read_agrees g size r low same ts fit)

module _ {T : Type 0} (kind : T → ℕ) {N : Type 0} {Value : N → Type 0} (rule : (n : N) → Rule T N Value (Value n)) (f : Foresight N)
    (agree : (n : N) → agrees f n (rule n) ≡ true) (ranks : (n : N) → nat_lt (f.rank n) rank_limit ≡ true) (low : (n : N) → below f (f.rank n) (rule n) ≡ true) where
  sound_reads : (h : ℕ) (n : N) (ts : List T) (v : Value n) (rest : List T) → read_within kind f rule h n ts ≡ ok v rest
      → (p : List T) × Reads kind rule n v p × (ts ≡ p ++ rest)
  sound_reads h n ts v rest e = let (p, w, same) = sound_within kind rule f h n ts v rest e in (p, (h, w), same)

  -- any two numbers of turns that are large enough
  pub enough : (h m : ℕ) (n : N) (ts : List T) → rank_limit * length ts + f.rank n < h → rank_limit * length ts + f.rank n < m
      → Agree (read_within kind f rule h n ts) (read_within kind f rule m n ts)
  enough zero m n ts l k = absurd (omega (arith, l))
  enough (suc h) zero n ts l k = absurd (omega (arith, k))
  enough (suc h) (suc m) n ts l k =
      read_agrees kind f (Reads kind rule) (foreseen kind rule f agree) (read_within kind f rule h) (read_within kind f rule m) (sound_reads h) ranks
      (rule n) (length ts) (f.rank n) (low n)
      (λ n' us. elim [
        | inl a ↦ let b = ltb-true (f.rank n') rank_limit (ranks n') in enough h m n' us (omega (arith, a, b, l)) (omega (arith, a, b, k))
        | inr a ↦ enough h m n' us (omega (arith, a.0, a.1, l)) (omega (arith, a.0, a.1, k))
      ])
      ts (omega arith)

  -- with many turns, as `read` does
  pub as_read : (h : ℕ) (n : N) (ts : List T) → rank_limit * length ts + f.rank n < h → Agree (read_within kind f rule h n ts) (read kind f rule n ts)
  unfolding read
  as_read h n ts l =
      let b = ltb-true (f.rank n) rank_limit (ranks n) in
      enough h (turns ts) n ts l (omega (arith, b))

  -- a part is read as its rule says, and not given up
  pub reads_rule : (n : N) (ts : List T) → (read kind f rule n ts ≡ read_in kind f (read kind f rule) (rule n) ts) × (read kind f rule n ts ≡ out → ⊥)
  unfolding read
  reads_rule n ts =
      let h = rank_limit * length ts + 127 in
      let one : turns ts ≡ suc h = omega arith in
      let b = ltb-true (f.rank n) rank_limit (ranks n) in
      let same = read_agrees kind f (Reads kind rule) (foreseen kind rule f agree) (read_within kind f rule h) (read kind f rule) (sound_reads h) ranks
      (rule n) (length ts) (f.rank n) (low n)
      (λ n' us. elim [
        | inl a ↦ let c = ltb-true (f.rank n') rank_limit (ranks n') in as_read h n' us (omega (arith, a, c))
        | inr a ↦ as_read h n' us (omega (arith, a.0, a.1, b))
      ])
      ts (omega arith) in
      (ap (λ k. read_within kind f rule k n ts) one ∙ same.0, λ o. same.1 (ap (λ k. read_within kind f rule k n ts) (sym one) ∙ o))
