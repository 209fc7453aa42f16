-- The laws of a grammar all of whose parts pass: what `read` reads is exactly what the rules say, and a fault is where no text
-- goes on.
use Rattle.std.proofs.Common.{◌≡◌, ◌⊎◌, ℕ, ◌+◌, ◌<◌, ◌≤◌, true, false, nat_lt, List, [], ◌∷◌, ◌++◌, length, inl, inr, refl, sym, ap, subst, ◌∙◌, append_assoc, append-nil, length-append, arith}
use Rattle.std.proofs.lemmas.Bool.{and_parts, ltb-true}
use Rattle.tg_rules.specs.Rule.{Rule}
use Rattle.tg_rules.specs.Texts.{Reads}
use Rattle.tg_rules.specs.Fault.{Begins, IsWrongAt, IsFault}
use Rattle.tg_rules.specs.Foresight.{Foresight, rank_limit, fits, agrees, below, spelled}
use Rattle.tg_rules.specs.Reader.{Read, ok, err, out, is_whole, turns, starts, read_in, read_within, read, passes}
use Rattle.tg_rules.proofs.Firsts.{not_nothing}
use Rattle.tg_rules.proofs.Sound.{sound_within, same_value, same_rest, ok_or_err}
use Rattle.tg_rules.proofs.Complete.{complete_within}
use Rattle.tg_rules.proofs.Heights.{taller}
use Rattle.tg_rules.proofs.Places.{fronts}
use Rattle.tg_rules.proofs.Turns.{as_read, reads_rule}
use Rattle.tg_rules.proofs.Completions.{viable_within}
use Rattle.tg_rules.proofs.Locality.{Local, goes, stops, past, left_of, local_within}

module _ {T : Type 0} where
  whole : {A : Type 0} (x : Read T A) → is_whole x ≡ true → (a : A) × (x ≡ ok a [])
  whole (ok a []) e = (a, refl)
  whole (ok a (t ∷ rest)) e = cc
  whole (err rest) e = cc
  whole out e = cc

  -- what leaves `t` for one text isn't a whole text for another that has `t` there
  no_whole : {A : Type 0} (t : T) (r c : List T) (x y : Read T A) (w : A) → Local t r c x y → length r < left_of x → y ≡ ok w [] → ⊥
  no_whole t r c x y w (goes v q e1 e2) less e = absurd (nothing q (same_rest y v w (q ++ t ∷ c) [] e2 e))
    where
      nothing : (q : List T) → q ++ t ∷ c ≡ [] → ⊥
      nothing [] h = cc
      nothing (s ∷ q) h = cc
  no_whole t r c x y w (stops q e1 e2) less e = ok_or_err y w [] (q ++ t ∷ c) e e2
  no_whole t r c x y w (past le) less e = omega (arith, le, less)

module _ {T : Type 0} (kind : T → ℕ) {N : Type 0} {Value : N → Type 0} (rule : (n : N) → Rule T N Value (Value n)) (f : Foresight N) (token : ℕ → T) (sample : N → List T)
    (pass : (n : N) → passes kind rule f token sample n ≡ true) where
  -- the conditions one by one
  abbrev pub Conditions : N → Type 0
  Conditions n =
      (fits f (rule n) ≡ true) × (agrees f n (rule n) ≡ true) × (below f (f.rank n) (rule n) ≡ true) × (nat_lt (f.rank n) rank_limit ≡ true)
      × (spelled kind token (rule n) ≡ true) × ((v : Value n) × (read_within kind f rule (turns (sample n)) n (sample n) ≡ ok v []))

  conditions : (n : N) → Conditions n
  conditions n =
      let (a, rest1) = and_parts (fits f (rule n)) _ (pass n) in
      let (b, rest2) = and_parts (agrees f n (rule n)) _ rest1 in
      let (c, rest3) = and_parts (below f (f.rank n) (rule n)) _ rest2 in
      let (d, rest4) = and_parts (nat_lt (f.rank n) rank_limit) _ rest3 in
      let (e, rest5) = and_parts (spelled kind token (rule n)) _ rest4 in
      (a, b, c, d, e, whole (read_within kind f rule (turns (sample n)) n (sample n)) rest5)

  text : (n : N) → (v : Value n) × (p : List T) × Reads kind rule n v p
  text n =
      let (v, e) = (conditions n).5 in
      let (p, w, same) = sound_within kind rule f (turns (sample n)) n (sample n) v [] e in
      (v, p, (turns (sample n), w))

  -- ---- what is read

  -- a part is read as its rule says
  pub read_is : (n : N) (ts : List T) → read kind f rule n ts ≡ read_in kind f (read kind f rule) (rule n) ts
  read_is n ts = (reads_rule kind rule f (λ m. (conditions m).1) (λ m. (conditions m).3) (λ m. (conditions m).2) n ts).0

  pub not_out : (n : N) (ts : List T) → read kind f rule n ts ≡ out → ⊥
  not_out n ts = (reads_rule kind rule f (λ m. (conditions m).1) (λ m. (conditions m).3) (λ m. (conditions m).2) n ts).1

  many : (h : ℕ) (n : N) (ts : List T) → turns ts ≤ h → read_within kind f rule h n ts ≡ read kind f rule n ts
  many h n ts le =
      let b = ltb-true (f.rank n) rank_limit (conditions n).3 in
      (as_read kind rule f (λ m. (conditions m).1) (λ m. (conditions m).3) (λ m. (conditions m).2) h n ts (omega (arith, b, le))).0

  pub sound_read : (n : N) (ts : List T) (v : Value n) (rest : List T) → read kind f rule n ts ≡ ok v rest → (p : List T) × Reads kind rule n v p × (ts ≡ p ++ rest)
  unfolding read
  sound_read n ts v rest e =
      let (p, w, same) = sound_within kind rule f (turns ts) n ts v rest e in
      (p, (turns ts, w), same)

  pub complete_read : (n : N) (v : Value n) (p rest : List T) → Reads kind rule n v p → starts kind (f.more n) rest ≡ false → read kind f rule n (p ++ rest) ≡ ok v rest
  complete_read n v p rest (i, w) e =
      let h = i + turns (p ++ rest) in
      sym (many h n (p ++ rest) (omega arith))
      ∙ complete_within kind rule f (λ m. (conditions m).0) (λ m. (conditions m).1) h n v p rest (taller kind rule i h (omega arith) n v p w) e

  -- a text is read whole
  pub read_whole : (n : N) (v : Value n) (ts : List T) → Reads kind rule n v ts → read kind f rule n ts ≡ ok v []
  read_whole n v ts r = ap (read kind f rule n) (sym (append-nil ts)) ∙ complete_read n v ts [] r refl

  pub whole_read : (n : N) (v : Value n) (ts : List T) → read kind f rule n ts ≡ ok v [] → Reads kind rule n v ts
  whole_read n v ts e = let (p, r, same) = sound_read n ts v [] e in subst (λ z. Reads kind rule n v z) (sym (same ∙ append-nil p)) r

  -- where it isn't, there is no text
  pub no_text : (n : N) (ts left : List T) → read kind f rule n ts ≡ err left → (v : Value n) → ¬ Reads kind rule n v ts
  no_text n ts left e v r = ok_or_err (read kind f rule n ts) v [] left (read_whole n v ts r) e

  pub no_text_behind : (n : N) (ts : List T) (w : Value n) (t : T) (left : List T) → read kind f rule n ts ≡ ok w (t ∷ left) → (v : Value n) → ¬ Reads kind rule n v ts
  no_text_behind n ts w t left e v r = not_nothing t left (same_rest (read kind f rule n ts) v w [] (t ∷ left) (read_whole n v ts r) e)

  -- a text has one value
  pub one_reading : (n : N) (v w : Value n) (ts : List T) → Reads kind rule n v ts → Reads kind rule n w ts → v ≡ w
  one_reading n v w ts a b = same_value (read kind f rule n ts) v w [] [] (read_whole n v ts a) (read_whole n w ts b)

  -- ---- faults

  local_read : (t : T) (r c : List T) (n : N) (q : List T) → Local t r c (read kind f rule n (q ++ t ∷ r)) (read kind f rule n (q ++ t ∷ c))
  local_read t r c n q =
      let h = turns (q ++ t ∷ r) + turns (q ++ t ∷ c) in
      subst (λ z. Local t r c z (read kind f rule n (q ++ t ∷ c))) (many h n (q ++ t ∷ r) (omega arith))
      (subst (λ z. Local t r c (read_within kind f rule h n (q ++ t ∷ r)) z) (many h n (q ++ t ∷ c) (omega arith)) (local_within kind rule f t r c h n q))

  -- what is left before `t` isn't taken up by any text
  no_further : (n : N) (ts p : List T) (t : T) (left : List T) → ts ≡ p ++ t ∷ left → length left < left_of (read kind f rule n ts) → Begins (Reads kind rule n) (p ++ t ∷ []) → ⊥
  no_further n ts p t left same less (rest, v, r) =
      no_whole t left rest (read kind f rule n (p ++ t ∷ left)) (read kind f rule n (p ++ t ∷ rest)) v (local_read t left rest n p)
      (subst (λ z. length left < left_of (read kind f rule n z)) same less)
      (read_whole n v (p ++ t ∷ rest) (subst (λ z. Reads kind rule n v z) (append_assoc p (t ∷ []) rest) r))

  wrong_at : (n : N) (ts p left : List T) → ts ≡ p ++ left → read kind f rule n ts ≡ err left → IsWrongAt (Reads kind rule n) p left
  wrong_at n ts p [] same e = λ v r. ok_or_err (read kind f rule n ts) v [] [] (ap (read kind f rule n) (same ∙ append-nil p) ∙ read_whole n v p r) e
  wrong_at n ts p (t ∷ left) same e = λ begins. no_further n ts p t left same (rw e (omega arith)) begins

  viable_read : (n : N) (ts left : List T) → read kind f rule n ts ≡ err left
      → (p : List T) × (rest : List T) × (v : Value n) × Reads kind rule n v (p ++ rest) × (ts ≡ p ++ left)
  unfolding read
  viable_read n ts left e = viable_within kind rule f token (λ m. (conditions m).4) text (turns ts) n ts left e

  -- where a reader stops, the fault is
  pub fault_read : (n : N) (ts left : List T) → read kind f rule n ts ≡ err left → (p : List T) × IsFault (Reads kind rule n) ts p left
  fault_read n ts left e = let (p, rest, v, r, same) = viable_read n ts left e in (p, (same, (rest, v, r), wrong_at n ts p left same e))

  -- or before what is left behind a text
  pub fault_behind : (n : N) (ts : List T) (v : Value n) (t : T) (left : List T) → read kind f rule n ts ≡ ok v (t ∷ left) → (p : List T) × IsFault (Reads kind rule n) ts p (t ∷ left)
  fault_behind n ts v t left e =
      let (p, r, same) = sound_read n ts v (t ∷ left) e in
      let begun = subst (λ z. Reads kind rule n v z) (sym (append-nil p)) r in
      (p, (same, ([], v, begun), λ begins. no_further n ts p t left same (rw e (omega arith)) begins))

  -- all tokens are a text, or have a fault
  by_reading : (n : N) (ts : List T) (x : Read T (Value n)) → read kind f rule n ts ≡ x
      → ((v : Value n) × Reads kind rule n v ts) ⊎ ((p : List T) × (left : List T) × IsFault (Reads kind rule n) ts p left)
  by_reading n ts (ok v []) e = inl (v, whole_read n v ts e)
  by_reading n ts (ok v (t ∷ left)) e = let (p, h) = fault_behind n ts v t left e in inr (p, t ∷ left, h)
  by_reading n ts (err left) e = let (p, h) = fault_read n ts left e in inr (p, left, h)
  by_reading n ts out e = absurd (not_out n ts e)

  pub text_or_fault : (n : N) (ts : List T) → ((v : Value n) × Reads kind rule n v ts) ⊎ ((p : List T) × (left : List T) × IsFault (Reads kind rule n) ts p left)
  text_or_fault n ts = by_reading n ts (read kind f rule n ts) refl

  -- the same with a front that is known
  same_front : (p q left : List T) → p ++ left ≡ q ++ left → p ≡ q
  same_front p q left e =
      elim (fronts p q left left e) [
        | inl same ↦ same.0
        | inr (inl (t, s, rest, longer, l)) ↦ absurd (omega (arith, ap length e, ap length longer, length-append p left, length-append q left, length-append p (t ∷ s)))
        | inr (inr (t, s, rest, longer, l)) ↦ absurd (omega (arith, ap length e, ap length longer, length-append p left, length-append q left, length-append q (t ∷ s)))
      ]

  pub fault_at : (n : N) (front left : List T) → read kind f rule n (front ++ left) ≡ err left → IsFault (Reads kind rule n) (front ++ left) front left
  fault_at n front left e =
      let (p, h) = fault_read n (front ++ left) left e in
      subst (λ z. IsFault (Reads kind rule n) (front ++ left) z left) (sym (same_front front p left h.0)) h

  pub fault_before : (n : N) (front : List T) (v : Value n) (t : T) (left : List T) → read kind f rule n (front ++ t ∷ left) ≡ ok v (t ∷ left)
      → IsFault (Reads kind rule n) (front ++ t ∷ left) front (t ∷ left)
  fault_before n front v t left e =
      let (p, h) = fault_behind n (front ++ t ∷ left) v t left e in
      subst (λ z. IsFault (Reads kind rule n) (front ++ t ∷ left) z (t ∷ left)) (sym (same_front front p (t ∷ left) h.0)) h
