-- What was read before a fault can be completed to a text.
use Rattle.std.proofs.Common.{◌≡◌, ℕ, zero, suc, Bool, true, false, Some, None, List, [], ◌∷◌, ◌++◌, inl, inr, refl, sym, ap, ◌∙◌, append_assoc, if◌then◌else◌}
use Rattle.std.proofs.lemmas.Bool.{cases_Bool, and_parts}
use Rattle.tg_rules.specs.Rule.{Rule, tok, nt, seq, alt, opt, act, has}
use Rattle.tg_rules.specs.Texts.{Is, Reads}
use Rattle.tg_rules.specs.Foresight.{Foresight, first_of, spelled}
use Rattle.tg_rules.specs.Reader.{Read, ok, err, out, starts, token_at, read_in, read_within}
use Rattle.tg_rules.proofs.Sound.{sound, sound_within, mapped_err, followed_err, same_fault, ok_or_err, err_or_out}
use Rattle.tg_rules.proofs.Heights.{by_rule}

module _ {T : Type 0} where
  token_fault : (b : Bool) (t : T) (ts left : List T) → (if b then ok t ts else err (t ∷ ts)) ≡ err left → t ∷ ts ≡ left
  token_fault true t ts left e = absurd (ok_or_err (ok t ts) t ts left refl e)
  token_fault false t ts left e = same_fault (if false then ok t ts else err (t ∷ ts)) (t ∷ ts) left refl e

  at_token : (kind : T → ℕ) (ks : List ℕ) (ts left : List T) → token_at kind ks ts ≡ err left → ts ≡ left
  at_token kind ks [] left e = same_fault (token_at kind ks []) [] left refl e
  at_token kind ks (t ∷ ts) left e = token_fault (has ks (kind t)) t ts left e

module _ {T : Type 0} (kind : T → ℕ) {N : Type 0} {Value : N → Type 0} (f : Foresight N) (R : (n : N) → Value n → List T → Type 0) (token : ℕ → T)
    (text : (n : N) → (v : Value n) × (p : List T) × R n v p) where
  some_text : {A : Type 0} (g : Rule T N Value A) → spelled kind token g ≡ true → (v : A) × (p : List T) × Is kind R g v p
  some_text (tok k ks) s = (token k, token k ∷ [], (s, refl))
  some_text (nt n) s = text n
  some_text (seq g h) s =
      let (s1, s2) = and_parts (spelled kind token g) (spelled kind token h) s in
      let (v, p, a) = some_text g s1 in
      let (w, q, b) = some_text h s2 in
      ((v, w), p ++ q, (p, q, a, b, refl))
  some_text (alt g h) s =
      let (s1, s2) = and_parts (spelled kind token g) (spelled kind token h) s in
      let (v, p, a) = some_text g s1 in
      (v, p, inl a)
  some_text (opt g) s = (None, [], inl (refl, refl))
  some_text (act make g) s = let (v, p, a) = some_text g s in (make v, p, (v, refl, a))

  -- up to where `left` begins, a text of the rule begins so
  abbrev pub IsViable : {A : Type 0} → Rule T N Value A → List T → List T → Type 0
  IsViable {A} g ts left = (p : List T) × (rest : List T) × (v : A) × Is kind R g v (p ++ rest) × (ts ≡ p ++ left)

  module _ (call : (n : N) → List T → Read T (Value n))
      (sound_call : (n : N) (ts : List T) (v : Value n) (rest : List T) → call n ts ≡ ok v rest → (p : List T) × R n v p × (ts ≡ p ++ rest))
      (viable_call : (n : N) (ts left : List T) → call n ts ≡ err left → (p : List T) × (rest : List T) × (v : Value n) × R n v (p ++ rest) × (ts ≡ p ++ left)) where
    pub viable : {A : Type 0} (g : Rule T N Value A) → spelled kind token g ≡ true → (ts left : List T) → read_in kind f call g ts ≡ err left → IsViable g ts left
    viable (tok k ks) s ts left e = ([], token k ∷ [], token k, (s, refl), at_token kind (k ∷ ks) ts left e)
    viable (nt n) s ts left e = viable_call n ts left e
    viable (seq g h) s ts left e =
        let (s1, s2) = and_parts (spelled kind token g) (spelled kind token h) s in
        elim (followed_err (read_in kind f call g ts) (read_in kind f call h) left e) [
          | inl first ↦
              let (p, rest, v, a, same) = viable g s1 ts left first in
              let (w, q, b) = some_text h s2 in
              (p, rest ++ q, (v, w), (p ++ rest, q, a, b, sym (append_assoc p rest q)), same)
          | inr (v, middle, first, second) ↦
              let (p, a, same1) = sound kind f R call sound_call g ts v middle first in
              let (q, rest, w, b, same2) = viable h s2 middle left second in
              (p ++ q, rest, (v, w), (p, q ++ rest, a, b, append_assoc p q rest), same1 ∙ ap (λ x. p ++ x) same2 ∙ sym (append_assoc p q left))
        ]
    viable (alt g h) s ts left e =
        let (s1, s2) = and_parts (spelled kind token g) (spelled kind token h) s in
        elim (cases_Bool (starts kind (first_of f g) ts)) [
          | inl is ↦ let (p, rest, v, a, same) = viable g s1 ts left (rw is at e) in (p, rest, v, inl a, same)
          | inr isnt ↦ let (p, rest, v, a, same) = viable h s2 ts left (rw isnt at e) in (p, rest, v, inr a, same)
        ]
    viable (opt g) s ts left e =
        elim (cases_Bool (starts kind (first_of f g) ts)) [
          | inl is ↦
              let (p, rest, v, a, same) = viable g s ts left (mapped_err Some (read_in kind f call g ts) left (rw is at e)) in
              (p, rest, Some v, inr (v, refl, a), same)
          | inr isnt ↦ let taken : ok None ts ≡ err left = rw isnt at e in absurd (ok_or_err (ok None ts) None ts left refl taken)
        ]
    viable (act make g) s ts left e =
        let (p, rest, v, a, same) = viable g s ts left (mapped_err make (read_in kind f call g ts) left e) in
        (p, rest, make v, (v, refl, a), same)

module _ {T : Type 0} (kind : T → ℕ) {N : Type 0} {Value : N → Type 0} (rule : (n : N) → Rule T N Value (Value n)) (f : Foresight N) (token : ℕ → T)
    (spells : (n : N) → spelled kind token (rule n) ≡ true) (text : (n : N) → (v : Value n) × (p : List T) × Reads kind rule n v p) where
  sound_reads : (h : ℕ) (n : N) (ts : List T) (v : Value n) (rest : List T) → read_within kind f rule h n ts ≡ ok v rest
      → (p : List T) × Reads kind rule n v p × (ts ≡ p ++ rest)
  sound_reads h n ts v rest e = let (p, w, same) = sound_within kind rule f h n ts v rest e in (p, (h, w), same)

  pub viable_within : (h : ℕ) (n : N) (ts left : List T) → read_within kind f rule h n ts ≡ err left
      → (p : List T) × (rest : List T) × (v : Value n) × Reads kind rule n v (p ++ rest) × (ts ≡ p ++ left)
  viable_within zero n ts left e = absurd (err_or_out out left e refl)
  viable_within (suc h) n ts left e =
      let (p, rest, v, a, same) = viable kind f (Reads kind rule) token text (read_within kind f rule h) (sound_reads h) (viable_within h) (rule n) (spells n) ts left e in
      (p, rest, v, by_rule kind rule n v (p ++ rest) a, same)
