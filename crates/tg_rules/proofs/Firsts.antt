-- What a text of a rule begins with, and whether it may be empty, is what the foresight says.
use Rattle.std.proofs.Common.{◌≡◌, ℕ, zero, suc, Bool, true, false, not, ◌||◌, List, [], ◌∷◌, ◌++◌, inl, inr, refl, sym, ap, subst, ◌∙◌}
use Rattle.std.proofs.lemmas.Bool.{and_parts, and_from, or_left, or_right, cases_Bool}
use Rattle.tg_rules.specs.Rule.{Rule, tok, nt, seq, alt, opt, act, has}
use Rattle.tg_rules.specs.Texts.{Is, Within, Reads}
use Rattle.tg_rules.specs.Foresight.{Foresight, empty_of, first_of, more_of, agrees, all_in}
use Rattle.tg_rules.specs.Reader.{starts}
use Rattle.tg_rules.proofs.NextToken.{has_left, has_right, in_all, clash}

module _ {T : Type 0} where
  pub not_nothing : (t : T) (ts : List T) → [] ≡ t ∷ ts → ⊥
  not_nothing t ts e = cc

  pub first_same : (t u : T) (ts us : List T) → t ∷ ts ≡ u ∷ us → t ≡ u
  first_same t u ts us e = cc

  pub rest_same : (t u : T) (ts us : List T) → t ∷ ts ≡ u ∷ us → ts ≡ us
  rest_same t u ts us e = cc

module _ {T : Type 0} (kind : T → ℕ) {N : Type 0} {Value : N → Type 0} (f : Foresight N) (R : (n : N) → Value n → List T → Type 0) where
  -- the foresight is right of the parts
  pub record IsForeseen : Type 0 where
    pub empty : (n : N) (v : Value n) → R n v [] → f.empty n ≡ true
    pub first : (n : N) (v : Value n) (t : T) (ts : List T) → R n v (t ∷ ts) → has (f.first n) (kind t) ≡ true

module _ {T : Type 0} (kind : T → ℕ) {N : Type 0} {Value : N → Type 0} (f : Foresight N) (R : (n : N) → Value n → List T → Type 0) (seen : IsForeseen kind f R) where
  pub empty_text : {A : Type 0} (g : Rule T N Value A) (v : A) → Is kind R g v [] → empty_of f g ≡ true
  empty_text (tok k ks) v h = absurd (not_nothing v [] h.1)
  empty_text (nt n) v h = seen.empty n v h
  empty_text (seq g h) v ([], [], a, b, e) = and_from (empty_of f g) (empty_of f h) (empty_text g v.0 a) (empty_text h v.1 b)
  empty_text (seq g h) v ([], t ∷ q, a, b, e) = absurd (not_nothing t q e)
  empty_text (seq g h) v (t ∷ p, q, a, b, e) = absurd (not_nothing t (p ++ q) e)
  empty_text (alt g h) v (inl a) = or_left (empty_of f g) (empty_of f h) (empty_text g v a)
  empty_text (alt g h) v (inr b) = or_right (empty_of f g) (empty_of f h) (empty_text h v b)
  empty_text (opt g) v h = refl
  empty_text (act make g) v (a, e, h) = empty_text g a h

  first_of_both : {A B : Type 0} (g : Rule T N Value A) (h : Rule T N Value B) (k : ℕ) → has (first_of f g) k ≡ true → has (first_of f (seq g h)) k ≡ true
  first_of_both g h k e =
      elim (cases_Bool (empty_of f g)) [
        | inl is ↦ rw is (has_left (first_of f g) (first_of f h) k e)
        | inr isnt ↦ rw isnt e
      ]

  first_of_later : {A B : Type 0} (g : Rule T N Value A) (h : Rule T N Value B) (k : ℕ) → empty_of f g ≡ true → has (first_of f h) k ≡ true → has (first_of f (seq g h)) k ≡ true
  first_of_later g h k is e = rw is (has_right (first_of f g) (first_of f h) k e)

  pub first_token : {A : Type 0} (g : Rule T N Value A) (v : A) (t : T) (ts : List T) → Is kind R g v (t ∷ ts) → has (first_of f g) (kind t) ≡ true
  first_token (tok k ks) v t ts h = ap (λ x. has (k ∷ ks) (kind x)) (first_same t v ts [] h.1) ∙ h.0
  first_token (nt n) v t ts h = seen.first n v t ts h
  first_token (seq g h) v t ts ([], q, a, b, e) = first_of_later g h (kind t) (empty_text g v.0 a) (first_token h v.1 t ts (subst (λ x. Is kind R h v.1 x) (sym e) b))
  first_token (seq g h) v t ts (u ∷ p, q, a, b, e) =
      first_of_both g h (kind t) (ap (λ x. has (first_of f g) (kind x)) (first_same t u ts (p ++ q) e) ∙ first_token g v.0 u p a)
  first_token (alt g h) v t ts (inl a) = has_left (first_of f g) (first_of f h) (kind t) (first_token g v t ts a)
  first_token (alt g h) v t ts (inr b) = has_right (first_of f g) (first_of f h) (kind t) (first_token h v t ts b)
  first_token (opt g) v t ts (inl h) = absurd (not_nothing t ts (sym h.1))
  first_token (opt g) v t ts (inr (a, e, h)) = first_token g a t ts h
  first_token (act make g) v t ts (a, e, h) = first_token g a t ts h

  -- a text of a rule that isn't empty begins with one of its first kinds, also where more stands behind it
  pub text_starts : {A : Type 0} (g : Rule T N Value A) (v : A) (ts rest : List T) → empty_of f g ≡ false → Is kind R g v ts → starts kind (first_of f g) (ts ++ rest) ≡ true
  text_starts g v [] rest full h = absurd (clash (empty_of f g) (empty_text g v h) full)
  text_starts g v (t ∷ ts) rest full h = first_token g v t ts h

module _ {T : Type 0} (kind : T → ℕ) {N : Type 0} {Value : N → Type 0} (rule : (n : N) → Rule T N Value (Value n)) (f : Foresight N) (agree : (n : N) → agrees f n (rule n) ≡ true) where
  abbrev pub firsts_agree : (n : N) → all_in (first_of f (rule n)) (f.first n) ≡ true
  firsts_agree n = (and_parts (all_in (first_of f (rule n)) (f.first n)) _ (agree n)).0

  abbrev pub mores_agree : (n : N) → all_in (more_of f (rule n)) (f.more n) ≡ true
  mores_agree n =
      (and_parts (all_in (more_of f (rule n)) (f.more n)) (not (empty_of f (rule n)) || f.empty n) (and_parts (all_in (first_of f (rule n)) (f.first n)) _ (agree n)).1).0

  abbrev pub empties_agree : (n : N) → (not (empty_of f (rule n)) || f.empty n) ≡ true
  empties_agree n =
      (and_parts (all_in (more_of f (rule n)) (f.more n)) (not (empty_of f (rule n)) || f.empty n) (and_parts (all_in (first_of f (rule n)) (f.first n)) _ (agree n)).1).1

  implied : (a b : Bool) → (not a || b) ≡ true → a ≡ true → b ≡ true
  implied true b e h = e
  implied false b e h = cc

  mutual_firsts : (R : (n : N) → Value n → List T → Type 0) → IsForeseen kind f R → IsForeseen kind f (λ n v ts. Is kind R (rule n) v ts)
  mutual_firsts R seen = record {
    empty = λ n v h. implied (empty_of f (rule n)) (f.empty n) (empties_agree n) (empty_text kind f R seen (rule n) v h);
    first = λ n v t ts h. in_all (first_of f (rule n)) (f.first n) (kind t) (firsts_agree n) (first_token kind f R seen (rule n) v t ts h);
  }

  pub foreseen_within : (height : ℕ) → IsForeseen kind f (Within kind rule height)
  foreseen_within zero = record { empty = λ n v h. absurd h; first = λ n v t ts h. absurd h }
  foreseen_within (suc height) = mutual_firsts (Within kind rule height) (foreseen_within height)

  pub foreseen : IsForeseen kind f (Reads kind rule)
  foreseen = record {
    empty = λ n v h. (foreseen_within h.0).empty n v h.1;
    first = λ n v t ts h. (foreseen_within h.0).first n v t ts h.1;
  }
