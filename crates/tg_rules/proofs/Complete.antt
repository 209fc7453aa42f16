-- Every text is read, up to a token that can't go on with it.
use Rattle.std.proofs.Common.{◌≡◌, ℕ, zero, suc, true, false, not, Some, List, [], ◌∷◌, ◌++◌, inl, inr, refl, ap, ◌∙◌, append_assoc}
use Rattle.std.proofs.lemmas.Bool.{cases_Bool, and_parts, not-true}
use Rattle.tg_rules.specs.Rule.{Rule, tok, nt, seq, alt, opt, act}
use Rattle.tg_rules.specs.Texts.{Is, Within}
use Rattle.tg_rules.specs.Foresight.{Foresight, empty_of, first_of, more_of, fits, agrees, apart}
use Rattle.tg_rules.specs.Reader.{Read, ok, mapped, followed, starts, read_in, read_within}
use Rattle.tg_rules.proofs.NextToken.{starts_neither, starts_fewer, starts_apart}
use Rattle.tg_rules.proofs.Firsts.{IsForeseen, empty_text, first_token, text_starts, foreseen_within, mores_agree}

module _ {T : Type 0} where
  followed_of : {A B : Type 0} (x : Read T A) (next : List T → Read T B) (v : A × B) (middle rest : List T) → x ≡ ok v.0 middle → next middle ≡ ok v.1 rest
      → followed x next ≡ ok v rest
  followed_of {A} {B} x next v middle rest e1 e2 = ap (λ y. followed y next) e1 ∙ ap (mapped {B = A × B} (λ b. (v.0, b))) e2

module _ {T : Type 0} (kind : T → ℕ) {N : Type 0} {Value : N → Type 0} (f : Foresight N) (R : (n : N) → Value n → List T → Type 0) (seen : IsForeseen kind f R)
    (call : (n : N) → List T → Read T (Value n)) (complete_call : (n : N) (v : Value n) (p y : List T) → R n v p → starts kind (f.more n) y ≡ false → call n (p ++ y) ≡ ok v y) where
  -- what stands behind a sequence doesn't go on with its second part
  behind_second : {A B : Type 0} (g : Rule T N Value A) (h : Rule T N Value B) (y : List T) → starts kind (more_of f (seq g h)) y ≡ false → starts kind (more_of f h) y ≡ false
  behind_second g h y e =
      elim (cases_Bool (empty_of f h)) [
        | inl is ↦ (starts_neither kind (more_of f g) (more_of f h) y (rw is at e)).1
        | inr isnt ↦ rw isnt at e
      ]

  -- and what stands behind its first part doesn't go on with that
  behind_first : {A B : Type 0} (g : Rule T N Value A) (h : Rule T N Value B) (v : B) (q y : List T) → apart (more_of f g) (first_of f h) ≡ true → Is kind R h v q
      → starts kind (more_of f (seq g h)) y ≡ false → starts kind (more_of f g) (q ++ y) ≡ false
  behind_first g h v [] y far is e =
      let empty = empty_text kind f R seen h v is in
      (starts_neither kind (more_of f g) (more_of f h) y (rw empty at e)).0
  behind_first g h v (t ∷ q) y far is e = starts_apart kind (more_of f g) (first_of f h) (t ∷ (q ++ y)) far (first_token kind f R seen h v t q is)

  pub complete : {A : Type 0} (g : Rule T N Value A) (v : A) (p y : List T) → fits f g ≡ true → Is kind R g v p → starts kind (more_of f g) y ≡ false
      → read_in kind f call g (p ++ y) ≡ ok v y
  complete (tok k ks) v p y fit is e = rw (is.1, is.0) refl
  complete (nt n) v p y fit is e = complete_call n v p y is e
  complete (seq g h) v ts y fit (p, q, a, b, same) e =
      let (fit1, fits2) = and_parts (fits f g) _ fit in
      let (fit2, far) = and_parts (fits f h) (apart (more_of f g) (first_of f h)) fits2 in
      let tokens : ts ++ y ≡ p ++ (q ++ y) = ap (λ x. x ++ y) same ∙ append_assoc p q y in
      let first = complete g v.0 p (q ++ y) fit1 a (behind_first g h v.1 q y far b e) in
      let second = complete h v.1 q y fit2 b (behind_second g h y e) in
      followed_of (read_in kind f call g (ts ++ y)) (read_in kind f call h) v (q ++ y) y (ap (read_in kind f call g) tokens ∙ first) second
  complete (alt g h) v p y fit (inl a) e =
      let (fit1, fits2) = and_parts (fits f g) _ fit in
      let (fit2, fits3) = and_parts (fits f h) _ fits2 in
      let (far, fits4) = and_parts (apart (first_of f g) (first_of f h)) _ fits3 in
      let (full1, full2) = and_parts (not (empty_of f g)) (not (empty_of f h)) fits4 in
      rw (text_starts kind f R seen g v p y (not-true (empty_of f g) full1) a)
      (complete g v p y fit1 a (starts_neither kind (more_of f g) (more_of f h) y e).0)
  complete (alt g h) v p y fit (inr b) e =
      let (fit1, fits2) = and_parts (fits f g) _ fit in
      let (fit2, fits3) = and_parts (fits f h) _ fits2 in
      let (far, fits4) = and_parts (apart (first_of f g) (first_of f h)) _ fits3 in
      let (full1, full2) = and_parts (not (empty_of f g)) (not (empty_of f h)) fits4 in
      let other = text_starts kind f R seen h v p y (not-true (empty_of f h) full2) b in
      rw (starts_apart kind (first_of f g) (first_of f h) (p ++ y) far other)
      (complete h v p y fit2 b (starts_neither kind (more_of f g) (more_of f h) y e).1)
  complete (opt g) v p y fit (inl (none, nothing)) e =
      rw (nothing, none, (starts_neither kind (first_of f g) (more_of f g) y e).0) refl
  complete (opt g) v p y fit (inr (a, some, h)) e =
      let (fit1, full) = and_parts (fits f g) (not (empty_of f g)) fit in
      rw (text_starts kind f R seen g a p y (not-true (empty_of f g) full) h, some)
      (ap (mapped Some) (complete g a p y fit1 h (starts_neither kind (first_of f g) (more_of f g) y e).1))
  complete (act make g) v p y fit (a, same, h) e = rw same (ap (mapped make) (complete g a p y fit h e))

module _ {T : Type 0} (kind : T → ℕ) {N : Type 0} {Value : N → Type 0} (rule : (n : N) → Rule T N Value (Value n)) (f : Foresight N)
    (fit : (n : N) → fits f (rule n) ≡ true) (agree : (n : N) → agrees f n (rule n) ≡ true) where
  pub complete_within : (h : ℕ) (n : N) (v : Value n) (p y : List T) → Within kind rule h n v p → starts kind (f.more n) y ≡ false → read_within kind f rule h n (p ++ y) ≡ ok v y
  complete_within zero n v p y w e = absurd w
  complete_within (suc h) n v p y w e =
      complete kind f (Within kind rule h) (foreseen_within kind rule f agree h) (read_within kind f rule h) (complete_within h) (rule n) v p y (fit n) w
      (starts_fewer kind (more_of f (rule n)) (f.more n) y (mores_agree kind rule f agree n) e)
