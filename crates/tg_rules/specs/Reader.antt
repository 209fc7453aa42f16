-- Reading a part from the front of some tokens, with one token of foresight.
use Rattle.std.specs.Prelude.{ℕ, zero, suc, ◌+◌, ◌*◌, Bool, true, false, ◌&&◌, nat_lt, if◌then◌else◌, Some, None, List, [], ◌∷◌, length}
use Rattle.tg_rules.specs.Rule.{Rule, tok, nt, seq, alt, opt, act, has}
use Rattle.tg_rules.specs.Foresight.{Foresight, rank_limit, first_of, fits, agrees, below, spelled}

-- a value and what is left, or what is left where a token is wrong, or no turns left
pub data Read (T A : Type 0) : Type 0 where
  ok : A → List T → Read T A
  err : List T → Read T A
  out : Read T A

abbrev pub mapped : {T A B : Type 0} → (A → B) → Read T A → Read T B
mapped make (ok a rest) = ok (make a) rest
mapped make (err rest) = err rest
mapped make out = out

abbrev pub followed : {T A B : Type 0} → Read T A → (List T → Read T B) → Read T (A × B)
followed {T} {A} {B} (ok a rest) next = mapped {B = A × B} (λ b. (a, b)) (next rest)
followed (err rest) next = err rest
followed out next = out

-- As many turns as are ever needed for some tokens: between one token and the next, ranks fall.
abbrev pub turns : {T : Type 0} → List T → ℕ
turns ts = rank_limit * length ts + rank_limit

-- nothing is left
abbrev pub is_whole : {T A : Type 0} → Read T A → Bool
is_whole (ok a []) = true
is_whole (ok a (t ∷ rest)) = false
is_whole (err rest) = false
is_whole out = false

module _ {T : Type 0} (kind : T → ℕ) where
  -- the next token is of one of these kinds
  abbrev pub starts : List ℕ → List T → Bool
  starts ks [] = false
  starts ks (t ∷ ts) = has ks (kind t)

  abbrev pub token_at : List ℕ → List T → Read T T
  token_at ks [] = err []
  token_at ks (t ∷ ts) = if has ks (kind t) then ok t ts else err (t ∷ ts)

module _ {T : Type 0} (kind : T → ℕ) {N : Type 0} {Value : N → Type 0} (f : Foresight N) where
  -- by a rule, where `call` reads the parts; a `let` isn't computed before it is used
  abbrev pub read_in : {A : Type 0} → ((n : N) → List T → Read T (Value n)) → Rule T N Value A → List T → Read T A
  read_in call (tok k ks) ts = token_at kind (k ∷ ks) ts
  read_in call (nt n) ts = call n ts
  read_in call (seq g h) ts = followed (read_in call g ts) (read_in call h)
  read_in call (alt g h) ts = let a = read_in call g ts in let b = read_in call h ts in if starts kind (first_of f g) ts then a else b
  read_in call (opt g) ts = let a = read_in call g ts in if starts kind (first_of f g) ts then mapped Some a else ok None ts
  read_in call (act make g) ts = mapped make (read_in call g ts)

  -- in at most this many turns, each of which enters a part
  abbrev pub read_within : ((n : N) → Rule T N Value (Value n)) → ℕ → (n : N) → List T → Read T (Value n)
  read_within rule zero n ts = out
  read_within rule (suc left) n ts = let call = read_within rule left in read_in call (rule n) ts

  -- A part, by its rule. It isn't unfolded by itself: that it reads as its rule says is a law, so the turns never show.
  unfoldable pub read : ((n : N) → Rule T N Value (Value n)) → (n : N) → List T → Read T (Value n)
  read rule n ts = read_within rule (turns ts) n ts

module _ {T : Type 0} (kind : T → ℕ) {N : Type 0} {Value : N → Type 0} (rule : (n : N) → Rule T N Value (Value n)) (f : Foresight N) (token : ℕ → T) (sample : N → List T) where
  -- All conditions on a part: they compute, so that `refl` shows them. The sample is some text of the part.
  abbrev pub passes : N → Bool
  passes n =
      fits f (rule n)
      && (agrees f n (rule n)
      && (below f (f.rank n) (rule n)
      && (nat_lt (f.rank n) rank_limit && (spelled kind token (rule n) && is_whole (read_within kind f rule (turns (sample n)) n (sample n))))))
