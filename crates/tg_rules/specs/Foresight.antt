-- When one token of foresight is enough: what a reader decides by, as lists of kinds that compute, and the conditions on them.
use Rattle.std.specs.Prelude.{ℕ, Bool, true, false, not, ◌&&◌, ◌||◌, nat_lt, if◌then◌else◌, List, [], ◌∷◌, ◌++◌}
use Rattle.tg_rules.specs.Rule.{Rule, tok, nt, seq, alt, opt, act, has}

-- What is known of each part beforehand. It is given by a table, since the parts lead back to one another, and the conditions
-- below hold it against the rules.
pub record Foresight (N : Type 0) : Type 0 where
  -- kinds with which a text of the part may begin
  pub first : N → List ℕ
  -- the empty text may be one of the part
  pub empty : N → Bool
  -- kinds of tokens that could go on with what is a text already
  pub more : N → List ℕ
  -- a part begins with parts of lower rank alone, so no part leads to itself before a token is read
  pub rank : N → ℕ

-- ranks are below this
abbrev pub rank_limit : ℕ
rank_limit = 128

-- every kind of the first list is one of the second
abbrev pub all_in : List ℕ → List ℕ → Bool
all_in [] ls = true
all_in (k ∷ ks) ls = has ls k && all_in ks ls

-- the lists have no kind in common
abbrev pub apart : List ℕ → List ℕ → Bool
apart [] ls = true
apart (k ∷ ks) ls = not (has ls k) && apart ks ls

module _ {T N : Type 0} {Value : N → Type 0} (f : Foresight N) where
  abbrev pub empty_of : {A : Type 0} → Rule T N Value A → Bool
  empty_of (tok k ks) = false
  empty_of (nt n) = f.empty n
  empty_of (seq g h) = empty_of g && empty_of h
  empty_of (alt g h) = empty_of g || empty_of h
  empty_of (opt g) = true
  empty_of (act make g) = empty_of g

  abbrev pub first_of : {A : Type 0} → Rule T N Value A → List ℕ
  first_of (tok k ks) = k ∷ ks
  first_of (nt n) = f.first n
  first_of (seq g h) = if empty_of g then first_of g ++ first_of h else first_of g
  first_of (alt g h) = first_of g ++ first_of h
  first_of (opt g) = first_of g
  first_of (act make g) = first_of g

  abbrev pub more_of : {A : Type 0} → Rule T N Value A → List ℕ
  more_of (tok k ks) = []
  more_of (nt n) = f.more n
  more_of (seq g h) = if empty_of h then more_of g ++ more_of h else more_of h
  more_of (alt g h) = more_of g ++ more_of h
  more_of (opt g) = first_of g ++ more_of g
  more_of (act make g) = more_of g

  -- One token tells what to read: the sides of a choice begin apart and aren't empty, and what goes on with a part isn't what
  -- may stand behind it.
  abbrev pub fits : {A : Type 0} → Rule T N Value A → Bool
  fits (tok k ks) = true
  fits (nt n) = true
  fits (seq g h) = fits g && (fits h && apart (more_of g) (first_of h))
  fits (alt g h) = fits g && (fits h && (apart (first_of g) (first_of h) && (not (empty_of g) && not (empty_of h))))
  fits (opt g) = fits g && not (empty_of g)
  fits (act make g) = fits g

  -- the parts with which a text of the rule may begin have ranks below this
  abbrev pub below : ℕ → {A : Type 0} → Rule T N Value A → Bool
  below r (tok k ks) = true
  below r (nt n) = nat_lt (f.rank n) r
  below r (seq g h) = below r g && (not (empty_of g) || below r h)
  below r (alt g h) = below r g && below r h
  below r (opt g) = below r g
  below r (act make g) = below r g

  -- the table has what the rule of the part gives
  abbrev pub agrees : {A : Type 0} → N → Rule T N Value A → Bool
  agrees n g = all_in (first_of g) (f.first n) && (all_in (more_of g) (f.more n) && (not (empty_of g) || f.empty n))

module _ {T : Type 0} (kind : T → ℕ) (token : ℕ → T) {N : Type 0} {Value : N → Type 0} where
  -- `token` gives a token of the first kind of each class
  abbrev pub spelled : {A : Type 0} → Rule T N Value A → Bool
  spelled (tok k ks) = has (k ∷ ks) (kind (token k))
  spelled (nt n) = true
  spelled (seq g h) = spelled g && spelled h
  spelled (alt g h) = spelled g && spelled h
  spelled (opt g) = spelled g
  spelled (act make g) = spelled g
