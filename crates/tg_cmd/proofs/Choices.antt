-- Words are read as choices, one after another.
use Rattle.std.proofs.Common.{◌≡◌, ◌≢◌, ◌≤◌, ◌<◌, ◌^◌, inl, inr, ℕ, List, [], ◌∷◌, All, Option, Some, None, MatchOption, refl, sym, ◌∙◌, ap, subst, get_or, drop, length, arith}
use Rattle.std.specs.Prelude.{decimal}
use Rattle.std.specs.Str.Parse.{digits_value}
use Rattle.std.proofs.lemmas.Fmt.{decimal_is_IsNumeral}
use Rattle.std.proofs.lemmas.List.Elements.{All-head, All-tail, All-cons}
use Rattle.tg_cmd.specs.declared.options.Setting.{Setting}
use Rattle.tg_cmd.specs.declared.options.Setting.TheVariants.{Depth, Bound, Seed, Tries, Width}
use Rattle.tg_cmd.specs.declared.options.Chosen.{Chosen}
use Rattle.tg_types.specs.declared.options.Settings.{Settings}
use Rattle.tg_cmd.specs.Options.{option_word, Choice, IsChoice, spelled, IsAmong, nothing_chosen, choice_of, chosen, all_chosen, settings_in, ReadsOptions, IsFree, Spell, IsSpelled}

decimal_one : (m n : ℕ) → m < 2 ^ 64 → n < 2 ^ 64 → decimal m ≡ decimal n → m ≡ n
decimal_one m n p q e = sym (decimal_is_IsNumeral m p).1 ∙ (ap (digits_value 10) e ∙ (decimal_is_IsNumeral n q).1)

-- options differ in their third byte
abbrev letter : List ℕ → ℕ
letter (a ∷ b ∷ c ∷ cs) = c
letter _ = 0

word_one : (s t : Setting) → option_word s ≡ option_word t → s ≡ t
word_one Depth Depth e = refl
word_one Depth Bound e = let wrong : 100 ≡ 98 = ap letter e in absurd (omega (arith, wrong))
word_one Depth Seed e = let wrong : 100 ≡ 115 = ap letter e in absurd (omega (arith, wrong))
word_one Depth Tries e = let wrong : 100 ≡ 116 = ap letter e in absurd (omega (arith, wrong))
word_one Depth Width e = let wrong : 100 ≡ 119 = ap letter e in absurd (omega (arith, wrong))
word_one Bound Depth e = let wrong : 98 ≡ 100 = ap letter e in absurd (omega (arith, wrong))
word_one Bound Bound e = refl
word_one Bound Seed e = let wrong : 98 ≡ 115 = ap letter e in absurd (omega (arith, wrong))
word_one Bound Tries e = let wrong : 98 ≡ 116 = ap letter e in absurd (omega (arith, wrong))
word_one Bound Width e = let wrong : 98 ≡ 119 = ap letter e in absurd (omega (arith, wrong))
word_one Seed Depth e = let wrong : 115 ≡ 100 = ap letter e in absurd (omega (arith, wrong))
word_one Seed Bound e = let wrong : 115 ≡ 98 = ap letter e in absurd (omega (arith, wrong))
word_one Seed Seed e = refl
word_one Seed Tries e = let wrong : 115 ≡ 116 = ap letter e in absurd (omega (arith, wrong))
word_one Seed Width e = let wrong : 115 ≡ 119 = ap letter e in absurd (omega (arith, wrong))
word_one Tries Depth e = let wrong : 116 ≡ 100 = ap letter e in absurd (omega (arith, wrong))
word_one Tries Bound e = let wrong : 116 ≡ 98 = ap letter e in absurd (omega (arith, wrong))
word_one Tries Seed e = let wrong : 116 ≡ 115 = ap letter e in absurd (omega (arith, wrong))
word_one Tries Tries e = refl
word_one Tries Width e = let wrong : 116 ≡ 119 = ap letter e in absurd (omega (arith, wrong))
word_one Width Depth e = let wrong : 119 ≡ 100 = ap letter e in absurd (omega (arith, wrong))
word_one Width Bound e = let wrong : 119 ≡ 98 = ap letter e in absurd (omega (arith, wrong))
word_one Width Seed e = let wrong : 119 ≡ 115 = ap letter e in absurd (omega (arith, wrong))
word_one Width Tries e = let wrong : 119 ≡ 116 = ap letter e in absurd (omega (arith, wrong))
word_one Width Width e = refl

-- an allowed number is one of 64 bits
fits : (c : Choice) → IsChoice c → c.1 < 2 ^ 64
fits (Depth, n) h = omega (arith, h.1)
fits (Bound, n) h = omega (arith, h.1)
fits (Seed, n) h = omega (arith, h.1)
fits (Tries, n) h = omega (arith, h.1)
fits (Width, n) h = omega (arith, h.1)

one_choice : (option number : List ℕ) (c d : Choice) → IsSpelled option number c → IsSpelled option number d → c ≡ d
one_choice option number (s, m) (t, n) h k =
    let same = word_one s t (sym h.named ∙ k.named) in
    let equal = decimal_one m n (fits (s, m) h.allowed) (fits (t, n) k.allowed) (sym h.numbered ∙ k.numbered) in
    λ i. (same i, equal i)

-- two words are no choice where the option's number isn't allowed
pub not_allowed : (option number : List ℕ) (s : Setting) (n : ℕ) → n < 2 ^ 64 → option ≡ option_word s → number ≡ decimal n → ¬ IsChoice (s, n)
    → (c : Choice) → IsSpelled option number c → ⊥
not_allowed option number s n low e f refused (t, m) h =
    let same : t ≡ s = word_one t s (sym h.named ∙ e) in
    let equal : m ≡ n = decimal_one m n (fits (t, m) h.allowed) low (sym h.numbered ∙ f) in
    refused (subst (λ (c : Choice). IsChoice c) (λ i. (same i, equal i)) h.allowed)

All-nothing : {X : Type 0} (P : X → Type 0) → All P []
All-nothing P k d low = absurd (omega (arith, low))

-- ---- with one choice more

first_word : (v w : List ℕ) (vs ws : List (List ℕ)) → v ∷ vs ≡ w ∷ ws → v ≡ w
first_word v w vs ws e = cc

other_words : (v w : List ℕ) (vs ws : List (List ℕ)) → v ∷ vs ≡ w ∷ ws → vs ≡ ws
other_words v w vs ws e = cc

still_free : (given : Chosen) (s t : Setting) (n : ℕ) → (t ≡ s → ⊥) → choice_of given t ≡ None → choice_of (chosen given s n) t ≡ None
still_free given Depth Depth n other free = absurd (other refl)
still_free given Depth Bound n other free = free
still_free given Depth Seed n other free = free
still_free given Depth Tries n other free = free
still_free given Depth Width n other free = free
still_free given Bound Depth n other free = free
still_free given Bound Bound n other free = absurd (other refl)
still_free given Bound Seed n other free = free
still_free given Bound Tries n other free = free
still_free given Bound Width n other free = free
still_free given Seed Depth n other free = free
still_free given Seed Bound n other free = free
still_free given Seed Seed n other free = absurd (other refl)
still_free given Seed Tries n other free = free
still_free given Seed Width n other free = free
still_free given Tries Depth n other free = free
still_free given Tries Bound n other free = free
still_free given Tries Seed n other free = free
still_free given Tries Tries n other free = absurd (other refl)
still_free given Tries Width n other free = free
still_free given Width Depth n other free = free
still_free given Width Bound n other free = free
still_free given Width Seed n other free = free
still_free given Width Tries n other free = free
still_free given Width Width n other free = absurd (other refl)

was_free : (given : Chosen) (s t : Setting) (n : ℕ) → (t ≡ s → ⊥) → choice_of (chosen given s n) t ≡ None → choice_of given t ≡ None
was_free given Depth Depth n other free = absurd (other refl)
was_free given Depth Bound n other free = free
was_free given Depth Seed n other free = free
was_free given Depth Tries n other free = free
was_free given Depth Width n other free = free
was_free given Bound Depth n other free = free
was_free given Bound Bound n other free = absurd (other refl)
was_free given Bound Seed n other free = free
was_free given Bound Tries n other free = free
was_free given Bound Width n other free = free
was_free given Seed Depth n other free = free
was_free given Seed Bound n other free = free
was_free given Seed Seed n other free = absurd (other refl)
was_free given Seed Tries n other free = free
was_free given Seed Width n other free = free
was_free given Tries Depth n other free = free
was_free given Tries Bound n other free = free
was_free given Tries Seed n other free = free
was_free given Tries Tries n other free = absurd (other refl)
was_free given Tries Width n other free = free
was_free given Width Depth n other free = free
was_free given Width Bound n other free = free
was_free given Width Seed n other free = free
was_free given Width Tries n other free = free
was_free given Width Width n other free = absurd (other refl)

now_given : (given : Chosen) (s : Setting) (n : ℕ) → choice_of (chosen given s n) s ≡ Some n
now_given given Depth n = refl
now_given given Bound n = refl
now_given given Seed n = refl
now_given given Tries n = refl
now_given given Width n = refl

-- the choices behind one are of other options, which were as free before it
not_among : (given : Chosen) (s : Setting) (n : ℕ) (cs : List Choice) → All (IsFree (chosen given s n)) cs → ¬ IsAmong s cs
not_among given s n [] free among = absurd among
not_among given s n (c ∷ cs) free (inl e) =
    let head = All-head (IsFree (chosen given s n)) c cs free in
    let wrong : None ≡ Some n = sym head ∙ ap (choice_of (chosen given s n)) e ∙ now_given given s n in absurd cc
not_among given s n (c ∷ cs) free (inr among) = not_among given s n cs (All-tail (IsFree (chosen given s n)) c cs free) among

free_before : (given : Chosen) (s : Setting) (n : ℕ) (cs : List Choice) → ¬ IsAmong s cs → All (IsFree (chosen given s n)) cs → All (IsFree given) cs
free_before given s n [] other free = All-nothing (IsFree given)
free_before given s n (c ∷ cs) other free =
    All-cons (IsFree given) c cs (was_free given s c.0 n (λ e. other (inl e)) (All-head (IsFree (chosen given s n)) c cs free))
    (free_before given s n cs (λ i. other (inr i)) (All-tail (IsFree (chosen given s n)) c cs free))

free_behind : (given : Chosen) (s : Setting) (n : ℕ) (cs : List Choice) → ¬ IsAmong s cs → All (IsFree given) cs → All (IsFree (chosen given s n)) cs
free_behind given s n [] other free = All-nothing (IsFree (chosen given s n))
free_behind given s n (c ∷ cs) other free =
    All-cons (IsFree (chosen given s n)) c cs (still_free given s c.0 n (λ e. other (inl e)) (All-head (IsFree given) c cs free))
    (free_behind given s n cs (λ i. other (inr i)) (All-tail (IsFree given) c cs free))

-- ---- reading

-- some choices that the words are, with what is chosen then
abbrev Chosen_by : List (List ℕ) → Chosen → Chosen → Type 0
Chosen_by words given r = (cs : List Choice) × Spell words given cs × (r ≡ all_chosen given cs)

none_spelled : (given : Chosen) → Spell [] given []
none_spelled given = record { allowed = All-nothing IsChoice; once = tt; free = All-nothing (IsFree given); spelled = refl }

pub one_more : (words : List (List ℕ)) (w : List ℕ) → 1 ≤ length words → w ≡ get_or words 0 w → words ≡ w ∷ drop 1 words
one_more [] w low e = absurd (omega (arith, low))
one_more (x ∷ words) w low e = λ i. sym e i ∷ words

pub one_word : (words : List (List ℕ)) (given : Chosen) → 1 ≤ length words → length words < 2 → (cs : List Choice) → Spell words given cs → ⊥
one_word words given low high [] h = omega (arith, low, ap length h.spelled)
one_word words given low high (c ∷ cs) h = omega (arith, high, ap length h.spelled)

pub two_words : (words : List (List ℕ)) (v w : List ℕ) → 2 ≤ length words → v ≡ get_or words 0 v → w ≡ get_or words 1 w → words ≡ v ∷ w ∷ drop 2 words
two_words [] v w low p q = absurd (omega (arith, low))
two_words (x ∷ []) v w low p q = absurd (omega (arith, low))
two_words (x ∷ y ∷ words) v w low p q = λ i. sym p i ∷ sym q i ∷ words

-- the choice in front, and the choices behind it
module _ (words : List (List ℕ)) (option number : List ℕ) (rest : List (List ℕ)) (cut : words ≡ option ∷ number ∷ rest) (given : Chosen) where
  heads : (c : Choice) (cs : List Choice) → Spell words given (c ∷ cs) → IsSpelled option number c × (rest ≡ spelled cs)
  heads c cs h =
      let same : option ∷ number ∷ rest ≡ option_word c.0 ∷ decimal c.1 ∷ spelled cs = sym cut ∙ h.spelled in
      let behind = other_words _ _ _ _ same in
      (record { allowed = All-head IsChoice c cs h.allowed; named = first_word _ _ _ _ same; numbered = first_word _ _ _ _ behind }, other_words _ _ _ _ behind)

  pub no_choice : ((c : Choice) → IsSpelled option number c → ⊥) → (cs : List Choice) → Spell words given cs → ⊥
  no_choice none [] h = let wrong : option ∷ number ∷ rest ≡ [] = sym cut ∙ h.spelled in absurd cc
  no_choice none (c ∷ cs) h = none c (heads c cs h).0

  module _ (s : Setting) (n : ℕ) (read : IsSpelled option number (s, n)) where
    pub given_twice : choice_of given s ≢ None → (cs : List Choice) → Spell words given cs → ⊥
    given_twice twice [] h = let wrong : option ∷ number ∷ rest ≡ [] = sym cut ∙ h.spelled in absurd cc
    given_twice twice (c ∷ cs) h =
        let same : c ≡ (s, n) = one_choice option number c (s, n) (heads c cs h).0 read in
        twice (subst (λ (d : Choice). choice_of given d.0 ≡ None) same (All-head (IsFree given) c cs h.free))

    behind : (cs : List Choice) → Spell words given ((s, n) ∷ cs) → Spell rest (chosen given s n) cs
    behind cs h = record {
      allowed = All-tail IsChoice (s, n) cs h.allowed;
      once = h.once.1;
      free = free_behind given s n cs h.once.0 (All-tail (IsFree given) (s, n) cs h.free);
      spelled = (heads (s, n) cs h).1;
    }

    in_front : (cs : List Choice) → choice_of given s ≡ None → Spell rest (chosen given s n) cs → Spell words given ((s, n) ∷ cs)
    in_front cs free h =
        let other = not_among given s n cs h.free in
        record {
          allowed = All-cons IsChoice (s, n) cs read.allowed h.allowed;
          once = (other, h.once);
          free = All-cons (IsFree given) (s, n) cs free (free_before given s n cs other h.free);
          spelled = cut ∙ (λ i. read.named i ∷ read.numbered i ∷ h.spelled i);
        }

    pub with_choice : choice_of given s ≡ None → (o : Option Chosen)
        → MatchOption o ((cs : List Choice) → Spell rest (chosen given s n) cs → ⊥) (Chosen_by rest (chosen given s n))
        → MatchOption o ((cs : List Choice) → Spell words given cs → ⊥) (Chosen_by words given)
    with_choice free None h = none
      where
        none : (cs : List Choice) → Spell words given cs → ⊥
        none [] k = let wrong : option ∷ number ∷ rest ≡ [] = sym cut ∙ k.spelled in absurd cc
        none (c ∷ cs) k =
            let same : c ≡ (s, n) = one_choice option number c (s, n) (heads c cs k).0 read in
            h cs (behind cs (subst (λ d. Spell words given (d ∷ cs)) same k))
    with_choice free (Some r) h = ((s, n) ∷ h.0, in_front h.0 free h.1, h.2)

-- ---- all words

nothing_given : (s : Setting) → choice_of nothing_chosen s ≡ None
nothing_given Depth = refl
nothing_given Bound = refl
nothing_given Seed = refl
nothing_given Tries = refl
nothing_given Width = refl

same_choices : (cs ds : List Choice) → All IsChoice cs → All IsChoice ds → spelled cs ≡ spelled ds → cs ≡ ds
same_choices [] [] h k e = refl
same_choices [] (d ∷ ds) h k e = let wrong : [] ≡ option_word d.0 ∷ decimal d.1 ∷ spelled ds = e in cc
same_choices (c ∷ cs) [] h k e = let wrong : option_word c.0 ∷ decimal c.1 ∷ spelled cs ≡ [] = e in cc
same_choices (c ∷ cs) (d ∷ ds) h k e =
    let same : option_word c.0 ∷ decimal c.1 ∷ spelled cs ≡ option_word d.0 ∷ decimal d.1 ∷ spelled ds = e in
    let behind = other_words _ _ _ _ same in
    let first = one_choice (option_word c.0) (decimal c.1) c d
    (record { allowed = All-head IsChoice c cs h; named = refl; numbered = refl })
    (record { allowed = All-head IsChoice d ds k; named = first_word _ _ _ _ same; numbered = first_word _ _ _ _ behind }) in
    let others = same_choices cs ds (All-tail IsChoice c cs h) (All-tail IsChoice d ds k) (other_words _ _ _ _ behind) in
    λ i. first i ∷ others i

-- options make one list of settings
pub one_settings : (words : List (List ℕ)) (s t : Settings) → ReadsOptions words s → ReadsOptions words t → s ≡ t
one_settings words s t (cs, allowed, once, e, f) (ds, allowed', once', e', f') =
    let choices = same_choices cs ds allowed allowed' (sym e ∙ e') in
    f ∙ ap (λ (xs : List Choice). settings_in (all_chosen nothing_chosen xs)) choices ∙ sym f'

pub makes_settings : (words : List (List ℕ)) (given : Chosen) (s : Settings) → Chosen_by words nothing_chosen given → s ≡ settings_in given → ReadsOptions words s
makes_settings words given s (cs, spell, f) g = (cs, spell.allowed, spell.once, spell.spelled, g ∙ ap settings_in f)

pub no_settings : (words : List (List ℕ)) → ((cs : List Choice) → Spell words nothing_chosen cs → ⊥) → (s : Settings) → ReadsOptions words s → ⊥
no_settings words none s (cs, allowed, once, f, g) = none cs (record { allowed = allowed; once = once; free = free cs; spelled = f })
  where
    free : (cs : List Choice) → All (IsFree nothing_chosen) cs
    free [] = All-nothing (IsFree nothing_chosen)
    free (c ∷ cs) = All-cons (IsFree nothing_chosen) c cs (nothing_given c.0) (free cs)
