-- Values are read back.
use Rattle.std.proofs.Common.{ℕ, ◌<◌, ◌^◌, Bool, true, false, List, [], ◌∷◌, ◌++◌, Some, None, inl, inr, refl}
use Rattle.std.specs.Prelude.{codes}
use Rattle.tg_model.specs.Theory.{Theory}
use Rattle.tg_model.specs.Value as values
use Rattle.tg_grammar.specs.declared.terms.RawTerm.{RawTerm}
use Rattle.tg_grammar.specs.declared.terms.RawTerm.TheVariants as raw
use Rattle.tg_grammar.specs.Kinds as kinds
use Rattle.tg_grammar.specs.Seen.{Seen, word_kind}
use Rattle.tg_grammar.specs.Parts.{PlainAnswer, AnswerAtom, Answer, AnswerAtoms}
use Rattle.tg_theory.specs.Wholes.{IsWritten}
use Rattle.tg_render.specs.Tokens.{mark, name, numeral, enclosed, joined, application, IsNameWord}
use Rattle.tg_render.proofs.Proper.{words, numerals}
use Rattle.tg_render.proofs.Forward.{tokens_back}
use Rattle.tg_report.specs.Words.{truth_token}
use Rattle.tg_report.specs.ValueTexts.{value_tokens, values_tokens}
use Rattle.tg_report.specs.RawValues.{raw_value, raw_values, IsNamed, AreNamed}
use Rattle.tg_report.specs.ReadBack.{IsReadBack}
use Rattle.tg_report.proofs.NameWords.{name_word, constructor_named}
use Rattle.tg_report.proofs.ProperTokens.{IsPart, made, proper-append, proper-enclosed, keyword, number_kinds}

abbrev opening : Seen
opening = mark kinds.open_paren (codes "(")

abbrev closing : Seen
closing = mark kinds.close_paren (codes ")")

plain : (v : RawTerm) (ts : List Seen) → IsPart PlainAnswer v ts → IsPart AnswerAtom v ts
plain v ts a = made AnswerAtom v ts a.proper (inl a.read)

a_number : (n : ℕ) → n < 2 ^ 64 → IsPart AnswerAtom (raw.Num n) (numeral n ∷ [])
a_number n h =
    plain (raw.Num n) (numeral n ∷ [])
    (made PlainAnswer (raw.Num n) (numeral n ∷ []) (numerals n h, tt) (inl (n, refl, (numeral n, refl, (number_kinds n, refl)))))

a_truth : (b : Bool) → IsPart AnswerAtom (raw.Truth b) (truth_token b ∷ [])
unfolding word_kind
a_truth true = let t = truth_token true in
    plain (raw.Truth true) (t ∷ [])
    (made PlainAnswer (raw.Truth true) (t ∷ []) (keyword kinds.true_word (codes "True") refl refl, tt) (inr (inl (t, refl, (refl, refl)))))
a_truth false = let t = truth_token false in
    plain (raw.Truth false) (t ∷ [])
    (made PlainAnswer (raw.Truth false) (t ∷ []) (keyword kinds.false_word (codes "False") refl refl, tt) (inr (inr (inl (t, refl, (refl, refl))))))

a_name : (x : List ℕ) → IsNameWord x → IsPart AnswerAtom (raw.Use x []) (name x ∷ [])
a_name x w = made AnswerAtom (raw.Use x []) (name x ∷ []) (words x w.0, tt) (inr (x, refl, (name x, refl, (w.1, refl))))

in_brackets : (v : RawTerm) (ts : List Seen) → IsPart Answer v ts → IsPart AnswerAtom v (enclosed ts)
in_brackets v ts a =
    plain v (enclosed ts)
    (made PlainAnswer v (enclosed ts) (proper-enclosed ts a.proper)
    (inr (inr (inr (
      (opening, v),
      refl,
      (
        opening ∷ [],
        ts ++ closing ∷ [],
        (refl, refl),
        (
          (v, closing),
          refl,
          (
            ts,
            closing ∷ [],
            a.read,
            (refl, refl),
            refl,
          ),
        ),
        refl,
      ),
    )))))

no_more : IsPart AnswerAtoms [] []
no_more = made AnswerAtoms [] [] tt (None, refl, inl (refl, refl))

one_more : (v : RawTerm) (vs : List RawTerm) (ts us : List Seen) → IsPart AnswerAtom v ts → IsPart AnswerAtoms vs us → IsPart AnswerAtoms (v ∷ vs) (ts ++ us)
one_more v vs ts us a b =
    made AnswerAtoms (v ∷ vs) (ts ++ us) (proper-append ts us a.proper b.proper) (Some (v, vs), refl, inr ((v, vs), refl, (ts, us, a.read, b.read, refl)))

a_use : (x : List ℕ) (v : RawTerm) (vs : List RawTerm) (ts us : List Seen) → IsNameWord x → IsPart AnswerAtom v ts → IsPart AnswerAtoms vs us
    → IsPart Answer (raw.Use x (v ∷ vs)) (name x ∷ (ts ++ us))
a_use x v vs ts us w a b =
    made Answer (raw.Use x (v ∷ vs)) (name x ∷ (ts ++ us)) (words x w.0, proper-append ts us a.proper b.proper)
    (inr ((x, v ∷ vs), refl, (name x ∷ [], ts ++ us, (name x, refl, (w.1, refl)), ((v, vs), refl, (ts, us, a.read, b.read, refl)), refl)))

abbrev AreAtoms : List RawTerm → List (List Seen) → Type 0
AreAtoms [] [] = Unit {0}
AreAtoms [] (x ∷ xs) = ⊥
AreAtoms (v ∷ vs) [] = ⊥
AreAtoms (v ∷ vs) (x ∷ xs) = IsPart AnswerAtom v x × AreAtoms vs xs

all_of : (vs : List RawTerm) (xs : List (List Seen)) → AreAtoms vs xs → IsPart AnswerAtoms vs (joined xs)
all_of [] [] a = no_more
all_of [] (x ∷ xs) a = absurd a
all_of (v ∷ vs) [] a = absurd a
all_of (v ∷ vs) (x ∷ xs) (a, others) = one_more v vs x (joined xs) a (all_of vs xs others)

applied : (x : List ℕ) (vs : List RawTerm) (xs : List (List Seen)) → IsNameWord x → AreAtoms vs xs
    → IsPart AnswerAtom (raw.Use x vs) (application (name x) xs)
applied x [] [] w a = a_name x w
applied x [] (t ∷ ts) w a = absurd a
applied x (v ∷ vs) [] w a = absurd a
applied x (v ∷ vs) (t ∷ ts) w (a, others) =
    in_brackets (raw.Use x (v ∷ vs)) (name x ∷ (t ++ joined ts)) (a_use x v vs t (joined ts) w a (all_of vs ts others))

mutual
  pub atom : (th : Theory) (v : values.Value) → IsWritten th → IsNamed th v → IsPart AnswerAtom (raw_value th v) (value_tokens th v)
  atom th (values.number n) w h = a_number n h
  atom th (values.boolean b) w h = a_truth b
  atom th (values.made c vs) w (h, hs) = applied _ (raw_values th vs) (values_tokens th vs) (name_word _ (constructor_named th c w h)) (atoms th vs w hs)

  atoms : (th : Theory) (vs : values.Values) → IsWritten th → AreNamed th vs → AreAtoms (raw_values th vs) (values_tokens th vs)
  atoms th values.none w h = tt
  atoms th (values.more v vs) w (h, hs) = (atom th v w h, atoms th vs w hs)

pub values_back : (th : Theory) (v : values.Value) → IsWritten th → IsNamed th v → IsReadBack AnswerAtom (raw_value th v) (value_tokens th v)
values_back th v w h = let a = atom th v w h in (tokens_back (value_tokens th v) a.proper, a.read)
