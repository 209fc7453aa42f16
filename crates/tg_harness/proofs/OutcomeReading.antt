-- Outcomes are read back.
use Rattle.std.proofs.Common.{ℕ, ◌≡◌, ◌<◌, ◌^◌, true, List, [], ◌∷◌, ◌++◌, map, Option, Some, None, inl, inr, refl, sym, ap, ◌∙◌, subst, append_assoc}
use Prim.Native.String.{String}
use Rattle.std.specs.Prelude.{codes}
use Rattle.tg_model.specs.Theory.{Theory}
use Rattle.tg_model.specs.Value.{Value}
use Rattle.tg_types.specs.declared.options.Settings.{Settings}
use Rattle.tg_rules.specs.Rule.{nt, has, ◌∙∙◌}
use Rattle.tg_rules.specs.Texts.{Is}
use Rattle.tg_rules.proofs.Heights.{by_rule}
use Rattle.tg_grammar.specs.declared.outcomes.RawItem.{RawItem}
use Rattle.tg_grammar.specs.Kinds.{semicolon}
use Rattle.tg_grammar.specs.Notation.{Grammar, quoted, number, ◌▸◌, ◌◂◌}
use Rattle.tg_grammar.specs.Page.{page}
use Rattle.tg_grammar.specs.Parts.{Outcomes, Items, Item, Answer}
use Rattle.tg_grammar.specs.Reading.{IsText, kind}
use Rattle.tg_grammar.specs.Seen.{Seen, word_kind}
use Rattle.tg_theory.specs.Wholes.{IsWritten}
use Rattle.tg_render.specs.Laws.{AreAllProper}
use Rattle.tg_render.specs.Tokens.{name, numeral, joined, AreProper}
use Rattle.tg_render.proofs.Proper.{words, numerals}
use Rattle.tg_render.proofs.Forward.{lines_back}
use Rattle.tg_report.specs.ValueTexts.{value_tokens}
use Rattle.tg_report.specs.RawValues.{raw_value}
use Rattle.tg_report.proofs.ProperTokens.{number_kinds, symbol, proper-append}
use Rattle.tg_report.proofs.ValueReading.{atom}
use Rattle.tg_harness.specs.Tests.{Record}
use Rattle.tg_harness.specs.OutcomeTexts.{head_line, recorded, record_lines, end_line, outcome_lines, stop}
use Rattle.tg_harness.specs.ReadBack.{raw_item, raw_outcomes, AreSmall, IsAnswerNamed, AreNamed, OutcomesReadBack}

-- ---- what stands behind one another

after : {A : Type 0} (text : String) (g : Grammar A) (v : A) (t : Seen) (ts : List Seen) → has (quoted text ∷ []) t.kind ≡ true → Is kind IsText g v ts
    → Is kind IsText (text ▸ g) v (t ∷ ts)
after text g v t ts h m = ((t, v), refl, (t ∷ [], ts, (h, refl), m, refl))

before : {A : Type 0} (text : String) (g : Grammar A) (v : A) (t : Seen) (ts : List Seen) → has (quoted text ∷ []) t.kind ≡ true → Is kind IsText g v ts
    → Is kind IsText (g ◂ text) v (ts ++ t ∷ [])
before text g v t ts h m = ((v, t), refl, (ts, t ∷ [], m, (h, refl), refl))

a_number : (n : ℕ) → Is kind IsText number n (numeral n ∷ [])
a_number n = (numeral n, refl, (number_kinds n, refl))

number_then : {A : Type 0} (n : ℕ) (g : Grammar A) (v : A) (ts : List Seen) → Is kind IsText g v ts → Is kind IsText (number ∙∙ g) (n, v) (numeral n ∷ ts)
number_then n g v ts m = (numeral n ∷ [], ts, a_number n, m, refl)

-- a word, a number, and what follows
field : {A : Type 0} (text : String) (g : Grammar A) (n : ℕ) (v : A) (t : Seen) (ts : List Seen) → has (quoted text ∷ []) t.kind ≡ true → Is kind IsText g v ts
    → Is kind IsText (text ▸ number ∙∙ g) (n, v) (t ∷ numeral n ∷ ts)
field text g n v t ts h m = after text (number ∙∙ g) (n, v) t (numeral n ∷ ts) h (number_then n g v ts m)

-- ---- the parts of the header

abbrev from_begin : Grammar (List RawItem)
from_begin = "begin" ▸ nt Items ◂ "end"

abbrev from_width : Grammar (ℕ × List RawItem)
from_width = "width" ▸ number ∙∙ from_begin

abbrev from_tries : Grammar (ℕ × (ℕ × List RawItem))
from_tries = "tries" ▸ number ∙∙ from_width

abbrev from_seed : Grammar (ℕ × (ℕ × (ℕ × List RawItem)))
from_seed = "seed" ▸ number ∙∙ from_tries

abbrev from_bound : Grammar (ℕ × (ℕ × (ℕ × (ℕ × List RawItem))))
from_bound = "bound" ▸ number ∙∙ from_seed

abbrev from_depth : Grammar (ℕ × (ℕ × (ℕ × (ℕ × (ℕ × List RawItem)))))
from_depth = "depth" ▸ number ∙∙ from_bound

-- ---- records

module _ (th : Theory) (written : IsWritten th) where
  answer_read : (v : Value) → IsAnswerNamed th (Some v) → IsText Answer (raw_value th v) (value_tokens th v)
  answer_read v h = by_rule kind page Answer (raw_value th v) (value_tokens th v) (inl (atom th v written h).read)

  record_read : (n : ℕ) (o : Option Value) → IsAnswerNamed th o → Is kind IsText (page Item) (raw_item th (record { test = n; answer = o })) (recorded th n o)
  unfolding word_kind
  record_read n (Some v) h =
      let value = raw_value th v in
      let ts = value_tokens th v in
      inl (
        (n, value),
        refl,
        field "answer" (nt Answer ◂ ";") n value (name (codes "answer")) (ts ++ stop ∷ []) refl
            (before ";" (nt Answer) value stop ts refl (answer_read v h)),
      )
  record_read n None h =
      inr (
        n,
        refl,
        after "raised" (number ◂ ";") n (name (codes "raised")) (numeral n ∷ stop ∷ []) refl
            (before ";" number n stop (numeral n ∷ []) refl (a_number n)),
      )

  item_read : (r : Record) → IsAnswerNamed th r.answer → IsText Item (raw_item th r) (recorded th r.test r.answer)
  item_read r h = by_rule kind page Item (raw_item th r) (recorded th r.test r.answer) (record_read r.test r.answer h)

  items_read : (rs : List Record) → AreNamed th rs → IsText Items (map (raw_item th) rs) (joined (record_lines th rs))
  items_read [] h = by_rule kind page Items [] [] (None, refl, inl (refl, refl))
  items_read (r ∷ rs) h =
      by_rule kind page Items (map (raw_item th) (r ∷ rs)) (joined (record_lines th (r ∷ rs))) (
        Some (raw_item th r, map (raw_item th) rs),
        refl,
        inr (
          (raw_item th r, map (raw_item th) rs),
          refl,
          (recorded th r.test r.answer, joined (record_lines th rs), item_read r h.0.1, items_read rs h.1, refl),
        ),
      )

  at_end : (tss : List (List Seen)) (t : Seen) → joined (tss ++ (t ∷ []) ∷ []) ≡ joined tss ++ t ∷ []
  at_end [] t = refl
  at_end (ts ∷ tss) t = ap (λ l. ts ++ l) (at_end tss t) ∙ sym (append_assoc ts (joined tss) (t ∷ []))

  whole : (s : Settings) (rs : List Record) → AreNamed th rs → IsText Outcomes (raw_outcomes th s rs) (joined (outcome_lines th s rs))
  unfolding word_kind
  whole s rs h =
      let items = map (raw_item th) rs in
      let ts = joined (record_lines th rs) in
      let end = name (codes "end") in
      let t0 : List Seen = name (codes "begin") ∷ (ts ++ end ∷ []) in
      let t1 : List Seen = name (codes "width") ∷ numeral s.width ∷ t0 in
      let t2 : List Seen = name (codes "tries") ∷ numeral s.tries ∷ t1 in
      let t3 : List Seen = name (codes "seed") ∷ numeral s.seed ∷ t2 in
      let t4 : List Seen = name (codes "bound") ∷ numeral s.bound ∷ t3 in
      let t5 : List Seen = name (codes "depth") ∷ numeral s.depth ∷ t4 in
      let m0 = after "begin" (nt Items ◂ "end") items (name (codes "begin")) (ts ++ end ∷ []) refl
      (before "end" (nt Items) items end ts refl (items_read rs h)) in
      let m1 = field "width" from_begin s.width items (name (codes "width")) t0 refl m0 in
      let m2 = field "tries" from_width s.tries (s.width, items) (name (codes "tries")) t1 refl m1 in
      let m3 = field "seed" from_tries s.seed (s.tries, (s.width, items)) (name (codes "seed")) t2 refl m2 in
      let m4 = field "bound" from_seed s.bound (s.seed, (s.tries, (s.width, items))) (name (codes "bound")) t3 refl m3 in
      let m5 = field "depth" from_bound s.depth (s.bound, (s.seed, (s.tries, (s.width, items)))) (name (codes "depth")) t4 refl m4 in
      let all : ℕ × (ℕ × (ℕ × (ℕ × (ℕ × List RawItem)))) = (s.depth, (s.bound, (s.seed, (s.tries, (s.width, items))))) in
      subst (λ (us : List Seen). IsText Outcomes (raw_outcomes th s rs) (head_line s ++ us)) (sym (at_end (record_lines th rs) end))
      (by_rule kind page Outcomes (raw_outcomes th s rs) (head_line s ++ (ts ++ end ∷ []))
      (all, refl, after "outcomes" from_depth all (name (codes "outcomes")) t5 refl m5))

  -- ---- the tokens are proper

  record_proper : (r : Record) → r.test < 2 ^ 64 → IsAnswerNamed th r.answer → AreProper (recorded th r.test r.answer)
  record_proper r h n = by r.answer n
    where
      by : (o : Option Value) → IsAnswerNamed th o → AreProper (recorded th r.test o)
      by (Some v) n = (words (codes "answer") refl, (numerals r.test h, proper-append (value_tokens th v) (stop ∷ []) (atom th v written n).proper (symbol semicolon (codes ";") refl, tt)))
      by None n = (words (codes "raised") refl, (numerals r.test h, (symbol semicolon (codes ";") refl, tt)))

  all_proper : (rs : List Record) → AreNamed th rs → AreAllProper (record_lines th rs ++ end_line ∷ [])
  all_proper [] h = ((words (codes "end") refl, tt), tt)
  all_proper (r ∷ rs) h = (record_proper r h.0.0 h.0.1, all_proper rs h.1)

  head_proper : (s : Settings) → AreSmall s → AreProper (head_line s)
  head_proper s (d, b, e, t, w) = (
    words (codes "outcomes") refl,
    (
      words (codes "depth") refl,
      (
        numerals s.depth d,
        (
          words (codes "bound") refl,
          (
            numerals s.bound b,
            (
              words (codes "seed") refl,
              (
                numerals s.seed e,
                (
                  words (codes "tries") refl,
                  (
                    numerals s.tries t,
                    (
                      words (codes "width") refl,
                      (
                        numerals s.width w,
                        (words (codes "begin") refl, tt),
                      ),
                    ),
                  ),
                ),
              ),
            ),
          ),
        ),
      ),
    ),
  )

pub outcomes_back : OutcomesReadBack
outcomes_back th s rs written small h =
    (lines_back (outcome_lines th s rs) (head_proper th written s small, all_proper th written rs h), whole th written s rs h)
