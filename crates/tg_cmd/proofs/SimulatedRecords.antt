-- What is recorded of a function that stands in is read as just this.
use Rattle.std.proofs.Common.{ℕ, suc, ◌≡◌, ◌+◌, ◌<◌, true, false, ◌||◌, inl, inr, List, [], ◌∷◌, map, length, Option, Some, None, refl, sym, ap, ◌∙◌, subst, arith}
use Rattle.std.specs.Prelude.{nat_eq, option_map}
use Rattle.std.proofs.lemmas.Bool.{eq-eqb, eqb-true, cases_Bool}
use Rattle.tg_accept.specs.Checks.{Each}
use Rattle.tg_hyps.specs.Hypotheses.{Class}
use Rattle.tg_derive.specs.Theorem.{Choice}
use Rattle.tg_harness.specs.ReadBack.{raw_item, IsAnswerNamed, AreNamed}
use Rattle.tg_harness.specs.Tests.{Record, record_of}
use Rattle.tg_model.proofs.Booleans.{or_right}
use Rattle.tg_model.specs.Accepted.{AreDistinct, constructor_names}
use Rattle.tg_model.specs.Theory.{Theory}
use Rattle.tg_model.specs.Value as model
use Rattle.tg_report.specs.RawValues.{raw_value}
use Rattle.tg_term.specs.Values.{value, value-Nat, value-Bool, value-Con}
use Rattle.tg_term.specs.declared.classes.Outcome.{Outcome}
use Rattle.tg_term.specs.declared.values.Value.{Value}
use Rattle.tg_term.specs.declared.values.Value.TheVariants.{Nat, Bool as Truth, Con}
use Rattle.tg_verdict.specs.Places.{is_among}
use Rattle.tg_verdict.specs.Records.{IsAnswerOf, AreRecords}
use Rattle.tg_cmd.specs.Judging.{tests_from}
use Rattle.tg_cmd.specs.StandIn.{simulated}
use Rattle.tg_cmd.specs.Tests.{tests_at}
use Rattle.tg_cmd.proofs.StandInAnswers.{IsRightAnswer, IsAnsweredRight}
use Rattle.tg_cmd.proofs.ValuesBack.{value_named, value_back}

-- ---- a value as the program has it

abbrev mutual
  coded : model.Value → Value
  coded (model.number n) = Nat n
  coded (model.boolean b) = Truth b
  coded (model.made c vs) = Con c (coded_all vs)

  coded_all : model.Values → List Value
  coded_all model.none = []
  coded_all (model.more v vs) = coded v ∷ coded_all vs

mutual
  value_coded : (v : model.Value) → value (coded v) ≡ v
  value_coded (model.number n) = value-Nat n
  value_coded (model.boolean b) = value-Bool b
  value_coded (model.made c vs) = value-Con c (coded_all vs) ∙ ap (model.made c) (values_coded vs)

  values_coded : (vs : model.Values) → model.values (map value (coded_all vs)) ≡ vs
  values_coded model.none = refl
  values_coded (model.more v vs) = λ i. model.more (value_coded v i) (values_coded vs i)

abbrev coded_answer : Option model.Value → Option Value
coded_answer o = option_map coded o

answer_coded : (o : Option model.Value) → option_map value (coded_answer o) ≡ o
answer_coded None = refl
answer_coded (Some v) = ap Some (value_coded v)

abbrev pub outcome_of : Record → Outcome
outcome_of r = record { test = r.test; answer = coded_answer r.answer }

pub records_coded : (rs : List Record) → map record_of (map outcome_of rs) ≡ rs
records_coded [] = refl
records_coded (r ∷ rs) = λ i. record { test = r.test; answer = answer_coded r.answer i } ∷ records_coded rs i

-- ---- what is recorded is an answer

module _ (th : Theory) (distinct : AreDistinct (constructor_names th.datatypes)) (known : List ℕ) where
  answer_read : (o : Option model.Value) → IsRightAnswer th o → IsAnswerOf th known (option_map (raw_value th) o) o
  answer_read None h = tt
  answer_read (Some v) h = (value_back th distinct v (value_named th v th.program.answer h.0 h.1), h.0)

  answer_is : (o : Option model.Value) → IsRightAnswer th o
      → IsAnswerOf th known (option_map (raw_value th) o) (option_map value (coded_answer o))
  answer_is o h = subst (IsAnswerOf th known (option_map (raw_value th) o)) (sym (answer_coded o)) (answer_read o h)

  -- ---- the records are of the tests, one after another

  abbrev Below : ℕ → List ℕ → Type 0
  Below n before = (k : ℕ) → is_among k before ≡ true → k < n

  abbrev Known : List ℕ → Type 0
  Known ns = (k : ℕ) → is_among k ns ≡ true → is_among k known ≡ true

  itself : (n : ℕ) (ns : List ℕ) → is_among n (n ∷ ns) ≡ true
  itself n ns = ap (λ b. b || is_among n ns) (eq-eqb n n refl)

  fresh : (n : ℕ) (before : List ℕ) → Below n before → is_among n before ≡ false
  fresh n before below = elim (cases_Bool (is_among n before)) [
    | inl there ↦ absurd (let less : n < n = below n there in omega (arith, less))
    | inr other ↦ other
  ]

  below_next : (n : ℕ) (before : List ℕ) → Below n before → Below (suc n) (n ∷ before)
  below_next n before below k e = elim (cases_Bool (nat_eq k n)) [
    | inl same ↦ let equal : k ≡ n = eqb-true k n same in omega (arith, equal)
    | inr other ↦ let less : k < n = below k (rw other at e) in omega (arith, less)
  ]

  known_next : (n : ℕ) (ns : List ℕ) → Known (n ∷ ns) → Known ns
  known_next n ns all k e = all k (or_right (nat_eq k n) (is_among k ns) e)

  pub records_read : (m n : ℕ) (cs : List Class) (xs : List Choice) (before : List ℕ) → Below n before → Known (tests_from n xs)
      → Each (IsAnsweredRight th m) (tests_at n cs xs)
      → AreRecords th known before (map (raw_item th) (simulated th m (tests_at n cs xs)))
      (map outcome_of (simulated th m (tests_at n cs xs)))
  records_read m n [] xs before below all right = tt
  records_read m n (c ∷ cs) [] before below all right = tt
  records_read m n (c ∷ cs) (None ∷ xs) before below all right =
      records_read m (suc n) cs xs before (λ k e. let less : k < n = below k e in omega (arith, less)) all right
  records_read m n (c ∷ cs) (Some vs ∷ xs) before below all right = (
    record {
      of_test = record { known_test = all n (itself n (tests_from (suc n) xs)); fresh = fresh n before below };
      number = refl;
      answer = answer_is _ right.0;
    },
    records_read m (suc n) cs xs (n ∷ before) (below_next n before below) (known_next n (tests_from (suc n) xs) all) right.1,
  )

-- ---- they can be written

module _ (th : Theory) where
  answer_named : (o : Option model.Value) → IsRightAnswer th o → IsAnswerNamed th o
  answer_named None h = tt
  answer_named (Some v) h = value_named th v th.program.answer h.0 h.1

  pub records_named : (m n : ℕ) (cs : List Class) (xs : List Choice) → n + length cs < 18446744073709551616
      → Each (IsAnsweredRight th m) (tests_at n cs xs)
      → AreNamed th (simulated th m (tests_at n cs xs))
  records_named m n [] xs few right = tt
  records_named m n (c ∷ cs) [] few right = tt
  records_named m n (c ∷ cs) (None ∷ xs) few right = records_named m (suc n) cs xs (omega (arith, few)) right
  records_named m n (c ∷ cs) (Some vs ∷ xs) few right =
      ((omega (arith, few), answer_named _ right.0), records_named m (suc n) cs xs (omega (arith, few)) right.1)
