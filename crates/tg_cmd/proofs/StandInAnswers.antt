-- What a function answers that stands in is of the program's answer type, and its numbers are below 2^64.
use Rattle.std.proofs.Common.{ℕ, zero, suc, ◌≡◌, false, List, [], ◌∷◌, length, Option, Some, None, refl, sym, subst, All}
use Rattle.std.proofs.lemmas.List.Elements.{All-nil, All-cons}
use Rattle.tg_accept.specs.Checks.{Each}
use Rattle.tg_derive.specs.Laws.{IsChosen, AreChosen}
use Rattle.tg_derive.specs.Theorem.{Choice}
use Rattle.tg_eval.specs.Answering.{value_part}
use Rattle.tg_eval.specs.Limited.{Outcome, limited_value}
use Rattle.tg_eval.specs.Numbers.{IsSmall, AreSmall}
use Rattle.tg_eval.specs.Reading.{IsSimple}
use Rattle.tg_eval.proofs.Laws.{limited_without_calls}
use Rattle.tg_eval.proofs.Numbers.{place_small, limited_is_small}
use Rattle.tg_harness.specs.Tests.{Test}
use Rattle.tg_hyps.specs.Hypotheses.{Class}
use Rattle.tg_hyps.specs.Meaning.{IsClassOf}
use Rattle.tg_model.proofs.CallSoundness.{soundness}
use Rattle.tg_model.specs.Accepted.{IsAccepted, variables_from}
use Rattle.tg_model.specs.Calls.{have_call}
use Rattle.tg_model.specs.Denotation.{world, values_in}
use Rattle.tg_model.specs.Filling.{fill, filled_term}
use Rattle.tg_model.specs.Theory.{Theory, AreClosed}
use Rattle.tg_model.specs.Tree as tree
use Rattle.tg_model.specs.Tree.{Tree, Trees, trees}
use Rattle.tg_model.specs.TermTyping.{AllTyped}
use Rattle.tg_model.specs.Types.{Ty, tys}
use Rattle.tg_model.specs.Typing.{HasType, AreTyped}
use Rattle.tg_model.specs.Value.{Value, number, boolean, made, values, wrong}
use Rattle.tg_solver.specs.Candidates.{first_candidate}
use Rattle.tg_types.specs.declared.options.Settings.{Settings}
use Rattle.tg_cmd.specs.Data.{found}
use Rattle.tg_cmd.specs.StandIn.{StandsIn, call_of, answer_at}
use Rattle.tg_cmd.specs.Tests.{tests_at}
use Rattle.tg_cmd.proofs.SimpleVariables.{IsFilledClass}
use Rattle.tg_cmd.proofs.SmallData.{AreInRange, AreSimpleValues, data_simple}
use Rattle.tg_cmd.proofs.StandIns.{typed_where_fits}

-- ---- numbers of values

simple_small : (v : Value) → IsSimple v → IsSmall v
simple_small (number n) h = h
simple_small (boolean b) h = tt
simple_small (made c vs) h = absurd h

each_simple_small : (vs : List Value) → AreSimpleValues vs → All IsSmall vs
each_simple_small [] h = All-nil IsSmall
each_simple_small (v ∷ vs) h = All-cons IsSmall v vs (simple_small v h.0) (each_simple_small vs h.1)

each_small : (vs : List Value) → AreSmall (values vs) → All IsSmall vs
each_small [] h = All-nil IsSmall
each_small (v ∷ vs) h = All-cons IsSmall v vs h.0 (each_small vs h.1)

-- a pattern at small values
module _ (vs : List Value) (small : All IsSmall vs) where
  mutual
    term_small : (t : Tree) → IsSmall (filled_term vs t)
    term_small (tree.free n) = place_small vs small n
    term_small (tree.con c ts) = fill_small ts
    term_small (tree.bound k) = tt
    term_small (tree.literal n) = tt
    term_small (tree.truth b) = tt
    term_small (tree.call f ts) = tt
    term_small (tree.put ts) = tt
    term_small (tree.choice ts) = tt
    term_small (tree.case d t arms) = tt
    term_small (tree.bind t body) = tt
    term_small (tree.op o ts) = tt

    fill_small : (ts : Trees) → AreSmall (values (fill vs ts))
    fill_small tree.none = tt
    fill_small (tree.more t ts) = (term_small t, fill_small ts)

-- ---- the answer

-- it has the answer's type and small numbers, where there is one
abbrev pub IsRightAnswer : Theory → Option Value → Type 0
IsRightAnswer th None = Unit {0}
IsRightAnswer th (Some v) = HasType th v th.program.answer × IsSmall v

no_call : (k n : ℕ) → have_call (trees (variables_from k n)) ≡ false
no_call k zero = refl
no_call k (suc n) = no_call (suc k) n

pub record IsRightTest (th : Theory) (t : Test) : Type 0 where
  pub typed : AreTyped th t.datum th.program.inputs
  pub small : AreSmall (values t.datum)

abbrev pub IsSimpleChoice : Choice → Type 0
IsSimpleChoice None = Unit {0}
IsSimpleChoice (Some vs) = AreSimpleValues vs

abbrev pub IsAnsweredRight : Theory → ℕ → Test → Type 0
IsAnsweredRight th n t = IsRightAnswer th (answer_at th n t.datum)

module _ (th : Theory) (accepted : IsAccepted th) where
  answer_right : (name : List ℕ) (n : ℕ) → StandsIn th name n → (inputs : List Value) → AreTyped th inputs th.program.inputs
      → AreSmall (values inputs)
      → IsRightAnswer th (answer_at th n inputs)
  answer_right name n h inputs typed small = by (limited_value th wrong inputs (call_of th n)) refl
    where
      by : (o : Outcome) → limited_value th wrong inputs (call_of th n) ≡ o → IsRightAnswer th (value_part o)
      by None e = tt
      by (Some r) e =
          let closed = accepted.well_typed.inputs in
          let is_call = typed_where_fits th n (h.function, h.named.at, h.fits) in
          let same = limited_without_calls th [] accepted tt wrong th.program.inputs inputs
          (call_of th n) th.program.answer closed typed is_call
          (no_call 1 (length th.program.inputs)) 500 10000 r.1 r.0 e in (
            subst (λ v. HasType th v th.program.answer) (sym same)
                (soundness th [] accepted.well_typed tt th.program.inputs [] inputs []
                (call_of th n) th.program.answer closed tt accepted.well_typed.answer typed tt is_call),
            limited_is_small th wrong tt inputs [] (each_small inputs small) (All-nil IsSmall) 500 10000 r.1 (call_of th n) r.0 e,
          )

  -- ---- the inputs of tests

  inputs_typed : (vars : List Ty) (vs : List Value) → AreClosed th (tys vars) → AreTyped th vs vars → (ts : Trees) (us : List Ty)
      → AreClosed th (tys us)
      → AllTyped th vars [] ts us → AreTyped th (values_in (world th []) vs [] ts) us
  inputs_typed vars vs closed typed tree.none [] c h = tt
  inputs_typed vars vs closed typed tree.none (u ∷ us) c h = absurd h
  inputs_typed vars vs closed typed (tree.more t ts) [] c h = absurd h
  inputs_typed vars vs closed typed (tree.more t ts) (u ∷ us) c h = (
    soundness th [] accepted.well_typed tt vars [] vs [] t u closed tt c.0 typed tt h.0,
    inputs_typed vars vs closed typed ts us c.1 h.1,
  )

  pub data_are_simple : (s : Settings) → AreInRange s → (n : ℕ) (cs : List Class) → Each IsSimpleChoice (found th s n cs)
  data_are_simple s range n [] = tt
  data_are_simple s range n (c ∷ cs) = (by (first_candidate th c.variables c.constraints s n) refl, data_are_simple s range (suc n) cs)
    where
      by : (x : Choice) → first_candidate th c.variables c.constraints s n ≡ x → IsSimpleChoice x
      by None e = tt
      by (Some vs) e = data_simple th c.variables c.constraints s n vs range e

  datum_right : (n : ℕ) (c : Class) (vs : List Value) → IsClassOf th c → IsFilledClass th c → IsChosen th c (Some vs) → AreSimpleValues vs
      → IsRightTest th (record { number = n; datum = fill vs c.inputs })
  datum_right n c vs is filled chosen simple = record {
    typed = subst (λ ds. AreTyped th ds th.program.inputs) (filled [] vs)
        (inputs_typed c.variables vs is.closed chosen.0 c.inputs th.program.inputs accepted.well_typed.inputs is.inputs);
    small = fill_small vs (each_simple_small vs simple) c.inputs;
  }

  pub tests_right : (n : ℕ) (cs : List Class) (xs : List Choice) → Each (IsClassOf th) cs → Each (IsFilledClass th) cs
      → AreChosen th cs xs → Each IsSimpleChoice xs
      → Each (IsRightTest th) (tests_at n cs xs)
  tests_right n [] xs is filled chosen simple = tt
  tests_right n (c ∷ cs) [] is filled chosen simple = tt
  tests_right n (c ∷ cs) (None ∷ xs) is filled chosen simple = tests_right (suc n) cs xs is.1 filled.1 chosen.1 simple.1
  tests_right n (c ∷ cs) (Some vs ∷ xs) is filled chosen simple =
      (datum_right n c vs is.0 filled.0 chosen.0 simple.0, tests_right (suc n) cs xs is.1 filled.1 chosen.1 simple.1)

  -- ---- the answers to them

  pub all_answered : (name : List ℕ) (n : ℕ) → StandsIn th name n → (ts : List Test) → Each (IsRightTest th) ts
      → Each (IsAnsweredRight th n) ts
  all_answered name n h [] r = tt
  all_answered name n h (t ∷ ts) r = (answer_right name n h t.datum r.0.typed r.0.small, all_answered name n h ts r.1)
