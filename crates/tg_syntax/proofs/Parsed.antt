-- What a reader has read of all tokens, and what it has left, tell the text or the fault.
use Rattle.std.proofs.Common.{◌≡◌, ℕ, ◌-◌, true, false, List, [], ◌∷◌, ◌++◌, length, take, Result, Ok, Err, sym, ap, subst, ◌∙◌, arith}
use Rattle.std.proofs.lemmas.List.{length-map, length-append}
use Rattle.std.proofs.Math.Seq.{take-append_seam}
use Rattle.tg_lex.specs.declared.token.Token.{Token}
use Rattle.tg_lex.specs.Load.{load_limit, load_passes}
use Rattle.tg_rules.specs.Fault.{IsFault}
use Rattle.tg_rules.specs.Reader.{ok, err}
use Rattle.tg_rules.proofs.Whole as whole
use Rattle.tg_grammar.specs.Seen.{Seen, seen, seen_token, declarations}
use Rattle.tg_grammar.specs.Words.{version_one}
use Rattle.tg_grammar.specs.Parts.{Part, Value}
use Rattle.tg_grammar.specs.Table.{table}
use Rattle.tg_grammar.specs.First.{foresight}
use Rattle.tg_grammar.specs.Samples.{token, sample}
use Rattle.tg_grammar.specs.Passing.{all_pass}
use Rattle.tg_grammar.specs.Reading.{kind, IsText, reads}
use Rattle.tg_grammar.proofs.Readings.{reads_texts, stops_at_fault, stops_before_fault, not_both, one_value}
use Rattle.tg_reading.specs.declared.reader.Stop.{Stop}
use Rattle.tg_reading.specs.declared.reader.Stop.TheVariants.{Wrong, Memory}
use Rattle.tg_syntax.specs.declared.parsing.FormErr.{FormErr}
use Rattle.tg_syntax.specs.declared.parsing.FormErr.TheVariants.{Nested, Form}
use Rattle.tg_syntax.specs.declared.parsing.FormErr.TheVariants as errors
use Rattle.tg_reading.specs.Answers.{Gives}
use Rattle.tg_syntax.specs.Parsing.{IsFormFault, Parses, Tells, finished, fault_before}

-- what stands before the last tokens
front_of : (ts front left : List Seen) → ts ≡ front ++ left → take (length ts - length left) ts ≡ front
front_of ts front left e = ap (λ z. take (length z - length left) z) e ∙ cut front left
  where
    cut : (front left : List Seen) → take (length (front ++ left) - length left) (front ++ left) ≡ front
    cut front left =
        let only : length (front ++ left) - length left ≡ length front = omega (arith, length-append front left) in
        ap (λ k. take k (front ++ left)) only ∙ take-append_seam front left

at_fault : (n : Part) (ts left : List Seen) → reads n ts ≡ err left → IsFormFault n ts (declarations (take (length ts - length left) ts))
at_fault n ts left e =
    let (front, fault) = whole.fault_read kind table foresight token sample all_pass n ts left e in
    let same : ts ≡ front ++ left = fault.0 in (
      front,
      left,
      subst (λ z. IsFault (IsText n) z front left) (sym same) (stops_at_fault n front left (ap (reads n) (sym same) ∙ e)),
      ap declarations (front_of ts front left same),
    )

behind_text : (n : Part) (ts : List Seen) (v : Value n) (t : Seen) (left : List Seen) → reads n ts ≡ ok v (t ∷ left)
    → IsFormFault n ts (declarations (take (length ts - length (t ∷ left)) ts))
behind_text n ts v t left e =
    let (front, fault) = whole.fault_behind kind table foresight token sample all_pass n ts v t left e in
    let same : ts ≡ front ++ t ∷ left = fault.0 in (
      front,
      t ∷ left,
      subst (λ z. IsFault (IsText n) z front (t ∷ left)) (sym same) (stops_before_fault n front v t left (ap (reads n) (sym same) ∙ e)),
      ap declarations (front_of ts front (t ∷ left) same),
    )

module _ (n : Part) (bytes : List ℕ) (tokens : List Token) (low : load_passes load_limit bytes tokens ≡ false) where
  as_seen : (left : ℕ) → IsFormFault n (seen bytes tokens) (declarations (take (length (seen bytes tokens) - left) (seen bytes tokens)))
      → Parses n bytes tokens (Err (fault_before bytes tokens left))
  as_seen left h =
      (low, subst (λ k. IsFormFault n (seen bytes tokens) (declarations (take (k - left) (seen bytes tokens)))) (length-map tokens (seen_token version_one bytes)) h)

  pub parsed : (read : Result (Value n) Stop) (left : List Seen) → Gives read left (reads n (seen bytes tokens)) → Parses n bytes tokens (finished bytes tokens read (length left))
  parsed (Ok v) [] e = (low, (reads_texts n v (seen bytes tokens)).0 e)
  parsed (Ok v) (t ∷ left) e = as_seen (length (t ∷ left)) (behind_text n (seen bytes tokens) v t left e)
  parsed (Err Wrong) left e = as_seen (length left) (at_fault n (seen bytes tokens) left e)
  parsed (Err Memory) left e = tt

-- a call that answers so tells all texts
pub tells_texts : (n : Part) (bytes : List ℕ) (tokens : List Token) (value : Value n) (answer : Result (Value n) FormErr) → Parses n bytes tokens answer
    → load_passes load_limit bytes tokens ≡ false → IsText n value (seen bytes tokens) → Tells value answer
tells_texts n bytes tokens value (Ok read) h low text = one_value n read value (seen bytes tokens) h.1 text
tells_texts n bytes tokens value (Err Nested) h low text = let wrong : true ≡ false = sym h ∙ low in absurd cc
tells_texts n bytes tokens value (Err (Form place)) h low text = absurd (not_both n value (seen bytes tokens) h.1.0 h.1.1 text h.1.2)
tells_texts n bytes tokens value (Err errors.Memory) h low text = tt

-- ---- in the calls

pub reading : (n : Part) (bytes : List ℕ) (tokens : List Token) (all left : List Seen) (read : Result (Value n) Stop) (count : ℕ) (answer : Result (Value n) FormErr)
    → load_passes load_limit bytes tokens ≡ false → all ≡ seen bytes tokens → Gives read left (reads n all) → count ≡ length left
    → answer ≡ finished bytes tokens read count → Parses n bytes tokens answer
reading n bytes tokens all left read count answer low e gives f g =
    subst (Parses n bytes tokens) (sym g)
    (subst (λ k. Parses n bytes tokens (finished bytes tokens read k)) (sym f) (parsed n bytes tokens low read left (subst (λ z. Gives read left (reads n z)) e gives)))
