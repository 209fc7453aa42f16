-- The lines of tests and the words in them, written one behind another.
use Rattle.std.proofs.Common.{◌≡◌, ◌<◌, ℕ, ◌+◌, length, List, [], ◌∷◌, ◌++◌, codes, Result, Ok, Err, OnOk, drop, map, get_or, decimal, sym, ap, subst, ◌∙◌, append_assoc}
use Rattle.tg_model.specs.Theory.{Theory}
use Rattle.tg_term.specs.declared.classes.Test.{Test}
use Rattle.tg_term.specs.declared.values.Value.{Value}
use Rattle.tg_term.specs.Values.{value}
use Rattle.tg_model.specs.Value as model
use Rattle.tg_grammar.specs.Seen.{Seen}
use Rattle.tg_render.specs.Render.{written, render}
use Rattle.tg_report.specs.ValueTexts.{value_tokens}
use Rattle.tg_harness.proofs.Lists.{drop_next}
use Rattle.tg_harness.specs.HarnessTexts.{words, print, test_line, test_lines}
use Rattle.tg_harness.specs.Tests.{test}

pub test_next : (th : Theory) (out next whole : List ℕ) (ts : List Test) (i : ℕ) (t : Test) → i < length ts → t ≡ get_or ts i t
    → out ++ test_lines th (map test (drop i ts)) ≡ whole → next ≡ out ++ test_line th (test t) → next ++ test_lines th (map test (drop (i + 1) ts)) ≡ whole
test_next th out next whole ts i t less e so_far more =
    ap (λ l. l ++ test_lines th (map test (drop (i + 1) ts))) more ∙ append_assoc out (test_line th (test t)) (test_lines th (map test (drop (i + 1) ts)))
    ∙ sym (ap (λ us. out ++ test_lines th (map test us)) (drop_next ts i t less e)) ∙ so_far

pub word_next : (th : Theory) (out next whole text : List ℕ) (vs : List Value) (i : ℕ) (v : Value) → i < length vs → v ≡ get_or vs i v
    → out ++ words th (map value (drop i vs)) ≡ whole → text ≡ render (value_tokens th (value v)) → next ≡ out ++ (codes " '" ++ (text ++ codes "'"))
    → next ++ words th (map value (drop (i + 1) vs)) ≡ whole
word_next th out next whole text vs i v less e so_far made more =
    let rest = words th (map value (drop (i + 1) vs)) in
    let word = codes " '" ++ (render (value_tokens th (value v)) ++ codes "'") in
    ap (λ l. l ++ rest) (more ∙ ap (λ t. out ++ (codes " '" ++ (t ++ codes "'"))) made) ∙ append_assoc out word rest
    ∙ ap (λ l. out ++ l) (append_assoc (codes " '") (render (value_tokens th (value v)) ++ codes "'") rest
    ∙ ap (λ l. codes " '" ++ l) (append_assoc (render (value_tokens th (value v))) (codes "'") rest))
    ∙ sym (ap (λ us. out ++ words th (map value us)) (drop_next vs i v less e)
    ∙ ap (λ l. out ++ l) (ap (λ l. codes " '" ++ l) (append_assoc (render (value_tokens th (value v))) (codes "'") rest)))
    ∙ so_far

-- three pieces one behind another
pub three : {A E : Type 0} (r : Result A E) (out first second third head middle tail : List ℕ) → first ≡ out ++ head → second ≡ first ++ middle
    → OnOk r (third ≡ second ++ tail) → OnOk r (third ≡ out ++ (head ++ (middle ++ tail)))
three (Err e) out first second third head middle tail a b c = tt
three (Ok v) out first second third head middle tail a b c =
    c ∙ ap (λ l. l ++ tail) (b ∙ ap (λ l. l ++ middle) a) ∙ append_assoc (out ++ head) middle tail ∙ append_assoc out head (middle ++ tail)

abbrev end_of_test : ℕ → List ℕ
end_of_test n = codes "); then " ++ (print ++ (codes "\"answer " ++ (decimal n ++ (codes " $a;\"; else " ++ (print ++ (codes "'raised " ++ (decimal n ++ codes ";'; fi\n")))))))

-- the line of a test, whose number is written twice
pub test_written : {A E : Type 0} (r : Result A E) (th : Theory) (n m : ℕ) (vs : List model.Value) (out first second third : List ℕ) → n ≡ m
    → first ≡ out ++ codes "if a=$(\"$1\"" → second ≡ first ++ words th vs → OnOk r (third ≡ second ++ end_of_test n) → OnOk r (third ≡ out ++ test_line th (record { number = m; datum = vs }))
test_written r th n m vs out first second third e a b c =
    subst (λ (k : ℕ). OnOk r (third ≡ out ++ test_line th (record { number = k; datum = vs }))) e
    (three r out first second third (codes "if a=$(\"$1\"") (words th vs) (end_of_test n) a b c)

-- the script: its front up to a quote, the quoted line, and what is behind
pub script : (front none slice head lines tail none' first second third : List ℕ) (ts : List Seen) → none ≡ [] → slice ≡ head → head ≡ written none ts → none' ≡ []
    → first ≡ none' ++ (front ++ (slice ++ codes "'\n")) → second ≡ first ++ lines → third ≡ second ++ tail
    → third ≡ front ++ ((render ts ++ codes "'") ++ (codes "\n" ++ (lines ++ tail)))
script front none slice head lines tail none' first second third ts n s h n' a b c =
    let text = render ts in
    c ∙ ap (λ l. l ++ tail) (b ∙ ap (λ l. l ++ lines) (a ∙ ap (λ l. l ++ (front ++ (slice ++ codes "'\n"))) n'
    ∙ ap (λ l. front ++ (l ++ codes "'\n")) (s ∙ h ∙ ap (λ l. written l ts) n)))
    ∙ append_assoc (front ++ (text ++ codes "'\n")) lines tail
    ∙ append_assoc front (text ++ codes "'\n") (lines ++ tail)
    ∙ ap (λ l. front ++ l) (append_assoc text (codes "'\n") (lines ++ tail) ∙ sym (append_assoc text (codes "'") (codes "\n" ++ (lines ++ tail))))

pub ruleset writing = (append_assoc, test_next, word_next)
