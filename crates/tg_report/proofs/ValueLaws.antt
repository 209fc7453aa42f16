-- Values of a list, written one behind another.
use Rattle.std.proofs.Common.{◌≡◌, ◌<◌, ℕ, ◌+◌, List, [], ◌∷◌, drop, get_or, refl, sym, ap, ◌∙◌, length, true, false, arith}
use Rattle.std.proofs.lemmas.Bool.{eqb-true}
use Rattle.std.specs.Prelude.{codes, ◌==◌}
use Rattle.tg_model.specs.Theory.{Theory}
use Rattle.tg_model.specs.Value.{made}
use Rattle.tg_grammar.specs.Kinds.{close_paren}
use Rattle.tg_term.specs.declared.values.Value.{Value}
use Rattle.tg_term.specs.Values.{value, values, value-Nat, value-Bool, value-Con}
use Rattle.tg_render.specs.Render.{put, written}
use Rattle.tg_render.specs.Tokens.{mark, name, joined}
use Rattle.tg_render.proofs.Writing.{written-append}
use Rattle.tg_report.specs.Names.{constructor_name}
use Rattle.tg_report.specs.ValueTexts.{value_tokens, values_tokens}
use Rattle.tg_report.proofs.Lists.{drop_next}

pub value_next : (th : Theory) (out next whole : List ℕ) (vs : List Value) (i : ℕ) (v : Value) → i < length vs → v ≡ get_or vs i v
    → written out (joined (values_tokens th (values (drop i vs)))) ≡ whole → next ≡ written out (value_tokens th (value v))
    → written next (joined (values_tokens th (values (drop (i + 1) vs)))) ≡ whole
value_next th out next whole vs i v less e so_far more =
    let rest = joined (values_tokens th (values (drop (i + 1) vs))) in
    ap (λ o. written o rest) more
    ∙ sym (written-append out (value_tokens th (value v)) rest)
    ∙ sym (ap (λ us. written out (joined (values_tokens th (values us)))) (drop_next vs i v less e)) ∙ so_far

pub some_values : (th : Theory) (head : List ℕ) (out first second third next : List ℕ) (c : ℕ) (vs : List Value) → (length vs == 0) ≡ false
    → head ≡ constructor_name th c → first ≡ put out (codes "(") → second ≡ put first head → third ≡ written second (joined (values_tokens th (values vs)))
    → next ≡ put third (codes ")") → next ≡ written out (value_tokens th (made c (values vs)))
some_values th head out first second third next c [] some n a b d e = absurd cc
some_values th head out first second third next c (v ∷ vs) some n a b d e =
    let all = joined (values_tokens th (values (v ∷ vs))) in
    e ∙ ap (λ o. put o (codes ")")) (d ∙ ap (λ o. written o all) (b ∙ ap (λ o. put o head) a ∙ ap (put (put out (codes "("))) n))
    ∙ sym (written-append (put (put out (codes "(")) (constructor_name th c)) all (mark close_paren (codes ")") ∷ []))

pub no_values : (th : Theory) (c : ℕ) (vs : List Value) → (length vs == 0) ≡ true → name (constructor_name th c) ∷ [] ≡ value_tokens th (made c (values vs))
no_values th c [] none = refl
no_values th c (v ∷ vs) none = absurd (omega (arith, eqb-true (length (v ∷ vs)) 0 none))

pub ruleset writing = (value-Nat, value-Bool, value-Con, value_next, some_values, no_values)
