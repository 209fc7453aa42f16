-- Words and numerals are proper tokens.
use Rattle.std.proofs.Common.{◌≡◌, ℕ, ◌+◌, ◌-◌, ◌*◌, ◌^◌, ◌<◌, ◌≤◌, true, List, [], ◌∷◌, length, refl, sym, ap, subst, ◌∙◌, arith, decimal}
use Rattle.std.specs.Prelude.{IsTrue}
use Rattle.std.specs.List.{list_all}
use Rattle.std.specs.Char.{digit_value}
use Rattle.std.specs.Str.Parse.{AllDigits, digits_value_after}
use Rattle.std.proofs.lemmas.Fmt.{decimal_is_IsNumeral}
use Rattle.std.proofs.lemmas.Bool.Decides.{nat_tests}
use Rattle.tg_lex.specs.declared.token.Kind.TheVariants.{Word, Number}
use Rattle.tg_lex.specs.Bytes.{is_digit}
use Rattle.tg_lex.specs.Grammar.{is_word, is_number, value, value_from}
use Rattle.tg_grammar.specs.Seen.{number_kind}
use Rattle.tg_render.specs.Tokens.{name, numeral, IsProper}

pub words : (text : List ℕ) → IsTrue (is_word text) → IsProper (name text)
words text h = record { sort = Word; spelled = h; fits = λ e. absurd cc; kinded = refl; valued = refl }

digit_from_value : (c : ℕ) → digit_value c < 10 → (48 ≤ c) × (c ≤ 57)
digit_from_value c h = grind (arith, nat_tests)

digit_byte : (c : ℕ) → 48 ≤ c → c ≤ 57 → is_digit c ≡ true
digit_byte c low high = grind (arith, nat_tests)

digit_less : (c : ℕ) → 48 ≤ c → c ≤ 57 → digit_value c ≡ c - 48
digit_less c low high = grind (arith, nat_tests)

are_digits : (ds : List ℕ) → AllDigits 10 ds → list_all is_digit ds ≡ true
are_digits [] h = refl
are_digits (d ∷ ds) h = let range = digit_from_value d h.0 in rw (digit_byte d range.0 range.1, are_digits ds h.1) refl

same_value : (n : ℕ) (ds : List ℕ) → AllDigits 10 ds → value_from n ds ≡ digits_value_after 10 n ds
same_value n [] h = refl
same_value n (d ∷ ds) h =
    let range = digit_from_value d h.0 in
    let step : 10 * n + (d - 48) ≡ n * 10 + digit_value d = omega (arith, digit_less d range.0 range.1) in
    ap (λ m. value_from m ds) step ∙ same_value (n * 10 + digit_value d) ds h.1

number_digits : (ds : List ℕ) → 0 < length ds → AllDigits 10 ds → is_number ds ≡ true
number_digits [] some h = absurd (omega (arith, some))
number_digits (d ∷ ds) some h = let range = digit_from_value d h.0 in rw (digit_byte d range.0 range.1, are_digits ds h.1) refl

pub numerals : (n : ℕ) → n < 2 ^ 64 → IsProper (numeral n)
numerals n small =
    let (spelled, tells) = decimal_is_IsNumeral n small in
    let same : value (decimal n) ≡ n = same_value 0 (decimal n) spelled.1 ∙ tells in
    record {
      sort = Number;
      spelled = number_digits (decimal n) spelled.0 spelled.1;
      fits = λ e. subst (λ m. m < 2 ^ 64) (sym same) small;
      kinded = ap number_kind (sym same);
      valued = sym same;
    }
