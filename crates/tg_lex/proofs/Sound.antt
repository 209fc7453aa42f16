-- The part that is found stands first, and a fault that is found is one.
use Rattle.std.proofs.Common.{◌≡◌, ℕ, zero, suc, ◌+◌, ◌-◌, ◌^◌, ◌<◌, ◌≤◌, Bool, true, false, ◌==◌, ltb, cond, List, [], ◌∷◌, length, take, drop, Option, Some, None, Result, Ok, Err, inl, inr, refl, sym, ap, subst, ◌∙◌, arith, add-one, length-drop}
use Rattle.std.proofs.lemmas.Bool.{cond_both, cond-true, eqb-true, eqb-false, ltb-true, ltb-false}
use Rattle.std.specs.List.{prefix_len}
use Rattle.tg_lex.specs.declared.token.Kind.{Kind}
use Rattle.tg_lex.specs.declared.token.Kind.TheVariants.{Word, TyVar, Number, Sym}
use Rattle.tg_lex.specs.declared.part.Part.{Part}
use Rattle.tg_lex.specs.declared.part.Part.TheVariants.{Skip, Token}
use Rattle.tg_lex.specs.declared.part.Fault.{Fault}
use Rattle.tg_lex.specs.declared.part.Fault.TheVariants as faults
use Rattle.tg_lex.specs.Bytes.{is_blank, is_letter, is_digit, is_name_byte}
use Rattle.tg_lex.specs.Grammar.{Spells, value, opens, closes, after_open, after_comment, IsLongest, IsFirst}
use Rattle.tg_lex.specs.Scan.{symbol_of, symbol_part, variable_part, number_part, part_before, part_of}
use Rattle.tg_lex.proofs.Texts.{first_of, nothing_spelled, not_open, clash}
use Rattle.tg_lex.proofs.Values.{longer}
use Rattle.tg_lex.proofs.Longest.{word_longest, number_longest, variable_longest, no_variable}
use Rattle.tg_lex.proofs.Symbols.{IsFound, found}

-- ---- a comment takes bytes from the front

abbrev IsRest : List ℕ → Option (List ℕ) → Type 0
IsRest bytes None = Unit {0}
IsRest bytes (Some rest) = (n : ℕ) × (0 < n) × (n ≤ length bytes) × (rest ≡ drop n bytes)

further : (b : ℕ) (bs : List ℕ) (o : Option (List ℕ)) → IsRest bs o → IsRest (b ∷ bs) o
further b bs None r = tt
further b bs (Some rest) r = (suc r.0, omega arith, omega (arith, r.2), r.3)

ends_within : (second : Bool) (depth : ℕ) (bytes : List ℕ) → IsRest bytes (after_open second depth bytes)
ends_within true depth [] = tt
ends_within false depth [] = tt
ends_within true zero (b ∷ bs) = (1, omega arith, omega arith, refl)
ends_within true (suc depth) (b ∷ bs) = further b bs (after_open false (suc depth) bs) (ends_within false (suc depth) bs)
ends_within false depth (b ∷ bs) =
    elim (opens (b ∷ bs)) as (λ o. IsRest (b ∷ bs) (elim o [ true ↦ after_open true (suc depth) bs | false ↦ elim (closes (b ∷ bs)) [ true ↦ after_open true (depth - 1) bs | false ↦ after_open false depth bs ] ])) [
      | true ↦ further b bs (after_open true (suc depth) bs) (ends_within true (suc depth) bs)
      | false ↦ elim (closes (b ∷ bs)) as (λ c. IsRest (b ∷ bs) (elim c [ true ↦ after_open true (depth - 1) bs | false ↦ after_open false depth bs ])) [
        | true ↦ further b bs (after_open true (depth - 1) bs) (ends_within true (depth - 1) bs)
        | false ↦ further b bs (after_open false depth bs) (ends_within false depth bs)
      ]
    ]

comment_sound : (bytes : List ℕ) (o : Option (List ℕ)) → opens bytes ≡ true → after_comment bytes ≡ o → IsRest bytes o → IsFirst bytes (part_before bytes o)
comment_sound bytes None begun is rest = record { opened = begun; never = is }
comment_sound bytes (Some left) begun is rest =
    let size : length bytes - length left ≡ rest.0 = omega (arith, ap length rest.3, length-drop rest.0 bytes, rest.2) in
    let same : left ≡ drop (length bytes - length left) bytes = rest.3 ∙ ap (λ n. drop n bytes) (sym size) in
    (inr (omega arith, is ∙ ap Some same), omega (arith, size, rest.1), omega arith)

-- ---- tokens

other_kind : (k l : Kind) → (k ≡ l → ⊥) → {P : Type 0} → k ≡ l → P
other_kind k l ne e = absurd (ne e)

as_token : (bytes : List ℕ) (kind : Kind) (size : ℕ) → opens bytes ≡ false → IsLongest bytes kind size → 0 < size → (kind ≡ Number → value (take size bytes) < 2 ^ 64) → IsFirst bytes (Ok (Token kind size))
as_token bytes kind size no_comment longest some fits = (record { no_comment = no_comment; is_longest = longest; fits = fits }, some, longest.within)

word_sound : (b : ℕ) (bs : List ℕ) → is_letter b ≡ true → IsFirst (b ∷ bs) (Ok (Token Word (prefix_len is_name_byte bs + 1)))
word_sound b bs e =
    rw add-one (as_token (b ∷ bs) Word (suc (prefix_len is_name_byte bs)) (not_open b bs (λ is. clash (is_letter b) (ap is_letter is) e)) (word_longest b bs e) (omega arith) (λ (e : Word ≡ Number). absurd cc))

number_sound : (b : ℕ) (bs : List ℕ) → is_digit b ≡ true → IsFirst (b ∷ bs) (number_part (b ∷ bs))
unfolding number_part
number_sound b bs e =
    let size : prefix_len is_digit (b ∷ bs) ≡ suc (prefix_len is_digit bs) = longer is_digit b bs e in
    let longest : IsLongest (b ∷ bs) Number (prefix_len is_digit (b ∷ bs)) = subst (λ n. IsLongest (b ∷ bs) Number n) (sym size) (number_longest b bs e) in
    cond_both (ltb (value (take (prefix_len is_digit (b ∷ bs)) (b ∷ bs))) (2 ^ 64)) (Ok (Token Number (prefix_len is_digit (b ∷ bs)))) (Err faults.Number) (IsFirst (b ∷ bs))
    (λ small. as_token (b ∷ bs) Number (prefix_len is_digit (b ∷ bs)) (not_open b bs (λ is. clash (is_digit b) (ap is_digit is) e)) longest (omega (arith, size)) (λ _. ltb-true _ _ small))
    (λ large. (prefix_len is_digit (b ∷ bs), longest, ltb-false _ _ large))

quote_starts_none : (q : ℕ) (bs : List ℕ) → q ≡ 39 → ((c : ℕ) (cs : List ℕ) → bs ≡ c ∷ cs → is_letter c ≡ false) → IsFirst (q ∷ bs) (Err faults.Byte)
quote_starts_none q bs e none = record {
  some = omega arith;
  no_blank = ap is_blank e;
  no_comment = not_open q bs (λ is. absurd (omega (arith, is)));
  no_token = no_variable q bs e none;
}

cons_apart : (c : ℕ) (cs : List ℕ) → [] ≡ c ∷ cs → ⊥
cons_apart c cs e = cc

variable_sound : (q : ℕ) (bs : List ℕ) → q ≡ 39 → IsFirst (q ∷ bs) (variable_part bs)
unfolding variable_part
variable_sound q [] e = quote_starts_none q [] e (λ c cs is. absurd (cons_apart c cs is))
variable_sound q (c ∷ cs) e =
    cond_both (is_letter c) (Ok (Token TyVar (prefix_len is_name_byte cs + 2))) (Err faults.Byte) (IsFirst (q ∷ c ∷ cs))
    (λ letter.
    let size : suc (suc (prefix_len is_name_byte cs)) ≡ prefix_len is_name_byte cs + 2 = omega arith in
    subst (λ n. IsFirst (q ∷ c ∷ cs) (Ok (Token TyVar n))) size
    (as_token (q ∷ c ∷ cs) TyVar (suc (suc (prefix_len is_name_byte cs))) (not_open q (c ∷ cs) (λ is. absurd (omega (arith, is)))) (variable_longest q c cs e letter) (omega arith) (λ (e : TyVar ≡ Number). absurd cc)))
    (λ no_letter. quote_starts_none q (c ∷ cs) e (λ d ds is. let same : c ≡ d = cc in ap is_letter (sym same) ∙ no_letter))

-- what begins with no letter, digit or quote can only be a symbol
module _ (b : ℕ) (bs : List ℕ) (no_letter : is_letter b ≡ false) (no_digit : is_digit b ≡ false) (no_quote : (b == 39) ≡ false) where
  symbols_only : {P : Type 0} (kind : Kind) (n : ℕ) → Spells kind (take n (b ∷ bs)) → ((code : ℕ) → kind ≡ Sym code → P) → P
  symbols_only kind zero s then = absurd (nothing_spelled kind s)
  symbols_only Word (suc n) s then = absurd (clash (is_letter b) no_letter (first_of Word b (take n bs) s))
  symbols_only TyVar (suc n) s then = absurd (eqb-false b 39 no_quote (first_of TyVar b (take n bs) s))
  symbols_only Number (suc n) s then = absurd (clash (is_digit b) no_digit (first_of Number b (take n bs) s))
  symbols_only (Sym code) (suc n) s then = then code refl

  symbol_sound : (o : Option (ℕ × ℕ)) → is_blank b ≡ false → opens (b ∷ bs) ≡ false → IsFound (b ∷ bs) o → IsFirst (b ∷ bs) (symbol_part o)
  symbol_sound None no_blank no_comment is = record {
    some = omega arith;
    no_blank = no_blank;
    no_comment = no_comment;
    no_token = λ kind n le s. symbols_only kind n s (λ code e. is.never code n le (subst (λ k. Spells k (take n (b ∷ bs))) e s));
  }
  symbol_sound (Some s) no_blank no_comment is =
      as_token (b ∷ bs) (Sym s.0) s.1 no_comment
      (record {
        within = is.within;
        spelled = is.coded;
        longest = λ kind n le spelled. symbols_only kind n spelled (λ code e. is.longest code n le (subst (λ k. Spells k (take n (b ∷ bs))) e spelled));
      })
      is.some (λ (e : Sym s.0 ≡ Number). absurd cc)

pub sound : (b : ℕ) (bs : List ℕ) → IsFirst (b ∷ bs) (part_of (b ∷ bs))
unfolding part_of
sound b bs =
    let five : Result Part Fault = symbol_part (symbol_of b bs) in
    let four : Result Part Fault = cond (opens (b ∷ bs)) (part_before (b ∷ bs) (after_comment (b ∷ bs))) five in
    let three : Result Part Fault = cond (b == 39) (variable_part bs) four in
    let two : Result Part Fault = cond (is_digit b) (number_part (b ∷ bs)) three in
    let one : Result Part Fault = cond (is_letter b) (Ok (Token Word (prefix_len is_name_byte bs + 1))) two in
    cond_both (is_blank b) (Ok (Skip 1)) one (IsFirst (b ∷ bs)) (λ e. (inl (e, refl), omega arith, omega arith)) (λ no_blank.
    cond_both (is_letter b) (Ok (Token Word (prefix_len is_name_byte bs + 1))) two (IsFirst (b ∷ bs)) (word_sound b bs) (λ no_letter.
    cond_both (is_digit b) (number_part (b ∷ bs)) three (IsFirst (b ∷ bs)) (number_sound b bs) (λ no_digit.
    cond_both (b == 39) (variable_part bs) four (IsFirst (b ∷ bs)) (λ e. variable_sound b bs (eqb-true b 39 e)) (λ no_quote.
    cond_both (opens (b ∷ bs)) (part_before (b ∷ bs) (after_comment (b ∷ bs))) five (IsFirst (b ∷ bs))
    (λ e. comment_sound (b ∷ bs) (after_comment (b ∷ bs)) e refl (subst (λ o. IsRest (b ∷ bs) o) (sym (cond-true (opens (b ∷ bs)) (after_open false 0 (b ∷ bs)) None e)) (ends_within false 0 (b ∷ bs))))
    (λ no_comment. symbol_sound b bs no_letter no_digit no_quote (symbol_of b bs) no_blank no_comment (found b bs))))))

pub sound_if_some : (bytes : List ℕ) → 0 < length bytes → IsFirst bytes (part_of bytes)
sound_if_some [] some = absurd (omega arith)
sound_if_some (b ∷ bs) some = sound b bs
