-- The words, type variables and numbers that are found are the longest tokens.
use Rattle.std.proofs.Common.{◌≡◌, ℕ, zero, suc, ◌≤◌, Bool, true, false, ◌==◌, List, [], ◌∷◌, length, take, refl, arith}
use Rattle.std.proofs.lemmas.Bool.{and_parts, and_from, eq-eqb}
use Rattle.std.specs.List.{list_all, prefix_len}
use Rattle.tg_lex.specs.declared.token.Kind.{Kind}
use Rattle.tg_lex.specs.declared.token.Kind.TheVariants.{Word, TyVar, Number, Sym}
use Rattle.tg_lex.specs.Bytes.{is_letter, is_digit, is_name_byte}
use Rattle.tg_lex.specs.Grammar.{is_word, Spells, IsLongest}
use Rattle.tg_lex.proofs.Texts.{first_of, alike, nothing_spelled}
use Rattle.tg_lex.proofs.Values.{run_passes, run_longest, run_within}

word_most : (b : ℕ) (bs : List ℕ) → is_letter b ≡ true → (other : Kind) (n : ℕ) → n ≤ length (b ∷ bs) → Spells other (take n (b ∷ bs)) → n ≤ suc (prefix_len is_name_byte bs)
word_most b bs e other zero le s = omega arith
word_most b bs e Word (suc n) le s =
    omega (arith, run_longest is_name_byte bs n (omega arith) (and_parts (is_letter b) (list_all is_name_byte (take n bs)) s).1)
word_most b bs e TyVar (suc n) le s = absurd (alike Word TyVar b e (first_of TyVar b (take n bs) s))
word_most b bs e Number (suc n) le s = absurd (alike Word Number b e (first_of Number b (take n bs) s))
word_most b bs e (Sym code) (suc n) le s = absurd (alike Word (Sym code) b e (first_of (Sym code) b (take n bs) s))

pub word_longest : (b : ℕ) (bs : List ℕ) → is_letter b ≡ true → IsLongest (b ∷ bs) Word (suc (prefix_len is_name_byte bs))
word_longest b bs e = record {
  within = omega (arith, run_within is_name_byte bs);
  spelled = and_from (is_letter b) (list_all is_name_byte (take (prefix_len is_name_byte bs) bs)) e (run_passes is_name_byte bs);
  longest = word_most b bs e;
}

number_most : (b : ℕ) (bs : List ℕ) → is_digit b ≡ true → (other : Kind) (n : ℕ) → n ≤ length (b ∷ bs) → Spells other (take n (b ∷ bs)) → n ≤ suc (prefix_len is_digit bs)
number_most b bs e other zero le s = omega arith
number_most b bs e Number (suc n) le s =
    omega (arith, run_longest is_digit bs n (omega arith) (and_parts (is_digit b) (list_all is_digit (take n bs)) s).1)
number_most b bs e TyVar (suc n) le s = absurd (alike Number TyVar b e (first_of TyVar b (take n bs) s))
number_most b bs e Word (suc n) le s = absurd (alike Number Word b e (first_of Word b (take n bs) s))
number_most b bs e (Sym code) (suc n) le s = absurd (alike Number (Sym code) b e (first_of (Sym code) b (take n bs) s))

pub number_longest : (b : ℕ) (bs : List ℕ) → is_digit b ≡ true → IsLongest (b ∷ bs) Number (suc (prefix_len is_digit bs))
number_longest b bs e = record {
  within = omega (arith, run_within is_digit bs);
  spelled = and_from (is_digit b) (list_all is_digit (take (prefix_len is_digit bs) bs)) e (run_passes is_digit bs);
  longest = number_most b bs e;
}

-- a type variable: `'`, a letter and the letters, digits and `_` after it
variable_most : (q c : ℕ) (cs : List ℕ) → q ≡ 39 → (other : Kind) (n : ℕ) → n ≤ length (q ∷ c ∷ cs) → Spells other (take n (q ∷ c ∷ cs)) → n ≤ suc (suc (prefix_len is_name_byte cs))
variable_most q c cs e other zero le s = omega arith
variable_most q c cs e TyVar (suc zero) le s = omega arith
variable_most q c cs e TyVar (suc (suc n)) le s =
    let word = (and_parts (q == 39) (is_word (c ∷ take n cs)) s).1 in
    omega (arith, run_longest is_name_byte cs n (omega arith) (and_parts (is_letter c) (list_all is_name_byte (take n cs)) word).1)
variable_most q c cs e Word (suc n) le s = absurd (alike TyVar Word q e (first_of Word q (take n (c ∷ cs)) s))
variable_most q c cs e Number (suc n) le s = absurd (alike TyVar Number q e (first_of Number q (take n (c ∷ cs)) s))
variable_most q c cs e (Sym code) (suc n) le s = absurd (alike TyVar (Sym code) q e (first_of (Sym code) q (take n (c ∷ cs)) s))

pub variable_longest : (q c : ℕ) (cs : List ℕ) → q ≡ 39 → is_letter c ≡ true → IsLongest (q ∷ c ∷ cs) TyVar (suc (suc (prefix_len is_name_byte cs)))
variable_longest q c cs e letter = record {
  within = omega (arith, run_within is_name_byte cs);
  spelled = and_from (q == 39) (is_word (c ∷ take (prefix_len is_name_byte cs) cs)) (eq-eqb q 39 e)
      (and_from (is_letter c) (list_all is_name_byte (take (prefix_len is_name_byte cs) cs)) letter (run_passes is_name_byte cs));
  longest = variable_most q c cs e;
}

-- a `'` without a letter after it begins nothing
clash : (b : Bool) → b ≡ true → b ≡ false → ⊥
clash b e f = cc

pub no_variable : (q : ℕ) (bs : List ℕ) → q ≡ 39 → ((c : ℕ) (cs : List ℕ) → bs ≡ c ∷ cs → is_letter c ≡ false) → (kind : Kind) (n : ℕ) → n ≤ length (q ∷ bs) → Spells kind (take n (q ∷ bs)) → ⊥
no_variable q bs e none kind zero le s = nothing_spelled kind s
no_variable q bs e none Word (suc n) le s = alike TyVar Word q e (first_of Word q (take n bs) s)
no_variable q bs e none Number (suc n) le s = alike TyVar Number q e (first_of Number q (take n bs) s)
no_variable q bs e none (Sym code) (suc n) le s = alike TyVar (Sym code) q e (first_of (Sym code) q (take n bs) s)
no_variable q [] e none TyVar (suc (suc n)) le s = omega arith
no_variable q [] e none TyVar (suc zero) le s = clash (is_word []) (and_parts (q == 39) (is_word []) s).1 refl
no_variable q (c ∷ cs) e none TyVar (suc zero) le s = clash (is_word []) (and_parts (q == 39) (is_word []) s).1 refl
no_variable q (c ∷ cs) e none TyVar (suc (suc n)) le s =
    let word = (and_parts (q == 39) (is_word (c ∷ take n cs)) s).1 in
    clash (is_letter c) (and_parts (is_letter c) (list_all is_name_byte (take n cs)) word).0 (none c cs refl)
