-- The symbol that is found is the longest one of the table.
use Rattle.std.proofs.Common.{◌≡◌, ℕ, suc, ◌<◌, ◌≤◌, Bool, true, false, ◌&&◌, ◌==◌, cond, List, [], ◌∷◌, length, take, Option, Some, None, inl, inr, refl, sym, subst, ◌∙◌, arith, length-take-le}
use Rattle.std.proofs.lemmas.Bool.{and_parts, eqb-true, cond_both, cond-true, cond-false, cases_eq}
use Rattle.std.proofs.Math.Bool.{and-false}
use Rattle.tg_tables.specs.Lists.{symbol_list}
use Rattle.tg_lex.specs.Grammar.{code_in}
use Rattle.tg_lex.specs.Scan.{next_is, is_arrow, one_byte, sized_one, symbol_of}
use Rattle.tg_lex.proofs.Texts.{short, code_one, code_two, code_three}

-- the code of the first `n` bytes
abbrev code_of_front : List ℕ → ℕ → Option ℕ
code_of_front bytes n = code_in symbol_list (take n bytes)

pub record IsLongestSymbol (bytes : List ℕ) (code size : ℕ) : Type 0 where
  pub some : 0 < size
  pub within : size ≤ length bytes
  pub coded : code_of_front bytes size ≡ Some code
  pub longest : (other n : ℕ) → n ≤ length bytes → code_of_front bytes n ≡ Some other → n ≤ size

pub record IsNoSymbol (bytes : List ℕ) : Type 0 where
  pub never : (other n : ℕ) → n ≤ length bytes → code_of_front bytes n ≡ Some other → ⊥

abbrev pub IsFound : List ℕ → Option (ℕ × ℕ) → Type 0
IsFound bytes None = IsNoSymbol bytes
IsFound bytes (Some s) = IsLongestSymbol bytes s.0 s.1

at_most_three : (bytes : List ℕ) (other n : ℕ) → n ≤ length bytes → code_of_front bytes n ≡ Some other → n ≤ 3
at_most_three bytes other n le e = omega (arith, short (take n bytes) other e, length-take-le n bytes le)

guarded : (t : Bool) (c d : ℕ) → cond t (Some c) None ≡ Some d → t ≡ true
guarded true c d e = refl
guarded false c d e = absurd cc

guarded_three : (s t u : Bool) (a b c d : ℕ) → cond s (Some a) (cond t (Some b) (cond u (Some c) None)) ≡ Some d → s ≡ false → t ≡ false → u ≡ false → ⊥
guarded_three false false false a b c d e f g h = cc
guarded_three true t u a b c d e f g h = cc
guarded_three s true u a b c d e f g h = cc
guarded_three s t true a b c d e f g h = cc

differ : (t : Bool) → t ≡ true → t ≡ false → ⊥
differ t e f = cc

-- no front of three bytes
no_three : (b : ℕ) (bs : List ℕ) (other : ℕ) → (45 == b && is_arrow bs) ≡ false → 3 ≤ length (b ∷ bs) → code_of_front (b ∷ bs) 3 ≡ Some other → ⊥
no_three b [] other no_arrow le e = omega arith
no_three b (c ∷ []) other no_arrow le e = omega arith
no_three b (c ∷ d ∷ r) other no_arrow le e = differ (45 == b && (45 == c && 62 == d)) (guarded _ 19 other (sym (code_three b c d) ∙ e)) no_arrow

-- no front of two bytes
no_two : (b : ℕ) (bs : List ℕ) (other : ℕ) → (60 == b && next_is 61 bs) ≡ false → (61 == b && next_is 62 bs) ≡ false → (58 == b && next_is 58 bs) ≡ false
    → 2 ≤ length (b ∷ bs) → code_of_front (b ∷ bs) 2 ≡ Some other → ⊥
no_two b [] other no_le no_to no_of le e = omega arith
no_two b (c ∷ r) other no_le no_to no_of le e = guarded_three (58 == b && 58 == c) (60 == b && 61 == c) (61 == b && 62 == c) 21 12 20 other (sym (code_two b c) ∙ e) no_of no_le no_to

nothing_at_zero : (other : ℕ) → code_in symbol_list [] ≡ Some other → ⊥
nothing_at_zero other e = cc

-- a size that is at most `m + 1` and isn't `m + 1`
below : (bytes : List ℕ) (n m : ℕ) → n ≤ suc m → (n ≡ suc m → ⊥) → n ≤ m
below bytes n m le ne = elim (cases_eq n (suc m)) [ inl e ↦ absurd (ne e) | inr other ↦ omega arith ]

-- three bytes
arrow_found : (b : ℕ) (bs : List ℕ) → (45 == b && is_arrow bs) ≡ true → IsLongestSymbol (b ∷ bs) 19 3
arrow_found b [] e = absurd (differ (45 == b && false) e (and-false (45 == b)))
arrow_found b (c ∷ []) e = absurd (differ (45 == b && (45 == c && false)) e (rw (and-false (45 == c)) (and-false (45 == b))))
arrow_found b (c ∷ d ∷ r) e = record {
  some = omega arith;
  within = omega arith;
  coded = code_three b c d ∙ cond-true (45 == b && (45 == c && 62 == d)) (Some 19) None e;
  longest = at_most_three (b ∷ c ∷ d ∷ r);
}

two_longest : (b : ℕ) (bs : List ℕ) → (45 == b && is_arrow bs) ≡ false → (other n : ℕ) → n ≤ length (b ∷ bs) → code_of_front (b ∷ bs) n ≡ Some other → n ≤ 2
two_longest b bs no_arrow other n le e =
    below (b ∷ bs) n 2 (at_most_three (b ∷ bs) other n le e)
    (λ is. no_three b bs other no_arrow (omega arith) (subst (λ k. code_of_front (b ∷ bs) k ≡ Some other) is e))

-- two bytes
le_found : (b : ℕ) (bs : List ℕ) → (45 == b && is_arrow bs) ≡ false → (60 == b && next_is 61 bs) ≡ true → IsLongestSymbol (b ∷ bs) 12 2
le_found b [] no_arrow e = absurd (differ (60 == b && false) e (and-false (60 == b)))
le_found b (c ∷ r) no_arrow e =
    let b-is = eqb-true 60 b (and_parts (60 == b) (61 == c) e).0 in
    let no_of : (58 == b && 58 == c) ≡ false = subst (λ x. (58 == x && 58 == c) ≡ false) b-is refl in
    record {
      some = omega arith;
      within = omega arith;
      coded = code_two b c ∙ cond-false (58 == b && 58 == c) (Some 21) _ no_of ∙ cond-true (60 == b && 61 == c) (Some 12) _ e;
      longest = two_longest b (c ∷ r) no_arrow;
    }

to_found : (b : ℕ) (bs : List ℕ) → (45 == b && is_arrow bs) ≡ false → (61 == b && next_is 62 bs) ≡ true → IsLongestSymbol (b ∷ bs) 20 2
to_found b [] no_arrow e = absurd (differ (61 == b && false) e (and-false (61 == b)))
to_found b (c ∷ r) no_arrow e =
    let b-is = eqb-true 61 b (and_parts (61 == b) (62 == c) e).0 in
    let no_of : (58 == b && 58 == c) ≡ false = subst (λ x. (58 == x && 58 == c) ≡ false) b-is refl in
    let no_le : (60 == b && 61 == c) ≡ false = subst (λ x. (60 == x && 61 == c) ≡ false) b-is refl in
    record {
      some = omega arith;
      within = omega arith;
      coded = code_two b c ∙ cond-false (58 == b && 58 == c) (Some 21) _ no_of ∙ cond-false (60 == b && 61 == c) (Some 12) _ no_le ∙ cond-true (61 == b && 62 == c) (Some 20) None e;
      longest = two_longest b (c ∷ r) no_arrow;
    }

of_found : (b : ℕ) (bs : List ℕ) → (45 == b && is_arrow bs) ≡ false → (58 == b && next_is 58 bs) ≡ true → IsLongestSymbol (b ∷ bs) 21 2
of_found b [] no_arrow e = absurd (differ (58 == b && false) e (and-false (58 == b)))
of_found b (c ∷ r) no_arrow e = record {
  some = omega arith;
  within = omega arith;
  coded = code_two b c ∙ cond-true (58 == b && 58 == c) (Some 21) _ e;
  longest = two_longest b (c ∷ r) no_arrow;
}

no_code : (o : Option ℕ) (other : ℕ) → o ≡ None → o ≡ Some other → ⊥
no_code o other e f = cc

-- one byte, or none
one_found : (b : ℕ) (bs : List ℕ) (o : Option ℕ) → one_byte b ≡ o → (45 == b && is_arrow bs) ≡ false → (60 == b && next_is 61 bs) ≡ false → (61 == b && next_is 62 bs) ≡ false
    → (58 == b && next_is 58 bs) ≡ false → IsFound (b ∷ bs) (sized_one o)
one_found b bs (Some code) is no_arrow no_le no_to no_of = record {
  some = omega arith;
  within = omega arith;
  coded = code_one b ∙ is;
  longest = λ other n le e. below (b ∷ bs) n 1 (two_longest b bs no_arrow other n le e)
      (λ two. no_two b bs other no_le no_to no_of (omega arith) (subst (λ k. code_of_front (b ∷ bs) k ≡ Some other) two e));
}
one_found b bs None is no_arrow no_le no_to no_of = record {
  never = λ other n le e.
      let at_most_one : n ≤ 1 = below (b ∷ bs) n 1 (two_longest b bs no_arrow other n le e)
      (λ two. no_two b bs other no_le no_to no_of (omega arith) (subst (λ k. code_of_front (b ∷ bs) k ≡ Some other) two e)) in
      elim (cases_eq n 0) [
        | inl none ↦ nothing_at_zero other (subst (λ k. code_of_front (b ∷ bs) k ≡ Some other) none e)
        | inr more ↦
            let one : n ≡ 1 = omega arith in
            let some : code_in symbol_list (b ∷ []) ≡ Some other = subst (λ k. code_of_front (b ∷ bs) k ≡ Some other) one e in
            let none : code_in symbol_list (b ∷ []) ≡ None = code_one b ∙ is in
            no_code _ other none some
      ];
}

pub found : (b : ℕ) (bs : List ℕ) → IsFound (b ∷ bs) (symbol_of b bs)
unfolding symbol_of
found b bs =
    let four : Option (ℕ × ℕ) = sized_one (one_byte b) in
    let three : Option (ℕ × ℕ) = cond (58 == b && next_is 58 bs) (Some (21, 2)) four in
    let two : Option (ℕ × ℕ) = cond (61 == b && next_is 62 bs) (Some (20, 2)) three in
    let one : Option (ℕ × ℕ) = cond (60 == b && next_is 61 bs) (Some (12, 2)) two in
    cond_both (45 == b && is_arrow bs) (Some (19, 3)) one (IsFound (b ∷ bs)) (arrow_found b bs) (λ no_arrow.
    cond_both (60 == b && next_is 61 bs) (Some (12, 2)) two (IsFound (b ∷ bs)) (le_found b bs no_arrow) (λ no_le.
    cond_both (61 == b && next_is 62 bs) (Some (20, 2)) three (IsFound (b ∷ bs)) (to_found b bs no_arrow) (λ no_to.
    cond_both (58 == b && next_is 58 bs) (Some (21, 2)) four (IsFound (b ∷ bs)) (of_found b bs no_arrow) (λ no_of.
    one_found b bs (one_byte b) refl no_arrow no_le no_to no_of))))
