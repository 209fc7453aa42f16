-- The forms of terms as texts of the grammar, with variables by numbers.
use Rattle.std.proofs.Common.{ℕ, ◌<◌, ◌^◌, Bool, true, false, List, [], ◌∷◌, ◌++◌, Some, None, inl, inr, refl, sym, append-nil}
use Rattle.std.specs.Prelude.{codes}
use Rattle.tg_rules.specs.Texts.{Is}
use Rattle.tg_grammar.specs.declared.terms.RawTerm.{RawTerm}
use Rattle.tg_grammar.specs.declared.terms.RawTerm.TheVariants as raw
use Rattle.tg_grammar.specs.Kinds as kinds
use Rattle.tg_grammar.specs.Operators as operators
use Rattle.tg_grammar.specs.Seen.{Seen, word_kind}
use Rattle.tg_grammar.specs.Parts.{in_certificate, Term, Implication, Disjunction, Conjunction, Negation}
use Rattle.tg_grammar.specs.Parts.{Comparison, Sum, MoreSummands, Product, MoreFactors, Application, Atom, Atoms, PlainAtom}
use Rattle.tg_grammar.specs.Page.{comparison_operator, sum_operator, product_operator}
use Rattle.tg_grammar.specs.Reading.{IsText, kind}
use Rattle.tg_render.specs.Tokens.{mark, name, numeral, enclosed, IsProper, AreProper, IsNameWord}
use Rattle.tg_render.proofs.Proper.{words, numerals}
use Rattle.tg_report.specs.Words.{truth_token, free_variable, bound_variable}
use Rattle.tg_report.proofs.ProperTokens.{IsPart, made, proper-append, proper-enclosed, symbol, keyword, number_kinds}

abbrev IsAtom : RawTerm → List Seen → Type 0
IsAtom v ts = IsPart (Atom in_certificate) v ts

abbrev IsTerm : RawTerm → List Seen → Type 0
IsTerm v ts = IsPart (Term in_certificate) v ts

abbrev opening : Seen
opening = mark kinds.open_paren (codes "(")

abbrev closing : Seen
closing = mark kinds.close_paren (codes ")")

-- ---- what is no more than a part of it

plain : (v : RawTerm) (ts : List Seen) → IsPart (PlainAtom in_certificate) v ts → IsAtom v ts
plain v ts a = made (Atom in_certificate) v ts a.proper (inl a.read)

applied : (v : RawTerm) (ts : List Seen) → IsAtom v ts → IsPart (Application in_certificate) v ts
applied v ts a = made (Application in_certificate) v ts a.proper (inl a.read)

no_factors : IsPart (MoreFactors in_certificate) [] []
no_factors = made (MoreFactors in_certificate) [] [] tt (None, refl, inl (refl, refl))

no_summands : IsPart (MoreSummands in_certificate) [] []
no_summands = made (MoreSummands in_certificate) [] [] tt (None, refl, inl (refl, refl))

product : (v : RawTerm) (ts : List Seen) → IsPart (Application in_certificate) v ts → IsPart (Product in_certificate) v ts
product v ts a = made (Product in_certificate) v ts a.proper ((v, []), refl, (ts, [], a.read, no_factors.read, sym (append-nil ts)))

sum : (v : RawTerm) (ts : List Seen) → IsPart (Product in_certificate) v ts → IsPart (Sum in_certificate) v ts
sum v ts a = made (Sum in_certificate) v ts a.proper ((v, []), refl, (ts, [], a.read, no_summands.read, sym (append-nil ts)))

comparison : (v : RawTerm) (ts : List Seen) → IsPart (Sum in_certificate) v ts → IsPart (Comparison in_certificate) v ts
comparison v ts a = made (Comparison in_certificate) v ts a.proper ((v, None), refl, (ts, [], a.read, inl (refl, refl), sym (append-nil ts)))

unnegated : (v : RawTerm) (ts : List Seen) → IsPart (Comparison in_certificate) v ts → IsPart (Negation in_certificate) v ts
unnegated v ts a = made (Negation in_certificate) v ts a.proper (inr a.read)

conjunction : (v : RawTerm) (ts : List Seen) → IsPart (Negation in_certificate) v ts → IsPart (Conjunction in_certificate) v ts
conjunction v ts a = made (Conjunction in_certificate) v ts a.proper ((v, None), refl, (ts, [], a.read, inl (refl, refl), sym (append-nil ts)))

disjunction : (v : RawTerm) (ts : List Seen) → IsPart (Conjunction in_certificate) v ts → IsPart (Disjunction in_certificate) v ts
disjunction v ts a = made (Disjunction in_certificate) v ts a.proper ((v, None), refl, (ts, [], a.read, inl (refl, refl), sym (append-nil ts)))

implication : (v : RawTerm) (ts : List Seen) → IsPart (Disjunction in_certificate) v ts → IsPart (Implication in_certificate) v ts
implication v ts a = made (Implication in_certificate) v ts a.proper ((v, None), refl, (ts, [], a.read, inl (refl, refl), sym (append-nil ts)))

term : (v : RawTerm) (ts : List Seen) → IsPart (Implication in_certificate) v ts → IsTerm v ts
term v ts a = made (Term in_certificate) v ts a.proper (inr (inr (inr a.read)))

summed : (v : RawTerm) (ts : List Seen) → IsAtom v ts → IsPart (Sum in_certificate) v ts
summed v ts a = sum v ts (product v ts (applied v ts a))

negated : (v : RawTerm) (ts : List Seen) → IsAtom v ts → IsPart (Negation in_certificate) v ts
negated v ts a = unnegated v ts (comparison v ts (summed v ts a))

compared : (v : RawTerm) (ts : List Seen) → IsPart (Comparison in_certificate) v ts → IsTerm v ts
compared v ts a = term v ts (implication v ts (disjunction v ts (conjunction v ts (unnegated v ts a))))

pub atom_term : (v : RawTerm) (ts : List Seen) → IsAtom v ts → IsTerm v ts
atom_term v ts a = compared v ts (comparison v ts (summed v ts a))

pub application_term : (v : RawTerm) (ts : List Seen) → IsPart (Application in_certificate) v ts → IsTerm v ts
application_term v ts a = compared v ts (comparison v ts (sum v ts (product v ts a)))

-- ---- atoms

pub in_brackets : (v : RawTerm) (ts : List Seen) → IsTerm v ts → IsAtom v (enclosed ts)
in_brackets v ts a =
    plain v (enclosed ts)
    (made (PlainAtom in_certificate) v (enclosed ts) (proper-enclosed ts a.proper)
    (inr (inr (inr (inl (
      (opening, v),
      refl,
      (
        opening ∷ [],
        ts ++ closing ∷ [],
        (refl, refl),
        (
          (v, closing),
          refl,
          (
            ts,
            closing ∷ [],
            a.read,
            (refl, refl),
            refl,
          ),
        ),
        refl,
      ),
    ))))))

pub a_number : (n : ℕ) → n < 2 ^ 64 → IsAtom (raw.Num n) (numeral n ∷ [])
a_number n h =
    plain (raw.Num n) (numeral n ∷ [])
    (made (PlainAtom in_certificate) (raw.Num n) (numeral n ∷ []) (numerals n h, tt) (inl (n, refl, (numeral n, refl, (number_kinds n, refl)))))

pub a_truth : (b : Bool) → IsAtom (raw.Truth b) (truth_token b ∷ [])
unfolding word_kind
a_truth true = let t = truth_token true in
    plain (raw.Truth true) (t ∷ [])
    (made (PlainAtom in_certificate) (raw.Truth true) (t ∷ []) (keyword kinds.true_word (codes "True") refl refl, tt) (inr (inl (t, refl, (refl, refl)))))
a_truth false = let t = truth_token false in
    plain (raw.Truth false) (t ∷ [])
    (made (PlainAtom in_certificate) (raw.Truth false) (t ∷ []) (keyword kinds.false_word (codes "False") refl refl, tt) (inr (inr (inl (
      t,
      refl,
      (refl, refl),
    )))))

pub a_free : (n : ℕ) → n < 2 ^ 64 → IsAtom (raw.Free n) (free_variable n)
a_free n h = let t = mark kinds.question (codes "?") in
    plain (raw.Free n) (free_variable n)
    (made (PlainAtom in_certificate) (raw.Free n) (free_variable n) (symbol kinds.question (codes "?") refl, (numerals n h, tt))
    (inr (inr (inr (inr (inl (n, refl, ((t, n), refl, (t ∷ [], numeral n ∷ [], (refl, refl), (numeral n, refl, (number_kinds n, refl)), refl)))))))))

pub a_bound : (n : ℕ) → n < 2 ^ 64 → IsAtom (raw.Bound n) (bound_variable n)
a_bound n h = let t = mark kinds.bang (codes "!") in
    plain (raw.Bound n) (bound_variable n)
    (made (PlainAtom in_certificate) (raw.Bound n) (bound_variable n) (symbol kinds.bang (codes "!") refl, (numerals n h, tt))
    (inr (inr (inr (inr (inr (n, refl, ((t, n), refl, (t ∷ [], numeral n ∷ [], (refl, refl), (numeral n, refl, (number_kinds n, refl)), refl)))))))))

pub a_name : (x : List ℕ) → IsNameWord x → IsAtom (raw.Use x []) (name x ∷ [])
a_name x w = made (Atom in_certificate) (raw.Use x []) (name x ∷ []) (words x w.0, tt) (inr (x, refl, (name x, refl, (w.1, refl))))

-- ---- arguments

pub no_atoms : IsPart (Atoms in_certificate) [] []
no_atoms = made (Atoms in_certificate) [] [] tt (None, refl, inl (refl, refl))

pub one_atom : (v : RawTerm) (vs : List RawTerm) (ts us : List Seen) → IsAtom v ts → IsPart (Atoms in_certificate) vs us
    → IsPart (Atoms in_certificate) (v ∷ vs) (ts ++ us)
one_atom v vs ts us a b =
    made (Atoms in_certificate) (v ∷ vs) (ts ++ us) (proper-append ts us a.proper b.proper)
    (Some (v, vs), refl, inr ((v, vs), refl, (ts, us, a.read, b.read, refl)))

pub a_use : (x : List ℕ) (v : RawTerm) (vs : List RawTerm) (ts us : List Seen) → IsNameWord x → IsAtom v ts → IsPart (Atoms in_certificate) vs us
    → IsPart (Application in_certificate) (raw.Use x (v ∷ vs)) (name x ∷ (ts ++ us))
a_use x v vs ts us w a b =
    made (Application in_certificate) (raw.Use x (v ∷ vs)) (name x ∷ (ts ++ us)) (words x w.0, proper-append ts us a.proper b.proper)
    (inr (inl ((x, v ∷ vs), refl, (name x ∷ [], ts ++ us, (name x, refl, (w.1, refl)), ((v, vs), refl, (ts, us, a.read, b.read, refl)), refl))))

pub a_successor : (v : RawTerm) (ts : List Seen) → IsAtom v ts
    → IsPart (Application in_certificate) (raw.Op operators.suc_operator (v ∷ [])) (mark kinds.suc_word (codes "Suc") ∷ (ts ++ []))
unfolding word_kind
a_successor v ts a =
    let t = mark kinds.suc_word (codes "Suc") in
    made (Application in_certificate) (raw.Op operators.suc_operator (v ∷ [])) (t ∷ (ts ++ []))
    (keyword kinds.suc_word (codes "Suc") refl refl, proper-append ts [] a.proper tt)
    (inr (inr (v ∷ [], refl, ((t, v ∷ []), refl, (t ∷ [], ts ++ [], (refl, refl), ((v, []), refl, (ts, [], a.read, no_atoms.read, refl)), refl)))))

-- ---- operators

pub a_negation : (v : RawTerm) (ts : List Seen) → IsAtom v ts → IsTerm (raw.Op operators.not_operator (v ∷ [])) (mark kinds.not (codes "~") ∷ ts)
a_negation v ts a =
    let t = mark kinds.not (codes "~") in
    let value = raw.Op operators.not_operator (v ∷ []) in
    let all = t ∷ ts in
    term value all (implication value all (disjunction value all (conjunction value all
    (made (Negation in_certificate) value all (symbol kinds.not (codes "~") refl, a.proper)
    (inl (v, refl, ((t, v), refl, (t ∷ [], ts, (refl, refl), (negated v ts a).read, refl))))))))

proper-infix : (s : Seen) (xs ys : List Seen) → IsProper s → AreProper xs → AreProper ys → AreProper (xs ++ s ∷ ys)
proper-infix s xs ys p q r = proper-append xs (s ∷ ys) q (p, r)

pub a_product : (k : ℕ) (s : Seen) (v w : RawTerm) (xs ys : List Seen) → IsProper s → Is kind IsText product_operator k (s ∷ []) → IsAtom v xs → IsAtom w ys
    → IsTerm (raw.Op k (v ∷ w ∷ [])) (xs ++ s ∷ ys)
a_product k s v w xs ys p is a b =
    let value = raw.Op k (v ∷ w ∷ []) in
    let all = xs ++ s ∷ ys in
    let left = applied v xs a in
    let right = applied w ys b in
    let more = made (MoreFactors in_certificate) ((k, w) ∷ []) (s ∷ ys) (p, b.proper)
    (Some ((k, w), []), refl, inr (((k, w), []), refl, (s ∷ ys, [], (s ∷ [], ys, is, right.read, refl), no_factors.read, sym (append-nil (s ∷ ys))))) in
    compared value all (comparison value all (sum value all
    (made (Product in_certificate) value all (proper-infix s xs ys p a.proper b.proper) ((v, (k, w) ∷ []), refl, (xs, s ∷ ys, left.read, more.read, refl)))))

pub a_sum : (k : ℕ) (s : Seen) (v w : RawTerm) (xs ys : List Seen) → IsProper s → Is kind IsText sum_operator k (s ∷ []) → IsAtom v xs → IsAtom w ys
    → IsTerm (raw.Op k (v ∷ w ∷ [])) (xs ++ s ∷ ys)
a_sum k s v w xs ys p is a b =
    let value = raw.Op k (v ∷ w ∷ []) in
    let all = xs ++ s ∷ ys in
    let left = product v xs (applied v xs a) in
    let right = product w ys (applied w ys b) in
    let more = made (MoreSummands in_certificate) ((k, w) ∷ []) (s ∷ ys) (p, b.proper)
    (Some ((k, w), []), refl, inr (((k, w), []), refl, (s ∷ ys, [], (s ∷ [], ys, is, right.read, refl), no_summands.read, sym (append-nil (s ∷ ys))))) in
    compared value all (comparison value all
    (made (Sum in_certificate) value all (proper-infix s xs ys p a.proper b.proper) ((v, (k, w) ∷ []), refl, (xs, s ∷ ys, left.read, more.read, refl))))

pub a_comparison : (k : ℕ) (s : Seen) (v w : RawTerm) (xs ys : List Seen) → IsProper s → Is kind IsText comparison_operator k (s ∷ []) → IsAtom v xs
    → IsAtom w ys → IsTerm (raw.Op k (v ∷ w ∷ [])) (xs ++ s ∷ ys)
a_comparison k s v w xs ys p is a b =
    let value = raw.Op k (v ∷ w ∷ []) in
    let all = xs ++ s ∷ ys in
    compared value all
    (made (Comparison in_certificate) value all (proper-infix s xs ys p a.proper b.proper)
    ((v, Some (k, w)), refl, (xs, s ∷ ys, (summed v xs a).read, inr ((k, w), refl, (s ∷ [], ys, is, (summed w ys b).read, refl)), refl)))

pub a_conjunction : (v w : RawTerm) (xs ys : List Seen) → IsAtom v xs → IsAtom w ys
    → IsTerm (raw.Op operators.and_operator (v ∷ w ∷ [])) (xs ++ mark kinds.and (codes "&") ∷ ys)
a_conjunction v w xs ys a b =
    let s = mark kinds.and (codes "&") in
    let value = raw.Op operators.and_operator (v ∷ w ∷ []) in
    let all = xs ++ s ∷ ys in
    let right = conjunction w ys (negated w ys b) in
    term value all (implication value all (disjunction value all
    (made (Conjunction in_certificate) value all (proper-infix s xs ys (symbol kinds.and (codes "&") refl) a.proper b.proper)
    ((v, Some w), refl, (xs, s ∷ ys, (negated v xs a).read, inr (w, refl, ((s, w), refl, (s ∷ [], ys, (refl, refl), right.read, refl))), refl)))))

pub a_disjunction : (v w : RawTerm) (xs ys : List Seen) → IsAtom v xs → IsAtom w ys
    → IsTerm (raw.Op operators.or_operator (v ∷ w ∷ [])) (xs ++ mark kinds.or (codes "|") ∷ ys)
a_disjunction v w xs ys a b =
    let s = mark kinds.or (codes "|") in
    let value = raw.Op operators.or_operator (v ∷ w ∷ []) in
    let all = xs ++ s ∷ ys in
    let left = conjunction v xs (negated v xs a) in
    let right = disjunction w ys (conjunction w ys (negated w ys b)) in
    term value all (implication value all
    (made (Disjunction in_certificate) value all (proper-infix s xs ys (symbol kinds.or (codes "|") refl) a.proper b.proper)
    ((v, Some w), refl, (xs, s ∷ ys, left.read, inr (w, refl, ((s, w), refl, (s ∷ [], ys, (refl, refl), right.read, refl))), refl))))

pub an_implication : (v w : RawTerm) (xs ys : List Seen) → IsAtom v xs → IsAtom w ys
    → IsTerm (raw.Op operators.implies_operator (v ∷ w ∷ [])) (xs ++ mark kinds.arrow (codes "-->") ∷ ys)
an_implication v w xs ys a b =
    let s = mark kinds.arrow (codes "-->") in
    let value = raw.Op operators.implies_operator (v ∷ w ∷ []) in
    let all = xs ++ s ∷ ys in
    let left = disjunction v xs (conjunction v xs (negated v xs a)) in
    let right = implication w ys (disjunction w ys (conjunction w ys (negated w ys b))) in
    term value all
    (made (Implication in_certificate) value all (proper-infix s xs ys (symbol kinds.arrow (codes "-->") refl) a.proper b.proper)
    ((v, Some w), refl, (xs, s ∷ ys, left.read, inr (w, refl, ((s, w), refl, (s ∷ [], ys, (refl, refl), right.read, refl))), refl)))
