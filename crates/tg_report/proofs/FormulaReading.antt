-- Formulas are read back.
use Rattle.std.proofs.Common.{ℕ, ◌+◌, ◌<◌, ◌^◌, List, [], ◌∷◌, ◌++◌, inl, inr, refl, ap, append_assoc}
use Rattle.std.specs.Prelude.{codes}
use Rattle.tg_model.specs.Theory.{Theory}
use Rattle.tg_model.specs.Tree.{Trees}
use Rattle.tg_model.specs.Tree as tree
use Rattle.tg_model.specs.Formula as model
use Rattle.tg_model.specs.Formula.{atom, both, implies, all, some, thyp, tested, deep}
use Rattle.tg_grammar.specs.declared.types.RawTy.{RawTy}
use Rattle.tg_grammar.specs.declared.terms.RawTerm.{RawTerm}
use Rattle.tg_grammar.specs.declared.formulas.RawFormula.{RawFormula}
use Rattle.tg_grammar.specs.declared.formulas.RawFormula.TheVariants as raw
use Rattle.tg_grammar.specs.Kinds as kinds
use Rattle.tg_grammar.specs.Seen.{Seen, word_kind}
use Rattle.tg_grammar.specs.Parts.{in_certificate, Term, Atom, Atoms, TypeAtom, Formula, MarkedFormula}
use Rattle.tg_theory.specs.Wholes.{IsWritten}
use Rattle.tg_render.specs.Tokens.{mark, numeral, enclosed, joined}
use Rattle.tg_render.proofs.Proper.{numerals}
use Rattle.tg_render.proofs.Forward.{tokens_back}
use Rattle.tg_report.specs.TypeTexts.{ty_tokens}
use Rattle.tg_report.specs.TermTexts.{term_tokens, terms_tokens}
use Rattle.tg_report.specs.FormulaTexts.{formula_tokens}
use Rattle.tg_report.specs.RawTypes.{raw_ty}
use Rattle.tg_report.specs.RawTerms.{raw_term, raw_terms, HaveText}
use Rattle.tg_report.specs.RawFormulas.{raw_formula, FormulaHasText, HasTerm}
use Rattle.tg_report.specs.ReadBack.{IsReadBack}
use Rattle.tg_report.proofs.ProperTokens.{IsPart, made, proper-append, proper-enclosed, symbol, keyword, number_kinds}
use Rattle.tg_report.proofs.TypeReading.{atom as type_atom}
use Rattle.tg_report.proofs.TermShapes.{atom_term}
use Rattle.tg_report.proofs.TermReading.{atom as term_atom, atoms, all_of}

abbrev opening : Seen
opening = mark kinds.open_paren (codes "(")

abbrev closing : Seen
closing = mark kinds.close_paren (codes ")")

-- ---- shapes

a_term : (v : RawTerm) (ts : List Seen) → IsPart (Term in_certificate) v ts
    → IsPart Formula (raw.Atom v) (mark kinds.open_bracket (codes "[") ∷ (ts ++ mark kinds.close_bracket (codes "]") ∷ []))
a_term v ts a =
    let before = mark kinds.open_bracket (codes "[") in
    let behind = mark kinds.close_bracket (codes "]") in
    made Formula (raw.Atom v) (before ∷ (ts ++ behind ∷ []))
    (symbol kinds.open_bracket (codes "[") refl, proper-append ts (behind ∷ []) a.proper (symbol kinds.close_bracket (codes "]") refl, tt))
    (inl (
      v,
      refl,
      (
        (before, v),
        refl,
        (
          before ∷ [],
          ts ++ behind ∷ [],
          (refl, refl),
          (
            (v, behind),
            refl,
            (
              ts,
              behind ∷ [],
              a.read,
              (refl, refl),
              refl,
            ),
          ),
          refl,
        ),
      ),
    ))

-- two formulas and what stands between them, in brackets
abbrev Connected : Seen → List Seen → List Seen → List Seen
Connected s xs ys = enclosed (xs ++ s ∷ ys)

a_conjunction : (f g : RawFormula) (xs ys : List Seen) → IsPart Formula f xs → IsPart Formula g ys
    → IsPart Formula (raw.And f g) (Connected (mark kinds.and (codes "&")) xs ys)
a_conjunction f g xs ys a b =
    let s = mark kinds.and (codes "&") in
    let right = ys ++ closing ∷ [] in
    made Formula (raw.And f g) (Connected s xs ys)
    (proper-enclosed (xs ++ s ∷ ys) (proper-append xs (s ∷ ys) a.proper (symbol kinds.and (codes "&") refl, b.proper)))
    (inr (inl (
      (f, g),
      refl,
      (
        (opening, (f, g)),
        refl,
        (
          opening ∷ [],
          xs ++ s ∷ right,
          (refl, refl),
          (
            xs,
            s ∷ right,
            a.read,
            (
              (s, g),
              refl,
              (
                s ∷ [],
                right,
                (refl, refl),
                (
                  (g, closing),
                  refl,
                  (
                    ys,
                    closing ∷ [],
                    b.read,
                    (refl, refl),
                    refl,
                  ),
                ),
                refl,
              ),
            ),
            refl,
          ),
          ap (λ ts. opening ∷ ts) (append_assoc xs (s ∷ ys) (closing ∷ [])),
        ),
      ),
    )))

an_implication : (f g : RawFormula) (xs ys : List Seen) → IsPart Formula f xs → IsPart Formula g ys
    → IsPart Formula (raw.Imp f g) (Connected (mark kinds.arrow (codes "-->")) xs ys)
an_implication f g xs ys a b =
    let s = mark kinds.arrow (codes "-->") in
    let right = ys ++ closing ∷ [] in
    made Formula (raw.Imp f g) (Connected s xs ys)
    (proper-enclosed (xs ++ s ∷ ys) (proper-append xs (s ∷ ys) a.proper (symbol kinds.arrow (codes "-->") refl, b.proper)))
    (inr (inr (inl (
      (f, g),
      refl,
      (
        (opening, (f, g)),
        refl,
        (
          opening ∷ [],
          xs ++ s ∷ right,
          (refl, refl),
          (
            xs,
            s ∷ right,
            a.read,
            (
              (s, g),
              refl,
              (
                s ∷ [],
                right,
                (refl, refl),
                (
                  (g, closing),
                  refl,
                  (
                    ys,
                    closing ∷ [],
                    b.read,
                    (refl, refl),
                    refl,
                  ),
                ),
                refl,
              ),
            ),
            refl,
          ),
          ap (λ ts. opening ∷ ts) (append_assoc xs (s ∷ ys) (closing ∷ [])),
        ),
      ),
    ))))

in_brackets : (f : RawFormula) (ts : List Seen) → IsPart MarkedFormula f ts → IsPart Formula f (enclosed ts)
in_brackets f ts a =
    made Formula f (enclosed ts) (proper-enclosed ts a.proper)
    (inr (inr (inr (
      (opening, f),
      refl,
      (
        opening ∷ [],
        ts ++ closing ∷ [],
        (refl, refl),
        (
          (f, closing),
          refl,
          (
            ts,
            closing ∷ [],
            a.read,
            (refl, refl),
            refl,
          ),
        ),
        refl,
      ),
    ))))

for_all : (ty : RawTy) (f : RawFormula) (xs ys : List Seen) → IsPart TypeAtom ty xs → IsPart Formula f ys
    → IsPart MarkedFormula (raw.All ty f) (mark kinds.all_word (codes "ALL") ∷ (xs ++ mark kinds.dot (codes ".") ∷ ys))
unfolding word_kind
for_all ty f xs ys a b =
    let t = mark kinds.all_word (codes "ALL") in
    let s = mark kinds.dot (codes ".") in
    made MarkedFormula (raw.All ty f) (t ∷ (xs ++ s ∷ ys))
    (keyword kinds.all_word (codes "ALL") refl refl, proper-append xs (s ∷ ys) a.proper (symbol kinds.dot (codes ".") refl, b.proper))
    (inl (
      (ty, f),
      refl,
      (
        (t, (ty, f)),
        refl,
        (
          t ∷ [],
          xs ++ s ∷ ys,
          (refl, refl),
          (xs, s ∷ ys, a.read, ((s, f), refl, (s ∷ [], ys, (refl, refl), b.read, refl)), refl),
          refl,
        ),
      ),
    ))

there_is : (ty : RawTy) (f : RawFormula) (xs ys : List Seen) → IsPart TypeAtom ty xs → IsPart Formula f ys
    → IsPart MarkedFormula (raw.Ex ty f) (mark kinds.exists_word (codes "EX") ∷ (xs ++ mark kinds.dot (codes ".") ∷ ys))
unfolding word_kind
there_is ty f xs ys a b =
    let t = mark kinds.exists_word (codes "EX") in
    let s = mark kinds.dot (codes ".") in
    made MarkedFormula (raw.Ex ty f) (t ∷ (xs ++ s ∷ ys))
    (keyword kinds.exists_word (codes "EX") refl refl, proper-append xs (s ∷ ys) a.proper (symbol kinds.dot (codes ".") refl, b.proper))
    (inr (inl (
      (ty, f),
      refl,
      (
        (t, (ty, f)),
        refl,
        (
          t ∷ [],
          xs ++ s ∷ ys,
          (refl, refl),
          (xs, s ∷ ys, a.read, ((s, f), refl, (s ∷ [], ys, (refl, refl), b.read, refl)), refl),
          refl,
        ),
      ),
    )))

a_hypothesis : (f : RawFormula) (xs : List Seen) → IsPart Formula f xs → IsPart MarkedFormula (raw.Thyp f) (mark kinds.thyp_word (codes "THYP") ∷ xs)
unfolding word_kind
a_hypothesis f xs a =
    let t = mark kinds.thyp_word (codes "THYP") in
    made MarkedFormula (raw.Thyp f) (t ∷ xs) (keyword kinds.thyp_word (codes "THYP") refl refl, a.proper)
    (inr (inr (inl (f, refl, ((t, f), refl, (t ∷ [], xs, (refl, refl), a.read, refl))))))

some_tested : (v : RawTerm) (vs : List RawTerm) (xs ys : List Seen) → IsPart (Atom in_certificate) v xs → IsPart (Atoms in_certificate) vs ys
    → IsPart MarkedFormula (raw.Tested (v ∷ vs)) (mark kinds.tested_word (codes "tested") ∷ (xs ++ ys))
unfolding word_kind
some_tested v vs xs ys a b =
    let t = mark kinds.tested_word (codes "tested") in
    let values = v ∷ vs in
    made MarkedFormula (raw.Tested values) (t ∷ (xs ++ ys)) (keyword kinds.tested_word (codes "tested") refl refl, proper-append xs ys a.proper b.proper)
    (inr (inr (inr (inl (values, refl, ((t, values), refl, (t ∷ [], xs ++ ys, (refl, refl), ((v, vs), refl, (xs, ys, a.read, b.read, refl)), refl)))))))

some_deep : (k : ℕ) (v : RawTerm) (vs : List RawTerm) (xs ys : List Seen) → k < 2 ^ 64 → IsPart (Atom in_certificate) v xs
    → IsPart (Atoms in_certificate) vs ys
    → IsPart MarkedFormula (raw.Deep k (v ∷ vs)) (mark kinds.deep_rule (codes "deep") ∷ numeral k ∷ (xs ++ ys))
unfolding word_kind
some_deep k v vs xs ys h a b =
    let t = mark kinds.deep_rule (codes "deep") in
    let n = numeral k in
    let values = v ∷ vs in
    made MarkedFormula (raw.Deep k values) (t ∷ n ∷ (xs ++ ys))
    (keyword kinds.deep_rule (codes "deep") refl refl, (numerals k h, proper-append xs ys a.proper b.proper))
    (inr (inr (inr (inr (
      (k, values),
      refl,
      (
        (t, (k, values)),
        refl,
        (
          t ∷ [],
          n ∷ (xs ++ ys),
          (refl, refl),
          (n ∷ [], xs ++ ys, (n, refl, (number_kinds k, refl)), ((v, vs), refl, (xs, ys, a.read, b.read, refl)), refl),
          refl,
        ),
      ),
    )))))

-- ---- all formulas

tested_terms : (th : Theory) (level : ℕ) (ts : Trees) → IsWritten th → HasTerm ts → HaveText th level ts
    → IsPart MarkedFormula (raw.Tested (raw_terms th level ts)) (mark kinds.tested_word (codes "tested") ∷ joined (terms_tokens th level ts))
tested_terms th level tree.none w s h = absurd s
tested_terms th level (tree.more t ts) w s (h, hs) =
    some_tested (raw_term th level t) (raw_terms th level ts) (term_tokens th level t) (joined (terms_tokens th level ts)) (term_atom th level t w h)
    (all_of (raw_terms th level ts) (terms_tokens th level ts) (atoms th level ts w hs))

deep_terms : (th : Theory) (level k : ℕ) (ts : Trees) → IsWritten th → k < 2 ^ 64 → HasTerm ts → HaveText th level ts
    → IsPart MarkedFormula (raw.Deep k (raw_terms th level ts)) (mark kinds.deep_rule (codes "deep") ∷ numeral k ∷ joined (terms_tokens th level ts))
deep_terms th level k tree.none w n s h = absurd s
deep_terms th level k (tree.more t ts) w n s (h, hs) =
    some_deep k (raw_term th level t) (raw_terms th level ts) (term_tokens th level t) (joined (terms_tokens th level ts)) n (term_atom th level t w h)
    (all_of (raw_terms th level ts) (terms_tokens th level ts) (atoms th level ts w hs))

pub formula : (th : Theory) (level : ℕ) (f : model.Formula) → IsWritten th → FormulaHasText th level f
    → IsPart Formula (raw_formula th level f) (formula_tokens th level f)
formula th level (atom t) w h = a_term (raw_term th level t) (term_tokens th level t) (atom_term (raw_term th level t) (term_tokens th level t)
    (term_atom th level t w h))
formula th level (both f g) w (h, k) = a_conjunction _ _ (formula_tokens th level f) (formula_tokens th level g) (formula th level f w h)
    (formula th level g w k)
formula th level (implies f g) w (h, k) = an_implication _ _ (formula_tokens th level f) (formula_tokens th level g) (formula th level f w h)
    (formula th level g w k)
formula th level (all t f) w (c, h) =
    in_brackets _ _ (for_all (raw_ty th t) (raw_formula th (level + 1) f) (ty_tokens th t) (formula_tokens th (level + 1) f) (type_atom th t w c)
    (formula th (level + 1) f w h))
formula th level (some t f) w (c, h) =
    in_brackets _ _ (there_is (raw_ty th t) (raw_formula th (level + 1) f) (ty_tokens th t) (formula_tokens th (level + 1) f) (type_atom th t w c)
    (formula th (level + 1) f w h))
formula th level (thyp f) w h = in_brackets _ _ (a_hypothesis (raw_formula th level f) (formula_tokens th level f) (formula th level f w h))
formula th level (tested ts) w (s, h) = in_brackets _ _ (tested_terms th level ts w s h)
formula th level (deep k ts) w (n, s, h) = in_brackets _ _ (deep_terms th level k ts w n s h)

pub formulas_back : (th : Theory) (level : ℕ) (f : model.Formula) → IsWritten th → FormulaHasText th level f
    → IsReadBack Formula (raw_formula th level f) (formula_tokens th level f)
formulas_back th level f w h = let a = formula th level f w h in (tokens_back (formula_tokens th level f) a.proper, a.read)
