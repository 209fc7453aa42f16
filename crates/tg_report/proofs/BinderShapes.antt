-- Conditionals, and the forms of terms that bind variables, as texts of the grammar.
use Rattle.std.proofs.Common.{ℕ, zero, suc, ◌+◌, ◌<◌, ◌^◌, List, [], ◌∷◌, ◌++◌, Some, None, inl, inr, refl, arith}
use Rattle.std.specs.Prelude.{codes}
use Rattle.tg_grammar.specs.declared.terms.RawTerm.{RawTerm}
use Rattle.tg_grammar.specs.declared.terms.RawTerm.TheVariants as raw
use Rattle.tg_grammar.specs.declared.terms.RawBranch.{RawBranch}
use Rattle.tg_grammar.specs.declared.terms.RawCon.{RawCon}
use Rattle.tg_grammar.specs.declared.terms.RawCon.TheVariants as constructors
use Rattle.tg_grammar.specs.declared.terms.Binder.{Binder}
use Rattle.tg_grammar.specs.declared.terms.Binder.TheVariants as binders
use Rattle.tg_grammar.specs.Kinds as kinds
use Rattle.tg_grammar.specs.Seen.{Seen, word_kind}
use Rattle.tg_grammar.specs.Parts.{in_certificate, Term, Variable, Variables, Branch, BranchHead, MoreBranches}
use Rattle.tg_render.specs.Tokens.{mark, name, numeral, IsNameWord}
use Rattle.tg_render.proofs.Proper.{words, numerals}
use Rattle.tg_report.specs.Words.{comma, bound_variable}
use Rattle.tg_report.specs.TermTexts as texts
use Rattle.tg_report.specs.RawTerms.{raw_branch, raw_binders}
use Rattle.tg_report.proofs.ProperTokens.{IsPart, made, proper-append, symbol, keyword, number_kinds}

abbrev IsTerm : RawTerm → List Seen → Type 0
IsTerm v ts = IsPart (Term in_certificate) v ts

pub a_conditional : (a b c : RawTerm) (xs ys zs : List Seen) → IsTerm a xs → IsTerm b ys → IsTerm c zs
    → IsTerm (raw.If (a ∷ b ∷ c ∷ []))
    (mark kinds.if_word (codes "if") ∷ (xs ++ mark kinds.then_word (codes "then") ∷ (ys ++ mark kinds.else_word (codes "else") ∷ zs)))
unfolding word_kind
a_conditional a b c xs ys zs p q r =
    let first = mark kinds.if_word (codes "if") in
    let second = mark kinds.then_word (codes "then") in
    let third = mark kinds.else_word (codes "else") in
    let last = third ∷ zs in
    let middle = second ∷ (ys ++ last) in
    made (Term in_certificate) (raw.If (a ∷ b ∷ c ∷ [])) (first ∷ (xs ++ middle)) (
      keyword kinds.if_word (codes "if") refl refl,
      proper-append xs middle p.proper
          (keyword kinds.then_word (codes "then") refl refl, proper-append ys last q.proper (keyword kinds.else_word (codes "else") refl refl, r.proper)),
    )
    (inl (
      (a, (b, c)),
      refl,
      (
        (first, (a, (b, c))),
        refl,
        (
          first ∷ [],
          xs ++ middle,
          (refl, refl),
          (
            xs,
            middle,
            p.read,
            (
              (second, (b, c)),
              refl,
              (
                second ∷ [],
                ys ++ last,
                (refl, refl),
                (ys, last, q.read, ((third, c), refl, (third ∷ [], zs, (refl, refl), r.read, refl)), refl),
                refl,
              ),
            ),
            refl,
          ),
          refl,
        ),
      ),
    ))

pub a_variable : (n : ℕ) → n < 2 ^ 64 → IsPart (Variable in_certificate) (binders.Level n) (bound_variable n)
a_variable n h =
    let t = mark kinds.bang (codes "!") in
    made (Variable in_certificate) (binders.Level n) (bound_variable n) (symbol kinds.bang (codes "!") refl, (numerals n h, tt))
    (n, refl, ((t, n), refl, (t ∷ [], numeral n ∷ [], (refl, refl), (numeral n, refl, (number_kinds n, refl)), refl)))

pub a_binding : (n : ℕ) (a b : RawTerm) (xs ys : List Seen) → n < 2 ^ 64 → IsTerm a xs → IsTerm b ys
    → IsTerm (raw.Let (binders.Level n) (a ∷ b ∷ []))
    (mark kinds.let_word (codes "let") ∷ (bound_variable n ++ mark kinds.equal (codes "=") ∷ (xs ++ mark kinds.in_word (codes "in") ∷ ys)))
unfolding word_kind
a_binding n a b xs ys h p q =
    let first = mark kinds.let_word (codes "let") in
    let second = mark kinds.equal (codes "=") in
    let third = mark kinds.in_word (codes "in") in
    let variable = a_variable n h in
    let v = binders.Level n in
    let last = third ∷ ys in
    let middle = second ∷ (xs ++ last) in
    made (Term in_certificate) (raw.Let v (a ∷ b ∷ [])) (first ∷ (bound_variable n ++ middle)) (
      keyword kinds.let_word (codes "let") refl refl,
      proper-append (bound_variable n) middle variable.proper
          (symbol kinds.equal (codes "=") refl, proper-append xs last p.proper (keyword kinds.in_word (codes "in") refl refl, q.proper)),
    )
    (inr (inl (
      (v, (a, b)),
      refl,
      (
        (first, (v, (a, b))),
        refl,
        (
          first ∷ [],
          bound_variable n ++ middle,
          (refl, refl),
          (
            bound_variable n,
            middle,
            variable.read,
            (
              (second, (a, b)),
              refl,
              (
                second ∷ [],
                xs ++ last,
                (refl, refl),
                (xs, last, p.read, ((third, b), refl, (third ∷ [], ys, (refl, refl), q.read, refl)), refl),
                refl,
              ),
            ),
            refl,
          ),
          refl,
        ),
      ),
    )))

-- ---- branches

no_variables : IsPart (Variables in_certificate) [] []
no_variables = made (Variables in_certificate) [] [] tt (None, refl, inl (refl, refl))

pub variables : (level count : ℕ) → level + count < 2 ^ 64 → IsPart (Variables in_certificate) (raw_binders level count) (texts.binders level count)
variables level zero h = no_variables
variables level (suc count) h =
    let here = a_variable (level + 1) (omega (arith, h)) in
    let others = variables (level + 1) count (omega (arith, h)) in
    let v = binders.Level (level + 1) in
    let vs = raw_binders (level + 1) count in
    let ts = bound_variable (level + 1) in
    let us = texts.binders (level + 1) count in
    made (Variables in_certificate) (v ∷ vs) (ts ++ us) (proper-append ts us here.proper others.proper)
    (Some (v, vs), refl, inr ((v, vs), refl, (ts, us, here.read, others.read, refl)))

pub zero_head : IsPart (BranchHead in_certificate) (constructors.Zero, []) (numeral 0 ∷ [])
zero_head = let t = numeral 0 in
    made (BranchHead in_certificate) (constructors.Zero, []) (t ∷ []) (numerals 0 (omega arith), tt) (inl (t, refl, (refl, refl)))

pub successor_head : (n : ℕ) → n < 2 ^ 64
    → IsPart (BranchHead in_certificate) (constructors.Suc, binders.Level n ∷ []) (mark kinds.suc_word (codes "Suc") ∷ bound_variable n)
unfolding word_kind
successor_head n h =
    let t = mark kinds.suc_word (codes "Suc") in
    let v = binders.Level n in
    let variable = a_variable n h in
    made (BranchHead in_certificate) (constructors.Suc, v ∷ []) (t ∷ bound_variable n) (keyword kinds.suc_word (codes "Suc") refl refl, variable.proper)
    (inr (inl (v, refl, ((t, v), refl, (t ∷ [], bound_variable n, (refl, refl), variable.read, refl)))))

pub named_head : (x : List ℕ) (vs : List Binder) (ts : List Seen) → IsNameWord x → IsPart (Variables in_certificate) vs ts
    → IsPart (BranchHead in_certificate) (constructors.Named x, vs) (name x ∷ ts)
named_head x vs ts w a =
    made (BranchHead in_certificate) (constructors.Named x, vs) (name x ∷ ts) (words x w.0, a.proper)
    (inr (inr ((x, vs), refl, (name x ∷ [], ts, (name x, refl, (w.1, refl)), a.read, refl))))

pub a_branch : (con : RawCon) (vs : List Binder) (b : RawTerm) (xs ys : List Seen) → IsPart (BranchHead in_certificate) (con, vs) xs → IsTerm b ys
    → IsPart (Branch in_certificate) (raw_branch con vs b) (xs ++ mark kinds.double_arrow (codes "=>") ∷ ys)
a_branch con vs b xs ys p q =
    let t = mark kinds.double_arrow (codes "=>") in
    made (Branch in_certificate) (raw_branch con vs b) (xs ++ t ∷ ys) (proper-append xs (t ∷ ys) p.proper (
      symbol kinds.double_arrow
          (codes "=>") refl,
      q.proper,
    ))
    (((con, vs), b), refl, (xs, t ∷ ys, p.read, ((t, b), refl, (t ∷ [], ys, (refl, refl), q.read, refl)), refl))

pub no_branches : IsPart (MoreBranches in_certificate) [] []
no_branches = made (MoreBranches in_certificate) [] [] tt (None, refl, inl (refl, refl))

pub one_branch : (b : RawBranch) (bs : List RawBranch) (xs ys : List Seen) → IsPart (Branch in_certificate) b xs → IsPart (MoreBranches in_certificate) bs ys
    → IsPart (MoreBranches in_certificate) (b ∷ bs) (comma ∷ (xs ++ ys))
one_branch b bs xs ys p q =
    made (MoreBranches in_certificate) (b ∷ bs) (comma ∷ (xs ++ ys)) (symbol kinds.comma (codes ",") refl, proper-append xs ys p.proper q.proper)
    (Some (b, bs), refl, inr ((b, bs), refl, ((comma, (b, bs)), refl, (comma ∷ [], xs ++ ys, (refl, refl), (xs, ys, p.read, q.read, refl), refl))))

pub a_case : (a : RawTerm) (b : RawBranch) (bs : List RawBranch) (xs ys zs : List Seen) → IsTerm a xs → IsPart (Branch in_certificate) b ys
    → IsPart (MoreBranches in_certificate) bs zs
    → IsTerm (raw.Case (a ∷ []) (b ∷ bs)) (mark kinds.case_word (codes "case")
    ∷ (xs ++ mark kinds.of_word (codes "of") ∷ mark kinds.open_brace (codes "{") ∷ ((ys ++ zs) ++ mark kinds.close_brace (codes "}") ∷ [])))
unfolding word_kind
a_case a b bs xs ys zs p q r =
    let first = mark kinds.case_word (codes "case") in
    let second = mark kinds.of_word (codes "of") in
    let brace = mark kinds.open_brace (codes "{") in
    let unbrace = mark kinds.close_brace (codes "}") in
    let inner = (ys ++ zs) ++ unbrace ∷ [] in
    let rest = second ∷ brace ∷ inner in
    let all = b ∷ bs in
    made (Term in_certificate) (raw.Case (a ∷ []) all) (first ∷ (xs ++ rest)) (
      keyword kinds.case_word (codes "case") refl refl,
      proper-append xs rest p.proper (
        keyword kinds.of_word (codes "of") refl refl,
        (
          symbol kinds.open_brace (codes "{") refl,
          proper-append (ys ++ zs) (unbrace ∷ []) (proper-append ys zs q.proper r.proper)
              (symbol kinds.close_brace (codes "}") refl, tt),
        ),
      ),
    )
    (inr (inr (inl (
      (a, all),
      refl,
      (
        (first, (a, all)),
        refl,
        (
          first ∷ [],
          xs ++ rest,
          (refl, refl),
          (
            xs,
            rest,
            p.read,
            (
              (second, all),
              refl,
              (
                second ∷ [],
                brace ∷ inner,
                (refl, refl),
                (
                  (brace, all),
                  refl,
                  (
                    brace ∷ [],
                    inner,
                    (refl, refl),
                    ((all, unbrace), refl, (ys ++ zs, unbrace ∷ [], ((b, bs), refl, (ys, zs, q.read, r.read, refl)), (refl, refl), refl)),
                    refl,
                  ),
                ),
                refl,
              ),
            ),
            refl,
          ),
          refl,
        ),
      ),
    ))))
