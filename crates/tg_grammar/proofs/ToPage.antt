-- A text by the table is one by the page, with the same value.
use Rattle.std.proofs.Common.{◌≡◌, ℕ, true, List, [], ◌∷◌, ◌++◌, Option, Some, inl, inr, refl, sym, ap, subst, ◌∙◌, append_assoc, append-nil}
use Rattle.tg_rules.specs.Rule.{nt, opt, has, ◌∙∙◌, ◌▸◌, ◌◂◌}
use Rattle.tg_rules.specs.Texts.{Is, Reads}
use Rattle.tg_rules.proofs.Heights.{by_rule, of_rule, reads_also}
use Rattle.tg_grammar.specs.declared.types.RawTy.{RawTy}
use Rattle.tg_grammar.specs.declared.terms.RawTerm.{RawTerm}
use Rattle.tg_grammar.specs.declared.terms.RawTerm.TheVariants as terms
use Rattle.tg_grammar.specs.declared.formulas.RawFormula.{RawFormula}
use Rattle.tg_grammar.specs.declared.formulas.RawFormula.TheVariants as formulas
use Rattle.tg_grammar.specs.Kinds.{open_paren, close_paren, and, arrow}
use Rattle.tg_grammar.specs.Seen.{Seen}
use Rattle.tg_grammar.specs.Parts.{Mode, Part, Value, WholeType, TypeAtom, AfterType, Application, Atom, Atoms, Answer, AnswerAtom, AnswerAtoms, Formula, MarkedFormula, InnerFormula}
use Rattle.tg_grammar.specs.Making.{applied, bracketed, connected}
use Rattle.tg_grammar.specs.Notation.{word}
use Rattle.tg_grammar.specs.Page.{page}
use Rattle.tg_grammar.specs.Table.{table}
use Rattle.tg_grammar.specs.Reading.{kind}
use Rattle.tg_grammar.proofs.TextParts.{opened, open_with, closed, close_with, same_type, enclosed, more_types, repeats}

module _ where
  abbrev R : (n : Part) → Value n → List Seen → Type 0
  R = Reads kind page

  -- ---- types

  after_type : (v : RawTy) (x : RawTy × (List RawTy × Option (List ℕ))) → v ≡ bracketed x.0 x.1.0 x.1.1
      → (t1 : Seen) (p1 q1 : List Seen) → has (open_paren ∷ []) t1.kind ≡ true → R WholeType x.0 p1 → Is kind R (page AfterType) x.1 q1
      → Is kind R (page WholeType) v (t1 ∷ (p1 ++ q1))
  after_type v x e t1 p1 q1 h1 a (inl (w, ew, c)) =
      let (t2, q2, h2, o, e3) = opened R close_paren (opt word) w q1 c in
      let value : v ≡ applied x.0 w = e ∙ ap (λ z. bracketed x.0 z.0 z.1) ew ∙ sym (same_type x.0 w) in
      let atom = by_rule kind page TypeAtom x.0 (t1 ∷ (p1 ++ t2 ∷ [])) (inl (open_with R open_paren (nt WholeType ◂ close_paren) x.0 t1 (p1 ++ t2 ∷ []) h1 (close_with R (nt WholeType) close_paren x.0 p1 t2 h2 a))) in
      let tokens : t1 ∷ (p1 ++ q1) ≡ t1 ∷ (p1 ++ t2 ∷ []) ++ q2 = ap (λ z. t1 ∷ (p1 ++ z)) e3 ∙ enclosed t1 t2 (t1 ∷ (p1 ++ t2 ∷ [])) p1 q2 (p1 ++ t2 ∷ []) refl refl in
      inl ((x.0, w), value, (t1 ∷ (p1 ++ t2 ∷ []), q2, atom, o, tokens))
  after_type v x e t1 p1 q1 h1 a (inr (y, ey, c)) =
      let value : v ≡ bracketed x.0 y.0 (Some y.1) = e ∙ ap (λ z. bracketed x.0 z.0 z.1) ey in
      inr ((x.0, y), value, open_with R open_paren (nt WholeType ∙∙ more_types) (x.0, y) t1 (p1 ++ q1) h1 (p1, q1, a, c, refl))

  whole_type : (v : RawTy) (ts : List Seen) → Is kind R (table WholeType) v ts → Is kind R (page WholeType) v ts
  whole_type v ts (inl (x, e, b)) =
      let (t1, r, h1, (p1, q1, a, after, e2), e1) = opened R open_paren (nt WholeType ∙∙ nt AfterType) x ts b in
      subst (λ z. Is kind R (page WholeType) v z) (sym (e1 ∙ ap (λ z. t1 ∷ z) e2))
      (after_type v x e t1 p1 q1 h1 a (of_rule kind page AfterType x.1 q1 after))
  whole_type v ts (inr (x, e, (p, q, s, o, es))) = inl (x, e, (p, q, by_rule kind page TypeAtom x.0 p (inr s), o, es))

  -- ---- terms and answers

  application : (m : Mode) (v : RawTerm) (ts : List Seen) → Is kind R (table (Application m)) v ts → Is kind R (page (Application m)) v ts
  application m v ts (inl b) = inr (inr b)
  application m v ts (inr (inl a)) = inl (by_rule kind page (Atom m) v ts (inl a))
  application m v ts (inr (inr (x, e, (p, q, w, others, es)))) = elim (repeats R (nt (Atom m) ∙∙ nt (Atoms m)) x.1 q (of_rule kind page (Atoms m) x.1 q others)) [
    | inl none ↦
        let value : v ≡ terms.Use x.0 [] = e ∙ ap (λ z. terms.Use x.0 z) none.0 in
        let tokens : p ≡ ts = sym (es ∙ ap (λ z. p ++ z) none.1 ∙ append-nil p) in
        inl (by_rule kind page (Atom m) v ts (inr (x.0, value, subst (λ z. Is kind R word x.0 z) tokens w)))
    | inr more ↦
        inr (inl (x, e, (p, q, w, (more.0, more.1, more.2), es)))
  ]

  answer : (v : RawTerm) (ts : List Seen) → Is kind R (table Answer) v ts → Is kind R (page Answer) v ts
  answer v ts (inl a) = inl (by_rule kind page AnswerAtom v ts (inl a))
  answer v ts (inr (x, e, (p, q, w, others, es))) = elim (repeats R (nt AnswerAtom ∙∙ nt AnswerAtoms) x.1 q (of_rule kind page AnswerAtoms x.1 q others)) [
    | inl none ↦
        let value : v ≡ terms.Use x.0 [] = e ∙ ap (λ z. terms.Use x.0 z) none.0 in
        let tokens : p ≡ ts = sym (es ∙ ap (λ z. p ++ z) none.1 ∙ append-nil p) in
        inl (by_rule kind page AnswerAtom v ts (inr (x.0, value, subst (λ z. Is kind R word x.0 z) tokens w)))
    | inr more ↦
        inr (x, e, (p, q, w, (more.0, more.1, more.2), es))
  ]

  -- ---- formulas

  abbrev Joined : RawFormula × RawFormula → ℕ → List Seen → Type 0
  Joined x k q = Is kind R (nt Formula ∙∙ k ▸ nt Formula ◂ close_paren) x q

  -- what stands before a closing bracket
  joined_at : (f g : RawFormula) (s t : Seen) (p q : List Seen) (k : ℕ) → has (k ∷ []) s.kind ≡ true → has (close_paren ∷ []) t.kind ≡ true → R Formula f p → R Formula g q
      → Joined (f, g) k ((p ++ s ∷ q) ++ t ∷ [])
  joined_at f g s t p q k hs ht a b =
      (p, s ∷ (q ++ t ∷ []), a, open_with R k (nt Formula ◂ close_paren) g s (q ++ t ∷ []) hs (close_with R (nt Formula) close_paren g q t ht b), append_assoc p (s ∷ q) (t ∷ []))

  tokens : (s : Seen) (o p1 q1 q3 p : List Seen) (t : Seen) → o ≡ s ∷ [] → q1 ≡ o ++ q3 → p ≡ p1 ++ q1 → (p1 ++ s ∷ q3) ++ t ∷ [] ≡ p ++ t ∷ []
  tokens s o p1 q1 q3 p t eo e4 e5 = ap (λ z. z ++ t ∷ []) (sym (e5 ∙ ap (λ z. p1 ++ z) (e4 ∙ ap (λ z. z ++ q3) eo)))

  inner : (v : RawFormula) (p : List Seen) (t1 t2 : Seen) → has (open_paren ∷ []) t1.kind ≡ true → has (close_paren ∷ []) t2.kind ≡ true
      → Is kind R (page InnerFormula) v p → Is kind R (page Formula) v (t1 ∷ (p ++ t2 ∷ []))
  inner v p t1 t2 h1 h2 (inl a) =
      inr (inr (inr (open_with R open_paren (nt MarkedFormula ◂ close_paren) v t1 (p ++ t2 ∷ []) h1 (close_with R (nt MarkedFormula) close_paren v p t2 h2 a))))
  inner v p t1 t2 h1 h2 (inr (x, e, (p1, q1, a, (o, q3, c, b, e4), e5))) = elim c [
    | inl (s, ek, (hs, eo)) ↦
        let value : v ≡ formulas.And x.0 x.1.1 = e ∙ ap (λ n. connected x.0 n x.1.1) ek in
        let all = subst (λ z. Joined (x.0, x.1.1) and z) (tokens s o p1 q1 q3 p t2 eo e4 e5) (joined_at x.0 x.1.1 s t2 p1 q3 and hs h2 a b) in
        inr (inl ((x.0, x.1.1), value, open_with R open_paren (nt Formula ∙∙ and ▸ nt Formula ◂ close_paren) (x.0, x.1.1) t1 (p ++ t2 ∷ []) h1 all))
    | inr (s, ek, (hs, eo)) ↦
        let value : v ≡ formulas.Imp x.0 x.1.1 = e ∙ ap (λ n. connected x.0 n x.1.1) ek in
        let all = subst (λ z. Joined (x.0, x.1.1) arrow z) (tokens s o p1 q1 q3 p t2 eo e4 e5) (joined_at x.0 x.1.1 s t2 p1 q3 arrow hs h2 a b) in
        inr (inr (inl ((x.0, x.1.1), value, open_with R open_paren (nt Formula ∙∙ arrow ▸ nt Formula ◂ close_paren) (x.0, x.1.1) t1 (p ++ t2 ∷ []) h1 all)))
  ]

  formula : (v : RawFormula) (ts : List Seen) → Is kind R (table Formula) v ts → Is kind R (page Formula) v ts
  formula v ts (inl a) = inl a
  formula v ts (inr b) =
      let (t1, r, h1, c, e1) = opened R open_paren (nt InnerFormula ◂ close_paren) v ts b in
      let (p, t2, h2, a, e2) = closed R (nt InnerFormula) close_paren v r c in
      subst (λ z. Is kind R (page Formula) v z) (sym (e1 ∙ ap (λ z. t1 ∷ z) e2)) (inner v p t1 t2 h1 h2 (of_rule kind page InnerFormula v p a))

  to_rule : (n : Part) (v : Value n) (ts : List Seen) → Is kind R (table n) v ts → R n v ts
  to_rule WholeType v ts h = by_rule kind page WholeType v ts (whole_type v ts h)
  to_rule (Application m) v ts h = by_rule kind page (Application m) v ts (application m v ts h)
  to_rule Answer v ts h = by_rule kind page Answer v ts (answer v ts h)
  to_rule Formula v ts h = by_rule kind page Formula v ts (formula v ts h)
  to_rule n v ts h = by_rule kind page n v ts h

pub to_page : (n : Part) (v : Value n) (ts : List Seen) → Reads kind table n v ts → Reads kind page n v ts
to_page = reads_also kind page table to_rule
