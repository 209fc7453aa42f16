-- A text by the page is one by the table, with the same value.
use Rattle.std.proofs.Common.{◌≡◌, ℕ, true, List, [], ◌∷◌, ◌++◌, Option, Some, inl, inr, refl, sym, ap, subst, ◌∙◌, append_assoc, append-nil}
use Rattle.tg_rules.specs.Rule.{nt, opt, has, ◌∙∙◌, ◌▸◌, ◌◂◌}
use Rattle.tg_rules.specs.Texts.{Is, Reads}
use Rattle.tg_rules.proofs.Heights.{by_rule, of_rule, reads_also}
use Rattle.tg_grammar.specs.declared.types.RawTy.{RawTy}
use Rattle.tg_grammar.specs.declared.terms.RawTerm.{RawTerm}
use Rattle.tg_grammar.specs.declared.formulas.RawFormula.{RawFormula}
use Rattle.tg_grammar.specs.Kinds.{open_paren, close_paren, and, arrow}
use Rattle.tg_grammar.specs.Seen.{Seen}
use Rattle.tg_grammar.specs.Parts.{Mode, Part, Value, WholeType, TypeAtom, AfterType, Application, Atom, Atoms, Answer, AnswerAtom, AnswerAtoms, Formula, MarkedFormula, InnerFormula}
use Rattle.tg_grammar.specs.Making.{applied, connected}
use Rattle.tg_grammar.specs.Notation.{word}
use Rattle.tg_grammar.specs.TableParts.{connective}
use Rattle.tg_grammar.specs.Operators.{and_operator, implies_operator}
use Rattle.tg_grammar.specs.Page.{page}
use Rattle.tg_grammar.specs.Table.{table}
use Rattle.tg_grammar.specs.Reading.{kind}
use Rattle.tg_grammar.proofs.TextParts.{inside, opened, open_with, closed, close_with, same_type, enclosed, more_types, no_more, some_more}

module _ where
  abbrev R : (n : Part) → Value n → List Seen → Type 0
  R = Reads kind table

  with_atom : (t : RawTy) (w : Option (List ℕ)) (p q : List Seen) → Is kind R (table TypeAtom) t p → Is kind R (opt word) w q → Is kind R (table WholeType) (applied t w) (p ++ q)
  with_atom t w p q (inr s) o = inr ((t, w), refl, (p, q, s, o, refl))
  with_atom t w p q (inl b) o =
      let (t1, r, h1, b1, e1) = opened R open_paren (nt WholeType ◂ close_paren) t p b in
      let (inner, t2, h2, b2, e2) = closed R (nt WholeType) close_paren t r b1 in
      let behind = by_rule kind table AfterType ([], w) (t2 ∷ q) (inl (w, refl, open_with R close_paren (opt word) w t2 q h2 o)) in
      let all = open_with R open_paren (nt WholeType ∙∙ nt AfterType) (t, ([], w)) t1 (inner ++ t2 ∷ q) h1 (inner, t2 ∷ q, b2, behind, refl) in
      inl ((t, ([], w)), same_type t w, subst (λ z. Is kind R (open_paren ▸ (nt WholeType ∙∙ nt AfterType)) (t, ([], w)) z) (enclosed t1 t2 p inner q r e1 e2) all)

  whole_type : (v : RawTy) (ts : List Seen) → Is kind R (page WholeType) v ts → Is kind R (table WholeType) v ts
  whole_type v ts (inl (x, e, (p, q, a, w, es))) =
      subst (λ z. Is kind R (table WholeType) z ts) (sym e)
      (subst (λ z. Is kind R (table WholeType) (applied x.0 x.1) z) (sym es) (with_atom x.0 x.1 p q (of_rule kind table TypeAtom x.0 p a) w))
  whole_type v ts (inr (x, e, b)) =
      inl (
        (x.0, (x.1.0, Some x.1.1)),
        e,
        inside R open_paren (nt WholeType ∙∙ more_types) (nt WholeType ∙∙ nt AfterType) x (x.0, (x.1.0, Some x.1.1))
            (λ q s. (s.0, s.1, s.2, by_rule kind table AfterType (x.1.0, Some x.1.1) s.1 (inr (x.1, refl, s.3)), s.4)) ts b,
      )

  alone : (m : Mode) (v : RawTerm) (ts : List Seen) → Is kind R (table (Atom m)) v ts → Is kind R (table (Application m)) v ts
  alone m v ts (inl p) = inr (inl p)
  alone m v ts (inr (w, e, h)) = inr (inr ((w, []), e, (ts, [], h, by_rule kind table (Atoms m) [] [] (no_more R (nt (Atom m) ∙∙ nt (Atoms m))), sym (append-nil ts))))

  application : (m : Mode) (v : RawTerm) (ts : List Seen) → Is kind R (page (Application m)) v ts → Is kind R (table (Application m)) v ts
  application m v ts (inl a) = alone m v ts (of_rule kind table (Atom m) v ts a)
  application m v ts (inr (inl (x, e, (p, q, w, s, es)))) =
      inr (inr (x, e, (p, q, w, by_rule kind table (Atoms m) x.1 q (some_more R (nt (Atom m) ∙∙ nt (Atoms m)) x.1 q s), es)))
  application m v ts (inr (inr b)) = inl b

  alone_answer : (v : RawTerm) (ts : List Seen) → Is kind R (table AnswerAtom) v ts → Is kind R (table Answer) v ts
  alone_answer v ts (inl p) = inl p
  alone_answer v ts (inr (w, e, h)) = inr ((w, []), e, (ts, [], h, by_rule kind table AnswerAtoms [] [] (no_more R (nt AnswerAtom ∙∙ nt AnswerAtoms)), sym (append-nil ts)))

  answer : (v : RawTerm) (ts : List Seen) → Is kind R (page Answer) v ts → Is kind R (table Answer) v ts
  answer v ts (inl a) = alone_answer v ts (of_rule kind table AnswerAtom v ts a)
  answer v ts (inr (x, e, (p, q, w, s, es))) =
      inr (x, e, (p, q, w, by_rule kind table AnswerAtoms x.1 q (some_more R (nt AnswerAtom ∙∙ nt AnswerAtoms) x.1 q s), es))

  between : (k operator : ℕ) → ((s : Seen) → has (k ∷ []) s.kind ≡ true → Is kind R connective operator (s ∷ []))
      → (x : RawFormula × RawFormula) (v : RawFormula) → v ≡ connected x.0 operator x.1
      → (q : List Seen) → Is kind R (nt Formula ∙∙ k ▸ nt Formula ◂ close_paren) x q → Is kind R (nt InnerFormula ◂ close_paren) v q
  between k operator named x v e q (p1, q1, a, b, es) =
      let (t2, q2, h2, b2, e2) = opened R k (nt Formula ◂ close_paren) x.1 q1 b in
      let (p3, t3, h3, b3, e3) = closed R (nt Formula) close_paren x.1 q2 b2 in
      let inner = by_rule kind table InnerFormula v (p1 ++ t2 ∷ p3) (inr ((x.0, (operator, x.1)), e, (p1, t2 ∷ p3, a, (t2 ∷ [], p3, named t2 h2, b3, refl), refl))) in
      let tokens : (p1 ++ t2 ∷ p3) ++ t3 ∷ [] ≡ q = append_assoc p1 (t2 ∷ p3) (t3 ∷ []) ∙ sym (es ∙ ap (λ z. p1 ++ z) (e2 ∙ ap (λ z. t2 ∷ z) e3)) in
      subst (λ z. Is kind R (nt InnerFormula ◂ close_paren) v z) tokens (close_with R (nt InnerFormula) close_paren v (p1 ++ t2 ∷ p3) t3 h3 inner)

  formula : (v : RawFormula) (ts : List Seen) → Is kind R (page Formula) v ts → Is kind R (table Formula) v ts
  formula v ts (inl a) = inl a
  formula v ts (inr (inl (x, e, b))) =
      inr (inside R open_paren (nt Formula ∙∙ and ▸ nt Formula ◂ close_paren) (nt InnerFormula ◂ close_paren) x v (between and and_operator (λ s h. inl (s, refl, (h, refl))) x v e) ts b)
  formula v ts (inr (inr (inl (x, e, b)))) =
      inr (inside R open_paren (nt Formula ∙∙ arrow ▸ nt Formula ◂ close_paren) (nt InnerFormula ◂ close_paren) x v (between arrow implies_operator (λ s h. inr (s, refl, (h, refl))) x v e) ts b)
  formula v ts (inr (inr (inr b))) =
      inr (inside R open_paren (nt MarkedFormula ◂ close_paren) (nt InnerFormula ◂ close_paren) v v
      (λ q c. (c.0, c.1, (c.2.0, c.2.1, by_rule kind table InnerFormula c.0.0 c.2.0 (inl c.2.2), c.2.3, c.2.4))) ts b)

  from_rule : (n : Part) (v : Value n) (ts : List Seen) → Is kind R (page n) v ts → R n v ts
  from_rule WholeType v ts h = by_rule kind table WholeType v ts (whole_type v ts h)
  from_rule (Application m) v ts h = by_rule kind table (Application m) v ts (application m v ts h)
  from_rule Answer v ts h = by_rule kind table Answer v ts (answer v ts h)
  from_rule Formula v ts h = by_rule kind table Formula v ts (formula v ts h)
  from_rule n v ts h = by_rule kind table n v ts h

pub from_page : (n : Part) (v : Value n) (ts : List Seen) → Reads kind page n v ts → Reads kind table n v ts
from_page = reads_also kind table page from_rule
