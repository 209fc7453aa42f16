-- What is written stands for one thing at most.
use Rattle.std.proofs.Common.{◌≡◌, List, [], ◌∷◌, Option, Some, None, refl, sym, ◌∙◌, ap, subst}
use Rattle.tg_model.specs.Formula.{Sequent}
use Rattle.tg_model.specs.Theory.{Theory}
use Rattle.tg_model.specs.Types.{Ty}
use Rattle.tg_accept.specs.Standing.{IsTypeOf, IsTermOf, IsFormulaOf}
use Rattle.tg_accept.proofs.StandsFor.{one_term, one_formula}
use Rattle.tg_calculus.specs.Book.{Line, Entry, IsInstance}
use Rattle.tg_calculus.specs.Sequent.{Context}
use Rattle.tg_calculus.specs.Step.{Step}
use Rattle.tg_calculus.proofs.FromDraft.{has_one_conclusion}
use Rattle.tg_grammar.specs.declared.certificates.RawLine.{RawLine}
use Rattle.tg_grammar.specs.declared.formulas.RawFormula.{RawFormula}
use Rattle.tg_grammar.specs.declared.terms.RawTerm.{RawTerm}
use Rattle.tg_grammar.specs.declared.types.RawTy.{RawTy}
use Rattle.tg_infer.specs.View.{raw_term, raw_type}
use Rattle.tg_standing.specs.Formulas.{raw_formula}
use Rattle.tg_cert.specs.Arguments.{Arguments, rule_of}
use Rattle.tg_cert.specs.Lines.{Pairwise, Optional, IsRowOf, AreTypesOf, Stand, Says, premises_of, context_at}
use Rattle.tg_cert.specs.Certificates.{IsEntry}

one_some : {A : Type 0} (o : Option A) (x y : A) → o ≡ Some x → o ≡ Some y → x ≡ y
one_some o x y e f = let q : Some x ≡ Some y = sym e ∙ f in cc q

module _ {A B : Type 0} (R : A → B → Type 0) (one : (x : A) (y z : B) → R x y → R x z → y ≡ z) where
  one_list : (xs : List A) (ys zs : List B) → Pairwise R xs ys → Pairwise R xs zs → ys ≡ zs
  one_list [] [] [] p q = refl
  one_list [] [] (z ∷ zs) p q = absurd q
  one_list [] (y ∷ ys) zs p q = absurd p
  one_list (x ∷ xs) [] zs p q = absurd p
  one_list (x ∷ xs) (y ∷ ys) [] p q = absurd q
  one_list (x ∷ xs) (y ∷ ys) (z ∷ zs) p q =
      let here = one x y z p.0 q.0 in
      let rest = one_list xs ys zs p.1 q.1 in λ i. here i ∷ rest i

  one_option : (o : Option A) (p q : Option B) → Optional R o p → Optional R o q → p ≡ q
  one_option None None None a b = refl
  one_option None None (Some y) a b = absurd b
  one_option None (Some x) q a b = absurd a
  one_option (Some x) None q a b = absurd a
  one_option (Some x) (Some y) None a b = absurd b
  one_option (Some x) (Some y) (Some z) a b = ap Some (one x y z a b)

pub one_list_of_types : (th : Theory) (rs : List RawTy) (ts us : List Ty) → AreTypesOf th rs ts → AreTypesOf th rs us → ts ≡ us
one_list_of_types th rs ts us a b =
    one_list (λ (r : RawTy). IsTypeOf th (raw_type r)) (λ r t u p q. one_some _ t u p.0 q.0) rs ts us a b

module _ (th : Theory) where
  pub one_stand : (G : Context) (r : RawLine) (a b : Arguments) → Stand th G r a → Stand th G r b → a ≡ b
  one_stand G r a b s t =
      let types = one_list_of_types th r.vars a.types b.types s.types t.types in
      let row = one_option IsRowOf (λ x k l p q. one_some _ k l p q) r.word a.row b.row s.row t.row in
      let formula =
      one_option (λ (f : RawFormula). IsFormulaOf th G (raw_formula f)) (λ f F Q p q. one_formula th G [] (raw_formula f) F Q p q) r.formula a.formula b.formula
      s.formula t.formula
      in
      let terms =
      one_list (λ (x : RawTerm). IsTermOf th G (raw_term x)) (λ x u v p q. one_term th G [] p.0 q.0 (raw_term x) u v p.1 q.1) r.terms a.terms b.terms
      s.terms t.terms
      in
      let number = s.number ∙ sym t.number in λ i. record { types = types i; row = row i; formula = formula i; terms = terms i; number = number i }

  pub one_line : (done : List Sequent) (r : RawLine) (l m : Line) → Says th done r l → Says th done r m → l ≡ m
  one_line done r l m s t =
      let types = one_list_of_types th r.vars s.arguments.types t.arguments.types s.stand.types t.stand.types in
      let context = one_some _ s.context t.context (ap (context_at done (premises_of r)) (sym types) ∙ s.read_in) t.read_in in
      let given =
      one_stand t.context r s.arguments t.arguments (subst (λ (G : Context). Stand th G r s.arguments) context s.stand) t.stand
      in
      let rule = one_some _ l.rule m.rule (ap (λ (a : Arguments). rule_of a r.rule) (sym given) ∙ s.rule) t.rule in
      let premises = s.premises ∙ sym t.premises in λ i. record { rule = rule i; premises = premises i }

  one_sequent : (done : List Sequent) (l m : Line) (s t : Sequent) → l ≡ m → IsInstance th done l s → IsInstance th done m t → s ≡ t
  one_sequent done l m s t e i i' =
      let j : IsInstance th done l t = subst (λ (x : Line). IsInstance th done x t) (sym e) i' in
      let same : i.premises ≡ j.premises = one_some _ i.premises j.premises i.at j.at in
      has_one_conclusion th l.rule j.premises s t (subst (λ (ps : List Sequent). Step th l.rule ps s) same i.step) j.step

  pub one_entry : (done : List Sequent) (r : RawLine) (e f : Entry) → IsEntry th done r e → IsEntry th done r f → e ≡ f
  one_entry done r e f a b =
      let line = one_line done r e.line f.line a.says b.says in
      let sequent = one_sequent done e.line f.line e.sequent f.sequent line a.instance b.instance in λ i. record { line = line i; sequent = sequent i }
