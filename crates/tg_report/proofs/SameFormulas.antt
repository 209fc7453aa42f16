-- Formulas within the same number of binders that read as one formula are equal, and so are those with one text.
use Rattle.std.proofs.Common.{◌≡◌, ℕ, ◌+◌, List, ap, subst, ◌∙◌}
use Rattle.tg_model.specs.Theory.{Theory, IsClosed}
use Rattle.tg_model.specs.Types.{Ty}
use Rattle.tg_model.specs.Tree.{Tree}
use Rattle.tg_model.specs.Accepted.{IsAccepted}
use Rattle.tg_model.specs.Formula as model
use Rattle.tg_model.specs.Formula.{atom, both, implies, all, some, thyp, tested, deep}
use Rattle.tg_grammar.specs.Seen.{Seen}
use Rattle.tg_grammar.specs.Parts.{Part, Value, TypeAtom, Atom, Formula, in_certificate}
use Rattle.tg_grammar.specs.Reading.{IsText}
use Rattle.tg_grammar.proofs.Readings.{one_value}
use Rattle.tg_theory.specs.Wholes.{IsWritten}
use Rattle.tg_render.specs.Render.{render}
use Rattle.tg_render.proofs.Forward.{told}
use Rattle.tg_report.specs.TypeTexts.{ty_tokens}
use Rattle.tg_report.specs.TermTexts.{term_tokens}
use Rattle.tg_report.specs.FormulaTexts.{formula_tokens}
use Rattle.tg_report.specs.RawTypes.{raw_ty}
use Rattle.tg_report.specs.RawTerms.{raw_term, raw_terms, HasText}
use Rattle.tg_report.specs.RawFormulas.{raw_formula, FormulaHasText}
use Rattle.tg_report.proofs.ProperTokens.{IsPart}
use Rattle.tg_report.proofs.RawParts.{and_left, and_right, imp_left, imp_right, all_body, all_type, ex_body, ex_type, thyp_body, atom_term, tested_terms}
use Rattle.tg_report.proofs.RawParts.{deep_terms, deep_number}
use Rattle.tg_report.proofs.SameTypes.{one_ty}
use Rattle.tg_report.proofs.SameTerms.{one_term, all_terms}
use Rattle.tg_report.proofs.TypeReading.{atom as type_atom}
use Rattle.tg_report.proofs.TermReading.{atom as term_atom}
use Rattle.tg_report.proofs.FormulaReading.{formula}

pub one_formula : (th : Theory) (level : ℕ) (f g : model.Formula) → IsAccepted th → FormulaHasText th level f → FormulaHasText th level g
    → raw_formula th level f ≡ raw_formula th level g → f ≡ g
one_formula th level (atom t) (atom u) a h i e = ap atom (one_term th level t u a h i (atom_term (raw_term th level t) (raw_term th level u) e))
one_formula th level (both f g) (both j k) a (h, hs) (i, is) e =
    let left = one_formula th level f j a h i (and_left _ (raw_formula th level g) _ (raw_formula th level k) e) in
    let right = one_formula th level g k a hs is (and_right (raw_formula th level f) _ (raw_formula th level j) _ e) in
    ap (λ z. both z g) left ∙ ap (both j) right
one_formula th level (implies f g) (implies j k) a (h, hs) (i, is) e =
    let left = one_formula th level f j a h i (imp_left _ (raw_formula th level g) _ (raw_formula th level k) e) in
    let right = one_formula th level g k a hs is (imp_right (raw_formula th level f) _ (raw_formula th level j) _ e) in
    ap (λ z. implies z g) left ∙ ap (implies j) right
one_formula th level (all t f) (all u g) a (h, hs) (i, is) e =
    let type = one_ty th t u a h i (all_type _ _ (raw_formula th (level + 1) f) (raw_formula th (level + 1) g) e) in
    let body = one_formula th (level + 1) f g a hs is (all_body (raw_ty th t) (raw_ty th u) _ _ e) in
    ap (λ z. all z f) type ∙ ap (all u) body
one_formula th level (some t f) (some u g) a (h, hs) (i, is) e =
    let type = one_ty th t u a h i (ex_type _ _ (raw_formula th (level + 1) f) (raw_formula th (level + 1) g) e) in
    let body = one_formula th (level + 1) f g a hs is (ex_body (raw_ty th t) (raw_ty th u) _ _ e) in
    ap (λ z. some z f) type ∙ ap (some u) body
one_formula th level (thyp f) (thyp g) a h i e = ap thyp (one_formula th level f g a h i (thyp_body _ _ e))
one_formula th level (tested ts) (tested us) a (p, h) (q, i) e = ap tested (all_terms th level ts us a h i (tested_terms _ _ e))
one_formula th level (deep m ts) (deep n us) a (k, p, h) (l, q, i) e =
    let number : m ≡ n = deep_number m n (raw_terms th level ts) (raw_terms th level us) e in
    ap (λ z. deep z ts) number ∙ ap (deep n) (all_terms th level ts us a h i (deep_terms m n _ _ e))
one_formula th level f g a h i e = absurd cc

-- two texts of a part that are one have one value
one_text : (n : Part) (v w : Value n) (ts us : List Seen) → IsPart n v ts → IsPart n w us → render ts ≡ render us → v ≡ w
one_text n v w ts us p q e = one_value n v w us (subst (IsText n v) (told ts us p.proper q.proper e) p.read) q.read

pub types_told : (th : Theory) (t u : Ty) → IsAccepted th → IsWritten th → IsClosed th t → IsClosed th u
    → render (ty_tokens th t) ≡ render (ty_tokens th u) → t ≡ u
types_told th t u a w h i e =
    one_ty th t u a h i (one_text TypeAtom (raw_ty th t) (raw_ty th u) (ty_tokens th t) (ty_tokens th u) (type_atom th t w h) (type_atom th u w i) e)

pub terms_told : (th : Theory) (level : ℕ) (t u : Tree) → IsAccepted th → IsWritten th → HasText th level t → HasText th level u
    → render (term_tokens th level t) ≡ render (term_tokens th level u) → t ≡ u
terms_told th level t u a w h i e =
    one_term th level t u a h i
    (one_text (Atom in_certificate) (raw_term th level t) (raw_term th level u) (term_tokens th level t) (term_tokens th level u)
    (term_atom th level t w h) (term_atom th level u w i) e)

pub formulas_told : (th : Theory) (level : ℕ) (f g : model.Formula) → IsAccepted th → IsWritten th → FormulaHasText th level f → FormulaHasText th level g
    → render (formula_tokens th level f) ≡ render (formula_tokens th level g) → f ≡ g
formulas_told th level f g a w h i e =
    one_formula th level f g a h i
    (one_text Formula (raw_formula th level f) (raw_formula th level g) (formula_tokens th level f) (formula_tokens th level g)
    (formula th level f w h) (formula th level g w i) e)
