-- What a raw type, term or formula is made of, from the whole.
use Rattle.std.proofs.Common.{◌≡◌, ℕ, List, [], ◌∷◌, sym, ◌∙◌, ap}
use Rattle.tg_grammar.specs.declared.types.RawTy.{RawTy}
use Rattle.tg_grammar.specs.declared.types.RawTy.TheVariants as types
use Rattle.tg_grammar.specs.declared.types.RawTy.TheVariants.{rolls-Word}
use Rattle.tg_grammar.specs.declared.types.RawTy.TheViews.{out-RawTy, out-roll-RawTy}
use Rattle.tg_grammar.specs.declared.types.RawTy.TheOpen as type_layer
use Rattle.tg_grammar.specs.declared.terms.RawTerm.{RawTerm}
use Rattle.tg_grammar.specs.declared.terms.RawTerm.TheVariants as terms
use Rattle.tg_grammar.specs.declared.terms.RawTerm.TheVariants.{rolls-Use, rolls-Op, rolls-If, rolls-Let, rolls-Case}
use Rattle.tg_grammar.specs.declared.terms.RawTerm.TheViews.{out-RawTerm, out-roll-RawTerm}
use Rattle.tg_grammar.specs.declared.terms.RawTerm.TheOpen as layer
use Rattle.tg_grammar.specs.declared.terms.RawBranch.{RawBranch}
use Rattle.tg_grammar.specs.declared.terms.Binder.{Binder}
use Rattle.tg_grammar.specs.declared.formulas.RawFormula.{RawFormula}
use Rattle.tg_grammar.specs.declared.formulas.RawFormula.TheVariants as formulas
use Rattle.tg_grammar.specs.declared.formulas.RawFormula.TheVariants.{rolls-Atom, rolls-And, rolls-Imp, rolls-All, rolls-Ex, rolls-Thyp}
use Rattle.tg_grammar.specs.declared.formulas.RawFormula.TheVariants.{rolls-Tested, rolls-Deep}
use Rattle.tg_grammar.specs.declared.formulas.RawFormula.TheViews.{out-RawFormula, out-roll-RawFormula}
use Rattle.tg_grammar.specs.declared.formulas.RawFormula.TheOpen as formula_layer

-- ---- types

abbrev TypeLayer : Type 0
TypeLayer = type_layer.RawTy-F RawTy

abbrev arguments_in : TypeLayer → List RawTy
arguments_in (type_layer.Word w ts) = ts
arguments_in _ = []

arguments_out : (w : List ℕ) (ts : List RawTy) → arguments_in (out-RawTy (types.Word w ts)) ≡ ts
arguments_out w ts = ap (λ t. arguments_in (out-RawTy t)) (sym (rolls-Word w ts)) ∙ ap arguments_in (out-roll-RawTy (type_layer.Word w ts))

pub word_arguments : (w x : List ℕ) (ts us : List RawTy) → types.Word w ts ≡ types.Word x us → ts ≡ us
word_arguments w x ts us e = sym (arguments_out w ts) ∙ ap (λ t. arguments_in (out-RawTy t)) e ∙ arguments_out x us

pub word_name : (w x : List ℕ) (ts us : List RawTy) → types.Word w ts ≡ types.Word x us → w ≡ x
word_name w x ts us e = cc

-- ---- terms

abbrev Layer : Type 0
Layer = layer.RawTerm-F RawTerm (layer.RawBranch-F RawTerm (Unit {0}))

abbrev terms_in : Layer → List RawTerm
terms_in (layer.Use w ts) = ts
terms_in (layer.Op k ts) = ts
terms_in (layer.If ts) = ts
terms_in (layer.Let b ts) = ts
terms_in (layer.Case ts bs) = ts
terms_in _ = []

abbrev terms_of : RawTerm → List RawTerm
terms_of t = terms_in (out-RawTerm t)

use_out : (w : List ℕ) (ts : List RawTerm) → terms_of (terms.Use w ts) ≡ ts
use_out w ts = ap terms_of (sym (rolls-Use w ts)) ∙ ap terms_in (out-roll-RawTerm (layer.Use w ts))

op_out : (k : ℕ) (ts : List RawTerm) → terms_of (terms.Op k ts) ≡ ts
op_out k ts = ap terms_of (sym (rolls-Op k ts)) ∙ ap terms_in (out-roll-RawTerm (layer.Op k ts))

if_out : (ts : List RawTerm) → terms_of (terms.If ts) ≡ ts
if_out ts = ap terms_of (sym (rolls-If ts)) ∙ ap terms_in (out-roll-RawTerm (layer.If ts))

let_out : (b : Binder) (ts : List RawTerm) → terms_of (terms.Let b ts) ≡ ts
let_out b ts = ap terms_of (sym (rolls-Let b ts)) ∙ ap terms_in (out-roll-RawTerm (layer.Let b ts))

case_out : (ts : List RawTerm) (bs : List RawBranch) → terms_of (terms.Case ts bs) ≡ ts
case_out ts bs = ap terms_of (sym (rolls-Case ts bs)) ∙ ap terms_in (out-roll-RawTerm (layer.Case ts bs))

pub use_terms : (w x : List ℕ) (ts us : List RawTerm) → terms.Use w ts ≡ terms.Use x us → ts ≡ us
use_terms w x ts us e = sym (use_out w ts) ∙ ap terms_of e ∙ use_out x us

pub use_name : (w x : List ℕ) (ts us : List RawTerm) → terms.Use w ts ≡ terms.Use x us → w ≡ x
use_name w x ts us e = cc

pub op_terms : (k l : ℕ) (ts us : List RawTerm) → terms.Op k ts ≡ terms.Op l us → ts ≡ us
op_terms k l ts us e = sym (op_out k ts) ∙ ap terms_of e ∙ op_out l us

pub op_number : (k l : ℕ) (ts us : List RawTerm) → terms.Op k ts ≡ terms.Op l us → k ≡ l
op_number k l ts us e = cc

pub if_terms : (ts us : List RawTerm) → terms.If ts ≡ terms.If us → ts ≡ us
if_terms ts us e = sym (if_out ts) ∙ ap terms_of e ∙ if_out us

pub let_terms : (b c : Binder) (ts us : List RawTerm) → terms.Let b ts ≡ terms.Let c us → ts ≡ us
let_terms b c ts us e = sym (let_out b ts) ∙ ap terms_of e ∙ let_out c us

pub case_terms : (ts us : List RawTerm) (bs cs : List RawBranch) → terms.Case ts bs ≡ terms.Case us cs → ts ≡ us
case_terms ts us bs cs e = sym (case_out ts bs) ∙ ap terms_of e ∙ case_out us cs

abbrev branches_in : Layer → List RawBranch
branches_in (layer.Case ts bs) = bs
branches_in _ = []

branches_out : (ts : List RawTerm) (bs : List RawBranch) → branches_in (out-RawTerm (terms.Case ts bs)) ≡ bs
branches_out ts bs = ap (λ t. branches_in (out-RawTerm t)) (sym (rolls-Case ts bs)) ∙ ap branches_in (out-roll-RawTerm (layer.Case ts bs))

pub case_branches : (ts us : List RawTerm) (bs cs : List RawBranch) → terms.Case ts bs ≡ terms.Case us cs → bs ≡ cs
case_branches ts us bs cs e = sym (branches_out ts bs) ∙ ap (λ t. branches_in (out-RawTerm t)) e ∙ branches_out us cs

-- ---- formulas

abbrev FormulaLayer : Type 0
FormulaLayer = formula_layer.RawFormula-F RawFormula

-- the first formula in one, or the other
abbrev left_in : RawFormula → FormulaLayer → RawFormula
left_in other (formula_layer.And f g) = f
left_in other (formula_layer.Imp f g) = f
left_in other (formula_layer.All t f) = f
left_in other (formula_layer.Ex t f) = f
left_in other (formula_layer.Thyp f) = f
left_in other _ = other

abbrev right_in : RawFormula → FormulaLayer → RawFormula
right_in other (formula_layer.And f g) = g
right_in other (formula_layer.Imp f g) = g
right_in other _ = other

abbrev left_of : RawFormula → RawFormula → RawFormula
left_of other f = left_in other (out-RawFormula f)

abbrev right_of : RawFormula → RawFormula → RawFormula
right_of other f = right_in other (out-RawFormula f)

pub and_left : (f g h k : RawFormula) → formulas.And f g ≡ formulas.And h k → f ≡ h
and_left f g h k e =
    sym (ap (left_of f) (sym (rolls-And f g)) ∙ ap (left_in f) (out-roll-RawFormula (formula_layer.And f g))) ∙ ap (left_of f) e
    ∙ (ap (left_of f) (sym (rolls-And h k)) ∙ ap (left_in f) (out-roll-RawFormula (formula_layer.And h k)))

pub and_right : (f g h k : RawFormula) → formulas.And f g ≡ formulas.And h k → g ≡ k
and_right f g h k e =
    sym (ap (right_of f) (sym (rolls-And f g)) ∙ ap (right_in f) (out-roll-RawFormula (formula_layer.And f g))) ∙ ap (right_of f) e
    ∙ (ap (right_of f) (sym (rolls-And h k)) ∙ ap (right_in f) (out-roll-RawFormula (formula_layer.And h k)))

pub imp_left : (f g h k : RawFormula) → formulas.Imp f g ≡ formulas.Imp h k → f ≡ h
imp_left f g h k e =
    sym (ap (left_of f) (sym (rolls-Imp f g)) ∙ ap (left_in f) (out-roll-RawFormula (formula_layer.Imp f g))) ∙ ap (left_of f) e
    ∙ (ap (left_of f) (sym (rolls-Imp h k)) ∙ ap (left_in f) (out-roll-RawFormula (formula_layer.Imp h k)))

pub imp_right : (f g h k : RawFormula) → formulas.Imp f g ≡ formulas.Imp h k → g ≡ k
imp_right f g h k e =
    sym (ap (right_of f) (sym (rolls-Imp f g)) ∙ ap (right_in f) (out-roll-RawFormula (formula_layer.Imp f g))) ∙ ap (right_of f) e
    ∙ (ap (right_of f) (sym (rolls-Imp h k)) ∙ ap (right_in f) (out-roll-RawFormula (formula_layer.Imp h k)))

pub all_body : (t u : RawTy) (f g : RawFormula) → formulas.All t f ≡ formulas.All u g → f ≡ g
all_body t u f g e =
    sym (ap (left_of f) (sym (rolls-All t f)) ∙ ap (left_in f) (out-roll-RawFormula (formula_layer.All t f))) ∙ ap (left_of f) e
    ∙ (ap (left_of f) (sym (rolls-All u g)) ∙ ap (left_in f) (out-roll-RawFormula (formula_layer.All u g)))

pub ex_body : (t u : RawTy) (f g : RawFormula) → formulas.Ex t f ≡ formulas.Ex u g → f ≡ g
ex_body t u f g e =
    sym (ap (left_of f) (sym (rolls-Ex t f)) ∙ ap (left_in f) (out-roll-RawFormula (formula_layer.Ex t f))) ∙ ap (left_of f) e
    ∙ (ap (left_of f) (sym (rolls-Ex u g)) ∙ ap (left_in f) (out-roll-RawFormula (formula_layer.Ex u g)))

pub thyp_body : (f g : RawFormula) → formulas.Thyp f ≡ formulas.Thyp g → f ≡ g
thyp_body f g e =
    sym (ap (left_of f) (sym (rolls-Thyp f)) ∙ ap (left_in f) (out-roll-RawFormula (formula_layer.Thyp f))) ∙ ap (left_of f) e
    ∙ (ap (left_of f) (sym (rolls-Thyp g)) ∙ ap (left_in f) (out-roll-RawFormula (formula_layer.Thyp g)))

-- the type of a quantifier, or another
abbrev type_in : RawTy → FormulaLayer → RawTy
type_in other (formula_layer.All t f) = t
type_in other (formula_layer.Ex t f) = t
type_in other _ = other

abbrev type_of : RawTy → RawFormula → RawTy
type_of other f = type_in other (out-RawFormula f)

pub all_type : (t u : RawTy) (f g : RawFormula) → formulas.All t f ≡ formulas.All u g → t ≡ u
all_type t u f g e =
    sym (ap (type_of t) (sym (rolls-All t f)) ∙ ap (type_in t) (out-roll-RawFormula (formula_layer.All t f))) ∙ ap (type_of t) e
    ∙ (ap (type_of t) (sym (rolls-All u g)) ∙ ap (type_in t) (out-roll-RawFormula (formula_layer.All u g)))

pub ex_type : (t u : RawTy) (f g : RawFormula) → formulas.Ex t f ≡ formulas.Ex u g → t ≡ u
ex_type t u f g e =
    sym (ap (type_of t) (sym (rolls-Ex t f)) ∙ ap (type_in t) (out-roll-RawFormula (formula_layer.Ex t f))) ∙ ap (type_of t) e
    ∙ (ap (type_of t) (sym (rolls-Ex u g)) ∙ ap (type_in t) (out-roll-RawFormula (formula_layer.Ex u g)))

-- the terms in a formula
abbrev inputs_in : FormulaLayer → List RawTerm
inputs_in (formula_layer.Atom t) = t ∷ []
inputs_in (formula_layer.Tested ts) = ts
inputs_in (formula_layer.Deep k ts) = ts
inputs_in _ = []

abbrev inputs_of : RawFormula → List RawTerm
inputs_of f = inputs_in (out-RawFormula f)

atom_out : (t : RawTerm) → inputs_of (formulas.Atom t) ≡ t ∷ []
atom_out t = ap inputs_of (sym (rolls-Atom t)) ∙ ap inputs_in (out-roll-RawFormula (formula_layer.Atom t))

tested_out : (ts : List RawTerm) → inputs_of (formulas.Tested ts) ≡ ts
tested_out ts = ap inputs_of (sym (rolls-Tested ts)) ∙ ap inputs_in (out-roll-RawFormula (formula_layer.Tested ts))

deep_out : (k : ℕ) (ts : List RawTerm) → inputs_of (formulas.Deep k ts) ≡ ts
deep_out k ts = ap inputs_of (sym (rolls-Deep k ts)) ∙ ap inputs_in (out-roll-RawFormula (formula_layer.Deep k ts))

single : (t u : RawTerm) → t ∷ [] ≡ u ∷ [] → t ≡ u
single t u e = cc

pub atom_term : (t u : RawTerm) → formulas.Atom t ≡ formulas.Atom u → t ≡ u
atom_term t u e = single t u (sym (atom_out t) ∙ ap inputs_of e ∙ atom_out u)

pub tested_terms : (ts us : List RawTerm) → formulas.Tested ts ≡ formulas.Tested us → ts ≡ us
tested_terms ts us e = sym (tested_out ts) ∙ ap inputs_of e ∙ tested_out us

pub deep_terms : (k l : ℕ) (ts us : List RawTerm) → formulas.Deep k ts ≡ formulas.Deep l us → ts ≡ us
deep_terms k l ts us e = sym (deep_out k ts) ∙ ap inputs_of e ∙ deep_out l us

pub deep_number : (k l : ℕ) (ts us : List RawTerm) → formulas.Deep k ts ≡ formulas.Deep l us → k ≡ l
deep_number k l ts us e = cc
