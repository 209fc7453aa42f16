-- The parts that texts are put together from, and the values that they have.
use Rattle.std.specs.Prelude.{ℕ, Option, List}
use Rattle.tg_grammar.specs.declared.types.RawTy.{RawTy}
use Rattle.tg_grammar.specs.declared.terms.RawTerm.{RawTerm}
use Rattle.tg_grammar.specs.declared.terms.Binder.{Binder}
use Rattle.tg_grammar.specs.declared.terms.RawCon.{RawCon}
use Rattle.tg_grammar.specs.declared.terms.RawBranch.{RawBranch}
use Rattle.tg_grammar.specs.declared.declarations.RawTheory.{RawTheory}
use Rattle.tg_grammar.specs.declared.declarations.RawDecl.{RawDecl}
use Rattle.tg_grammar.specs.declared.declarations.RawConDef.{RawConDef}
use Rattle.tg_grammar.specs.declared.declarations.RawEq.{RawEq}
use Rattle.tg_grammar.specs.declared.declarations.RawPat.{RawPat}
use Rattle.tg_grammar.specs.declared.outcomes.RawOutcomes.{RawOutcomes}
use Rattle.tg_grammar.specs.declared.outcomes.RawItem.{RawItem}
use Rattle.tg_grammar.specs.declared.formulas.RawFormula.{RawFormula}
use Rattle.tg_grammar.specs.declared.certificates.RawLine.{RawLine}
use Rattle.tg_grammar.specs.declared.certificates.RawCert.{RawCert}

-- Where a term stands. Variables that are bound are words in a theory, and numbered in a certificate.
pub data Mode : Type 0 where
  in_theory : Mode
  in_certificate : Mode

-- Repetitions, which may be empty, have the plural of what they repeat or `More` in their names; `Parameters` and `Outcomes` are none.
pub data Part : Type 0 where
  -- what is handed in: a theory, a theory and outcomes, a theory and a certificate
  Theory : Part
  Judge : Part
  Check : Part
  -- declarations
  Declarations : Part
  Declaration : Part
  Parameters : Part
  MoreParameters : Part
  Constructor : Part
  MoreConstructors : Part
  Equation : Part
  Equations : Part
  Pattern : Part
  Patterns : Part
  Words : Part
  -- types
  SimpleType : Part
  TypeAtom : Part
  TypeAtoms : Part
  MoreTypeAtoms : Part
  WholeType : Part
  MoreTypes : Part
  AfterType : Part
  FunctionType : Part
  MoreResults : Part
  -- terms
  Term : Mode → Part
  Variable : Mode → Part
  Variables : Mode → Part
  Branch : Mode → Part
  BranchHead : Mode → Part
  MoreBranches : Mode → Part
  Implication : Mode → Part
  Disjunction : Mode → Part
  Conjunction : Mode → Part
  Negation : Mode → Part
  Comparison : Mode → Part
  Sum : Mode → Part
  MoreSummands : Mode → Part
  Product : Mode → Part
  MoreFactors : Mode → Part
  Application : Mode → Part
  Atom : Mode → Part
  Atoms : Mode → Part
  PlainAtom : Mode → Part
  -- outcomes
  Outcomes : Part
  Items : Part
  Item : Part
  Answer : Part
  AnswerAtom : Part
  AnswerAtoms : Part
  PlainAnswer : Part
  -- certificates
  Certificate : Part
  Lines : Part
  Line : Part
  Step : Part
  Context : Part
  Numbers : Part
  Formula : Part
  MarkedFormula : Part
  InnerFormula : Part

abbrev pub Value : Part → Type 0
Value Theory = RawTheory
Value Judge = RawTheory × RawOutcomes
Value Check = RawTheory × RawCert
Value Declarations = List RawDecl
Value Declaration = RawDecl
Value Parameters = List (List ℕ)
Value MoreParameters = List (List ℕ)
Value Constructor = RawConDef
Value MoreConstructors = List RawConDef
Value Equation = RawEq
Value Equations = List RawEq
Value Pattern = RawPat
Value Patterns = List RawPat
Value Words = List (List ℕ)
Value SimpleType = RawTy
Value TypeAtom = RawTy
Value TypeAtoms = List RawTy
Value MoreTypeAtoms = List RawTy
Value WholeType = RawTy
Value MoreTypes = List RawTy
-- the further types in the brackets, and the name behind them
Value AfterType = List RawTy × Option (List ℕ)
Value FunctionType = List RawTy
Value MoreResults = List RawTy
Value (Term m) = RawTerm
Value (Variable m) = Binder
Value (Variables m) = List Binder
Value (Branch m) = RawBranch
-- the constructor and the variables
Value (BranchHead m) = RawCon × List Binder
Value (MoreBranches m) = List RawBranch
Value (Implication m) = RawTerm
Value (Disjunction m) = RawTerm
Value (Conjunction m) = RawTerm
Value (Negation m) = RawTerm
Value (Comparison m) = RawTerm
Value (Sum m) = RawTerm
-- the numbers of operators, and their right operands
Value (MoreSummands m) = List (ℕ × RawTerm)
Value (Product m) = RawTerm
Value (MoreFactors m) = List (ℕ × RawTerm)
Value (Application m) = RawTerm
Value (Atom m) = RawTerm
Value (Atoms m) = List RawTerm
Value (PlainAtom m) = RawTerm
Value Outcomes = RawOutcomes
Value Items = List RawItem
Value Item = RawItem
Value Answer = RawTerm
Value AnswerAtom = RawTerm
Value AnswerAtoms = List RawTerm
Value PlainAnswer = RawTerm
Value Certificate = RawCert
Value Lines = List RawLine
Value Line = RawLine
-- a line whose number is still 0
Value Step = RawLine
Value Context = List RawTy
Value Numbers = List ℕ
Value Formula = RawFormula
Value MarkedFormula = RawFormula
Value InnerFormula = RawFormula
