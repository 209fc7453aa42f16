-- All parts pass the conditions on reading with one token of foresight.
use Rattle.std.specs.Prelude.{◌≡◌, true}
use Rattle.std.proofs.Common.{refl}
use Rattle.tg_rules.specs.Reader.{passes}
use Rattle.tg_grammar.specs.Parts.{in_theory, in_certificate, Part, Theory, Judge, Check, Declarations, Declaration, Parameters, MoreParameters}
use Rattle.tg_grammar.specs.Parts.{Constructor, MoreConstructors, Equation, Equations, Pattern, Patterns, Words, SimpleType, TypeAtom, TypeAtoms}
use Rattle.tg_grammar.specs.Parts.{MoreTypeAtoms, WholeType, MoreTypes, AfterType, FunctionType, MoreResults, Term, Variable, Variables, Branch}
use Rattle.tg_grammar.specs.Parts.{BranchHead, MoreBranches, Implication, Disjunction, Conjunction, Negation, Comparison, Sum, MoreSummands, Product}
use Rattle.tg_grammar.specs.Parts.{MoreFactors, Application, Atom, Atoms, PlainAtom, Outcomes, Items, Item, Answer, AnswerAtom, AnswerAtoms}
use Rattle.tg_grammar.specs.Parts.{PlainAnswer, Certificate, Lines, Line, Step, Context, Numbers, Formula, MarkedFormula, InnerFormula}
use Rattle.tg_grammar.specs.Table.{table}
use Rattle.tg_grammar.specs.First.{foresight}
use Rattle.tg_grammar.specs.Reading.{kind}
use Rattle.tg_grammar.specs.Samples.{token, sample}

pub all_pass : (n : Part) → passes kind table foresight token sample n ≡ true
all_pass Theory = refl
all_pass Judge = refl
all_pass Check = refl
all_pass Declarations = refl
all_pass Declaration = refl
all_pass Parameters = refl
all_pass MoreParameters = refl
all_pass Constructor = refl
all_pass MoreConstructors = refl
all_pass Equation = refl
all_pass Equations = refl
all_pass Pattern = refl
all_pass Patterns = refl
all_pass Words = refl
all_pass SimpleType = refl
all_pass TypeAtom = refl
all_pass TypeAtoms = refl
all_pass MoreTypeAtoms = refl
all_pass WholeType = refl
all_pass MoreTypes = refl
all_pass AfterType = refl
all_pass FunctionType = refl
all_pass MoreResults = refl
all_pass (Term in_theory) = refl
all_pass (Term in_certificate) = refl
all_pass (Variable in_theory) = refl
all_pass (Variable in_certificate) = refl
all_pass (Variables in_theory) = refl
all_pass (Variables in_certificate) = refl
all_pass (Branch in_theory) = refl
all_pass (Branch in_certificate) = refl
all_pass (BranchHead in_theory) = refl
all_pass (BranchHead in_certificate) = refl
all_pass (MoreBranches in_theory) = refl
all_pass (MoreBranches in_certificate) = refl
all_pass (Implication in_theory) = refl
all_pass (Implication in_certificate) = refl
all_pass (Disjunction in_theory) = refl
all_pass (Disjunction in_certificate) = refl
all_pass (Conjunction in_theory) = refl
all_pass (Conjunction in_certificate) = refl
all_pass (Negation in_theory) = refl
all_pass (Negation in_certificate) = refl
all_pass (Comparison in_theory) = refl
all_pass (Comparison in_certificate) = refl
all_pass (Sum in_theory) = refl
all_pass (Sum in_certificate) = refl
all_pass (MoreSummands in_theory) = refl
all_pass (MoreSummands in_certificate) = refl
all_pass (Product in_theory) = refl
all_pass (Product in_certificate) = refl
all_pass (MoreFactors in_theory) = refl
all_pass (MoreFactors in_certificate) = refl
all_pass (Application in_theory) = refl
all_pass (Application in_certificate) = refl
all_pass (Atom in_theory) = refl
all_pass (Atom in_certificate) = refl
all_pass (Atoms in_theory) = refl
all_pass (Atoms in_certificate) = refl
all_pass (PlainAtom in_theory) = refl
all_pass (PlainAtom in_certificate) = refl
all_pass Outcomes = refl
all_pass Items = refl
all_pass Item = refl
all_pass Answer = refl
all_pass AnswerAtom = refl
all_pass AnswerAtoms = refl
all_pass PlainAnswer = refl
all_pass Certificate = refl
all_pass Lines = refl
all_pass Line = refl
all_pass Step = refl
all_pass Context = refl
all_pass Numbers = refl
all_pass Formula = refl
all_pass MarkedFormula = refl
all_pass InnerFormula = refl
