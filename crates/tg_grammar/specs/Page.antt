-- The grammar: each part with its rule. Each repetition is a part of its own. Sides of a choice that have a reader of their own
-- have a name, and stand above the rules.
use Rattle.std.specs.Prelude.{ℕ, true, false, Some, None, List, [], ◌∷◌}
use Rattle.tg_rules.specs.Rule.{nt, opt, ◌∙∙◌}
use Rattle.tg_rules.specs.Repetition.{folded}
use Rattle.tg_grammar.specs.declared.types.RawTy.TheVariants as types
use Rattle.tg_grammar.specs.declared.terms.RawTerm.{RawTerm}
use Rattle.tg_grammar.specs.declared.terms.RawTerm.TheVariants as terms
use Rattle.tg_grammar.specs.declared.terms.Binder.TheVariants as binders
use Rattle.tg_grammar.specs.declared.terms.RawBranch.{RawBranch}
use Rattle.tg_grammar.specs.declared.terms.RawCon.{RawCon}
use Rattle.tg_grammar.specs.declared.terms.RawCon.TheVariants as constructors
use Rattle.tg_grammar.specs.declared.declarations.RawConDef.{RawConDef}
use Rattle.tg_grammar.specs.declared.declarations.RawEq.{RawEq}
use Rattle.tg_grammar.specs.declared.declarations.RawDecl.{RawDecl}
use Rattle.tg_grammar.specs.declared.declarations.RawDecl.TheVariants as declarations
use Rattle.tg_grammar.specs.declared.declarations.RawPat.{RawPat}
use Rattle.tg_grammar.specs.declared.declarations.RawPat.TheVariants as patterns
use Rattle.tg_grammar.specs.declared.formulas.RawFormula.{RawFormula}
use Rattle.tg_grammar.specs.declared.formulas.RawFormula.TheVariants as formulas
use Rattle.tg_grammar.specs.Operators.{suc_operator, not_operator, and_operator, or_operator, implies_operator, equal_operator, less_operator}
use Rattle.tg_grammar.specs.Operators.{less_equal_operator}
use Rattle.tg_grammar.specs.Operators.{plus_operator, minus_operator, times_operator, div_operator, mod_operator}
use Rattle.tg_grammar.specs.Notation.{Grammar, ◌▸◌, ◌◂◌, ◌⇒◌, ◌∣◌, ◌means◌, word, tyvar, number, many, some}
use Rattle.tg_grammar.specs.Parts.{Mode, in_theory, in_certificate, Part, Value}
use Rattle.tg_grammar.specs.Parts.{Theory, Judge, Check, Declarations, Declaration, Parameters, MoreParameters, Constructor, MoreConstructors}
use Rattle.tg_grammar.specs.Parts.{Equation, Equations, Pattern, Patterns, Words, SimpleType, TypeAtom, TypeAtoms, MoreTypeAtoms, WholeType}
use Rattle.tg_grammar.specs.Parts.{MoreTypes, AfterType, FunctionType, MoreResults, Term, Variable, Variables, Branch, BranchHead, MoreBranches}
use Rattle.tg_grammar.specs.Parts.{Implication, Disjunction, Conjunction, Negation, Comparison, Sum, MoreSummands, Product, MoreFactors}
use Rattle.tg_grammar.specs.Parts.{Application, Atom, Atoms, PlainAtom, Outcomes, Items, Item, Answer, AnswerAtom, AnswerAtoms, PlainAnswer}
use Rattle.tg_grammar.specs.Parts.{Certificate, Lines, Line, Step, Context, Numbers, Formula, MarkedFormula, InnerFormula}
use Rattle.tg_grammar.specs.Making.{given, applied, joined, compared, chained, numbered}
use Rattle.tg_grammar.specs.Steps.{step}
use Rattle.tg_grammar.specs.TableParts.{more_types, after_type, inner_formula}

-- ---- declarations

abbrev pub names : Grammar (List (List ℕ))
names = some (word ∙∙ nt Words)

abbrev pub parameters : Grammar (List (List ℕ))
parameters = some (tyvar ∙∙ nt MoreParameters)

abbrev pub several_parameters : Grammar (List (List ℕ))
several_parameters = "(" ▸ tyvar ∙∙ "," ▸ parameters ◂ ")" ⇒ λ (first, others). first ∷ others

abbrev pub constructors_of : Grammar (List RawConDef)
constructors_of = some (nt Constructor ∙∙ nt MoreConstructors)

abbrev pub equations : Grammar (List RawEq)
equations = some (nt Equation ∙∙ nt Equations)

abbrev pub datatype : Grammar RawDecl
datatype = "datatype" ▸ nt Parameters ∙∙ word ∙∙ "=" ▸ constructors_of ◂ ";" ⇒ λ (params, (name, cons)). declarations.Datatype name params cons

abbrev pub primrec : Grammar RawDecl
primrec = "primrec" ▸ word ∙∙ "::" ▸ nt FunctionType ∙∙ "where" ▸ equations ⇒ λ (name, (tys, eqs)). declarations.Primrec name tys eqs

abbrev pub definition : Grammar RawDecl
definition = "definition" ▸ word ∙∙ "::" ▸ nt FunctionType ∙∙ "where" ▸ equations ⇒ λ (name, (tys, eqs)). declarations.Definition name tys eqs

abbrev pub program : Grammar RawDecl
program = "program" ▸ word ∙∙ "::" ▸ nt FunctionType ◂ ";" ⇒ λ (name, tys). declarations.Program name tys

abbrev pub specification : Grammar RawDecl
specification = "spec" ▸ names ∙∙ "." ▸ nt (Term in_theory) ◂ ";" ⇒ λ (vars, body). declarations.Spec vars body

abbrev pub pattern_head : Grammar RawCon
pattern_head = ("Suc" means constructors.Suc) ∣ (word ⇒ constructors.Named)

abbrev pub bracketed_pattern : Grammar RawPat
bracketed_pattern = "(" ▸ pattern_head ∙∙ nt Words ◂ ")" ⇒ λ (con, args). patterns.Con con args

-- ---- terms

abbrev pub branches : Mode → Grammar (List RawBranch)
branches m = some (nt (Branch m) ∙∙ nt (MoreBranches m))

abbrev pub arguments : Mode → Grammar (List RawTerm)
arguments m = some (nt (Atom m) ∙∙ nt (Atoms m))

abbrev pub conditional : Mode → Grammar RawTerm
conditional m = "if" ▸ nt (Term m) ∙∙ "then" ▸ nt (Term m) ∙∙ "else" ▸ nt (Term m) ⇒ λ (c, (a, b)). terms.If (c ∷ a ∷ b ∷ [])

abbrev pub binding : Mode → Grammar RawTerm
binding m = "let" ▸ nt (Variable m) ∙∙ "=" ▸ nt (Term m) ∙∙ "in" ▸ nt (Term m) ⇒ λ (v, (bound, body)). terms.Let v (bound ∷ body ∷ [])

abbrev pub cases : Mode → Grammar RawTerm
cases m = "case" ▸ nt (Term m) ∙∙ "of" ▸ "{" ▸ branches m ◂ "}" ⇒ λ (t, bs). terms.Case (t ∷ []) bs

abbrev pub comparison_operator : Grammar ℕ
comparison_operator = ("=" means equal_operator) ∣ ("<" means less_operator) ∣ ("<=" means less_equal_operator)

abbrev pub sum_operator : Grammar ℕ
sum_operator = ("+" means plus_operator) ∣ ("-" means minus_operator)

abbrev pub product_operator : Grammar ℕ
product_operator = ("*" means times_operator) ∣ ("div" means div_operator) ∣ ("mod" means mod_operator)

abbrev pub enclosed : Mode → Grammar RawTerm
enclosed m = "(" ▸ nt (Term m) ◂ ")"

abbrev pub numbered_variable : Grammar RawTerm
numbered_variable = ("?" ▸ number ⇒ terms.Free) ∣ ("!" ▸ number ⇒ terms.Bound)

-- the last sides of an atom that is no word: in a certificate variables have numbers
abbrev pub last_atom : Mode → Grammar RawTerm
last_atom in_theory = enclosed in_theory
last_atom in_certificate = enclosed in_certificate ∣ numbered_variable

-- ---- formulas

abbrev pub for_all : Grammar RawFormula
for_all = "ALL" ▸ nt TypeAtom ∙∙ "." ▸ nt Formula ⇒ λ (ty, f). formulas.All ty f

abbrev pub there_is : Grammar RawFormula
there_is = "EX" ▸ nt TypeAtom ∙∙ "." ▸ nt Formula ⇒ λ (ty, f). formulas.Ex ty f

abbrev pub test_hypothesis : Grammar RawFormula
test_hypothesis = "THYP" ▸ nt Formula ⇒ formulas.Thyp

abbrev pub tested : Grammar RawFormula
tested = "tested" ▸ arguments in_certificate ⇒ formulas.Tested

abbrev pub deep : Grammar RawFormula
deep = "deep" ▸ number ∙∙ arguments in_certificate ⇒ λ (k, ts). formulas.Deep k ts

abbrev pub term_formula : Grammar RawFormula
term_formula = "[" ▸ nt (Term in_certificate) ◂ "]" ⇒ formulas.Atom

-- ---- the rules

abbrev pub page : (n : Part) → Grammar (Value n)
page Judge = nt Theory ∙∙ nt Outcomes
page Check = nt Theory ∙∙ nt Certificate
page Theory = "theory" ▸ word ∙∙ "version" ▸ "1" ▸ "begin" ▸ nt Declarations ◂ "end" ⇒ λ (name, decls). record { name = name; version = 1; decls = decls }
page Declarations = many (nt Declaration ∙∙ nt Declarations)
page Declaration = datatype ∣ primrec ∣ definition ∣ program ∣ specification
page Words = many (word ∙∙ nt Words)
page Parameters = opt ((tyvar ⇒ λ v. v ∷ []) ∣ several_parameters) ⇒ given
page MoreParameters = many ("," ▸ tyvar ∙∙ nt MoreParameters)
page Constructor = word ∙∙ nt TypeAtoms ⇒ λ (name, args). record { name = name; args = args }
page MoreConstructors = many ("|" ▸ nt Constructor ∙∙ nt MoreConstructors)
page Equation = word ∙∙ nt Patterns ∙∙ "=" ▸ nt (Term in_theory) ◂ ";" ⇒ λ (head, (pats, body)). record { head = head; pats = pats; body = body }
page Equations = many (nt Equation ∙∙ nt Equations)
page Pattern = ("0" means patterns.Zero) ∣ bracketed_pattern ∣ (word ⇒ patterns.Word)
page Patterns = many (nt Pattern ∙∙ nt Patterns)
page SimpleType = ("nat" means types.Nat) ∣ ("bool" means types.Bool) ∣ (tyvar ⇒ types.Var) ∣ (word ⇒ λ w. types.Word w [])
page TypeAtom = ("(" ▸ nt WholeType ◂ ")") ∣ nt SimpleType
page TypeAtoms = many (nt TypeAtom ∙∙ nt TypeAtoms)
page MoreTypeAtoms = many ("," ▸ nt TypeAtom ∙∙ nt MoreTypeAtoms)
page WholeType =
    (nt TypeAtom ∙∙ opt word ⇒ λ (ty, name). applied ty name)
    ∣ ("(" ▸ nt WholeType ∙∙ "," ▸ more_types ∙∙ ")" ▸ word ⇒ λ (ty, (tys, name)). types.Word name (ty ∷ tys))
page MoreTypes = many ("," ▸ nt WholeType ∙∙ nt MoreTypes)
page FunctionType = some (nt WholeType ∙∙ nt MoreResults)
page MoreResults = many ("=>" ▸ nt WholeType ∙∙ nt MoreResults)
page (Term m) = conditional m ∣ binding m ∣ cases m ∣ nt (Implication m)
page (Variable in_theory) = word ⇒ binders.Named
page (Variable in_certificate) = "!" ▸ number ⇒ binders.Level
page (Variables m) = many (nt (Variable m) ∙∙ nt (Variables m))
page (Branch m) = nt (BranchHead m) ∙∙ "=>" ▸ nt (Term m) ⇒ λ ((con, vars), body). record { con = con; vars = vars; body = body }
page (BranchHead m) =
    ("0" means (constructors.Zero, []))
    ∣ ("Suc" ▸ nt (Variable m) ⇒ λ v. (constructors.Suc, v ∷ []))
    ∣ (word ∙∙ nt (Variables m) ⇒ λ (name, vars). (constructors.Named name, vars))
page (MoreBranches m) = many ("," ▸ nt (Branch m) ∙∙ nt (MoreBranches m))
page (Implication m) = nt (Disjunction m) ∙∙ opt ("-->" ▸ nt (Implication m)) ⇒ λ (a, b). joined implies_operator a b
page (Disjunction m) = nt (Conjunction m) ∙∙ opt ("|" ▸ nt (Disjunction m)) ⇒ λ (a, b). joined or_operator a b
page (Conjunction m) = nt (Negation m) ∙∙ opt ("&" ▸ nt (Conjunction m)) ⇒ λ (a, b). joined and_operator a b
page (Negation m) = ("~" ▸ nt (Negation m) ⇒ λ a. terms.Op not_operator (a ∷ [])) ∣ nt (Comparison m)
page (Comparison m) = nt (Sum m) ∙∙ opt (comparison_operator ∙∙ nt (Sum m)) ⇒ λ (a, b). compared a b
page (Sum m) = nt (Product m) ∙∙ nt (MoreSummands m) ⇒ λ (a, others). folded chained a others
page (MoreSummands m) = many ((sum_operator ∙∙ nt (Product m)) ∙∙ nt (MoreSummands m))
page (Product m) = nt (Application m) ∙∙ nt (MoreFactors m) ⇒ λ (a, others). folded chained a others
page (MoreFactors m) = many ((product_operator ∙∙ nt (Application m)) ∙∙ nt (MoreFactors m))
page (Application m) =
    nt (Atom m)
    ∣ (word ∙∙ arguments m ⇒ λ (name, ts). terms.Use name ts)
    ∣ ("Suc" ▸ arguments m ⇒ λ ts. terms.Op suc_operator ts)
page (Atom m) = nt (PlainAtom m) ∣ (word ⇒ λ w. terms.Use w [])
page (Atoms m) = many (nt (Atom m) ∙∙ nt (Atoms m))
page (PlainAtom m) = (number ⇒ terms.Num) ∣ ("True" means terms.Truth true) ∣ ("False" means terms.Truth false) ∣ last_atom m
page Outcomes =
    "outcomes" ▸ "depth" ▸ number ∙∙ "bound" ▸ number ∙∙ "seed" ▸ number ∙∙ "tries" ▸ number ∙∙ "width" ▸ number
    ∙∙ "begin" ▸ nt Items ◂ "end"
    ⇒ λ (d, (b, (s, (t, (w, items))))). record { settings = d ∷ b ∷ s ∷ t ∷ w ∷ []; items = items }
page Items = many (nt Item ∙∙ nt Items)
page Item =
    ("answer" ▸ number ∙∙ nt Answer ◂ ";" ⇒ λ (n, value). record { test = n; answer = Some value })
    ∣ ("raised" ▸ number ◂ ";" ⇒ λ n. record { test = n; answer = None })
page Answer = nt AnswerAtom ∣ (word ∙∙ some (nt AnswerAtom ∙∙ nt AnswerAtoms) ⇒ λ (name, values). terms.Use name values)
page AnswerAtom = nt PlainAnswer ∣ (word ⇒ λ w. terms.Use w [])
page AnswerAtoms = many (nt AnswerAtom ∙∙ nt AnswerAtoms)
page PlainAnswer = (number ⇒ terms.Num) ∣ ("True" means terms.Truth true) ∣ ("False" means terms.Truth false) ∣ ("(" ▸ nt Answer ◂ ")")
page Certificate = "certificate" ▸ "1" ▸ "begin" ▸ nt Lines ◂ "end" ⇒ λ ls. record { lines = ls }
page Lines = many (nt Line ∙∙ nt Lines)
page Line = number ∙∙ nt Step ◂ ";" ⇒ λ (n, line). numbered n line
page Step = step
page Context = "{" ▸ opt (some (nt TypeAtom ∙∙ nt MoreTypeAtoms)) ◂ "}" ⇒ given
page Numbers = many (number ∙∙ nt Numbers)
page Formula =
    term_formula
    ∣ ("(" ▸ nt Formula ∙∙ "&" ▸ nt Formula ◂ ")" ⇒ λ (f, g). formulas.And f g)
    ∣ ("(" ▸ nt Formula ∙∙ "-->" ▸ nt Formula ◂ ")" ⇒ λ (f, g). formulas.Imp f g)
    ∣ ("(" ▸ nt MarkedFormula ◂ ")")
page MarkedFormula = for_all ∣ there_is ∣ test_hypothesis ∣ tested ∣ deep
-- the parts of the table alone
page AfterType = after_type
page InnerFormula = inner_formula
