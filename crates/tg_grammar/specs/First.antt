-- What a reader decides by when it sees one token: the kinds with which each part may begin, those that could go on with it, and
-- whether it may be empty. All of it is held against the table of the rules, and the check refuses it where it is wrong.
use Rattle.std.specs.Prelude.{ℕ, Bool, true, false, List, [], ◌∷◌, ◌++◌}
use Rattle.tg_rules.specs.Foresight.{Foresight}
use Rattle.tg_grammar.specs.Kinds.{open_paren, close_paren, open_brace, open_bracket, comma, equal, less, less_equal, plus, minus, times, and, or}
use Rattle.tg_grammar.specs.Kinds.{not, arrow, double_arrow, question, bang, theory_word, datatype_word, primrec_word, definition_word, program_word}
use Rattle.tg_grammar.specs.Kinds.{spec_word, outcomes_word, certificate_word, if_word, let_word, case_word, div_word, mod_word, suc_word, true_word}
use Rattle.tg_grammar.specs.Kinds.{false_word, nat_word, bool_word, other_word, answer_word, raised_word, all_word, exists_word, thyp_word}
use Rattle.tg_grammar.specs.Kinds.{tested_word, hyp_rule, weak_rule, cut_rule, grow_rule, and_i_rule, and_l_rule, and_r_rule, imp_i_rule, mp_rule}
use Rattle.tg_grammar.specs.Kinds.{all_i_rule, all_e_rule, exists_i_rule, exists_e_rule, thyp_i_rule, thyp_e_rule, true_rule, false_rule, split_rule}
use Rattle.tg_grammar.specs.Kinds.{refl_rule, sym_rule, trans_rule, replace_rule, schema_rule, exhaust_rule, deep_rule, compute_rule, type_variable}
use Rattle.tg_grammar.specs.Kinds.{zero_number, one_number, two_number, small_number, other_number}
use Rattle.tg_grammar.specs.Words.{local_kinds}
use Rattle.tg_grammar.specs.Parts.{Mode, in_theory, in_certificate, Part, Theory, Judge, Check, Declarations, Declaration, Parameters, MoreParameters}
use Rattle.tg_grammar.specs.Parts.{Constructor, MoreConstructors, Equation, Equations, Pattern, Patterns, Words, SimpleType, TypeAtom, TypeAtoms}
use Rattle.tg_grammar.specs.Parts.{MoreTypeAtoms, WholeType, MoreTypes, AfterType, FunctionType, MoreResults, Term, Variable, Variables, Branch}
use Rattle.tg_grammar.specs.Parts.{BranchHead, MoreBranches, Implication, Disjunction, Conjunction, Negation, Comparison, Sum, MoreSummands, Product}
use Rattle.tg_grammar.specs.Parts.{MoreFactors, Application, Atom, Atoms, PlainAtom, Outcomes, Items, Item, Answer, AnswerAtom, AnswerAtoms}
use Rattle.tg_grammar.specs.Parts.{PlainAnswer, Certificate, Lines, Line, Step, Context, Numbers, Formula, MarkedFormula, InnerFormula}

-- ---- classes of tokens

abbrev pub words : List ℕ
words = other_word ∷ local_kinds

abbrev pub numbers : List ℕ
numbers = zero_number ∷ one_number ∷ two_number ∷ small_number ∷ other_number ∷ []

abbrev pub declaration_words : List ℕ
declaration_words = datatype_word ∷ primrec_word ∷ definition_word ∷ program_word ∷ spec_word ∷ []

abbrev pub pattern_kinds : List ℕ
pattern_kinds = zero_number ∷ open_paren ∷ words

abbrev pub simple_types : List ℕ
simple_types = nat_word ∷ bool_word ∷ type_variable ∷ words

abbrev pub type_atoms : List ℕ
type_atoms = open_paren ∷ simple_types

abbrev pub variables : Mode → List ℕ
variables in_theory = words
variables in_certificate = bang ∷ []

abbrev pub plain_atoms : Mode → List ℕ
plain_atoms in_theory = numbers ++ true_word ∷ false_word ∷ open_paren ∷ []
plain_atoms in_certificate = numbers ++ true_word ∷ false_word ∷ open_paren ∷ question ∷ bang ∷ []

abbrev pub atoms : Mode → List ℕ
atoms m = plain_atoms m ++ words

-- what could go on with a product, with a comparison
abbrev pub after_product : Mode → List ℕ
after_product m = times ∷ div_word ∷ mod_word ∷ atoms m

abbrev pub after_comparison : Mode → List ℕ
after_comparison m = equal ∷ less ∷ less_equal ∷ plus ∷ minus ∷ after_product m

abbrev pub marks : List ℕ
marks = all_word ∷ exists_word ∷ thyp_word ∷ tested_word ∷ deep_rule ∷ []

abbrev pub rules : List ℕ
rules = hyp_rule ∷ weak_rule ∷ cut_rule ∷ grow_rule ∷ and_i_rule ∷ and_l_rule ∷ and_r_rule ∷ imp_i_rule ∷ mp_rule ∷ all_i_rule ∷ all_e_rule ∷ exists_i_rule
    ∷ exists_e_rule ∷ thyp_i_rule ∷ thyp_e_rule ∷ true_rule ∷ false_rule ∷ split_rule ∷ refl_rule ∷ sym_rule ∷ trans_rule ∷ replace_rule ∷ schema_rule
    ∷ exhaust_rule ∷ deep_rule ∷ compute_rule ∷ []

-- ---- the parts

abbrev pub first : Part → List ℕ
first Theory = theory_word ∷ []
first Judge = theory_word ∷ []
first Check = theory_word ∷ []
first Declarations = declaration_words
first Declaration = declaration_words
first Parameters = type_variable ∷ open_paren ∷ []
first MoreParameters = comma ∷ []
first Constructor = words
first MoreConstructors = or ∷ []
first Equation = words
first Equations = words
first Pattern = pattern_kinds
first Patterns = pattern_kinds
first Words = words
first SimpleType = simple_types
first TypeAtom = type_atoms
first TypeAtoms = type_atoms
first MoreTypeAtoms = comma ∷ []
first WholeType = type_atoms
first MoreTypes = comma ∷ []
first AfterType = close_paren ∷ comma ∷ []
first FunctionType = type_atoms
first MoreResults = double_arrow ∷ []
first (Term m) = if_word ∷ let_word ∷ case_word ∷ not ∷ suc_word ∷ atoms m
first (Variable m) = variables m
first (Variables m) = variables m
first (Branch m) = zero_number ∷ suc_word ∷ words
first (BranchHead m) = zero_number ∷ suc_word ∷ words
first (MoreBranches m) = comma ∷ []
first (Implication m) = not ∷ suc_word ∷ atoms m
first (Disjunction m) = not ∷ suc_word ∷ atoms m
first (Conjunction m) = not ∷ suc_word ∷ atoms m
first (Negation m) = not ∷ suc_word ∷ atoms m
first (Comparison m) = suc_word ∷ atoms m
first (Sum m) = suc_word ∷ atoms m
first (MoreSummands m) = plus ∷ minus ∷ []
first (Product m) = suc_word ∷ atoms m
first (MoreFactors m) = times ∷ div_word ∷ mod_word ∷ []
first (Application m) = suc_word ∷ atoms m
first (Atom m) = atoms m
first (Atoms m) = atoms m
first (PlainAtom m) = plain_atoms m
first Outcomes = outcomes_word ∷ []
first Items = answer_word ∷ raised_word ∷ []
first Item = answer_word ∷ raised_word ∷ []
first Answer = atoms in_theory
first AnswerAtom = atoms in_theory
first AnswerAtoms = atoms in_theory
first PlainAnswer = plain_atoms in_theory
first Certificate = certificate_word ∷ []
first Lines = numbers
first Line = numbers
first Step = rules
first Context = open_brace ∷ []
first Numbers = numbers
first Formula = open_bracket ∷ open_paren ∷ []
first MarkedFormula = marks
first InnerFormula = open_bracket ∷ open_paren ∷ marks

abbrev pub empty : Part → Bool
empty Declarations = true
empty Parameters = true
empty MoreParameters = true
empty MoreConstructors = true
empty Equations = true
empty Patterns = true
empty Words = true
empty TypeAtoms = true
empty MoreTypeAtoms = true
empty MoreTypes = true
empty MoreResults = true
empty (Variables m) = true
empty (MoreBranches m) = true
empty (MoreSummands m) = true
empty (MoreFactors m) = true
empty (Atoms m) = true
empty Items = true
empty AnswerAtoms = true
empty Lines = true
empty Numbers = true
empty n = false

-- could go on with what is a text of the part already
abbrev pub more : Part → List ℕ
more Declarations = declaration_words ++ words
more Declaration = words
more Parameters = type_variable ∷ open_paren ∷ []
more MoreParameters = comma ∷ []
more Constructor = type_atoms
more MoreConstructors = or ∷ type_atoms
more Equations = words
more Patterns = pattern_kinds
more Words = words
more TypeAtoms = type_atoms
more MoreTypeAtoms = comma ∷ []
more WholeType = words
more MoreTypes = comma ∷ words
more AfterType = words
more FunctionType = double_arrow ∷ words
more MoreResults = double_arrow ∷ words
more (Term m) = arrow ∷ or ∷ and ∷ after_comparison m
more (Variables m) = variables m
more (Branch m) = arrow ∷ or ∷ and ∷ after_comparison m
more (BranchHead m) = variables m
more (MoreBranches m) = comma ∷ arrow ∷ or ∷ and ∷ after_comparison m
more (Implication m) = arrow ∷ or ∷ and ∷ after_comparison m
more (Disjunction m) = or ∷ and ∷ after_comparison m
more (Conjunction m) = and ∷ after_comparison m
more (Negation m) = after_comparison m
more (Comparison m) = after_comparison m
more (Sum m) = plus ∷ minus ∷ after_product m
more (MoreSummands m) = plus ∷ minus ∷ after_product m
more (Product m) = after_product m
more (MoreFactors m) = after_product m
more (Application m) = atoms m
more (Atoms m) = atoms m
more Items = answer_word ∷ raised_word ∷ []
more Answer = atoms in_theory
more AnswerAtoms = atoms in_theory
more Lines = numbers
more Step = numbers ++ atoms in_certificate
more Numbers = numbers
more MarkedFormula = atoms in_certificate
more InnerFormula = atoms in_certificate
more n = []

-- a part begins with parts of lower rank alone
abbrev pub rank : Part → ℕ
rank Judge = 1
rank Check = 1
rank Declarations = 1
rank Equations = 1
rank Patterns = 1
rank TypeAtom = 1
rank TypeAtoms = 2
rank WholeType = 1
rank FunctionType = 2
rank (Term m) = 9
rank (Variables m) = 1
rank (Branch m) = 1
rank (Implication m) = 8
rank (Disjunction m) = 7
rank (Conjunction m) = 6
rank (Negation m) = 5
rank (Comparison m) = 4
rank (Sum m) = 3
rank (Product m) = 2
rank (Application m) = 1
rank (Atom m) = 1
rank (Atoms m) = 2
rank Items = 1
rank Answer = 1
rank AnswerAtom = 1
rank AnswerAtoms = 2
rank Lines = 1
rank Step = 1
rank InnerFormula = 1
rank n = 0

abbrev pub foresight : Foresight Part
foresight = record { first = first; empty = empty; more = more; rank = rank }
