-- Some text of each part, by the kinds of its tokens. They show that each part has a text.
use Rattle.std.specs.Prelude.{ℕ, List, [], ◌∷◌, map}
use Rattle.tg_grammar.specs.Kinds.{close_paren, open_brace, close_brace, open_bracket, close_bracket, semicolon, equal, double_arrow, double_colon}
use Rattle.tg_grammar.specs.Kinds.{bang, theory_word, version_word, begin_word, end_word, program_word, outcomes_word, certificate_word, true_word}
use Rattle.tg_grammar.specs.Kinds.{nat_word, other_word, depth_word, bound_word, seed_word, tries_word, width_word, raised_word, thyp_word}
use Rattle.tg_grammar.specs.Kinds.{sym_rule, zero_number, one_number}
use Rattle.tg_grammar.specs.Seen.{Seen}
use Rattle.tg_grammar.specs.Parts.{in_theory, in_certificate, Part, Theory, Judge, Check, Declaration, Constructor, Equation, Pattern, SimpleType}
use Rattle.tg_grammar.specs.Parts.{TypeAtom, WholeType, AfterType, FunctionType, Term, Variable, Branch, BranchHead, Implication, Disjunction}
use Rattle.tg_grammar.specs.Parts.{Conjunction, Negation, Comparison, Sum, Product, Application, Atom, PlainAtom, Outcomes, Item, Answer, AnswerAtom}
use Rattle.tg_grammar.specs.Parts.{PlainAnswer, Certificate, Line, Step, Context, Formula, MarkedFormula, InnerFormula}

-- a token of this kind
abbrev pub token : ℕ → Seen
token kind = record { kind = kind; value = 0; text = [] }

abbrev pub sample_kinds : Part → List ℕ
sample_kinds Theory = theory_word ∷ other_word ∷ version_word ∷ one_number ∷ begin_word ∷ end_word ∷ []
sample_kinds Judge =
    theory_word ∷ other_word ∷ version_word ∷ one_number ∷ begin_word ∷ end_word ∷ outcomes_word ∷ depth_word ∷ zero_number ∷ bound_word
    ∷ zero_number ∷ seed_word ∷ zero_number ∷ tries_word ∷ zero_number ∷ width_word ∷ zero_number ∷ begin_word ∷ end_word ∷ []
sample_kinds Check = theory_word ∷ other_word ∷ version_word ∷ one_number ∷ begin_word ∷ end_word ∷ certificate_word ∷ one_number ∷ begin_word ∷ end_word ∷ []
sample_kinds Declaration = program_word ∷ other_word ∷ double_colon ∷ nat_word ∷ semicolon ∷ []
sample_kinds Constructor = other_word ∷ []
sample_kinds Equation = other_word ∷ equal ∷ true_word ∷ semicolon ∷ []
sample_kinds Pattern = zero_number ∷ []
sample_kinds SimpleType = nat_word ∷ []
sample_kinds TypeAtom = nat_word ∷ []
sample_kinds WholeType = nat_word ∷ []
sample_kinds AfterType = close_paren ∷ []
sample_kinds FunctionType = nat_word ∷ []
sample_kinds (Term m) = true_word ∷ []
sample_kinds (Variable in_theory) = other_word ∷ []
sample_kinds (Variable in_certificate) = bang ∷ zero_number ∷ []
sample_kinds (Branch m) = zero_number ∷ double_arrow ∷ true_word ∷ []
sample_kinds (BranchHead m) = zero_number ∷ []
sample_kinds (Implication m) = true_word ∷ []
sample_kinds (Disjunction m) = true_word ∷ []
sample_kinds (Conjunction m) = true_word ∷ []
sample_kinds (Negation m) = true_word ∷ []
sample_kinds (Comparison m) = true_word ∷ []
sample_kinds (Sum m) = true_word ∷ []
sample_kinds (Product m) = true_word ∷ []
sample_kinds (Application m) = true_word ∷ []
sample_kinds (Atom m) = true_word ∷ []
sample_kinds (PlainAtom m) = true_word ∷ []
sample_kinds Outcomes =
    outcomes_word ∷ depth_word ∷ zero_number ∷ bound_word ∷ zero_number ∷ seed_word ∷ zero_number ∷ tries_word ∷ zero_number ∷ width_word
    ∷ zero_number ∷ begin_word ∷ end_word ∷ []
sample_kinds Item = raised_word ∷ zero_number ∷ semicolon ∷ []
sample_kinds Answer = true_word ∷ []
sample_kinds AnswerAtom = true_word ∷ []
sample_kinds PlainAnswer = true_word ∷ []
sample_kinds Certificate = certificate_word ∷ one_number ∷ begin_word ∷ end_word ∷ []
sample_kinds Line = zero_number ∷ sym_rule ∷ zero_number ∷ semicolon ∷ []
sample_kinds Step = sym_rule ∷ zero_number ∷ []
sample_kinds Context = open_brace ∷ close_brace ∷ []
sample_kinds Formula = open_bracket ∷ true_word ∷ close_bracket ∷ []
sample_kinds MarkedFormula = thyp_word ∷ open_bracket ∷ true_word ∷ close_bracket ∷ []
sample_kinds InnerFormula = thyp_word ∷ open_bracket ∷ true_word ∷ close_bracket ∷ []
sample_kinds n = []

abbrev pub sample : Part → List Seen
sample n = map token (sample_kinds n)
