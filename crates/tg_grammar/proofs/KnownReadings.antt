-- Known readings, so that a slip in the rules doesn't check. Tokens are written with the texts that they have.
use Rattle.std.specs.Prelude.{◌≡◌, ℕ, Some, None, List, [], ◌∷◌, codes}
use Rattle.std.proofs.Common.{refl}
use Rattle.tg_rules.specs.Reader.{ok, err, read}
use Rattle.tg_grammar.specs.declared.types.RawTy.TheVariants as types
use Rattle.tg_grammar.specs.declared.terms.RawTerm.{RawTerm}
use Rattle.tg_grammar.specs.declared.terms.RawTerm.TheVariants as terms
use Rattle.tg_grammar.specs.declared.terms.Binder.TheVariants as binders
use Rattle.tg_grammar.specs.declared.terms.RawCon.TheVariants as constructors
use Rattle.tg_grammar.specs.declared.declarations.RawDecl.TheVariants as declarations
use Rattle.tg_grammar.specs.declared.declarations.RawPat.TheVariants as patterns
use Rattle.tg_grammar.specs.declared.formulas.RawFormula.TheVariants as formulas
use Rattle.tg_grammar.specs.Kinds.{open_paren, close_paren, open_brace, close_brace, open_bracket, close_bracket, comma, semicolon, dot, equal, plus, minus, times, and, or, not, arrow, double_arrow, double_colon, question, bang, theory_word, version_word, begin_word, end_word, datatype_word, program_word, spec_word, outcomes_word, certificate_word, if_word, then_word, else_word, let_word, in_word, case_word, of_word, div_word, suc_word, nat_word, bool_word, other_word, depth_word, bound_word, seed_word, tries_word, width_word, answer_word, raised_word, all_word, weak_rule, true_rule, schema_rule, exhaust_rule, deep_rule, type_variable}
use Rattle.tg_grammar.specs.Operators.{suc_operator, not_operator, and_operator, or_operator, implies_operator, equal_operator, plus_operator, minus_operator, times_operator, div_operator}
use Rattle.tg_grammar.specs.Seen.{Seen, number_kind}
use Rattle.tg_grammar.specs.Parts.{in_theory, in_certificate, Theory, Judge, Declaration, Equation, WholeType, Term, Outcomes, Item, Certificate, Line, Formula}
use Rattle.tg_grammar.specs.Samples.{token}
use Rattle.tg_grammar.specs.Reading.{reads}

-- names
abbrev a : List ℕ
a = codes "a"

abbrev b : List ℕ
b = codes "b"

abbrev c : List ℕ
c = codes "c"

abbrev d : List ℕ
d = codes "d"

abbrev e : List ℕ
e = codes "e"

abbrev f : List ℕ
f = codes "f"

abbrev n : List ℕ
n = codes "n"

abbrev p : List ℕ
p = codes "p"

abbrev t : List ℕ
t = codes "t"

abbrev x : List ℕ
x = codes "x"

abbrev y : List ℕ
y = codes "y"

abbrev z : List ℕ
z = codes "z"

abbrev name : List ℕ → Seen
name text = record { kind = other_word; value = 0; text = text }

abbrev local_name : ℕ → List ℕ → Seen
local_name kind text = record { kind = kind; value = 0; text = text }

abbrev number : ℕ → Seen
number n = record { kind = number_kind n; value = n; text = [] }

abbrev a_type : Seen
a_type = record { kind = type_variable; value = 0; text = codes "'a" }

abbrev variable : List ℕ → RawTerm
variable text = terms.Use text []

-- implications are grouped to the right, differences to the left
-- a --> b --> c
to_the_right : reads (Term in_theory)
    (name a ∷ token arrow ∷ name b ∷ token arrow ∷ name c ∷ [])
    ≡ ok (terms.Op implies_operator (variable a ∷ terms.Op implies_operator (variable b ∷ variable c ∷ []) ∷ [])) []
unfolding read
to_the_right = refl

-- a - b + c
to_the_left : reads (Term in_theory)
    (name a ∷ token minus ∷ name b ∷ token plus ∷ name c ∷ [])
    ≡ ok (terms.Op plus_operator ((terms.Op minus_operator (variable a ∷ variable b ∷ [])) ∷ variable c ∷ [])) []
unfolding read
to_the_left = refl

-- products bind tighter than sums, sums than comparisons, and so on up to implications
-- a + b div c * d
products_first : reads (Term in_theory)
    (name a ∷ token plus ∷ name b ∷ token div_word ∷ name c ∷ token times ∷ name d ∷ [])
    ≡ ok (terms.Op plus_operator (variable a ∷ (terms.Op times_operator ((terms.Op div_operator (variable b ∷ variable c ∷ [])) ∷ variable d ∷ [])) ∷ [])) []
unfolding read
products_first = refl

-- a | b & ~ c = d + e --> f
levels : reads (Term in_theory)
    (name a ∷ token or ∷ name b ∷ token and ∷ token not ∷ name c ∷ token equal ∷ name d ∷ token plus ∷ name e ∷ token arrow ∷ name f ∷ [])
    ≡ ok (terms.Op implies_operator ((terms.Op or_operator (variable a ∷ (terms.Op and_operator (variable b ∷ (terms.Op not_operator ((terms.Op equal_operator (variable c ∷ terms.Op plus_operator (variable d ∷ variable e ∷ []) ∷ [])) ∷ [])) ∷ [])) ∷ [])) ∷ variable f ∷ [])) []
unfolding read
levels = refl

-- comparisons don't chain: the second one is left
-- a = b = c
no_chain : reads (Term in_theory)
    (name a ∷ token equal ∷ name b ∷ token equal ∷ name c ∷ [])
    ≡ ok (terms.Op equal_operator (variable a ∷ variable b ∷ [])) (token equal ∷ name c ∷ [])
unfolding read
no_chain = refl

-- f a 0 + Suc b
uses : reads (Term in_theory)
    (name f ∷ name a ∷ number 0 ∷ token plus ∷ token suc_word ∷ name b ∷ [])
    ≡ ok (terms.Op plus_operator ((terms.Use f (variable a ∷ terms.Num 0 ∷ [])) ∷ terms.Op suc_operator (variable b ∷ []) ∷ [])) []
unfolding read
uses = refl

-- an `if` takes all that follows its `else`
-- if a then b else c --> d
conditional : reads (Term in_theory)
    (token if_word ∷ name a ∷ token then_word ∷ name b ∷ token else_word ∷ name c ∷ token arrow ∷ name d ∷ [])
    ≡ ok (terms.If (variable a ∷ variable b ∷ terms.Op implies_operator (variable c ∷ variable d ∷ []) ∷ [])) []
unfolding read
conditional = refl

-- let x = 1 in x
binding : reads (Term in_theory)
    (token let_word ∷ name x ∷ token equal ∷ number 1 ∷ token in_word ∷ name x ∷ [])
    ≡ ok (terms.Let (binders.Named x) (terms.Num 1 ∷ variable x ∷ [])) []
unfolding read
binding = refl

-- case x of { 0 => a , Suc n => b , Cons y ys => c }
cases : reads (Term in_theory)
    (token case_word ∷ name x ∷ token of_word ∷ token open_brace ∷ number 0 ∷ token double_arrow ∷ name a ∷ token comma ∷ token suc_word ∷ name n ∷ token double_arrow ∷ name b ∷ token comma ∷ name (codes "Cons") ∷ name y ∷ name (codes "ys") ∷ token double_arrow ∷ name c ∷ token close_brace ∷ [])
    ≡ ok (terms.Case (variable x ∷ []) (record { con = constructors.Zero; vars = []; body = (variable a) } ∷ record { con = constructors.Suc; vars = binders.Named n ∷ []; body = (variable b) } ∷ record { con = constructors.Named (codes "Cons"); vars = binders.Named y ∷ binders.Named (codes "ys") ∷ []; body = (variable c) } ∷ [])) []
unfolding read
cases = refl

-- bound and free variables of a certificate
-- let ! 1 = ? 2 in ! 1
numbered : reads (Term in_certificate)
    (token let_word ∷ token bang ∷ number 1 ∷ token equal ∷ token question ∷ number 2 ∷ token in_word ∷ token bang ∷ number 1 ∷ [])
    ≡ ok (terms.Let (binders.Level 1) (terms.Free 2 ∷ terms.Bound 1 ∷ [])) []
unfolding read
numbered = refl

-- nat list
one_argument : reads WholeType
    (token nat_word ∷ name (codes "list") ∷ [])
    ≡ ok (types.Word (codes "list") (types.Nat ∷ [])) []
unfolding read
one_argument = refl

-- a name applies to one type; a longer chain wants brackets
-- nat list list
no_longer_chain : reads WholeType
    (token nat_word ∷ name (codes "list") ∷ name (codes "list") ∷ [])
    ≡ ok (types.Word (codes "list") (types.Nat ∷ [])) (name (codes "list") ∷ [])
unfolding read
no_longer_chain = refl

-- ( nat list ) list
bracketed_chain : reads WholeType
    (token open_paren ∷ token nat_word ∷ name (codes "list") ∷ token close_paren ∷ name (codes "list") ∷ [])
    ≡ ok (types.Word (codes "list") (types.Word (codes "list") (types.Nat ∷ []) ∷ [])) []
unfolding read
bracketed_chain = refl

-- ( nat , bool ) pair
two_arguments : reads WholeType
    (token open_paren ∷ token nat_word ∷ token comma ∷ token bool_word ∷ token close_paren ∷ name (codes "pair") ∷ [])
    ≡ ok (types.Word (codes "pair") (types.Nat ∷ types.Bool ∷ [])) []
unfolding read
two_arguments = refl

-- ( [ x ] & ( [ y ] --> [ z ] ) )
both : reads Formula
    (token open_paren ∷ token open_bracket ∷ name x ∷ token close_bracket ∷ token and ∷ token open_paren ∷ token open_bracket ∷ name y ∷ token close_bracket ∷ token arrow ∷ token open_bracket ∷ name z ∷ token close_bracket ∷ token close_paren ∷ token close_paren ∷ [])
    ≡ ok (formulas.And (formulas.Atom (variable x)) (formulas.Imp (formulas.Atom (variable y)) (formulas.Atom (variable z)))) []
unfolding read
both = refl

-- ( ALL nat . [ ! 1 ] )
quantified : reads Formula
    (token open_paren ∷ token all_word ∷ token nat_word ∷ token dot ∷ token open_bracket ∷ token bang ∷ number 1 ∷ token close_bracket ∷ token close_paren ∷ [])
    ≡ ok (formulas.All types.Nat (formulas.Atom (terms.Bound 1))) []
unfolding read
quantified = refl

-- ( deep 3 a b )
depth : reads Formula
    (token open_paren ∷ token deep_rule ∷ number 3 ∷ name a ∷ name b ∷ token close_paren ∷ [])
    ≡ ok (formulas.Deep 3 (variable a ∷ variable b ∷ [])) []
unfolding read
depth = refl

-- 7 weak 2 [ x ] ;
line : reads Line
    (number 7 ∷ token weak_rule ∷ number 2 ∷ token open_bracket ∷ name x ∷ token close_bracket ∷ token semicolon ∷ [])
    ≡ ok (record { number = 7; rule = 2; nums = 2 ∷ []; vars = []; word = None; formula = Some (formulas.Atom (variable x)); terms = [] }) []
unfolding read
line = refl

-- 9 exhaust 1 4 5 ;
exhausting : reads Line
    (number 9 ∷ token exhaust_rule ∷ number 1 ∷ number 4 ∷ number 5 ∷ token semicolon ∷ [])
    ≡ ok (record { number = 9; rule = 24; nums = 1 ∷ 4 ∷ 5 ∷ []; vars = []; word = None; formula = None; terms = [] }) []
unfolding read
exhausting = refl

-- 3 schema { nat } if_true a ;
row : reads Line
    (number 3 ∷ token schema_rule ∷ token open_brace ∷ token nat_word ∷ token close_brace ∷ name (codes "if_true") ∷ name a ∷ token semicolon ∷ [])
    ≡ ok (record { number = 3; rule = 23; nums = []; vars = types.Nat ∷ []; word = Some (codes "if_true"); formula = None; terms = variable a ∷ [] }) []
unfolding read
row = refl

-- answer 2 Cons 1 ( Suc_of Nil ) ;
answered : reads Item
    (token answer_word ∷ number 2 ∷ name (codes "Cons") ∷ number 1 ∷ token open_paren ∷ name (codes "Suc_of") ∷ name (codes "Nil") ∷ token close_paren ∷ token semicolon ∷ [])
    ≡ ok (record { test = 2; answer = Some (terms.Use (codes "Cons") (terms.Num 1 ∷ terms.Use (codes "Suc_of") (variable (codes "Nil") ∷ []) ∷ [])) }) []
unfolding read
answered = refl

-- f ( Suc n ) 0 x = n ;
an_equation : reads Equation
    (name f ∷ token open_paren ∷ token suc_word ∷ name n ∷ token close_paren ∷ number 0 ∷ name x ∷ token equal ∷ name n ∷ token semicolon ∷ [])
    ≡ ok (record { head = codes "f"; pats = patterns.Con constructors.Suc (codes "n" ∷ []) ∷ patterns.Zero ∷ patterns.Word x ∷ []; body = (variable n) }) []
unfolding read
an_equation = refl

-- datatype 'a list = Nil | Cons 'a ( 'a list ) ;
a_datatype : reads Declaration
    (token datatype_word ∷ a_type ∷ name (codes "list") ∷ token equal ∷ name (codes "Nil") ∷ token or ∷ name (codes "Cons") ∷ a_type ∷ token open_paren ∷ a_type ∷ name (codes "list") ∷ token close_paren ∷ token semicolon ∷ [])
    ≡ ok (declarations.Datatype (codes "list") (codes "'a" ∷ []) (record { name = codes "Nil"; args = [] } ∷ record { name = codes "Cons"; args = types.Var (codes "'a") ∷ types.Word (codes "list") (types.Var (codes "'a") ∷ []) ∷ [] } ∷ [])) []
unfolding read
a_datatype = refl

-- whole inputs
-- theory t version 1 begin program p :: nat => nat ; spec x . p x = 0 ; end
a_theory : reads Theory
    (token theory_word ∷ name t ∷ token version_word ∷ number 1 ∷ token begin_word ∷ token program_word ∷ name p ∷ token double_colon ∷ token nat_word ∷ token double_arrow ∷ token nat_word ∷ token semicolon ∷ token spec_word ∷ name x ∷ token dot ∷ name p ∷ name x ∷ token equal ∷ number 0 ∷ token semicolon ∷ token end_word ∷ [])
    ≡ ok (record { name = codes "t"; version = 1; decls = declarations.Program p (types.Nat ∷ types.Nat ∷ []) ∷ declarations.Spec (x ∷ []) (terms.Op equal_operator ((terms.Use p (variable x ∷ [])) ∷ terms.Num 0 ∷ [])) ∷ [] }) []
unfolding read
a_theory = refl

-- outcomes depth 3 bound 8 seed 1 tries 1000 width 16 begin answer 1 0 ; raised 2 ; end
outcomes : reads Outcomes
    (token outcomes_word ∷ token depth_word ∷ number 3 ∷ token bound_word ∷ number 8 ∷ token seed_word ∷ number 1 ∷ token tries_word ∷ number 1000 ∷ token width_word ∷ number 16 ∷ token begin_word ∷ token answer_word ∷ number 1 ∷ number 0 ∷ token semicolon ∷ token raised_word ∷ number 2 ∷ token semicolon ∷ token end_word ∷ [])
    ≡ ok (record { settings = 3 ∷ 8 ∷ 1 ∷ 1000 ∷ 16 ∷ []; items = record { test = 1; answer = Some (terms.Num 0) } ∷ record { test = 2; answer = None } ∷ [] }) []
unfolding read
outcomes = refl

-- certificate 1 begin 1 true { } ; end
certificate : reads Certificate
    (token certificate_word ∷ number 1 ∷ token begin_word ∷ number 1 ∷ token true_rule ∷ token open_brace ∷ token close_brace ∷ token semicolon ∷ token end_word ∷ [])
    ≡ ok (record { lines = record { number = 1; rule = 16; nums = []; vars = []; word = None; formula = None; terms = [] } ∷ [] }) []
unfolding read
certificate = refl

-- what stands behind an input is left, and an input that ends too soon is wrong at its end
-- theory t version 1 begin end x
behind_the_end : reads Theory
    (token theory_word ∷ name t ∷ token version_word ∷ number 1 ∷ token begin_word ∷ token end_word ∷ name x ∷ [])
    ≡ ok (record { name = codes "t"; version = 1; decls = [] }) (name x ∷ [])
unfolding read
behind_the_end = refl

-- theory t version 1 begin end
too_short : reads Judge
    (token theory_word ∷ name t ∷ token version_word ∷ number 1 ∷ token begin_word ∷ token end_word ∷ [])
    ≡ err []
unfolding read
too_short = refl

-- `Suc` is no value of a recorded answer: answer 2 Suc 0 ;
suc_is_no_value : reads Item
    (token answer_word ∷ number 2 ∷ token suc_word ∷ number 0 ∷ token semicolon ∷ [])
    ≡ err (token suc_word ∷ number 0 ∷ token semicolon ∷ [])
unfolding read
suc_is_no_value = refl

-- `Suc` wants an argument: Suc
bare_suc : reads (Term in_theory)
    (token suc_word ∷ [])
    ≡ err []
unfolding read
bare_suc = refl

-- an `if` is no operand unless it stands in brackets: ~ if a then b else c
unbracketed : reads (Term in_theory)
    (token not ∷ token if_word ∷ name a ∷ token then_word ∷ name b ∷ token else_word ∷ name c ∷ [])
    ≡ err (token if_word ∷ name a ∷ token then_word ∷ name b ∷ token else_word ∷ name c ∷ [])
unfolding read
unbracketed = refl

-- a theory has no numbered variables: ? 1
no_free : reads (Term in_theory)
    (token question ∷ number 1 ∷ [])
    ≡ err (token question ∷ number 1 ∷ [])
unfolding read
no_free = refl

-- of versions there is one: theory t version 2 begin end
version : reads Theory
    (token theory_word ∷ name t ∷ token version_word ∷ number 2 ∷ token begin_word ∷ token end_word ∷ [])
    ≡ err (number 2 ∷ token begin_word ∷ token end_word ∷ [])
unfolding read
version = refl

-- a word with a meaning in one place is a name elsewhere: depth + ALL
local_names : reads (Term in_theory)
    (local_name depth_word (codes "depth") ∷ token plus ∷ local_name all_word (codes "ALL") ∷ [])
    ≡ ok (terms.Op plus_operator (variable (codes "depth") ∷ variable (codes "ALL") ∷ [])) []
unfolding read
local_names = refl
