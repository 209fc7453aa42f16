-- What is made of the values of a text's parts.
use Rattle.std.specs.Prelude.{ℕ, ◌-◌, ◌==◌, if◌then◌else◌, Option, Some, None, List, [], ◌∷◌, ◌++◌}
use Rattle.tg_grammar.specs.declared.types.RawTy.{RawTy}
use Rattle.tg_grammar.specs.declared.types.RawTy.TheVariants as types
use Rattle.tg_grammar.specs.declared.terms.RawTerm.{RawTerm}
use Rattle.tg_grammar.specs.declared.terms.RawTerm.TheVariants as terms
use Rattle.tg_grammar.specs.declared.formulas.RawFormula.{RawFormula}
use Rattle.tg_grammar.specs.declared.formulas.RawFormula.TheVariants as formulas
use Rattle.tg_grammar.specs.declared.certificates.RawLine.{RawLine}
use Rattle.tg_grammar.specs.Operators.{implies_operator}

abbrev pub given : {A : Type 0} → Option (List A) → List A
given None = []
given (Some xs) = xs

-- ---- types

-- a type, or a name applied to it
abbrev pub applied : RawTy → Option (List ℕ) → RawTy
applied t None = t
applied t (Some name) = types.Word name (t ∷ [])

-- a type in brackets, or a name applied to the types in brackets
abbrev pub bracketed : RawTy → List RawTy → Option (List ℕ) → RawTy
bracketed t ts None = t
bracketed t ts (Some name) = types.Word name (t ∷ ts)

-- ---- terms

-- an operator between two operands, or the first alone
abbrev pub joined : ℕ → RawTerm → Option RawTerm → RawTerm
joined operator a None = a
joined operator a (Some b) = terms.Op operator (a ∷ b ∷ [])

abbrev pub compared : RawTerm → Option (ℕ × RawTerm) → RawTerm
compared a None = a
compared a (Some x) = terms.Op x.0 (a ∷ x.1 ∷ [])

-- one operand more of a chain
abbrev pub chained : RawTerm → ℕ × RawTerm → RawTerm
chained a x = terms.Op x.0 (a ∷ x.1 ∷ [])

-- ---- formulas and lines of a certificate

-- two formulas with `&` or `-->` between them
abbrev pub connected : RawFormula → ℕ → RawFormula → RawFormula
connected f operator g = if implies_operator == operator then formulas.Imp f g else formulas.And f g

-- the place of a rule among the 26 rules, from the kind of its name
abbrev pub rule_place : ℕ → ℕ
rule_place kind = kind - 80

abbrev pub no_arguments : RawLine
no_arguments = record { number = 0; rule = 0; nums = []; vars = []; word = None; formula = None; terms = [] }

-- the second where it is there
abbrev pub later : {A : Type 0} → Option A → Option A → Option A
later a None = a
later a (Some b) = Some b

-- the arguments of both lines, in their order
abbrev pub with_arguments : RawLine → RawLine → RawLine
with_arguments x y = record {
  number = x.number;
  rule = x.rule;
  nums = x.nums ++ y.nums;
  vars = x.vars ++ y.vars;
  word = later x.word y.word;
  formula = later x.formula y.formula;
  terms = x.terms ++ y.terms;
}

-- a line of the rule whose name has this kind, without arguments and with those of a line
abbrev pub line_of : ℕ → RawLine
line_of kind = record no_arguments { rule = rule_place kind }

abbrev pub of_rule : ℕ → RawLine → RawLine
of_rule kind line = with_arguments (line_of kind) line

abbrev pub numbered : ℕ → RawLine → RawLine
numbered n line = record line { number = n }
