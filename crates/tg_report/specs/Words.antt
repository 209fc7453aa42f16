-- The words and signs of types, terms and formulas as tokens.
use Rattle.std.specs.Prelude.{ℕ, Bool, true, false, List, [], ◌∷◌, codes}
use Rattle.tg_model.specs.Tree.{Operator, successor, negation, conjunction, disjunction, implication, equality, less, less_equal, plus}
use Rattle.tg_model.specs.Tree.{minus, times, divide, modulo, unnamed}
use Rattle.tg_grammar.specs.Kinds as kinds
use Rattle.tg_grammar.specs.Seen.{Seen}
use Rattle.tg_render.specs.Tokens.{mark, numeral}

abbrev pub comma : Seen
comma = mark kinds.comma (codes ",")

-- the operator of a number that names none has no sign
abbrev pub sign : Operator → Seen
sign successor = mark kinds.suc_word (codes "Suc")
sign negation = mark kinds.not (codes "~")
sign conjunction = mark kinds.and (codes "&")
sign disjunction = mark kinds.or (codes "|")
sign implication = mark kinds.arrow (codes "-->")
sign equality = mark kinds.equal (codes "=")
sign less = mark kinds.less (codes "<")
sign less_equal = mark kinds.less_equal (codes "<=")
sign plus = mark kinds.plus (codes "+")
sign minus = mark kinds.minus (codes "-")
sign times = mark kinds.times (codes "*")
sign divide = mark kinds.div_word (codes "div")
sign modulo = mark kinds.mod_word (codes "mod")
sign (unnamed n) = mark 0 []

abbrev pub truth_token : Bool → Seen
truth_token true = mark kinds.true_word (codes "True")
truth_token false = mark kinds.false_word (codes "False")

-- `?n`, the variable of number `n`
abbrev pub free_variable : ℕ → List Seen
free_variable n = mark kinds.question (codes "?") ∷ numeral n ∷ []

-- `!n`, the variable of the n-th binder from the outside
abbrev pub bound_variable : ℕ → List Seen
bound_variable n = mark kinds.bang (codes "!") ∷ numeral n ∷ []
