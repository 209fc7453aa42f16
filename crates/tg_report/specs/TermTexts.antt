-- Terms within a number of binders, the level: numbers, truth values, variables and names without arguments alone, and all else in
-- brackets. `!n` is the variable of the n-th binder from the outside, so at level `l` that of the innermost is `!l`.
use Rattle.std.specs.Prelude.{ℕ, zero, suc, ◌+◌, ◌-◌, Bool, true, false, if◌then◌else◌, List, [], ◌∷◌, ◌++◌, codes}
use Rattle.tg_model.specs.Theory.{Theory}
use Rattle.tg_model.specs.Tree.{Tree, Trees, Arms, Operator, bound, free, literal, truth, con, call, put, choice, case, bind, op, none, more, end, arm}
use Rattle.tg_model.specs.Tree.{successor, negation, conjunction, disjunction, implication, equality, less, less_equal, plus, minus, times}
use Rattle.tg_model.specs.Tree.{divide, modulo, unnamed}
use Rattle.tg_grammar.specs.Kinds as kinds
use Rattle.tg_grammar.specs.Seen.{Seen}
use Rattle.tg_render.specs.Tokens.{mark, name, numeral, enclosed, divided, application}
use Rattle.tg_report.specs.Words.{comma, sign, truth_token, free_variable, bound_variable}
use Rattle.tg_report.specs.Names.{constructor_name, function_name, branch_head}

abbrev pub is_infix : Operator → Bool
is_infix successor = false
is_infix negation = false
is_infix conjunction = true
is_infix disjunction = true
is_infix implication = true
is_infix equality = true
is_infix less = true
is_infix less_equal = true
is_infix plus = true
is_infix minus = true
is_infix times = true
is_infix divide = true
is_infix modulo = true
is_infix (unnamed n) = false

-- `(a + b)`; another number of operands, which no typed term has, is written as arguments are
abbrev pub infixed : Seen → List (List Seen) → List Seen
infixed s (x ∷ y ∷ []) = enclosed (x ++ s ∷ y)
infixed s xs = application s xs

abbrev pub operation : Operator → List (List Seen) → List Seen
operation o xs = if is_infix o then infixed (sign o) xs else application (sign o) xs

-- `(if a then b else c)`; another number of terms, which no typed term has, is written as arguments are
abbrev pub conditional : List (List Seen) → List Seen
conditional (c ∷ a ∷ b ∷ []) =
    enclosed (mark kinds.if_word (codes "if") ∷ (c ++ mark kinds.then_word (codes "then") ∷ (a ++ mark kinds.else_word (codes "else") ∷ b)))
conditional xs = application (mark kinds.if_word (codes "if")) xs

-- `(let !n = a in b)`
abbrev pub binding : ℕ → List Seen → List Seen → List Seen
binding n a b =
    enclosed (mark kinds.let_word (codes "let")
    ∷ (bound_variable n ++ mark kinds.equal (codes "=") ∷ (a ++ mark kinds.in_word (codes "in") ∷ b)))

-- `(case a of {Nil => b, Cons !1 !2 => c})`
abbrev pub cases : List Seen → List (List Seen) → List Seen
cases a branches =
    enclosed (mark kinds.case_word (codes "case")
    ∷ (a ++ mark kinds.of_word (codes "of") ∷ mark kinds.open_brace (codes "{") ∷ (divided comma branches ++ mark kinds.close_brace (codes "}") ∷ [])))

-- the variables that a branch within `level` binders binds
abbrev pub binders : ℕ → ℕ → List Seen
binders level zero = []
binders level (suc count) = bound_variable (level + 1) ++ binders (level + 1) count

-- `Cons !1 !2 => c`
abbrev pub branch : Seen → List Seen → List Seen → List Seen
branch head variables body = head ∷ (variables ++ mark kinds.double_arrow (codes "=>") ∷ body)

abbrev mutual
  pub term_tokens : Theory → ℕ → Tree → List Seen
  term_tokens th level (bound k) = bound_variable (level - k)
  term_tokens th level (free n) = free_variable n
  term_tokens th level (literal n) = numeral n ∷ []
  term_tokens th level (truth b) = truth_token b ∷ []
  term_tokens th level (con c ts) = application (name (constructor_name th c)) (terms_tokens th level ts)
  term_tokens th level (call f ts) = application (name (function_name th f)) (terms_tokens th level ts)
  term_tokens th level (put ts) = application (name th.program.name) (terms_tokens th level ts)
  term_tokens th level (choice ts) = conditional (terms_tokens th level ts)
  term_tokens th level (case d t arms) = cases (term_tokens th level t) (branches_tokens th level d 0 arms)
  term_tokens th level (bind t body) = binding (level + 1) (term_tokens th level t) (term_tokens th (level + 1) body)
  term_tokens th level (op o ts) = operation o (terms_tokens th level ts)

  pub terms_tokens : Theory → ℕ → Trees → List (List Seen)
  terms_tokens th level none = []
  terms_tokens th level (more t ts) = term_tokens th level t ∷ terms_tokens th level ts

  -- the branches of a `case` on datatype `d`, the first of which stands at place `at`
  pub branches_tokens : Theory → ℕ → ℕ → ℕ → Arms → List (List Seen)
  branches_tokens th level d at end = []
  branches_tokens th level d at (arm count body arms) =
      branch (branch_head th d at) (binders level count) (term_tokens th (level + count) body) ∷ branches_tokens th level d (at + 1) arms
