-- The rules by their numbers, with their arguments in the order of a line.
use Rattle.std.specs.Prelude.{ℕ, ◌||◌, nat_eq, if◌then◌else◌, List, [], ◌∷◌, Option, Some, None, option_map, option_and_then}
use Rattle.tg_model.specs.Tree.{Tree, trees}
use Rattle.tg_model.specs.Types.{Ty}
use Rattle.tg_model.specs.Formula.{Formula}
use Rattle.tg_calculus.specs.Rule as rule
use Rattle.tg_calculus.specs.Rule.{Rule}

-- What a line has beside its premises: a context or types, the number of a row, a formula, terms, and the number of a variable or a depth.
pub record Arguments : Type 0 where
  pub types : List Ty
  pub row : Option ℕ
  pub formula : Option Formula
  pub terms : List Tree
  pub number : ℕ

abbrev pub first_of : {A : Type 0} → List A → Option A
first_of [] = None
first_of (x ∷ xs) = Some x

-- The rule of the number, if the line has what it needs; what it doesn't need isn't looked at.
module _ (a : Arguments) where
  abbrev of_formula : (Formula → Rule) → Option Rule
  of_formula r = option_map r a.formula

  abbrev of_term : (Tree → Rule) → Option Rule
  of_term r = option_map r (first_of a.terms)

  abbrev of_both : (Formula → Tree → Rule) → Option Rule
  of_both r = option_and_then (λ F. option_map (r F) (first_of a.terms)) a.formula

  abbrev of_row : (ℕ → Tree → Rule) → Option Rule
  of_row r = option_and_then (λ k. option_map (r k) (first_of a.terms)) a.row

  abbrev pub rule_of : ℕ → Option Rule
  rule_of k =
      if nat_eq k 1 then of_formula (rule.hyp a.types) else
      if nat_eq k 2 then of_formula rule.weak else
      if nat_eq k 3 then Some rule.cut else
      if nat_eq k 4 then Some (rule.grow a.types) else
      if nat_eq k 5 then Some rule.and_i else
      if nat_eq k 6 then Some rule.and_l else
      if nat_eq k 7 then Some rule.and_r else
      if nat_eq k 8 then of_formula rule.imp_i else
      if nat_eq k 9 then Some rule.mp else
      if nat_eq k 10 then Some rule.all_i else
      if nat_eq k 11 then of_term rule.all_e else
      if nat_eq k 12 then of_both rule.ex_i else
      if nat_eq k 13 then Some rule.ex_e else
      if nat_eq k 14 then Some rule.thyp_i else
      if nat_eq k 15 then Some rule.thyp_e else
      if nat_eq k 16 then Some (rule.truth a.types) else
      if nat_eq k 17 then of_formula rule.falsity else
      if nat_eq k 18 then of_term rule.split else
      if nat_eq k 19 then of_term (rule.reflexive a.types) else
      if nat_eq k 20 then Some rule.symmetric else
      if nat_eq k 21 then Some rule.transitive else
      if nat_eq k 22 then of_formula rule.replace else
      if nat_eq k 23 then of_row (rule.schema a.types) else
      if nat_eq k 24 then Some (rule.exhaust a.number) else
      if nat_eq k 25 then Some (rule.deep a.types a.number (trees a.terms)) else
      if nat_eq k 26 then of_term (rule.compute a.types) else None

-- Of the numbers of a line: that of the variable of `exhaust` or of the depth of `deep`, which stands first, and those of premises.
abbrev pub numbers_apart : ℕ → List ℕ → ℕ × List ℕ
numbers_apart k [] = (0, [])
numbers_apart k (n ∷ ns) = if nat_eq k 24 || nat_eq k 25 then (n, ns) else (0, n ∷ ns)
