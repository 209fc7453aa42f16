-- The class of a clause: what is known of its inputs, and what the specification says of the program there.
use Rattle.std.specs.Prelude.{◌≡◌, not, List, map, if◌then◌else◌}
use Rattle.std.specs.List.{filter}
use Rattle.tg_model.specs.Tree.{Tree, op, one, negation}
use Rattle.tg_model.specs.Calls.{has_call}
use Rattle.tg_term.specs.Classes.{inputs_of, variables_of}
use Rattle.tg_term.specs.declared.classes.Pattern.{Pattern}
use Rattle.tg_term.specs.declared.classes.Class as declared
use Rattle.tg_clause.specs.declared.literals.Literal.{Literal}
use Rattle.tg_clause.specs.Clauses.{Clause, opposite}

-- the term that a literal says
abbrev pub term_of : Literal → Tree
term_of l = if l.positive then l.atom else op negation (one l.atom)

-- The literals without a program call are false at the inputs of the class, and one of the others has to be true there.
abbrev pub constraints_of : Clause → List Tree
constraints_of c = map (λ l. term_of (opposite l)) (filter (λ (l : Literal). not (has_call l.atom)) c)

abbrev pub checks_of : Clause → List Tree
checks_of c = map term_of (filter (λ (l : Literal). has_call l.atom) c)

pub record IsClassOf (p : Pattern) (c : Clause) (result : declared.Class) : Type 0 where
  pub inputs : inputs_of result.pattern ≡ inputs_of p
  pub variables : variables_of result.pattern ≡ variables_of p
  pub constraints : result.constraints ≡ constraints_of c
  pub checks : result.checks ≡ checks_of c
