-- What is found of a row, as the term that it stands for.
use Rattle.std.specs.Prelude.{ℕ, true, false, not, ◌+◌, ◌-◌, ◌*◌, nat_eq, nat_lt, nat_le, List, [], ◌∷◌, ◌++◌, unwrap_or, Option, Some}
use Rattle.tg_model.specs.Tree.{Tree, literal, truth, op, one, negation}
use Rattle.tg_model.specs.Walk.{substituted, instantiated}
use Rattle.tg_model.specs.Denotation.{quotient, remainder}
use Rattle.tg_model.specs.Theory.{Theory}
use Rattle.tg_rows.specs.Parts.{only_if}
use Rattle.tg_rows.specs.Rows.{equation, equal_parts, itself, always, denied, small, Opener, from_constructor, from_successor, from_literal}
use Rattle.tg_schema.specs.declared.found.Piece.{Piece}
use Rattle.tg_schema.specs.declared.found.Piece.TheVariants.{Part, Number}
use Rattle.tg_schema.specs.declared.found.Arguments.{Arguments}
use Rattle.tg_schema.specs.declared.found.Arguments.TheVariants.{These, Only}
use Rattle.tg_schema.specs.declared.found.Found.{Found}
use Rattle.tg_schema.specs.declared.found.Found.TheVariants.{Whole, Truth, Negation, Equation, Equations, Instantiated, Substituted, Unfolded}
use Rattle.tg_schema.specs.declared.found.Other.{Other}
use Rattle.tg_schema.specs.declared.found.Other.TheVariants.{Itself, Always, Denied}
use Rattle.tg_schema.specs.declared.found.Calculation.{Calculation}
use Rattle.tg_schema.specs.declared.found.Calculation.TheVariants.{Different, Less, LessEqual, Sum, Difference, Product, Quotient, Remainder}
use Rattle.tg_schema.specs.declared.found.Writing.{Writing}
use Rattle.tg_schema.specs.declared.found.Writing.TheVariants.{Constructor, Successor, Literal}
use Rattle.tg_schema.specs.declared.found.Opened as declared

abbrev pub piece : Piece → Tree
piece (Part t) = t.now
piece (Number n) = literal n

abbrev pub listed : Arguments → List Tree
listed (These ts) = ts.now
listed (Only p) = piece p ∷ []

abbrev pub term_of : Found → Tree
term_of (Whole p) = piece p
term_of (Truth b) = truth b
term_of (Negation t) = op negation (one t.now)
term_of (Equation p q) = equation (piece p) (piece q)
term_of (Equations ts us) = unwrap_or (equal_parts ts.now us.now) (truth true)
term_of (Instantiated us t) = instantiated (listed us) t.now
term_of (Substituted us t) = substituted us.now t.now
term_of (Unfolded ts us vs t) = substituted ((ts.now ++ us.now) ++ listed vs) t.now

-- what becomes of one side of an operator
abbrev pub becomes : Other → Tree → Tree
becomes Itself = itself
becomes (Always b) = always b
becomes Denied = denied

-- what is made of two literals
abbrev pub calculated : Calculation → ℕ → ℕ → Option Tree
calculated Different = λ m n. only_if (not (nat_eq m n)) (truth false)
calculated Less = λ m n. Some (truth (nat_lt m n))
calculated LessEqual = λ m n. Some (truth (nat_le m n))
calculated Sum = λ m n. small (m + n)
calculated Difference = λ m n. small (m - n)
calculated Product = λ m n. small (m * n)
calculated Quotient = λ m n. small (quotient m n)
calculated Remainder = λ m n. small (remainder m n)

-- a term that is taken apart, and how this is done for each way of writing
abbrev pub opened : declared.Opened → ℕ × List Tree
opened o = (o.place, listed o.arguments)

abbrev pub opener : Theory → Writing → Opener
opener th Constructor = from_constructor th
opener th Successor = from_successor
opener th Literal = from_literal
