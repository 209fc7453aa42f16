-- Patterns as the code makes them: shapes as terms whose variables are numbered from 1, and rows of such terms, to which the
-- shapes of one more type are added.
use Rattle.std.specs.Prelude.{ℕ, ◌≡◌, ◌+◌, List, [], ◌∷◌, ◌++◌, map, length}
use Rattle.tg_model.specs.Tree as tree
use Rattle.tg_model.specs.Tree.{Tree, Trees, one, con}
use Rattle.tg_model.specs.Types as model
use Rattle.tg_model.specs.Theory.{Datatype, Constructor, instance}
use Rattle.tg_types.specs.Types.{ty}
use Rattle.tg_term.specs.declared.classes.Pattern as declared
use Rattle.tg_term.specs.Classes.{inputs_of, variables_of}
use Rattle.tg_declarations.specs.Owners.{numbers_from}
use Rattle.tg_split.specs.declared.numbering.Part as code
use Rattle.tg_split.specs.declared.numbering.Behind.{Behind}
use Rattle.tg_split.specs.Shapes.{Shape, of_constructors, of_type}
use Rattle.tg_split.specs.Patterns.{Pattern, holes, term_from}

-- a pattern of the program
abbrev pub pattern : declared.Pattern → Pattern
pattern p = record { terms = inputs_of p; variables = variables_of p }

-- a shape's term, its variables numbered from 1, and their types
abbrev pub Part : Type 0
Part = Tree × List model.Ty

abbrev pub part_of : Shape → Part
part_of s = (term_from 1 s, holes s)

-- a part of the program
abbrev pub part : code.Part → Part
part p = (p.term, map ty p.vars)

-- one term behind others
abbrev pub behind : Trees → Tree → Trees
behind tree.none t = one t
behind (tree.more u us) t = tree.more u (behind us t)

-- a pattern with a shape behind its terms, whose variables are numbered on
abbrev pub added : Pattern → Shape → Pattern
added p s = record { terms = behind p.terms (term_from (1 + length p.variables) s); variables = p.variables ++ holes s }

-- each pattern with each of the shapes behind its terms, the shape fastest
abbrev pub extended : List Pattern → List Shape → List Pattern
extended [] shapes = []
extended (p ∷ ps) shapes = map (added p) shapes ++ extended ps shapes

-- the constructor on the terms of a pattern
abbrev pub on_top : ℕ → Pattern → Part
on_top c p = (con c p.terms, p.variables)

-- the terms of the shapes behind so many variables
abbrev pub AreBehind : List code.Part → ℕ → List Tree → Type 0
AreBehind parts n ts = (shapes : List Shape) → map part parts ≡ map part_of shapes → ts ≡ map (term_from (1 + n)) shapes

abbrev pub IsBehind : List code.Part → Behind → Type 0
IsBehind parts b = AreBehind parts b.vars b.terms.items

-- the shapes that constructors of these numbers make of shapes to depth `k`
abbrev pub AreShapes : List Datatype → ℕ → List model.Ty → List ℕ → List Constructor → List Part → Type 0
AreShapes ds k us numbers cs parts =
    (c : ℕ) → numbers ≡ numbers_from c (length cs)
    → parts ≡ map part_of (of_constructors (of_type ds k) c (map (λ (x : Constructor). map (instance us) x.arguments) cs))
