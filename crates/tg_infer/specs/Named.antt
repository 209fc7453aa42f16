-- The names that declarations declare.
use Rattle.std.specs.Prelude.{List, [], ◌∷◌}
use Rattle.tg_accept.specs.Datatypes.{names_in}
use Rattle.tg_accept.specs.Raw.{Name, RawDeclaration, datatype, primrec, definition, program, specification}
use Rattle.tg_theory.specs.Names.{AreNames}

abbrev pub names_declared : RawDeclaration → List Name
names_declared (datatype x params cs) = x ∷ names_in cs
names_declared (primrec x ts es) = x ∷ []
names_declared (definition x ts es) = x ∷ []
names_declared (program x ts) = x ∷ []
names_declared (specification xs body) = []

-- all of them are words that aren't reserved
abbrev pub AreNamed : List RawDeclaration → Type 0
AreNamed [] = Unit {0}
AreNamed (x ∷ xs) = AreNames (names_declared x) × AreNamed xs
