-- A declaration whose checks pass keeps what holds of all that is declared before, so the theory of an accepted text is an accepted
-- theory.
use Rattle.std.specs.Prelude.{List}
use Rattle.tg_model.specs.Theory.{Theory}
use Rattle.tg_model.specs.Accepted.{IsAccepted}
use Rattle.tg_accept.specs.Declared.{Declared, nothing}
use Rattle.tg_accept.specs.Kept.{IsKept}
use Rattle.tg_accept.specs.Raw.{Name, RawDeclaration}
use Rattle.tg_accept.specs.Checks.{Pass}
use Rattle.tg_accept.specs.Theories.{checks_of, after, IsTheoryOf}

abbrev pub KeptAfter : Type 0
KeptAfter = (D : Declared) (x : RawDeclaration) → IsKept D → Pass (checks_of D x) → IsKept (after D x)

abbrev pub TheoryIsAccepted : Type 0
TheoryIsAccepted = (x : Name) (xs : List RawDeclaration) (th : Theory) → IsTheoryOf x nothing xs th → IsAccepted th
