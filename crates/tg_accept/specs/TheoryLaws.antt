-- A theory that isn't accepted is refused at one declaration for one kind of fault, and one that is accepted is one theory.
use Rattle.std.specs.Prelude.{ℕ, ◌≡◌, List}
use Rattle.tg_model.specs.Theory.{Theory}
use Rattle.tg_accept.specs.Declared.{Declared}
use Rattle.tg_accept.specs.Raw.{RawDeclaration}
use Rattle.tg_accept.specs.Checks.{Kind, AreSeparate}
use Rattle.tg_accept.specs.Theories.{checks_of, IsRefused, IsTheoryOf}

-- no check of a declaration is both right and at fault
abbrev pub ChecksAreSeparate : Type 0
ChecksAreSeparate = (D : Declared) (x : RawDeclaration) → AreSeparate (checks_of D x)

abbrev pub OneRefusal : Type 0
OneRefusal = (D : Declared) (n : ℕ) (xs : List RawDeclaration) (p q : ℕ) (k l : Kind)
    → IsRefused D n xs p k → IsRefused D n xs q l → (p ≡ q) × (k ≡ l)

abbrev pub OneTheory : Type 0
OneTheory = (x : List ℕ) (D : Declared) (xs : List RawDeclaration) (th other : Theory) → IsTheoryOf x D xs th → IsTheoryOf x D xs other → th ≡ other

abbrev pub NotBoth : Type 0
NotBoth = (x : List ℕ) (D : Declared) (n : ℕ) (xs : List RawDeclaration) (th : Theory) (p : ℕ) (k : Kind) → IsTheoryOf x D xs th → ¬ (IsRefused D n xs p k)
