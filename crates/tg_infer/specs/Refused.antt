-- What a declaration is refused for.
use Rattle.std.specs.Prelude.{◌≡◌, List}
use Rattle.tg_accept.specs.Checks as checks
use Rattle.tg_accept.specs.Checks.{Check, First, Pass}
use Rattle.tg_accept.specs.Declared.{Declared}
use Rattle.tg_accept.specs.Raw.{RawDeclaration}
use Rattle.tg_accept.specs.Theories.{checks_of, after}
use Rattle.tg_infer.specs.declared.refusals.Kind.{Kind}
use Rattle.tg_infer.specs.declared.refusals.Kind.TheVariants as kinds
use Rattle.tg_infer.specs.declared.refusals.Refusal.{Refusal}
use Rattle.tg_infer.specs.declared.refusals.Refusal.TheVariants.{Fault, Memory}
use Rattle.tg_infer.specs.declared.words.Words.{Words}
use Rattle.tg_infer.specs.Words.{AreWordsOf}

abbrev pub kind : Kind → checks.Kind
kind kinds.TermSize = checks.term_size
kind kinds.Name = checks.name
kind kinds.Typing = checks.typing
kind kinds.Ambiguous = checks.ambiguous
kind kinds.Shape = checks.shape
kind kinds.Program = checks.program

-- the first check that isn't right is of this kind; want of memory says nothing
abbrev pub IsFirst : List Check → Refusal → Type 0
IsFirst cs (Fault k) = First cs (kind k)
IsFirst cs Memory = Unit {0}

-- the declaration is right, and stands behind the others
pub record IsDeclared (old new : Declared) (named : Words) (x : RawDeclaration) : Type 0 where
  pub pass : Pass (checks_of old x)
  pub is : new ≡ after old x
  pub words : AreWordsOf named new
